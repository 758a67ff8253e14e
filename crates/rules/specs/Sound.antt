-- When a state is sound, in document 01's order, and when a tool holds a sound state.
use Rattle.std.specs.Prelude.{ℕ, Bool, not, ◌&&◌, ◌||◌, length, drop, replicate, eqb, leb}
use Rattle.lists.specs.Lists.{every, every_two, any, how_many, between, same_list}
use Rattle.records.specs.declared.port.Port.{Port}
use Rattle.records.specs.declared.carrier.Carrier.{Carrier}
use Rattle.records.specs.Names.{no_name, same_name, holds_name}
use Rattle.records.specs.Maps.{is_code}
use Rattle.records.specs.Ports.{idle, blocked, loading, has_pod}
use Rattle.records.specs.Carriers.{expected, at_port, in_buffer, untied, is_open}
use Rattle.rules.specs.declared.tool.Tool.{Tool}
use Rattle.rules.specs.State.{State, state_of, port_of}

-- every field is in its range
unfoldable pub port_in_range : Port → Bool
port_in_range q = leb q.transfer 3 && leb q.access 1 && leb q.reserved 1 && (same_name q.tie no_name || holds_name q.tie)
    && leb q.movement 2 && leb q.pod 1 && leb q.tag 2

-- a spot is a buffer place for a carrier in the buffer, and 0 for any other
unfoldable pub spot_in_range : ℕ → Carrier → Bool
spot_in_range B c = (in_buffer c && between 1 c.spot B) || (not (in_buffer c) && eqb c.spot 0)

unfoldable pub status_in_range : ℕ → Bool
status_in_range v = between 1 v 4

unfoldable pub carrier_in_range : ℕ → ℕ → Carrier → Bool
carrier_in_range P B c = holds_name c.name && leb c.place 2 && spot_in_range B c && leb c.port P
    && leb c.opened 1 && leb c.cancelled 1 && leb c.cameout 1 && every is_code c.map
    && status_in_range c.id && status_in_range c.slot && status_in_range c.accessing

unfoldable pub in_range : State → Bool
in_range s = between 1 (length s.ports) 4 && leb s.places 16 && every port_in_range s.ports
    && every (carrier_in_range (length s.ports) s.places) s.carriers

-- names differ
unfoldable pub other_name : Carrier → Carrier → Bool
other_name a b = not (same_name a.name b.name)

-- ties read alike from either side: the port that a carrier names is tied to it, and a tied port is named by a carrier
unfoldable pub tie_kept : Port → Carrier → Bool
tie_kept q c = untied c || same_name q.tie c.name

unfoldable pub tie_held : Port → Bool → Bool
tie_held q held = same_name q.tie no_name || held

abbrev pub port_tie_held : State → ℕ → Bool
port_tie_held s p = tie_held (port_of s p) (any (λ c. eqb c.port p) s.carriers)

unfoldable pub ties_agree : State → Bool
ties_agree s = every (λ c. tie_kept (port_of s c.port) c) s.carriers
    && (port_tie_held s 1 && port_tie_held s 2 && port_tie_held s 3 && port_tie_held s 4)

-- a carrier placed at a port is tied to it and one in the buffer to none
unfoldable pub place_agrees : Carrier → Bool
place_agrees c = (not (at_port c) || not (untied c)) && (not (in_buffer c) || untied c)

-- no two share a buffer place
unfoldable pub other_spot : Carrier → Carrier → Bool
other_spot a b = eqb a.spot 0 || not (eqb a.spot b.spot)

-- at most 16 are expected
unfoldable pub few_expected : State → Bool
few_expected s = leb (how_many expected s.carriers) 16

-- a port with a movement is BLOCKED, and one that is out of service, READY TO LOAD or loading has no pod
unfoldable pub port_agrees : Port → Bool
port_agrees q = (idle q || blocked q) && (not (leb q.transfer 1 || loading q) || not (has_pod q))

-- an open carrier is in the buffer or at an idle BLOCKED port
unfoldable pub open_agrees : Port → Carrier → Bool
open_agrees q c = not (is_open c) || in_buffer c || (at_port c && idle q && blocked q)

unfoldable pub sound : State → Bool
sound s =
    in_range s
    && every_two other_name s.carriers
    && ties_agree s
    && every place_agrees s.carriers
    && every_two other_spot s.carriers
    && few_expected s
    && every port_agrees s.ports
    && every (λ c. open_agrees (port_of s c.port) c) s.carriers

-- unused bytes and records are zero
unfoldable pub zero_port : Port → Bool
zero_port q = eqb q.transfer 0 && eqb q.access 0 && eqb q.reserved 0 && same_name q.tie no_name
    && eqb q.movement 0 && eqb q.pod 0 && eqb q.tag 0

unfoldable pub zero_carrier : Carrier → Bool
zero_carrier c = same_name c.name no_name && eqb c.place 0 && eqb c.spot 0 && eqb c.port 0
    && eqb c.opened 0 && eqb c.cancelled 0 && eqb c.cameout 0 && same_list c.map (replicate 25 0)
    && eqb c.id 0 && eqb c.slot 0 && eqb c.accessing 0

unfoldable pub unused_zero : Tool → Bool
unused_zero t = every zero_port (drop t.used t.ports) && every zero_carrier (drop t.count t.carriers)

-- The counts fit the tables, what is unused is zero, and what is used is sound.
unfoldable pub sound_tool : Tool → Bool
sound_tool t = (leb t.used 4 && leb t.count 36) && unused_zero t && sound (state_of t)
