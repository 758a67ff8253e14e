-- Soundness, clause by clause in document 01's order: for each a state that is sound, and one that fails by this clause alone.
use Rattle.std.specs.Prelude.{ℕ, zero, suc, ◌+◌, Bool, not, ◌&&◌, ◌||◌, List, [], ◌∷◌, ◌++◌, length, set, replicate, eqb, leb}
use Rattle.lists.specs.Lists.{every, every_two, any, how_many, same_list}
use Rattle.records.specs.declared.port.Port.{Port}
use Rattle.records.specs.declared.carrier.Carrier.{Carrier}
use Rattle.records.specs.Names.{no_name, in_bytes, same_name, holds_name}
use Rattle.records.specs.Maps.{is_code}
use Rattle.records.specs.Ports.{no_port, new_port, out_of_service, ready_to_load, blocked, idle, loading, has_pod}
use Rattle.records.specs.Carriers.{no_carrier, new_carrier, expected, at_port, in_buffer, untied, is_open}
use Rattle.rules.specs.declared.tool.Tool.{Tool}
use Rattle.rules.specs.State.{State, port_of, state_of, in_tool, start}
use Rattle.rules.specs.Sound.{sound, sound_tool}
use Rattle.rules.specs.Pairs.{port, carrier, state, differing}
use Rattle.rules.specs.Inputs.{A, B}

-- ── The clauses, none joined to another ──
-- 0 to 2: ports are 1 or more, 4 or fewer, places 16 or fewer
abbrev counts : State → List Bool
counts s = leb 1 (length s.ports) ∷ leb (length s.ports) 4 ∷ leb s.places 16 ∷ []

-- 3 to 9: transfer, access, reserved, tie, movement, pod, tag of every port in range
abbrev port_ranges : List Port → List Bool
port_ranges l =
    every (λ q. leb q.transfer 3) l ∷ every (λ q. leb q.access 1) l ∷ every (λ q. leb q.reserved 1) l
    ∷ every (λ q. same_name q.tie no_name || holds_name q.tie) l ∷ every (λ q. leb q.movement 2) l ∷ every (λ q. leb q.pod 1) l
    ∷ every (λ q. leb q.tag 2) l ∷ []

abbrev is_status : ℕ → Bool
is_status v = leb 1 v && leb v 4

-- 10 to 22: name, place, buffer place (from 1 on, up to B, 0 elsewhere), port, open, cancelled, came-out, slot map, ID, slot status,
-- accessing of every carrier in range
abbrev carrier_ranges : State → List Bool
carrier_ranges s =
    every (λ c. holds_name c.name) s.carriers ∷ every (λ c. leb c.place 2) s.carriers
    ∷ every (λ c. not (in_buffer c) || leb 1 c.spot) s.carriers
    ∷ every (λ c. not (in_buffer c) || leb c.spot s.places) s.carriers
    ∷ every (λ c. in_buffer c || eqb c.spot 0) s.carriers ∷ every (λ c. leb c.port (length s.ports)) s.carriers
    ∷ every (λ c. leb c.opened 1) s.carriers ∷ every (λ c. leb c.cancelled 1) s.carriers
    ∷ every (λ c. leb c.cameout 1) s.carriers ∷ every (λ c. every is_code c.map) s.carriers
    ∷ every (λ c. is_status c.id) s.carriers ∷ every (λ c. is_status c.slot) s.carriers
    ∷ every (λ c. is_status c.accessing) s.carriers ∷ []

-- a port that is tied is named by a carrier
abbrev tie_named : State → ℕ → Bool
tie_named s p = same_name (port_of s p).tie no_name || any (λ c. eqb c.port p) s.carriers

-- 23: names differ; 24, 25: ties read alike from either side; 26: a carrier placed at a port is tied to it, 27: one in the buffer to none;
-- 28: no two share a buffer place; 29: at most 16 are expected; 30: a port with a movement is BLOCKED; 31 to 33: one that is out of
-- service, READY TO LOAD or loading has no pod; 34: an open carrier is in the buffer or at a port; 35, 36: at a port, it is idle and
-- BLOCKED
abbrev agreements : State → List Bool
agreements s =
    every_two (λ a b. not (same_name a.name b.name)) s.carriers
    ∷ every (λ c. untied c || same_name (port_of s c.port).tie c.name) s.carriers
    ∷ (tie_named s 1 && tie_named s 2 && tie_named s 3 && tie_named s 4)
    ∷ every (λ c. not (at_port c) || not (untied c)) s.carriers ∷ every (λ c. not (in_buffer c) || untied c) s.carriers
    ∷ every_two (λ a b. not (in_buffer a) || not (in_buffer b) || not (eqb a.spot b.spot)) s.carriers
    ∷ leb (how_many expected s.carriers) 16 ∷ every (λ q. idle q || blocked q) s.ports
    ∷ every (λ q. not (out_of_service q) || not (has_pod q)) s.ports ∷ every (λ q. not (ready_to_load q) || not (has_pod q)) s.ports
    ∷ every (λ q. not (loading q) || not (has_pod q)) s.ports ∷ every (λ c. not (is_open c) || in_buffer c || at_port c) s.carriers
    ∷ every (λ c. not (is_open c) || in_buffer c || idle (port_of s c.port)) s.carriers
    ∷ every (λ c. not (is_open c) || in_buffer c || blocked (port_of s c.port)) s.carriers ∷ []

unfoldable pub clauses : State → List Bool
clauses s = counts s ++ port_ranges s.ports ++ carrier_ranges s ++ agreements s

-- ── The table ──
pub record Broken : Type 0 where
  pub clause : ℕ
  pub kept : State
  pub broken : State
  -- clauses that can't but fail with it: where ties agree, a tie is a name and a port is one of the tool's
  pub also : List ℕ

-- the one is sound, the other isn't, and the clauses hold in both but for this one
unfoldable pub breaks : Broken → Bool
breaks b =
    sound b.kept && not (sound b.broken) && every (λ w. w) (clauses b.kept)
    && same_list (differing 0 (clauses b.kept) (clauses b.broken)) (b.clause ∷ b.also)

abbrev breaking : ℕ → State → State → Broken
breaking clause kept broken = record { clause = clause; kept = kept; broken = broken; also = [] }

abbrev breaking_too : List ℕ → ℕ → State → State → Broken
breaking_too also clause kept broken = record { clause = clause; kept = kept; broken = broken; also = also }

abbrev none : List ℕ
none = replicate 25 0

-- a tool of one port and no buffer; a tool of a new port, two places and one carrier; of one port, two places and one carrier
abbrev only_port : Port → State
only_port q = state 0 (q ∷ []) []

abbrev only_carrier : Carrier → State
only_carrier c = state 2 (new_port ∷ []) (c ∷ [])

abbrev both : Port → Carrier → State
both q c = state 2 (q ∷ []) (c ∷ [])

-- new ports, the last of them tied to A
abbrev last_tied : ℕ → State
last_tied n = state 0 (replicate n new_port ++ (port 1 0 0 A 0 0 0 ∷ [])) []

-- A expected, in buffer place 1, at port 1
abbrev waiting_a : Carrier
waiting_a = carrier A 0 0 0 0 0 0 none 1 1 1

abbrev in_place : ℕ → Carrier
in_place b = carrier A 2 b 0 0 0 0 none 3 1 1

abbrev named : List ℕ → Carrier
named n = carrier n 0 0 0 0 0 0 none 1 1 1

-- open, cancelled, came-out; slot map; ID, slot status, accessing of a carrier in the buffer
abbrev flagged : ℕ → ℕ → ℕ → Carrier
flagged opened cancelled cameout = carrier A 2 1 0 opened cancelled cameout none 3 1 1

abbrev mapped : List ℕ → Carrier
mapped m = carrier A 2 1 0 0 0 0 m 3 1 1

abbrev judged : ℕ → ℕ → ℕ → Carrier
judged id slot accessing = carrier A 2 1 0 0 0 0 none id slot accessing

-- A, open, tied to port 1; p is its place
abbrev open_there : ℕ → Carrier
open_there p = carrier A p 0 1 1 0 0 none 3 1 1

-- n carriers that are expected
abbrev many : ℕ → List Carrier
many zero = []
many (suc n) = new_carrier (in_bytes ((0x61 + n) ∷ [])) 0 ∷ many n

abbrev pub ranges_broken : List Broken
ranges_broken =
    breaking 0 (only_port new_port) (state 0 [] [])
    ∷ breaking 1 (state 0 (replicate 4 new_port) []) (state 0 (replicate 5 new_port) [])
    ∷ breaking 2 (state 16 (new_port ∷ []) []) (state 17 (new_port ∷ []) [])
    ∷ breaking 3 (only_port (port 3 0 0 [] 0 0 0)) (only_port (port 4 0 0 [] 0 0 0))
    ∷ breaking 4 (only_port (port 1 1 0 [] 0 0 0)) (only_port (port 1 2 0 [] 0 0 0))
    ∷ breaking 5 (only_port (port 1 0 1 [] 0 0 0)) (only_port (port 1 0 2 [] 0 0 0))
    ∷ breaking_too (25 ∷ []) 6 (only_port new_port) (only_port (port 1 0 0 (0x20 ∷ []) 0 0 0))
    ∷ breaking 7 (only_port (port 3 0 0 [] 2 0 0)) (only_port (port 3 0 0 [] 3 0 0))
    ∷ breaking 8 (only_port (port 3 0 0 [] 0 1 0)) (only_port (port 3 0 0 [] 0 2 0))
    ∷ breaking 9 (only_port (port 1 0 0 [] 0 0 2)) (only_port (port 1 0 0 [] 0 0 3))
    ∷ breaking 10 (only_carrier (named A)) (only_carrier (named []))
    ∷ breaking 10 (only_carrier (named (replicate 16 0x21))) (only_carrier (named (replicate 15 0x21 ++ (0x20 ∷ []))))
    ∷ breaking 10 (only_carrier (named (0x7E ∷ 0x41 ∷ []))) (only_carrier (named (0x7F ∷ 0x41 ∷ [])))
    ∷ breaking 10 (only_carrier (named (0x41 ∷ 0x41 ∷ 0x41 ∷ []))) (only_carrier (named (0x41 ∷ 0 ∷ 0x41 ∷ [])))
    ∷ breaking 11 (only_carrier (in_place 1)) (only_carrier (carrier A 3 0 0 0 0 0 none 3 1 1))
    ∷ breaking 12 (only_carrier (in_place 1)) (only_carrier (in_place 0))
    ∷ breaking 13 (only_carrier (in_place 2)) (only_carrier (in_place 3))
    ∷ breaking 14 (only_carrier waiting_a) (only_carrier (carrier A 0 1 0 0 0 0 none 1 1 1))
    ∷ breaking_too (24 ∷ []) 15 (only_carrier waiting_a) (only_carrier (carrier A 0 0 2 0 0 0 none 1 1 1))
    ∷ breaking 16 (only_carrier (flagged 1 0 0)) (only_carrier (flagged 2 0 0))
    ∷ breaking 17 (only_carrier (flagged 0 1 0)) (only_carrier (flagged 0 2 0))
    ∷ breaking 18 (only_carrier (flagged 0 0 1)) (only_carrier (flagged 0 0 2))
    ∷ breaking 19 (only_carrier (mapped (5 ∷ replicate 24 0))) (only_carrier (mapped (6 ∷ replicate 24 0)))
    ∷ breaking 19 (only_carrier (mapped (replicate 24 0 ++ (5 ∷ [])))) (only_carrier (mapped (replicate 24 0 ++ (6 ∷ []))))
    ∷ breaking 20 (only_carrier (judged 1 1 1)) (only_carrier (judged 0 1 1))
    ∷ breaking 20 (only_carrier (judged 4 1 1)) (only_carrier (judged 5 1 1))
    ∷ breaking 21 (only_carrier (judged 3 1 1)) (only_carrier (judged 3 0 1))
    ∷ breaking 21 (only_carrier (judged 3 4 1)) (only_carrier (judged 3 5 1))
    ∷ breaking 22 (only_carrier (judged 3 1 1)) (only_carrier (judged 3 1 0))
    ∷ breaking 22 (only_carrier (judged 3 1 4)) (only_carrier (judged 3 1 5))
    ∷ []

abbrev pub agreements_broken : List Broken
agreements_broken =
    -- names differ: two that stand side by side, and two with another between them
    breaking 23 (state 0 (new_port ∷ []) (named A ∷ named B ∷ [])) (state 0 (new_port ∷ []) (named A ∷ named A ∷ []))
    ∷ breaking 23 (state 0 (new_port ∷ []) (named A ∷ named B ∷ named (0x43 ∷ []) ∷ []))
    (state 0 (new_port ∷ []) (named A ∷ named B ∷ named A ∷ []))
    -- ties read alike from either side
    ∷ breaking 24 (both (port 1 0 0 A 0 0 0) (carrier A 0 0 1 0 0 0 none 1 1 1)) (both new_port (carrier A 0 0 1 0 0 0 none 1 1 1))
    ∷ breaking 25 (only_port new_port) (last_tied 0)
    ∷ breaking 25 (state 0 (replicate 2 new_port) []) (last_tied 1)
    ∷ breaking 25 (state 0 (replicate 3 new_port) []) (last_tied 2)
    ∷ breaking 25 (state 0 (replicate 4 new_port) []) (last_tied 3)
    -- a carrier placed at a port is tied to it and one in the buffer to none
    ∷ breaking 26 (only_carrier waiting_a) (only_carrier (carrier A 1 0 0 0 0 0 none 1 1 1))
    ∷ breaking 27 (both (port 3 0 0 A 0 0 0) (carrier A 1 0 1 0 0 0 none 3 1 1))
    (both (port 3 0 0 A 0 0 0) (carrier A 2 1 1 0 0 0 none 3 1 1))
    -- no two share a buffer place
    ∷ breaking 28 (state 2 (new_port ∷ []) (in_place 1 ∷ carrier B 2 2 0 0 0 0 none 3 1 1 ∷ []))
    (state 2 (new_port ∷ []) (in_place 1 ∷ carrier B 2 1 0 0 0 0 none 3 1 1 ∷ []))
    -- at most 16 are expected
    ∷ breaking 29 (state 0 (new_port ∷ []) (many 16)) (state 0 (new_port ∷ []) (many 17))
    -- a port with a movement is BLOCKED
    ∷ breaking 30 (only_port (port 3 0 0 [] 2 1 0)) (only_port (port 2 0 0 [] 2 1 0))
    -- one that is out of service, READY TO LOAD or loading has no pod
    ∷ breaking 31 (only_port (port 0 0 0 [] 0 0 0)) (only_port (port 0 0 0 [] 0 1 0))
    ∷ breaking 32 (only_port (port 1 0 0 [] 0 0 0)) (only_port (port 1 0 0 [] 0 1 0))
    ∷ breaking 33 (only_port (port 3 0 0 [] 1 0 0)) (only_port (port 3 0 0 [] 1 1 0))
    -- an open carrier is in the buffer or at an idle BLOCKED port
    ∷ breaking 34 (both (port 3 0 0 A 0 1 0) (open_there 1)) (both (port 3 0 0 A 0 1 0) (open_there 0))
    ∷ breaking 35 (both (port 3 0 0 A 0 1 0) (open_there 1)) (both (port 3 0 0 A 2 1 0) (open_there 1))
    ∷ breaking 36 (both (port 3 0 0 A 0 1 0) (open_there 1)) (both (port 2 0 0 A 0 1 0) (open_there 1))
    ∷ []

-- each clause is broken somewhere
abbrev pub clauses_broken : List Broken → List ℕ
clauses_broken [] = []
clauses_broken (b ∷ bs) = b.clause ∷ clauses_broken bs

-- ── Unused bytes and records are zero ──
-- the tool of one port and two places with this in its last port, or in its last record
abbrev unused_port : Port → Tool
unused_port q = record {
  used = 1;
  places = 2;
  count = 0;
  ports = set (in_tool (start 1 2)).ports 3 q;
  carriers = (in_tool (start 1 2)).carriers;
}

abbrev unused_carrier : Carrier → Tool
unused_carrier c = record {
  used = 1;
  places = 2;
  count = 0;
  ports = (in_tool (start 1 2)).ports;
  carriers = set (in_tool (start 1 2)).carriers 35 c;
}

-- a full tool: 4 ports, 16 places, 36 carriers, of which 16 are expected, 16 in the buffer and 4 at ports; its counts as given
abbrev stored : ℕ → List Carrier
stored zero = []
stored (suc n) = carrier ((0x41 + n) ∷ []) 2 (suc n) 0 0 0 0 none 3 1 1 ∷ stored n

abbrev standing_at : ℕ → List Carrier
standing_at zero = []
standing_at (suc n) = carrier ((0x31 + n) ∷ []) 1 0 (suc n) 0 0 0 none 3 1 1 ∷ standing_at n

abbrev full : ℕ → ℕ → Tool
full used count = record {
  used = used;
  places = 16;
  count = count;
  ports = port 3 0 0 (0x31 ∷ []) 0 1 1 ∷ port 3 0 0 (0x32 ∷ []) 0 1 1 ∷ port 3 0 0 (0x33 ∷ []) 0 1 1 ∷ port 3 0 0 (0x34 ∷ []) 0 1 1 ∷ [];
  carriers = many 16 ++ stored 16 ++ standing_at 4;
}

-- the state that it holds is sound, and yet the tool isn't
unfoldable pub only_unused : Tool → Bool
only_unused t = not (sound_tool t) && sound (state_of t)

abbrev pub tools_kept : List Tool
tools_kept = unused_port no_port ∷ unused_carrier no_carrier ∷ full 4 36 ∷ []

abbrev pub tools_broken : List Tool
tools_broken =
    full 5 36
    ∷ full 4 37
    ∷ unused_port (port 1 0 0 [] 0 0 0)
    ∷ unused_port (port 0 1 0 [] 0 0 0)
    ∷ unused_port (port 0 0 1 [] 0 0 0)
    ∷ unused_port (port 0 0 0 A 0 0 0)
    ∷ unused_port (port 0 0 0 [] 1 0 0)
    ∷ unused_port (port 0 0 0 [] 0 1 0)
    ∷ unused_port (port 0 0 0 [] 0 0 1)
    ∷ unused_carrier (carrier A 0 0 0 0 0 0 none 0 0 0)
    ∷ unused_carrier (carrier [] 1 0 0 0 0 0 none 0 0 0)
    ∷ unused_carrier (carrier [] 0 1 0 0 0 0 none 0 0 0)
    ∷ unused_carrier (carrier [] 0 0 1 0 0 0 none 0 0 0)
    ∷ unused_carrier (carrier [] 0 0 0 1 0 0 none 0 0 0)
    ∷ unused_carrier (carrier [] 0 0 0 0 1 0 none 0 0 0)
    ∷ unused_carrier (carrier [] 0 0 0 0 0 1 none 0 0 0)
    ∷ unused_carrier (carrier [] 0 0 0 0 0 0 (1 ∷ replicate 24 0) 0 0 0)
    ∷ unused_carrier (carrier [] 0 0 0 0 0 0 none 1 0 0)
    ∷ unused_carrier (carrier [] 0 0 0 0 0 0 none 0 1 0)
    ∷ unused_carrier (carrier [] 0 0 0 0 0 0 none 0 0 1)
    ∷ []
