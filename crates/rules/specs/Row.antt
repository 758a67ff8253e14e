-- A row: what it is refused for, and its effect.
use Rattle.std.specs.Prelude.{ℕ, Bool, false, not, cond, ◌&&◌, ◌||◌, List, [], ◌∷◌, set, eqb, leb}
use Rattle.lists.specs.Lists.{without, with_new}
use Rattle.records.specs.declared.port.Port.{Port}
use Rattle.records.specs.declared.carrier.Carrier.{Carrier}
use Rattle.records.specs.Ports.{no_port, reserved, idle, has_pod, tag_failed}
use Rattle.records.specs.Carriers.{no_carrier, new_carrier, expected}
use Rattle.rules.specs.declared.row.Seen.{Seen}
use Rattle.rules.specs.declared.row.Effect.{Effect}
use Rattle.rules.specs.State.{State, spot_of}

-- A ground for refusal: a test, and the number that is answered when it holds, or unless it does.
pub data Ground : Type 0 where
  when unless : Bool → ℕ → Ground

-- the number that a ground gives, 0 where it doesn't apply
abbrev pub given : Ground → ℕ
given (when b n) = cond b n 0
given (unless b n) = cond b 0 n

-- the lower of two numbers, 0 being none
unfoldable pub lower : ℕ → ℕ → ℕ
lower m n = cond (eqb m 0) n (cond (eqb n 0) m (cond (leb m n) m n))

-- The lowest number that applies is answered, 0 where none does.
unfoldable pub lowest : List Ground → ℕ
lowest [] = 0
lowest (g ∷ gs) = lower (given g) (lowest gs)

-- The first that applies: the same, since each row's grounds stand lowest number first.
abbrev pub judge : List Ground → ℕ
judge [] = 0
judge (when b n ∷ gs) = cond b n (judge gs)
judge (unless b n ∷ gs) = cond (not b) n (judge gs)

pub record Row : Type 0 where
  pub grounds : List Ground
  pub effect : Effect

-- What an effect makes of the state.
unfoldable pub enact : Effect → State → State
enact e s = record {
  ports = set s.ports (spot_of e.port) e.becomes;
  carriers = with_new e.made e.next (without e.goes (set s.carriers e.changes e.next));
  places = s.places;
}

-- only a port changes; n is the number of records
abbrev pub on_port : ℕ → ℕ → Port → Effect
on_port n p q = record { port = p; becomes = q; goes = n; changes = n; next = no_carrier; made = false }

-- a port changes, and the record at a position goes
abbrev pub on_port_and_gone : ℕ → ℕ → Port → ℕ → Effect
on_port_and_gone n p q k = record { port = p; becomes = q; goes = k; changes = n; next = no_carrier; made = false }

-- only the record at a position changes
abbrev pub on_record : ℕ → ℕ → Carrier → Effect
on_record n k c = record { port = 0; becomes = no_port; goes = n; changes = k; next = c; made = false }

-- a port and the record at a position change
abbrev pub on_both : ℕ → ℕ → Port → ℕ → Carrier → Effect
on_both n p q k c = record { port = p; becomes = q; goes = n; changes = k; next = c; made = false }

-- ── What rows ask ──
-- the port given is one of the tool's, or none is given
abbrev pub is_port_or_none : Seen → Bool
is_port_or_none x = x.isport || x.noport

abbrev pub reserved_or_tied : Seen → Bool
reserved_or_tied x = reserved x.here || x.tied

-- the second number is 0 or 1
abbrev pub is_choice : Seen → Bool
is_choice x = leb x.value 1

-- a port is given, and it isn't the carrier's
abbrev pub other_port : Seen → Carrier → Bool
other_port x c = not x.noport && not (eqb x.port c.port)

-- the name's record is placed
unfoldable pub placed : Seen → Bool
placed x = x.known && not (expected x.found)

-- unknown pod at the port: port given, pod present, idle, tag failed, no tie
unfoldable pub unknown_pod : Seen → Bool
unknown_pod x = x.isport && has_pod x.here && idle x.here && tag_failed x.here && not x.tied

-- the name's record, or a new one
unfoldable pub found_or_new : Seen → Carrier
found_or_new x = cond x.known x.found (new_carrier x.name 0)
