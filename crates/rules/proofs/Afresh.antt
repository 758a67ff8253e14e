-- A history starts afresh: a carrier AB is verified and cancelled, leaves, and comes back under the same name as neither.
use Prim.Native.Nat.{ℕ}
use mathlib.Core.Path.{◌≡◌, refl}
use mathlib.Core.Bool.{true, false}
use mathlib.Core.List.{List, [], ◌∷◌}
use Rattle.lists.specs.Lists.{every, any, how_many, where_is, without, fill, same_list}
use Rattle.records.specs.declared.name.Name.{Name}
use Rattle.records.specs.declared.carrier.Carrier.{Carrier}
use Rattle.records.specs.Names.{is_name, in_bytes, same_name}
use Rattle.records.specs.Maps.{is_map, in_map}
use Rattle.records.specs.Carriers.{at_port, id_waits}
use Rattle.rules.specs.State.{State, start, port_of, record_of}
use Rattle.rules.specs.Seen.{Input, input_of, narrow, name_stands, tie_stands, how_many_expected, spot_taken, some_open, see}
use Rattle.rules.specs.Row.{lower, lowest, enact, placed, unknown_pod, found_or_new}
use Rattle.rules.specs.Verdict.{takes_unknown_pod, can_proceed, can_cancel, cancel_at, cancel_port, failed}
use Rattle.rules.specs.Reading.{elsewhere, matching, displaced}
use Rattle.rules.specs.Rows.{row_of}
use Rattle.rules.specs.Outcome.{answer_in, state_after}
use Rattle.rules.specs.History.{reached, events, is_live, history, done, announced_there, verifies, verified, was_cancelled}

abbrev pub AB : List ℕ
AB = 0x41 ∷ 0x42 ∷ []

abbrev Ac : List ℕ
Ac = 0x41 ∷ 0x43 ∷ []

abbrev pub input : ℕ → ℕ → List ℕ → Input
input number port name = input_of number port 0 name []

-- One port, no buffer. The latest input stands first: AB is bound, loaded and read, and the host cancels it.
abbrev pub came : List Input
came = input 6 0 AB ∷ input 16 1 AB ∷ input 14 1 [] ∷ input 13 1 [] ∷ input 1 1 AB ∷ []

-- it is unloaded
abbrev pub left : List Input
left = input 25 1 [] ∷ input 24 1 [] ∷ came

-- it is announced again, the port is bound to Ac, and the pod that is loaded there reads AB: no matching read
abbrev pub returned : List Input
returned = input 16 1 AB ∷ input 14 1 [] ∷ input 13 1 [] ∷ input 1 1 Ac ∷ input 3 0 AB ∷ left

abbrev pub ab : Name
ab = in_bytes AB

abbrev pub after : List Input → State
after run = reached (start 1 0) run

abbrev pub its : List Input → Carrier
its run = record_of (after run) (name_stands (after run) ab)

pub record StartsAfresh : Type 0 where
  pub verified_first : verified ab (history ab (events (start 1 0) came)) ≡ true
  pub cancelled_first : was_cancelled ab (history ab (events (start 1 0) came)) ≡ true
  pub gone : is_live (after left) ab ≡ false
  pub back : is_live (after returned) ab ≡ true
  pub at_port_again : at_port (its returned) ≡ true
  pub id_waits_again : id_waits (its returned) ≡ true
  pub not_verified : verified ab (history ab (events (start 1 0) returned)) ≡ false
  pub not_cancelled : was_cancelled ab (history ab (events (start 1 0) returned)) ≡ false

pub afresh : StartsAfresh
unfolding every any how_many where_is without fill same_list is_name in_bytes same_name is_map in_map
    port_of record_of narrow name_stands tie_stands how_many_expected spot_taken some_open see lower lowest enact placed unknown_pod found_or_new
    takes_unknown_pod can_proceed can_cancel cancel_at cancel_port failed elsewhere matching displaced
    row_of answer_in state_after reached events is_live history done announced_there verifies verified was_cancelled
afresh = record {
  verified_first = refl;
  cancelled_first = refl;
  gone = refl;
  back = refl;
  at_port_again = refl;
  id_waits_again = refl;
  not_verified = refl;
  not_cancelled = refl;
}
