-- No row gives an answer that document 01 doesn't allow for it.
use Prim.Native.Nat.{ℕ}
use mathlib.Core.Path.{◌≡◌, refl, sym}
use mathlib.Core.Bool.{Bool, true, false}
use mathlib.Core.List.{List, [], ◌∷◌}
use Rattle.lists.specs.Lists.{every, any}
use Rattle.lists.proofs.Bools.{and_l, and_r}
use Rattle.rules.specs.declared.row.Seen.{Seen}
use Rattle.rules.specs.State.{State}
use Rattle.rules.specs.Seen.{Input, see}
use Rattle.rules.specs.Row.{Ground, when, unless, Row, judge}
use Rattle.rules.specs.Rows.{row_of}
use Rattle.rules.specs.Outcome.{answer_in}
use Rattle.rules.specs.Reachable.{may_answer}
use Rattle.rules.proofs.Walk.{walk}
use Rattle.rules.proofs.Lowest.{number_of, row_first_is_lowest}

-- the numbers that a row's grounds give
abbrev pub numbers_of : List Ground → List ℕ
numbers_of [] = []
numbers_of (g ∷ gs) = number_of g ∷ numbers_of gs

-- what is answered is 0 or one of them
pub among : (f : ℕ → Bool) (gs : List Ground) → f 0 ≡ true → every f (numbers_of gs) ≡ true → f (judge gs) ≡ true
unfolding every
among f [] z e = z
among f (when true n ∷ gs) z e = and_l (f n) _ e
among f (when false n ∷ gs) z e = among f gs z (and_r (f n) _ e)
among f (unless true n ∷ gs) z e = among f gs z (and_r (f n) _ e)
among f (unless false n ∷ gs) z e = and_l (f n) _ e

record Within (n : ℕ) (r : Row) : Type 0 where
  pub within : may_answer n (judge r.grounds) ≡ true

each_within : {n : ℕ} {r : Row} → may_answer n 0 ≡ true → every (may_answer n) (numbers_of r.grounds) ≡ true → Within n r
each_within {n} {r} z e = record { within = among (may_answer n) r.grounds z e }

rows_within : (n : ℕ) (x : Seen) → Within n (row_of n x)
unfolding may_answer every any
rows_within n x =
    walk Within x (record {
      bind = each_within refl refl;
      cancel_bind = each_within refl refl;
      carrier_notification = each_within refl refl;
      cancel_carrier_notification = each_within refl refl;
      proceed_with_carrier = each_within refl refl;
      cancel_carrier = each_within refl refl;
      carrier_out = each_within refl refl;
      carrier_in = each_within refl refl;
      change_access = each_within refl refl;
      change_service_status = each_within refl refl;
      reserve_at_port = each_within refl refl;
      cancel_reservation_at_port = each_within refl refl;
      load_start = each_within refl refl;
      load_done = each_within refl refl;
      load_fail = each_within refl refl;
      id_read = each_within refl refl;
      id_read_failed = each_within refl refl;
      move_in = each_within refl refl;
      open_row = each_within refl refl;
      slot_map = each_within refl refl;
      access_start = each_within refl refl;
      access_end = each_within refl refl;
      close_row = each_within refl refl;
      unload_start = each_within refl refl;
      unload_done = each_within refl refl;
      unload_fail = each_within refl refl;
      none = λ _. record { within = refl };
    }) n

pub nothing_else : (s : State) (i : Input) → may_answer i.number (answer_in s i) ≡ true
unfolding answer_in
nothing_else s i = rw (sym (row_first_is_lowest i.number (see s i))) (rows_within i.number (see s i)).within
