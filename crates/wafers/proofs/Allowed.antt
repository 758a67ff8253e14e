-- 35 gives no answer that isn't allowed for it.
use Prim.Native.Nat.{ℕ}
use mathlib.Core.Path.{◌≡◌, refl}
use mathlib.Core.Bool.{Bool, true, false, cond, ◌||◌}
use lib.Dec.{eqb, leb}
use Rattle.lists.specs.Lists.{any}
use Rattle.lists.proofs.Bools.{clash}
use Rattle.rules.specs.Row.{lower}
use Rattle.prediction.specs.State.{Predicted}
use Rattle.prediction.specs.Sound.{sound}
use Rattle.prediction.specs.Outcome as prediction
use Rattle.prediction.specs.Reachable as below
use Rattle.prediction.proofs.Allowed as below-allowed
use Rattle.wafers.specs.Outcome.{Brought, is_wafers, fits, good, tp_of, with_tp, answer_in}
use Rattle.wafers.specs.Reachable.{may_answer}

one_more : (a b c d e f : Bool) → a || (b || (c || (d || (e || false)))) ≡ true → a || (b || (c || (d || (e || (f || false))))) ≡ true
one_more true b c d e f h = refl
one_more false true c d e f h = refl
one_more false false true d e f h = refl
one_more false false false true e f h = refl
one_more false false false false true f h = refl
one_more false false false false false f h = clash h refl

-- what 32 may answer, 35 may
as_tp : (n : ℕ) → below.may_answer 32 n ≡ true → may_answer 35 n ≡ true
unfolding may_answer below.may_answer any
as_tp n h = one_more (eqb 0 n) (eqb 1 n) (eqb 2 n) (eqb 5 n) (eqb 11 n) (eqb 12 n) h

or_untimely : (n : ℕ) → may_answer 35 n ≡ true → may_answer 35 (lower n 12) ≡ true
unfolding lower may_answer any
or_untimely n h = go (eqb n 0) (leb n 12)
  where
    go : (z w : Bool) → may_answer 35 (cond z 12 (cond w n 12)) ≡ true
    go true w = refl
    go false true = h
    go false false = refl

module _ (s : Predicted) (i : Brought) (h : sound s ≡ true) where
  wafers_may : may_answer 35 (cond (fits i) (cond (good i) (prediction.answer_in s (with_tp i (tp_of i))) (lower (prediction.answer_in s (with_tp i 0)) 12)) 1) ≡ true
  unfolding may_answer any
  wafers_may = go (fits i) (good i)
    where
      go : (f g : Bool) → may_answer 35 (cond f (cond g (prediction.answer_in s (with_tp i (tp_of i))) (lower (prediction.answer_in s (with_tp i 0)) 12)) 1) ≡ true
      go true true = as_tp _ (below-allowed.nothing_else s (with_tp i (tp_of i)) h)
      go true false = or_untimely _ (as_tp _ (below-allowed.nothing_else s (with_tp i 0) h))
      go false g = refl

  pub nothing_else : may_answer i.timed.input.number (answer_in s i) ≡ true
  unfolding answer_in may_answer
  nothing_else = go (is_wafers i) refl
    where
      go : (w : Bool) → is_wafers i ≡ w → may_answer i.timed.input.number (answer_in s i) ≡ true
      go true a = rw a wafers_may
      go false a = rw a (below-allowed.nothing_else s i.timed h)
