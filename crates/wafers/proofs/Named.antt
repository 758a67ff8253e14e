-- With wafers too: a row that takes no name ignores the one that it is sent; a row that takes one answers 1 where it is no name.
use Prim.Native.Nat.{ℕ}
use mathlib.Core.Path.{◌≡◌, refl, ap, sym, ◌∙◌}
use mathlib.Core.Bool.{Bool, true, false, cond, ◌||◌}
use mathlib.Core.List.{List}
use lib.Dec.{eqb}
use Rattle.lists.proofs.Bools.{or_false_l, or_false_r}
use Rattle.records.specs.Names.{is_name}
use Rattle.rules.specs.Row.{lower}
use Rattle.rules.specs.Named as base
use Rattle.rules.specs.Named.{name_missing}
use Rattle.queue.specs.Named as queue
use Rattle.prediction.specs.State.{Predicted, PredictedTool, state_of}
use Rattle.prediction.specs.Outcome as below
use Rattle.prediction.specs.Outcome.{refused}
use Rattle.prediction.specs.Named as prediction
use Rattle.prediction.proofs.Named as names
use Rattle.wafers.specs.Outcome.{Brought, is_wafers, fits, tp_of, good, with_tp, answer_in, stands_for, state_after, told_of, reports_in, given_in}
use Rattle.wafers.specs.Named.{takes_name, called}

-- ── Ignored ──
module _ (i : Brought) (name : List ℕ) (f : takes_name i.timed.input.number ≡ false) where
  not_wafers : is_wafers i ≡ false
  unfolding takes_name
  not_wafers = or_false_r (prediction.takes_name i.timed.input.number) _ f

  not_below : prediction.takes_name i.timed.input.number ≡ false
  unfolding takes_name
  not_below = or_false_l _ _ f

  module _ (s : Predicted) where
    pub answer_ignores : answer_in s (called name i) ≡ answer_in s i
    unfolding answer_in
    answer_ignores = rw not_wafers (names.answer_ignores i.timed name not_below s)

    pub state_ignores : state_after s (called name i) ≡ state_after s i
    unfolding state_after stands_for below.reached
    state_ignores = rw not_wafers (names.state_ignores i.timed name not_below s)

    pub reports_ignore : reports_in s (called name i) ≡ reports_in s i
    unfolding stands_for told_of below.reached
    reports_ignore = rw not_wafers (names.reports_ignore i.timed name not_below s)

  pub given_ignores : (t : PredictedTool) → given_in t (called name i) ≡ given_in t i
  unfolding given_in
  given_ignores t = rw (answer_ignores (state_of t), state_ignores (state_of t), reports_ignore (state_of t))

-- ── Refused ──
module _ (i : Brought) (h : is_name i.timed.input.name ≡ false) (k : takes_name i.timed.input.number ≡ true)
    (m : name_missing i.timed.input ≡ false) where
  -- P7's input for Tp takes a name, and it is never missing there
  tp_takes : prediction.takes_name 32 ≡ true
  unfolding prediction.takes_name queue.takes_name base.takes_name
  tp_takes = refl

  tp_given_name : (tp : ℕ) → name_missing (with_tp i tp).input ≡ false
  unfolding name_missing
  tp_given_name tp = refl

  tp_answers : (s : Predicted) (tp : ℕ) → below.answer_in s (with_tp i tp) ≡ 1
  tp_answers s tp = names.answers (with_tp i tp) h tp_takes (tp_given_name tp) s

  takes_below : is_wafers i ≡ false → prediction.takes_name i.timed.input.number ≡ true
  unfolding takes_name
  takes_below = go (prediction.takes_name i.timed.input.number) k
    where
      go : (w : Bool) → (w || eqb i.timed.input.number 35) ≡ true → eqb i.timed.input.number 35 ≡ false → w ≡ true
      go true e f = refl
      go false e f = sym f ∙ e

  pub answers : (s : Predicted) → answer_in s i ≡ 1
  unfolding answer_in lower
  answers s = go (is_wafers i) refl (fits i) (good i)
    where
      go : (a : Bool) → is_wafers i ≡ a → (b c : Bool)
          → cond a (cond b (cond c (below.answer_in s (with_tp i (tp_of i))) (lower (below.answer_in s (with_tp i 0)) 12)) 1) (below.answer_in s i.timed) ≡ 1
      go true p true true = tp_answers s (tp_of i)
      go true p true false = ap (λ n. lower n 12) (tp_answers s 0)
      go true p false c = refl
      go false p b c = names.answers i.timed h (takes_below p) m s

  pub turned_away : (u : PredictedTool) → given_in u i ≡ refused u 1
  unfolding given_in
  turned_away u = rw (answers (state_of u))
