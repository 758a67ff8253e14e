-- What the code asks of an input that brings a clock is what the definitions ask: every number of 32 bits is a time.
use Prim.Native.Nat.{ℕ}
use native.Mathlib.Omega.{arith}
use mathlib.Core.Path.{◌≡◌, refl, ap, sym, ◌∙◌}
use mathlib.Core.Bool.{Bool, true, false, cond}
use mathlib.Core.List.{List, [], ◌∷◌}
use lib.ListN.{get_or}
use lib.Dec.{eqb, ltb}
use Rattle.rules.specs.declared.row.Seen.{Seen}
use Rattle.rules.specs.Row.{Ground, when, unless, judge, lower, lowest}
use Rattle.rules.specs.Seen.{see}
use Rattle.rules.proofs.Lowest.{first_is_lowest, rising_from}
use Rattle.prediction.specs.declared.prediction.Prediction.{Prediction}
use Rattle.mapped.specs.Bytes.{own_in}
use Rattle.prediction.specs.Predictions.{no_prediction}
use Rattle.prediction.specs.State.{Predicted, base_of, state_of, Timed, is_fixed}
use Rattle.prediction.specs.Sound.{is_time, sound_tool}
use Rattle.prediction.specs.Outcome.{is_timed, named, clock_grounds, tp_grounds, te_grounds, none_grounds, grounds_of, answer_in}
use Rattle.times.specs.Bytes.{times_from, predictions_from}
use Rattle.predicted.specs.Bytes.{predicted_in, base_in}
use Rattle.predicted.specs.Asked.{timed_grounds}
use Rattle.predicted.proofs.Held.{table_at}

-- a ground that doesn't apply
clear : (b : Bool) → b ≡ true → (gs hs : List Ground) → rising_from 1 gs ≡ true → lowest gs ≡ lowest hs
    → judge gs ≡ lowest (unless b 1 ∷ hs)
unfolding lowest lower
clear b t gs hs r e = rw t (first_is_lowest 1 gs (omega arith) r ∙ e)

clear_two : (a b : Bool) → a ≡ true → b ≡ true → (gs : List Ground) → rising_from 1 gs ≡ true → judge gs ≡ lowest (unless a 1 ∷ unless b 1 ∷ gs)
unfolding lowest lower
clear_two a b t u gs r = rw (t, u) (first_is_lowest 1 gs (omega arith) r)

module _ (n : ℕ) (s : Predicted) (x : Seen) (i : Timed) (clock : is_time i.clock ≡ true) (time : is_time i.time ≡ true) where
  abbrev asked : Bool → Bool → Bool → List Ground
  asked u v w = cond u (clock_grounds s i) (cond v (tp_grounds s x i) (cond w (te_grounds s x i) (none_grounds s x i)))

  pub asked_is : judge (timed_grounds n x (is_fixed (base_of s)) (named s x) (ltb i.clock s.times.now)) ≡ lowest (grounds_of n s x i)
  unfolding timed_grounds grounds_of
  asked_is = go (eqb n 31) (eqb n 32) (eqb n 33)
    where
      fixed : Bool
      fixed = is_fixed (base_of s)

      go : (u v w : Bool) → judge (cond u (when (ltb i.clock s.times.now) 11 ∷ [])
          (cond v (unless x.named 1 ∷ unless x.known 2 ∷ unless (is_fixed (base_of s)) 5
          ∷ unless (eqb (named s x).state 3) 5 ∷ when (eqb (named s x).known 1) 5 ∷ when (ltb i.clock s.times.now) 11 ∷ [])
          (cond w (unless x.named 1 ∷ unless x.known 2 ∷ unless (is_fixed (base_of s)) 5 ∷ unless (eqb (named s x).known 1) 5
          ∷ when (ltb i.clock s.times.now) 11 ∷ [])
          (unless x.named 1 ∷ unless x.known 2 ∷ unless (is_fixed (base_of s)) 5 ∷ unless (eqb (named s x).state 3) 5
          ∷ when (ltb i.clock s.times.now) 11 ∷ [])))) ≡ lowest (asked u v w)
      go true v w = clear (is_time i.clock) clock (when (ltb i.clock s.times.now) 11 ∷ []) _ refl refl
      go false true w = clear_two (is_time i.clock) (is_time i.time) clock time _ refl
      go false false true = clear_two (is_time i.clock) (is_time i.time) clock time _ refl
      go false false false = clear (is_time i.clock) clock _ _ refl refl

pub answer_is : (s : Predicted) (i : Timed) → is_timed i.input.number ≡ true
    → answer_in s i ≡ lowest (grounds_of i.input.number s (see (base_of s) i.input) i)
unfolding answer_in
answer_is s i t = rw t

-- the same, the same is asked
pub asked_of : (n : ℕ) (x : Seen) {a b : Bool} {p q : Prediction} {c d : Bool} → a ≡ b → p ≡ q → c ≡ d
    → judge (timed_grounds n x a p c) ≡ judge (timed_grounds n x b q d)
asked_of n x f g h = rw (f, g, h)

-- what the code asks of what it saw gives the answer
pub seen_answers : (m : List (List ℕ)) → sound_tool (predicted_in m) ≡ true → (i : Timed) (x : Seen) → x ≡ see (base_in m) i.input
    → is_timed i.input.number ≡ true → is_time i.clock ≡ true → is_time i.time ≡ true
    → judge (timed_grounds i.input.number x (is_fixed (base_in m)) (get_or (predictions_from (own_in m)) x.stands no_prediction)
    (ltb i.clock (times_from (own_in m)).now)) ≡ answer_in (state_of (predicted_in m)) i
seen_answers m h i x e t clock time =
    asked_of i.input.number x refl (table_at m h x.stands) refl
    ∙ asked_is i.input.number (state_of (predicted_in m)) x i clock time
    ∙ ap (λ y. lowest (grounds_of i.input.number (state_of (predicted_in m)) y i)) e ∙ sym (answer_is (state_of (predicted_in m)) i t)
