-- A run of this layer is one of P7's: so demand 3, and all that is promised of predictions, is read off that run.
use mathlib.Core.Path.{◌≡◌, refl, sym}
use mathlib.Core.Bool.{Bool, true, false, cond, ◌&&◌}
use mathlib.Core.List.{List, [], ◌∷◌, ◌++◌, append_assoc}
use lib.Dec.{eqb}
use Rattle.rules.specs.Row.{lower}
use Rattle.prediction.specs.State.{Predicted, Timed}
use Rattle.prediction.specs.Sound.{sound}
use Rattle.prediction.specs.Outcome as prediction
use Rattle.prediction.proofs.Clocks as clocks
use Rattle.prediction.proofs.Sounds.{sound_reached}
use Rattle.wafers.specs.Outcome.{Brought, is_wafers, fits, tp_of, good, with_tp, answer_in, stands_for, state_after, reached}
use Rattle.wafers.specs.Projection.{cut_down}

-- one run after the other
reached_on : (s : Predicted) (later run : List Timed) → prediction.reached s (later ++ run) ≡ prediction.reached (prediction.reached s run) later
unfolding prediction.reached
reached_on s [] run = refl
reached_on s (i ∷ later) run = rw (reached_on s later run)

pub below : (s : Predicted) (run : List Brought) → reached s run ≡ prediction.reached s (cut_down run)
unfolding reached cut_down state_after prediction.reached
below s [] = refl
below s (i ∷ earlier) = rw (below s earlier) (sym (reached_on s (stands_for i) (cut_down earlier)))

pub cut_on : (later run : List Brought) → cut_down (later ++ run) ≡ cut_down later ++ cut_down run
unfolding cut_down
cut_on [] run = refl
cut_on (i ∷ later) run = rw (cut_on later run) (sym (append_assoc (stands_for i) (cut_down later) (cut_down run)))

-- it stands for one input, or for none
pub stands : (i : Brought) (Q : List Timed → Type 0) → Q [] → ((x : Timed) → stands_for i ≡ x ∷ [] → Q (x ∷ [])) → Q (stands_for i)
unfolding stands_for
stands i Q none one = go (is_wafers i) refl (fits i && good i) refl
  where
    go : (a : Bool) → is_wafers i ≡ a → (b : Bool) → (fits i && good i) ≡ b → Q (cond a (cond b (with_tp i (tp_of i) ∷ []) []) (i.timed ∷ []))
    go true p true q = one (with_tp i (tp_of i)) (rw (p, q))
    go true p false q = none
    go false p b q = one i.timed (rw p)

module _ (s : Predicted) (i : Brought) where
  pub sound_after : sound s ≡ true → sound (state_after s i) ≡ true
  unfolding state_after
  sound_after h = sound_reached s h (stands_for i)

  -- the answer is that of what it stands for
  pub answers_below : (x : Timed) → stands_for i ≡ x ∷ [] → answer_in s i ≡ prediction.answer_in s x
  unfolding answer_in stands_for
  answers_below x = go (is_wafers i) (fits i) (good i)
    where
      go : (a b c : Bool) → cond a (cond (b && c) (with_tp i (tp_of i) ∷ []) []) (i.timed ∷ []) ≡ x ∷ []
          → cond a (cond b (cond c (prediction.answer_in s (with_tp i (tp_of i))) (lower (prediction.answer_in s (with_tp i 0)) 12)) 1) (prediction.answer_in s i.timed) ≡ prediction.answer_in s x
      go true true true e = cc
      go true true false e = cc
      go true false c e = cc
      go false b c e = cc

  -- a refused input leaves everything
  pub refused_leaves : eqb (answer_in s i) 0 ≡ false → state_after s i ≡ s
  unfolding answer_in state_after stands_for prediction.reached
  refused_leaves = go (is_wafers i) (fits i) (good i)
    where
      go : (a b c : Bool)
          → eqb (cond a (cond b (cond c (prediction.answer_in s (with_tp i (tp_of i))) (lower (prediction.answer_in s (with_tp i 0)) 12)) 1) (prediction.answer_in s i.timed)) 0 ≡ false
          → prediction.reached s (cond a (cond (b && c) (with_tp i (tp_of i) ∷ []) []) (i.timed ∷ [])) ≡ s
      go true true true e = clocks.refused_leaves s (with_tp i (tp_of i)) e
      go true true false e = refl
      go true false c e = refl
      go false b c e = clocks.refused_leaves s i.timed e
