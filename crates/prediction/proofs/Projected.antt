-- Cut down, a run is a run of P5's layer that reaches the same state below.
use mathlib.Core.Path.{◌≡◌, refl, ap, sym, ◌∙◌}
use mathlib.Core.Bool.{Bool, true, false, cond}
use mathlib.Core.List.{List, [], ◌∷◌}
use lib.Dec.{eqb}
use Rattle.queue.specs.State.{Queued}
use Rattle.queue.specs.Outcome as queue
use Rattle.queue.specs.Projection as queue-runs
use Rattle.prediction.specs.State.{Predicted, Timed}
use Rattle.prediction.specs.Outcome.{is_timed, answer_in, below_in, enact, state_after, reached}
use Rattle.prediction.specs.Projection.{cut_down}

-- a refused input leaves the state below
stays : (q : Queued) (i : Timed) → eqb (queue.answer_in q i.input) 0 ≡ false → q ≡ queue.state_after q i.input
unfolding queue.state_after
stays q i e = rw e

module _ (s : Predicted) (i : Timed) where
  -- an input that brings a clock leaves what is below
  pub timed_leaves : is_timed i.input.number ≡ true → (state_after s i).queued ≡ s.queued
  unfolding state_after below_in
  timed_leaves t = go (eqb (answer_in s i) 0)
    where
      go : (w : Bool) → (cond w (enact s i) s).queued ≡ s.queued
      go true = rw t
      go false = refl

  -- any other answers and moves as it does below
  pub plain_answers : is_timed i.input.number ≡ false → answer_in s i ≡ queue.answer_in s.queued i.input
  unfolding answer_in
  plain_answers t = rw t

  pub plain_moves : is_timed i.input.number ≡ false → (state_after s i).queued ≡ queue.state_after s.queued i.input
  unfolding state_after below_in
  plain_moves t = go (eqb (answer_in s i) 0) refl
    where
      go : (w : Bool) → eqb (answer_in s i) 0 ≡ w → (cond w (enact s i) s).queued ≡ queue.state_after s.queued i.input
      go true e = rw t
      go false e = stays s.queued i (ap (λ a. eqb a 0) (sym (plain_answers t)) ∙ e)

pub below : (s : Predicted) (run : List Timed) → queue-runs.reached s.queued (cut_down run) ≡ (reached s run).queued
unfolding cut_down reached queue-runs.reached
below s [] = refl
below s (i ∷ earlier) = go (is_timed i.input.number) refl (below s earlier)
  where
    go : (w : Bool) → is_timed i.input.number ≡ w → queue-runs.reached s.queued (cut_down earlier) ≡ (reached s earlier).queued
        → queue-runs.reached s.queued (cond w (cut_down earlier) (i.input ∷ cut_down earlier)) ≡ (state_after (reached s earlier) i).queued
    go true t r = r ∙ sym (timed_leaves (reached s earlier) i t)
    go false t r = ap (λ q. queue.state_after q i.input) r ∙ sym (plain_moves (reached s earlier) i t)
