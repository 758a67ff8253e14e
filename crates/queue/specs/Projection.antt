-- The run of P1's layer that a run of this layer stands for.
use Rattle.std.specs.Prelude.{cond, List, [], ◌∷◌, ◌++◌, eqb}
use Rattle.rules.specs.Seen.{Input}
use Rattle.queue.specs.State.{Queued}
use Rattle.queue.specs.Outcome.{row_in, answer_in, state_after}

-- A run's inputs stand the latest first. The state that a run has reached:
unfoldable pub reached : Queued → List Input → Queued
reached s [] = s
reached s (i ∷ earlier) = state_after (reached s earlier) i

-- A refused input stands for none, an accepted one for those that its row names.
unfoldable pub stands_for : Queued → Input → List Input
stands_for s i = cond (eqb (answer_in s i) 0) (row_in s i).stands []

unfoldable pub cut_down : Queued → List Input → List Input
cut_down s [] = []
cut_down s (i ∷ earlier) = stands_for (reached s earlier) i ++ cut_down s earlier
