-- The run of P8's layer that a run of this layer stands for.
use Rattle.std.specs.Prelude.{cond, List, [], ◌∷◌, ◌++◌, eqb}
use Rattle.wafers.specs.Outcome.{Brought}
use Rattle.hands.specs.State.{Handled}
use Rattle.hands.specs.Outcome.{row_in, answer_in, reached}

-- A refused input stands for none, an accepted one for the one that its row names: for none where a pod is held, for LoadDone in Continue.
unfoldable pub stands_for : Handled → Brought → List Brought
stands_for s i = cond (eqb (answer_in s i) 0) (row_in s i).stands []

unfoldable pub cut_down : Handled → List Brought → List Brought
cut_down s [] = []
cut_down s (i ∷ earlier) = stands_for (reached s earlier) i ++ cut_down s earlier
