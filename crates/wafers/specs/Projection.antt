-- The run of P7's layer that a run of this layer stands for.
use Rattle.std.specs.Prelude.{List, [], ◌∷◌, ◌++◌}
use Rattle.prediction.specs.State.{Timed}
use Rattle.wafers.specs.Outcome.{Brought, stands_for}

unfoldable pub cut_down : List Brought → List Timed
cut_down [] = []
cut_down (i ∷ earlier) = stands_for i ++ cut_down earlier
