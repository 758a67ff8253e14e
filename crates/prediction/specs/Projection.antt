-- The run of P5's layer that a run of this layer stands for: its inputs without those that bring a clock.
use Rattle.std.specs.Prelude.{cond, List, [], ◌∷◌}
use Rattle.rules.specs.Seen.{Input}
use Rattle.prediction.specs.State.{Timed}
use Rattle.prediction.specs.Outcome.{is_timed}

unfoldable pub cut_down : List Timed → List Input
cut_down [] = []
cut_down (i ∷ earlier) = cond (is_timed i.input.number) (cut_down earlier) (i.input ∷ cut_down earlier)
