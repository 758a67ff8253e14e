-- The run of document 01 that a run of this layer stands for.
use Rattle.std.specs.Prelude.{Bool, cond, ◌&&◌, List, [], ◌∷◌, ◌++◌, eqb}
use Rattle.rules.specs.Seen.{Input, input_of}
use Rattle.maps.specs.State.{Mapped}
use Rattle.maps.specs.Rows.{codes_in}
use Rattle.maps.specs.Outcome.{answer_in, state_after}

-- A run's inputs stand the latest first. The state that a run has reached:
unfoldable pub reached : Mapped → List Input → Mapped
reached s [] = s
reached s (i ∷ earlier) = state_after (reached s earlier) i

-- a SlotMap that equals the map kept
unfoldable pub equal_map : Mapped → Input → Bool
equal_map s i = eqb i.number 20 && (codes_in s i).equal

-- ProceedWithCarrier for the same name, no port given
abbrev pub proceed : Input → Input
proceed i = input_of 5 0 0 i.name []

-- A refused input stands for none, an equal map for SlotMap and then ProceedWithCarrier, any other for itself.
unfoldable pub stands_for : Mapped → Input → List Input
stands_for s i = cond (eqb (answer_in s i) 0) (cond (equal_map s i) (proceed i ∷ i ∷ []) (i ∷ [])) []

unfoldable pub cut_down : Mapped → List Input → List Input
cut_down s [] = []
cut_down s (i ∷ earlier) = stands_for (reached s earlier) i ++ cut_down s earlier
