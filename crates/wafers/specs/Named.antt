-- The rows that take a name: as with predictions, and Wafers.
use Rattle.std.specs.Prelude.{ℕ, Bool, ◌||◌, List, eqb}
use Rattle.prediction.specs.Named as prediction
use Rattle.wafers.specs.Outcome.{Brought, bringing}

unfoldable pub takes_name : ℕ → Bool
takes_name n = prediction.takes_name n || eqb n 35

-- an input that is called by another name
abbrev pub called : List ℕ → Brought → Brought
called name i = bringing (prediction.called name i.timed) i.wafers
