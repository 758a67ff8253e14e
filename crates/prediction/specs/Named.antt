-- The rows that take a name: as with the queue, and those that bring a clock and a name.
use Rattle.std.specs.Prelude.{ℕ, Bool, ◌||◌, List}
use Rattle.lists.specs.Lists.{between}
use Rattle.rules.specs.Named as base
use Rattle.queue.specs.Named as queue
use Rattle.prediction.specs.State.{Timed, timed}

unfoldable pub takes_name : ℕ → Bool
takes_name n = queue.takes_name n || between 32 n 34

-- an input that is called by another name
abbrev pub called : List ℕ → Timed → Timed
called name i = timed (base.called name i.input) i.clock i.time
