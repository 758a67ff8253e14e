-- The rows that take a name: as in document 01, and CancelCarrierOut.
use Rattle.std.specs.Prelude.{ℕ, Bool, ◌||◌, eqb}
use Rattle.rules.specs.Named as base

unfoldable pub takes_name : ℕ → Bool
takes_name n = base.takes_name n || eqb n 29
