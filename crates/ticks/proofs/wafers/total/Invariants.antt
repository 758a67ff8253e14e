-- The f64 is the f64 total of the first i wafers.
use Rattle.std.proofs.Common.{◌≡◌, ◌≤◌, length, take}
use Rattle.ticks.specs.Wafers.{f64_total}
use Rattle.ticks.proofs.wafers.total.Given as goal

abbrev pub invariant-loop-i : goal.invariant-loop-i
invariant-loop-i l = (l.i ≤ l.n) × (length l.ws ≡ 25) × (l.t ≡ f64_total (take l.i l.ws))
