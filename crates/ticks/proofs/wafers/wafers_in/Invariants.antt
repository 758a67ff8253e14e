-- The first i wafers are copied.
use Rattle.std.proofs.Common.{◌≡◌, ◌≤◌, length, take}
use Rattle.ticks.specs.Wafers.{wafers_in}
use Rattle.ticks.proofs.wafers.wafers_in.Given as goal

abbrev pub invariant-loop-i : goal.invariant-loop-i
invariant-loop-i l = (l.i ≤ l.n) × (length l.ws ≡ 25) × (take l.i l.ws ≡ take l.i (wafers_in l.times))
