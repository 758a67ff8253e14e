use Rattle.std.proofs.Common.{◌≡◌, ◌≤◌, length, take}
use Rattle.ticks.specs.Wafers.{all_timely}
use Rattle.ticks.proofs.wafers.all_timely.Given as goal

abbrev pub invariant-loop-i : goal.invariant-loop-i
invariant-loop-i l = (l.i ≤ l.n) × (length l.ws ≡ 25) × (l.good ≡ all_timely (take l.i l.ws))
