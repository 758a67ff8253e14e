-- the lanes that are passed are good
use Rattle.std.proofs.Common.{◌≡◌, take}
use Rattle.lists.specs.Lists.{every}
use Rattle.passes.specs.Passes.{itself}
use Rattle.passes.proofs.lanes.all.Given as goal

abbrev pub invariant-loop-lane : goal.invariant-loop-lane
invariant-loop-lane l = l.ok ≡ every itself (take l.lane-index l.good)
