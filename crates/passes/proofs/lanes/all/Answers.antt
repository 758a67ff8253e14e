-- the lanes that are passed are good
use Rattle.std.proofs.Common.{false, refl}
use Rattle.lists.specs.Lists.{every}
use Rattle.passes.specs.Passes.{itself}
use Rattle.passes.proofs.Turns.{every_turn}
use Rattle.passes.proofs.lanes.all.Goals as goal

pub loop-lane-init : goal.loop-lane-init
unfolding every
loop-lane-init c = refl

pub loop-lane-preserved : goal.loop-lane-preserved
loop-lane-preserved c =
    every_turn itself c.args.good.now c.loop-lane.ok c.loop-lane.lane-index false c.loop-lane-test.true c.loop-lane.invariant
