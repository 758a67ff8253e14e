-- The first i wafers are copied.
use Rattle.std.proofs.Common.{refl, arith, length-set}
use lib.Ieee.{nan}
use Rattle.ticks.proofs.Slices.{copied, all_copied}
use Rattle.ticks.proofs.wafers.wafers_in.Goals as goal

pub loop-i-init : goal.loop-i-init
loop-i-init c = (omega arith, refl, refl)

pub loop-i-preserved : goal.loop-i-preserved
loop-i-preserved c =
    let v = c.loop-i.invariant in (
      omega arith,
      simp length-set v.1,
      copied c.args.times.now c.args.n c.requires.n_value c.loop-i.ws c.loop-i.i nan (omega arith) (omega arith) v.2,
    )

pub returns : goal.returns
returns c =
    all_copied c.args.times.now c.args.n c.requires.n_value _ c.loop-i.i (omega arith) c.loop-i.invariant.2
