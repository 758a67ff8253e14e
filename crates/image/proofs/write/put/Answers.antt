-- the bytes that are passed are written
use native.Mathlib.Omega.{arith}
use lib.Seq.{take_all}
use Rattle.image.proofs.Written.{writes}
use Rattle.image.proofs.write.put.Goals as goal

pub loop-i-preserved : goal.loop-i-preserved
loop-i-preserved c =
    let a = c.args in
    rw c.loop-i.invariant (writes a.m.now a.o a.b.now c.loop-i.i 0 (omega arith))

pub returns : goal.returns
returns c =
    let a = c.args in
    rw (take_all c.loop-i.i a.b.now (omega arith)) at c.loop-i.invariant
