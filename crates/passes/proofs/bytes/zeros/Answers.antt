-- the bytes that are passed are zero
use Rattle.std.proofs.Common.{◌≡◌, ◌+◌, ◌-◌, refl, ap, ◌∙◌, arith}
use lib.Seq.{take_all}
use borrow.Rule.Slice.PartMut.{mid_of}
use Rattle.lists.specs.Lists.{every}
use Rattle.image.proofs.Table.{part_is}
use Rattle.passes.specs.Passes.{is_zero}
use Rattle.passes.proofs.Turns.{every_turn}
use Rattle.passes.proofs.bytes.zeros.Goals as goal

pub loop-b-init : goal.loop-b-init
unfolding every
loop-b-init c = refl

pub loop-b-preserved : goal.loop-b-preserved
loop-b-preserved c =
    let a = c.args in
    let part = mid_of a.o (a.o + a.n - a.o) a.m.now in
    every_turn is_zero part c.loop-b.ok c.loop-b.b-index 0 c.loop-b-test.true c.loop-b.invariant

pub returns : goal.returns
returns c =
    let a = c.args in
    let part = mid_of a.o (a.o + a.n - a.o) a.m.now in
    let e : a.o + a.n - a.o ≡ a.n = omega arith in
    c.loop-b.invariant ∙ ap (every is_zero) (take_all c.loop-b.b-index part c.loop-b-test.false)
    ∙ rw e (ap (every is_zero) (part_is a.m.now a.o a.n 0 (omega arith)))
