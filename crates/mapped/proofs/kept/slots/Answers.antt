use native.Mathlib.Omega.{arith}
use Prim.Native.Nat.{◌+◌}
use mathlib.Core.Path.{◌≡◌, refl}
use Rattle.lists.specs.Lists.{every}
use Rattle.image.specs.Image.{table, byte_at}
use Rattle.passes.proofs.Turns.{every_next}
use Rattle.maps.specs.Expected.{is_slot}
use Rattle.mapped.proofs.kept.slots.Goals as goal

pub loop-i-init : goal.loop-i-init
unfolding every table
loop-i-init c = (omega arith, refl)

pub loop-i-preserved : goal.loop-i-preserved
loop-i-preserved c =
    let a = c.args in
    (omega arith, rw (every_next is_slot (λ j. byte_at a.m.now (a.o + j)) c.loop-i.i, c.loop-i.invariant.1))

pub returns : goal.returns
returns c =
    let z : c.loop-i.i ≡ 25 = omega arith in
    rw z at c.loop-i.invariant.1
