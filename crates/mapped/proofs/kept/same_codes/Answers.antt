use native.Mathlib.Omega.{arith}
use Prim.Native.Nat.{◌+◌}
use mathlib.Core.Path.{◌≡◌, refl}
use lib.ListN.{get_or}
use Rattle.lists.specs.Lists.{same_list}
use Rattle.image.specs.Image.{table, byte_at}
use Rattle.passes.proofs.Turns.{same_next}
use Rattle.mapped.proofs.kept.same_codes.Goals as goal

pub loop-i-init : goal.loop-i-init
unfolding same_list table
loop-i-init c = (omega arith, refl)

pub loop-i-preserved : goal.loop-i-preserved
loop-i-preserved c =
    let a = c.args in
    (omega arith, rw (same_next (λ j. byte_at a.m.now (a.o + j)) (λ j. get_or a.map.now j 0) c.loop-i.i, c.loop-i.invariant.1))

pub returns : goal.returns
returns c =
    let z : c.loop-i.i ≡ 25 = omega arith in
    rw z at c.loop-i.invariant.1
