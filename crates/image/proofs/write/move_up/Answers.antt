-- the bytes that are passed have moved
use native.Mathlib.Omega.{arith}
use Prim.Native.Nat.{◌+◌}
use mathlib.Core.Path.{◌≡◌, ap, ◌∙◌}
use lib.ListN.{get_or}
use Rattle.image.specs.Image.{moved_up}
use Rattle.image.proofs.Table.{getD_table}
use Rattle.image.proofs.Moved.{late_stays, none_moved, one_moved}
use Rattle.image.proofs.write.move_up.Goals as goal

pub loop-j-init : goal.loop-j-init
loop-j-init c = none_moved c.args.m.now c.args.o c.requires.m_len

pub loop-j-preserved : goal.loop-j-preserved
loop-j-preserved c =
    let m = c.args.m.now in
    let o = c.args.o in
    let j = c.loop-j.j in
    let e = c.loop-j.invariant in
    let r : get_or c.loop-j.m (j + 50) 0 ≡ get_or m (j + 50) 0 =
    ap (λ l. get_or l (j + 50) 0) e ∙ getD_table 1891 (moved_up m o j) (j + 50) 0 (omega arith) ∙ late_stays m o j (j + 50) (omega arith) in
    rw (r, e) (one_moved m o j (omega arith))

pub returns : goal.returns
returns c =
    let z : c.loop-j.j ≡ 1841 = omega arith in
    rw z at c.loop-j.invariant
