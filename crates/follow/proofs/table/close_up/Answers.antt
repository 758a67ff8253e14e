-- the bytes that are passed have moved up
use native.Mathlib.Omega.{arith}
use Rattle.std.proofs.Common.{rules}
use Prim.Native.Nat.{◌+◌, ◌-◌}
use mathlib.Core.Path.{◌≡◌, ap, sym, ◌∙◌}
use lib.ListN.{length, replicate}
use Rattle.image.specs.Image.{byte_at}
use Rattle.follow.specs.Follow.{byte_before}
use Rattle.follow.proofs.Closed.{before_in, none_moved, unmoved, one_moved, closed_whole}
use Rattle.follow.proofs.table.close_up.Goals as goal

pub loop-j-init : goal.loop-j-init
loop-j-init c = let a = c.args in none_moved a.m.now a.o a.w a.e

pub loop-j-preserved : goal.loop-j-preserved
loop-j-preserved c =
    let a = c.args in
    let m = a.m.now in
    let j = c.loop-j.j in
    let v = c.loop-j.invariant in
    let r : byte_at c.loop-j.m (j + a.w) ≡ byte_before m a.e (j + a.w) =
    sym (before_in c.loop-j.m a.e (j + a.w) (omega arith)) ∙ ap (λ l. byte_before l a.e (j + a.w)) v
    ∙ unmoved m a.o a.w a.e j (j + a.w) (omega arith) (omega arith) in
    rw (r, v) (one_moved m a.o a.w a.e j (omega arith))

pub returns : goal.returns
returns c =
    let a = c.args in
    let r = c.if-o-w.end in
    let z : c.loop-j.j ≡ r = omega arith in
    let k : length c.fill.new.self ≡ a.e - r = search rules in
    let f : c.fill.new.self ≡ replicate (length c.fill.new.self) 0 = search rules in
    rw (rw z at c.loop-j.invariant)
    (closed_whole a.m.now a.o a.w a.e r (omega arith) (omega arith) (omega arith) c.fill.new.self c.requires.e_in_bounds (rw k at f))
