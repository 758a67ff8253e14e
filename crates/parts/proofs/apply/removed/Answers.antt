use borrow.Author.Tests.{lt-ltb, le-ltb}
use native.Mathlib.Omega.{arith}
use Prim.Native.Nat.{◌-◌}
use mathlib.Core.Path.{ap, ◌∙◌}
use lib.ListN.{set}
use Rattle.image.specs.Image.{tool_from}
use Rattle.parts.specs.Apply.{removed}
use Rattle.parts.proofs.InPlace.{removed_done}
use Rattle.parts.proofs.apply.removed.Goals as goal

pub returns-then-k-from : goal.returns-then-k-from
unfolding removed
returns-then-k-from c =
    let m = c.args.m.now in
    let k = c.args.k in
    let e = c.count-n.ensures in
    let w = c.from.ensures in
    let i = lt-ltb k (tool_from m).count (omega (arith, c.if-k-from.true)) in
    let v = c.count-n.result - 1 in
    let q = rw (c.none.ensures, c.move_up.ensures) at c.put_carrier.ensures.m_after in
    rw (i, ← e) (ap (λ l. tool_from (set l 2 v)) q ∙ removed_done m k (omega arith) v)

pub returns-else-k-from : goal.returns-else-k-from
unfolding removed
returns-else-k-from c =
    let m = c.args.m.now in
    let k = c.args.k in
    let e = c.count-n.ensures in
    let w = c.from.ensures in
    let i = le-ltb k (tool_from m).count (omega (arith, c.if-k-from.false)) in
    rw i
