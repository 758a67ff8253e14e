use Rattle.std.proofs.Common.{rules}
use borrow.Author.Tests.{lt-ltb, le-ltb}
use native.Mathlib.Omega.{arith}
use mathlib.Core.Path.{◌≡◌, ap, ◌∙◌}
use lib.ListN.{length}
use Rattle.rules.specs.State.{spot_of}
use Rattle.image.specs.Image.{tool_from}
use Rattle.parts.specs.Apply.{with_port}
use Rattle.parts.proofs.InPlace.{port_put}
use Rattle.parts.proofs.apply.with_port.Goals as goal

pub returns-then-k-from : goal.returns-then-k-from
unfolding with_port
returns-then-k-from c =
    let m = c.args.m.now in
    let x = c.args.q in
    let n : length x.tie.bytes ≡ 16 = search rules in
    let e = c.spot_of-k.ensures in
    let w = c.from.ensures in
    let u = c.used.ensures in
    let i = lt-ltb (spot_of c.args.p) (tool_from m).used (omega (arith, c.if-k-from.true)) in
    rw i (ap tool_from (rw e at c.put_port.ensures.m_after) ∙ port_put m c.put_port.ensures.m_len (spot_of c.args.p) x (omega arith) n)

pub returns-else-k-from : goal.returns-else-k-from
unfolding with_port
returns-else-k-from c =
    let e = c.spot_of-k.ensures in
    let w = c.from.ensures in
    let u = c.used.ensures in
    let i = le-ltb (spot_of c.args.p) (tool_from c.args.m.now).used (omega (arith, c.if-k-from.false)) in
    rw i
