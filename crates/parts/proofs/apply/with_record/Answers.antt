use Rattle.std.proofs.Common.{rules}
use borrow.Author.Tests.{lt-ltb, le-ltb}
use native.Mathlib.Omega.{arith}
use mathlib.Core.Path.{◌≡◌, ap, ◌∙◌}
use lib.ListN.{length}
use Rattle.image.specs.Image.{tool_from}
use Rattle.parts.specs.Apply.{with_record}
use Rattle.parts.proofs.InPlace.{carrier_put}
use Rattle.parts.proofs.apply.with_record.Goals as goal

pub returns-then-k-from : goal.returns-then-k-from
unfolding with_record
returns-then-k-from c =
    let m = c.args.m.now in
    let x = c.args.c in
    let n : length x.name.bytes ≡ 16 = search rules in
    let p : length x.map ≡ 25 = search rules in
    let w = c.from.ensures in
    let u = c.count.ensures in
    let i = lt-ltb c.args.k (tool_from m).count (omega (arith, c.if-k-from.true)) in
    rw i (ap tool_from c.put_carrier.ensures.m_after ∙ carrier_put m c.put_carrier.ensures.m_len c.args.k x (omega arith) n p)

pub returns-else-k-from : goal.returns-else-k-from
unfolding with_record
returns-else-k-from c =
    let w = c.from.ensures in
    let u = c.count.ensures in
    let i = le-ltb c.args.k (tool_from c.args.m.now).count (omega (arith, c.if-k-from.false)) in
    rw i
