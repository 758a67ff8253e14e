use Rattle.std.proofs.Common.{rules}
use borrow.Author.Tests.{lt-ltb, le-ltb}
use Prim.Native.Nat.{◌+◌}
use mathlib.Core.Path.{◌≡◌, ap, ◌∙◌}
use lib.ListN.{length, set}
use Rattle.image.specs.Image.{reports_from}
use Rattle.image.proofs.Reported.{one_noted}
use Rattle.parts.specs.Told.{noted}
use Rattle.parts.proofs.report.noted.Goals as goal

pub returns-then-k-lt-REPORTED_MOST : goal.returns-then-k-lt-REPORTED_MOST
unfolding noted
returns-then-k-lt-REPORTED_MOST c =
    let m = c.args.o.now in
    let r = c.args.r in
    let l : length r.name.bytes ≡ 16 = search rules in
    let k = c.reported-k.result in
    let t = c.if-k-lt-REPORTED_MOST.true in
    let i = lt-ltb k 10 t in
    let q = rw c.from.ensures at c.put_report.ensures.m_after in
    rw (← c.reported-k.ensures, i) (ap (λ b. reports_from (set b 0 (k + 1))) q ∙ one_noted m c.put_report.ensures.m_len k t r l (k + 1))

pub returns-else-k-lt-REPORTED_MOST : goal.returns-else-k-lt-REPORTED_MOST
unfolding noted
returns-else-k-lt-REPORTED_MOST c =
    let i = le-ltb c.reported-k.result 10 c.if-k-lt-REPORTED_MOST.false in
    rw (← c.reported-k.ensures, i)
