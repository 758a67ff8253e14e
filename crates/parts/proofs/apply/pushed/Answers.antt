use Rattle.std.proofs.Common.{rules}
use borrow.Author.Tests.{lt-ltb, le-ltb}
use Prim.Native.Nat.{◌+◌}
use mathlib.Core.Path.{◌≡◌, ap, ◌∙◌}
use lib.ListN.{length, set}
use Rattle.image.specs.Image.{tool_from}
use Rattle.parts.specs.Apply.{pushed}
use Rattle.parts.proofs.InPlace.{pushed_done}
use Rattle.parts.proofs.apply.pushed.Goals as goal
use Rattle.parts.proofs.apply.pushed.Goals.{else-b-via-then-b+else-n-lt-COUNT_MOST, else-b-via-else-b}

pub returns-then-n-lt-COUNT_MOST : goal.returns-then-n-lt-COUNT_MOST
unfolding pushed
returns-then-n-lt-COUNT_MOST c =
    let m = c.args.m.now in
    let x = c.args.c in
    let p : length x.name.bytes ≡ 16 = search rules in
    let q : length x.map ≡ 25 = search rules in
    let e = c.count-n.ensures in
    let t = c.if-n-lt-COUNT_MOST.true in
    let i = lt-ltb c.count-n.result 36 t in
    let v = c.count-n.result + 1 in
    let f = rw c.from.ensures at c.put_carrier.ensures.m_after in
    rw (c.if-b.true, ← e, i)
    (ap (λ l. tool_from (set l 2 v)) f ∙ pushed_done m c.put_carrier.ensures.m_len c.count-n.result x t p q v)

pub returns-else-b : goal.returns-else-b
unfolding pushed
returns-else-b c = elim c.else-b.branch [
  | else-b-via-then-b+else-n-lt-COUNT_MOST w ↦
      let i = le-ltb c.count-n.result 36 w.if-n-lt-COUNT_MOST.false in rw (w.if-b.true, ← c.count-n.ensures, i)
  | else-b-via-else-b w ↦ rw w.if-b.false
]
