use mathlib.Core.Path.{sym}
use Rattle.mapped.proofs.InBytes.{none_begins, slots_begin}
use Rattle.mapped.proofs.kept.kept_at.Goals as goal

pub returns-then-m-o-eq0 : goal.returns-then-m-o-eq0
returns-then-m-o-eq0 c =
    let a = c.args in
    rw c.zeros.ensures (sym (none_begins a.m.now a.o c.if-m-o-eq0.true))

pub returns-else-m-o-eq0 : goal.returns-else-m-o-eq0
returns-else-m-o-eq0 c =
    let a = c.args in
    rw c.slots.ensures (sym (slots_begin a.m.now a.o c.if-m-o-eq0.false))
