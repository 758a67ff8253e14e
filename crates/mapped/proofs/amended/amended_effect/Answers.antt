use borrow.Author.Tests.{ne_eqb}
use mathlib.Core.Path.{sym, ◌∙◌}
use Rattle.maps.specs.Rows.{row_of}
use Rattle.maps.proofs.Amended.{effect_is}
use Rattle.mapped.proofs.amended.amended_effect.Goals as goal

pub returns-then-number-eq20 : goal.returns-then-number-eq20
unfolding row_of
returns-then-number-eq20 c = rw c.if-number-eq20.true c.slot_map_effect.ensures

pub returns-else-number-eq20 : goal.returns-else-number-eq20
returns-else-number-eq20 c =
    let a = c.args in
    c.effect_of.ensures ∙ sym (rw (ne_eqb _ _ c.if-number-eq20.false) at (effect_is a.number a.x a.c))
