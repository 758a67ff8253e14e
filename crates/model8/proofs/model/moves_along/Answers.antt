use mathlib.Core.Path.{ap, ◌∙◌}
use Rattle.model8.proofs.Courses.{onward, last_three, told_three}
use Rattle.model8.proofs.model.moves_along.Goals as goal

pub returns : goal.returns
returns c =
    let a = c.args in
    let e = c.passes-one.ensures in
    let f = c.passes-two.ensures in
    let g = c.passes.ensures in
    let there = f.value ∙ ap (onward a.f a.name) e.value in record { value = g.value ∙ ap (onward a.f a.name) there ∙ last_three a.f a.name a.state; o_after = g.o_after ∙ rw (there, f.o_after, e.o_after, e.value) (told_three a.f a.name a.state _) }
