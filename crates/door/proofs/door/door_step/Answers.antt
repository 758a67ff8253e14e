use native.Mathlib.Omega.{arith}
use mathlib.Core.Path.{◌≡◌, sym, ap, ◌∙◌}
use lib.ListN.{length, take}
use lib.Seq.{length-take-le}
use Rattle.names.specs.Check.{shortened}
use Rattle.names.proofs.Given.{seen_front}
use Rattle.names.proofs.Lengths.{shortened_short}
use Rattle.wafers.specs.Outcome.{Brought, brought_in}
use Rattle.wafers.specs.Named.{called}
use Rattle.tool.specs.Whole.{whole_in}
use Rattle.tool.specs.Whole as tool
use Rattle.door.specs.Door.{outcome}
use Rattle.door.proofs.door.door_step.Goals as goal

pub slice_bounds-called-end : goal.slice_bounds-called-end
slice_bounds-called-end c =
    let text = c.args.i.timed.input.name.now in
    let n = c.shortened_length-n.result in
    let e : n ≡ length (shortened text) = c.shortened_length-n.ensures in
    let h = shortened_short text in
    sym (length-take-le n text (omega arith))

pub returns : goal.returns
unfolding outcome
returns c =
    let text = c.args.i.timed.input.name.now in
    let i = brought_in c.args.i in
    let short : take c.shortened_length-n.result text ≡ shortened text = ap (λ n. take n text) c.shortened_length-n.ensures ∙ seen_front text in
    let o = ap (tool.outcome (whole_in c.args.m.now)) (c.called.ensures ∙ ap (λ name. called name i) short) in
    let w = c.whole_step.ensures in
    record { m_after = w.m_after ∙ ap (λ o. o.tool) o; o_after = w.o_after ∙ ap (λ o. o.reports) o; value = w.value ∙ ap (λ o. o.answer) o }
