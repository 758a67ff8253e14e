use mathlib.Core.Path.{sym, ap, ◌∙◌}
use Rattle.rules.specs.Seen.{input_in}
use Rattle.image.specs.Image.{tool_from}
use Rattle.machine.proofs.Answered.{sound_outcome, unsound_outcome}
use Rattle.machine.proofs.step.step.Goals as goal

pub returns-then-sound : goal.returns-then-sound
returns-then-sound c =
    let o = sound_outcome (tool_from c.args.m.now) (input_in c.args.i) (sym c.sound.ensures ∙ c.if-sound.true) in
    let e = c.step_sound.ensures in
    record { m_after = e.m_after ∙ ap (λ x. x.tool) o; o_after = e.o_after ∙ ap (λ x. x.reports) o; value = e.value ∙ ap (λ x. x.answer) o }

pub returns-else-sound : goal.returns-else-sound
returns-else-sound c =
    let o = unsound_outcome (tool_from c.args.m.now) (input_in c.args.i) (sym c.sound.ensures ∙ c.if-sound.false) in
    record { m_after = ap (λ x. x.tool) o; o_after = c.no_reports.ensures ∙ ap (λ x. x.reports) o; value = ap (λ x. x.answer) o }
