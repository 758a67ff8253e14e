use native.Mathlib.Omega.{arith}
use mathlib.Core.Path.{sym, ap, ◌∙◌}
use Rattle.mapped.specs.Bytes.{own_in}
use Rattle.wafers.specs.Outcome.{brought_in}
use Rattle.hands.specs.Outcome.{Given}
use Rattle.tool.specs.Whole.{whole_in}
use Rattle.tool.proofs.Tested.{layered_sound, when_sound, when_not, unused_after, whole_of}
use Rattle.tool.proofs.whole.whole_step.Goals as goal

pub handled_step-requires : goal.handled_step-requires
handled_step-requires c = layered_sound c.args.m.now (sym c.whole_sound.ensures ∙ c.if-not-whole_sound.false)

pub returns-then-not-whole_sound : goal.returns-then-not-whole_sound
returns-then-not-whole_sound c =
    let o = when_not (whole_in c.args.m.now) (brought_in c.args.i) (sym c.whole_sound.ensures ∙ c.if-not-whole_sound.true) in
    record { m_after = ap (λ x. x.tool) o; o_after = c.no_reports.ensures ∙ ap (λ x. x.reports) o; value = ap (λ x. x.answer) o }

pub returns : goal.returns
returns c =
    let m = c.args.m.now in
    let o = when_sound (whole_in m) (brought_in c.args.i) (sym c.whole_sound.ensures ∙ c.if-not-whole_sound.false) in
    let e = c.handled_step.ensures.result_after in
    let rest = unused_after (own_in m) (own_in c.handled_step.new.m) c.handled_step.ensures.kept_outside (omega arith) in
    let w = whole_of c.handled_step.new.m _ _ (ap (λ (g : Given). g.tool) e) rest in
    record { m_after = w ∙ ap (λ x. x.tool) o; o_after = ap (λ (g : Given). g.reports) e ∙ ap (λ x. x.reports) o; value = ap (λ (g : Given). g.answer) e ∙ ap (λ x. x.answer) o }
