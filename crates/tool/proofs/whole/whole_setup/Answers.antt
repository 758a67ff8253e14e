use Rattle.std.proofs.Common.{rules}
use Prim.Native.Nat.{◌<◌}
use mathlib.Core.Path.{◌≡◌, refl, ap, sym, ◌∙◌}
use mathlib.Core.Bool.{cond, ◌&&◌}
use lib.ListN.{length}
use Rattle.records.specs.Refusals.{answer}
use Rattle.handled.proofs.Refused.{same_answer, not_zero}
use Rattle.prediction.specs.Sound.{is_span}
use Rattle.tool.proofs.SetUp.{refused_set_up, accepted_set_up}
use Rattle.tool.proofs.whole.whole_setup.Goals as goal
use Rattle.tool.proofs.whole.whole_setup.Goals.{then-timely, else-timely}

pub returns-in_err-setup : goal.returns-in_err-setup
returns-in_err-setup c =
    let a = c.args in
    let two : 1 < length a.m.now = search rules in
    let asked : c.if-timely.asked ≡ cond (is_span a.setting && is_span a.timeout) a.ports 0 =
    elim c.if-timely.branch [ then-timely w ↦ w.asked-is ∙ rw w.if-timely.true | else-timely w ↦ w.asked-is ∙ rw w.if-timely.false ] in
    let w = c.in_err-setup.was in
    let f = c.from_residual.ensures.1 in
    let r = c.in_err-setup.field-0.0 in
    let e = refused_set_up a.ports a.places a.setting a.timeout _ asked a.m.now two _ c.setup.ensures.m_after _ (same_answer c.setup.result _ r w f ∙ c.setup.ensures.value) (not_zero c.setup.result _ r w f) in
    record { m_after = e.0; value = e.1 }

pub returns : goal.returns
returns c =
    let a = c.args in
    let two : 1 < length a.m.now = search rules in
    let asked : c.if-timely.asked ≡ cond (is_span a.setting && is_span a.timeout) a.ports 0 =
    elim c.if-timely.branch [ then-timely w ↦ w.asked-is ∙ rw w.if-timely.true | else-timely w ↦ w.asked-is ∙ rw w.if-timely.false ] in
    let e = accepted_set_up a.ports a.places a.setting a.timeout _ asked a.m.now two _ c.setup.ensures.m_after _ (ap answer (sym c.in_ok-setup.was) ∙ c.setup.ensures.value) refl
    c.put_spans.new.m c.put_spans.ensures.m_after c.put_spans.ensures.kept_outside in
    record { m_after = e.0; value = e.1 }
