use mathlib.Core.Path.{refl, ap, ◌∙◌}
use Rattle.rules.specs.Row.{lower}
use Rattle.prediction.specs.Outcome as prediction
use Rattle.predicted.specs.Bytes.{predicted_in}
use Rattle.wafers.specs.Outcome.{Brought, brought_in, numbered, tp_of, good, with_tp}
use Rattle.wafers.proofs.Given.{too_many, tp_given, untimely, left_refused, some_good, none_bad}
use Rattle.wafers.proofs.step.wafers_step.Goals as goal

pub returns-in-Some-clause-result_after : goal.returns-in-Some-clause-result_after
unfolding good
returns-in-Some-clause-result_after c =
    let i : Brought = numbered 35 (brought_in c.args.i) in
    let e = some_good (good i) (tp_of i) _ c.in-Some.ensures in
    c.predicted_step.ensures.result_after
    ∙ ap (λ tp. prediction.given_in (predicted_in c.args.m.now) (with_tp i tp)) e.1
    ∙ tp_given (predicted_in c.args.m.now) i refl c.if-not-i.false e.0

pub returns-in-None-clause-result_after : goal.returns-in-None-clause-result_after
unfolding good
returns-in-None-clause-result_after c =
    let i : Brought = numbered 35 (brought_in c.args.i) in
    left_refused (predicted_in c.args.m.now) _ _ c.no_reports-in-None.ensures
    ∙ untimely (predicted_in c.args.m.now) i refl c.if-not-i.false (none_bad (good i) (tp_of i) c.in-None.ensures) _
    (c.or_untimely.ensures ∙ ap (λ n. lower n 12) c.answer_alone-said.ensures)

pub returns-then-not-i-clause-result_after : goal.returns-then-not-i-clause-result_after
returns-then-not-i-clause-result_after c =
    let i : Brought = numbered 35 (brought_in c.args.i) in
    left_refused (predicted_in c.args.m.now) _ 1 c.no_reports.ensures ∙ too_many (predicted_in c.args.m.now) i refl c.if-not-i.true
