use mathlib.Core.Path.{◌∙◌}
use borrow.Author.Tests.{ne_eqb}
use Rattle.predicted.specs.Bytes.{predicted_in}
use Rattle.wafers.specs.Outcome.{brought_in}
use Rattle.wafers.proofs.Given.{others_given}
use Rattle.wafers.proofs.step.brought_step.Goals as goal

pub returns-else-i-eq-WAFERS-clause-result_after : goal.returns-else-i-eq-WAFERS-clause-result_after
returns-else-i-eq-WAFERS-clause-result_after c =
    c.predicted_step.ensures.result_after
    ∙ others_given (predicted_in c.args.m.now) (brought_in c.args.i) (ne_eqb _ 35 c.if-i-eq-WAFERS.false)
