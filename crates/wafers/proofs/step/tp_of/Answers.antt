use Rattle.wafers.specs.Outcome.{good}
use Rattle.wafers.proofs.Given.{checked}
use Rattle.wafers.proofs.step.tp_of.Goals as goal

pub returns-then-i : goal.returns-then-i
unfolding good
returns-then-i c = rw c.if-i.true (checked _ _ c.checked_add.ensures)

pub returns-else-i : goal.returns-else-i
unfolding good
returns-else-i c = rw c.if-i.false
