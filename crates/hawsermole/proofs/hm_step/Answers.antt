-- It brings no wafers.
use mathlib.Core.Path.{◌∙◌}
use Rattle.hawsermole.proofs.Stepped.{stepped}
use Rattle.hawsermole.proofs.hm_step.Goals as goal

pub returns : goal.returns
returns c = let d = c.door_step-said.ensures in stepped c.alone.ensures (d.m_after, (d.o_after, c.from.ensures ∙ c.answer.ensures ∙ d.value))
