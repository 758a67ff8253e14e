-- The wafers are those that are made of the times.
use mathlib.Core.Path.{ap, ◌∙◌}
use mathlib.Core.List.{[]}
use Rattle.rules.specs.Seen.{input_of}
use Rattle.prediction.specs.State.{timed}
use Rattle.wafers.specs.Outcome.{bringing}
use Rattle.hawsermole.proofs.Stepped.{stepped}
use Rattle.hawsermole.proofs.hm_wafers_step.Goals as goal

pub returns : goal.returns
returns c =
    let a = c.args in
    let d = c.door_step.ensures in
    stepped (ap (bringing (timed (input_of 35 0 0 a.name.now []) a.clock 0)) c.wafers_from.ensures.value)
    (d.m_after, (d.o_after, c.from.ensures ∙ c.answer.ensures ∙ d.value))
