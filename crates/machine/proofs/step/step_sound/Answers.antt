use mathlib.Core.Path.{ap, ◌∙◌}
use Rattle.rules.specs.Seen.{input_in}
use Rattle.image.specs.Image.{tool_from}
use Rattle.machine.proofs.Answered.{held_in, carried, nothing_done}
use Rattle.machine.proofs.step.step_sound.Goals as goal

pub look-x-requires : goal.look-x-requires
look-x-requires c = held_in c.args.m.now c.requires

pub carry_out-requires : goal.carry_out-requires
carry_out-requires c =
    let k = held_in c.args.m.now c.requires in
    record { m_bound = k.few_ports; m_bound_2 = k.few_carriers }

pub returns-in-Err : goal.returns-in-Err
returns-in-Err c =
    let o = nothing_done (tool_from c.args.m.now) (input_in c.args.i) _ _ c.look-x.ensures c.answer_of.ensures _ c.in-Err.is in
    record { m_after = ap (λ x. x.tool) o; o_after = c.no_reports.ensures ∙ ap (λ x. x.reports) o; value = ap (λ x. x.answer) o }

pub returns : goal.returns
returns c =
    let o = carried (tool_from c.args.m.now) (input_in c.args.i) _ _ c.look-x.ensures c.answer_of.ensures
    c.requires (held_in c.args.m.now c.requires) _ c.in_default.is _ c.effect_of.ensures in
    let e = c.carry_out.ensures in
    record { m_after = e.m_after ∙ ap (λ x. x.tool) o; o_after = e.o_after ∙ ap (λ x. x.reports) o; value = ap (λ x. x.answer) o }
