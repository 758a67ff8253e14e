use mathlib.Core.Path.{refl, ap, ap₂, sym, ◌∙◌}
use mathlib.Core.Bool.{cond}
use borrow.Author.Tests.{not-true, not-false}
use Rattle.records.specs.Refusals.{answer}
use Rattle.rules.specs.Seen.{see, narrow}
use Rattle.wafers.specs.Outcome.{Brought, brought_in, numbered}
use Rattle.handled.specs.Bytes.{handled_in}
use Rattle.handled.specs.Passing.{passed_in}
use Rattle.handled.proofs.Held.{refused_is}
use Rattle.handled.proofs.Found.{nothing_held, freed}
use Rattle.handled.proofs.loads.continue_step.Goals as goal

pub passed-requires : goal.passed-requires
passed-requires c = record { m_value = c.requires; none_elsewhere = λ b. c.no_alarm.ensures }

pub returns-then-at-eq-ON-clause-result_after : goal.returns-then-at-eq-ON-clause-result_after
unfolding see
returns-then-at-eq-ON-clause-result_after c =
    c.passed.ensures.result_after
    ∙ ap₂ (λ (i : Brought) a. passed_in (handled_in c.args.m.now) i (narrow i.timed.input.port) a) c.alone.ensures c.no_alarm.ensures
    ∙ freed c.args.m.now c.requires (numbered 36 (brought_in c.args.i)) _ c.find_port-at.ensures.alarm refl c.if-at-eq-ON.true

pub returns-then-not-at-clause-result_after : goal.returns-then-not-at-clause-result_after
unfolding see
returns-then-not-at-clause-result_after c =
    let at = c.find_port-at in
    refused_is c.args.m.now c.requires _ _ _ c.refused.ensures.o_after
    (ap answer c.refused.ensures.value ∙ ap (λ b. cond b 5 1) (sym (not-true _ c.if-not-at.true) ∙ at.ensures.is_port))
    ∙ nothing_held c.args.m.now c.requires (numbered 36 (brought_in c.args.i)) _ at.ensures.alarm refl c.if-at-eq-ON.false

pub returns-clause-result_after : goal.returns-clause-result_after
unfolding see
returns-clause-result_after c =
    let at = c.find_port-at in
    refused_is c.args.m.now c.requires _ _ _ c.refused-2.ensures.o_after
    (ap answer c.refused-2.ensures.value ∙ ap (λ b. cond b 5 1) (sym (not-false _ c.if-not-at.false) ∙ at.ensures.is_port))
    ∙ nothing_held c.args.m.now c.requires (numbered 36 (brought_in c.args.i)) _ at.ensures.alarm refl c.if-at-eq-ON.false
