use native.Mathlib.Omega.{arith}
use Prim.Native.Nat.{◌≤◌}
use mathlib.Core.Path.{◌≡◌, ap, subst, ◌∙◌}
use mathlib.Core.List.{[]}
use Rattle.rules.specs.Seen.{Input}
use Rattle.prediction.specs.State.{timed}
use Rattle.wafers.specs.Outcome.{brought}
use Rattle.items.specs.Reading.{read_message}
use Rattle.items.proofs.Few.{item_few}
use Rattle.secs.specs.Request.{request_in, Inside}
use Rattle.tool.specs.Whole.{whole_in}
use Rattle.door.specs.Door.{outcome}
use Rattle.bridge.proofs.Handed.{not_taken, taken}
use Rattle.bridge.proofs.bridge.bridge_step.Goals as goal

pub overflow_cast-items : goal.overflow_cast-items
unfolding request_in
overflow_cast-items c =
    let m = c.args.message.now in
    let e : c.request_in-asked.result.count ≡ (read_message m).count = c.request_in-asked.ensures.counted in
    let h : (read_message m).count ≤ 128 = item_few 6 m 0 0 (omega arith) in
    omega arith

pub input-input-requires : goal.input-input-requires
input-input-requires c = subst (Inside c.args.message.now) c.in-Ok.is c.request_in-asked.ensures.inside

pub returns-in-Ok : goal.returns-in-Ok
returns-in-Ok c =
    let t = whole_in c.args.m.now in
    let h = c.request_in-asked.ensures in
    let o = ap (outcome t) (c.alone.ensures ∙ ap (λ (i : Input). brought (timed i 0 0) []) c.input-input.ensures)
    ∙ taken t c.args.message.now c.request_in-asked.result h c.in-Ok.request c.in-Ok.is in
    let w = c.door_step.ensures in
    record { m_after = w.m_after ∙ ap (λ x. x.tool) o; o_after = w.o_after ∙ ap (λ x. x.reports) o; value = w.value ∙ ap (λ x. x.answer) o; after = h.counted }

pub returns-in-Err : goal.returns-in-Err
returns-in-Err c =
    let h = c.request_in-asked.ensures in
    let o = not_taken (whole_in c.args.m.now) c.args.message.now c.request_in-asked.result h c.in-Err.refusal c.in-Err.is in
    record { m_after = ap (λ x. x.tool) o; o_after = c.no_reports.ensures ∙ ap (λ x. x.reports) o; value = ap (λ x. x.answer) o; after = h.counted }
