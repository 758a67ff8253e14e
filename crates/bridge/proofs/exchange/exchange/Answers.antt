use native.Mathlib.Omega.{arith}
use Prim.Native.Nat.{ℕ, ◌≤◌}
use mathlib.Core.Path.{◌≡◌, refl, ap, subst, ◌∙◌}
use Rattle.std.specs.Prelude.{Result}
use Rattle.records.specs.declared.refusal.Refusal.{Refusal}
use Rattle.records.specs.Refusals.{number}
use Rattle.items.specs.Reading.{read_message}
use Rattle.items.proofs.Few.{item_few}
use Rattle.items.proofs.Refusals.{numbered}
use Rattle.secs.specs.Request.{request_in}
use Rattle.replies.specs.Reply.{reply_text, answer_of, many_of, Wrote}
use Rattle.replies.proofs.Worded.{same_text}
use Rattle.tool.specs.Whole.{whole_in}
use Rattle.bridge.specs.Exchange.{replied}
use Rattle.bridge.proofs.Exchanged.{no_room, it_fits, fourteen, too_long}
use Rattle.bridge.proofs.exchange.exchange.Goals as goal

pub overflow_cast-items : goal.overflow_cast-items
unfolding request_in
overflow_cast-items c =
    let m = c.args.message.now in
    let e : c.request_in.result.count ≡ (read_message m).count = c.request_in.ensures.counted in
    let h : (read_message m).count ≤ 128 = item_few 6 m 0 0 (omega arith) in
    omega arith

pub returns-then-room-lt-ACCEPTED_BYTES : goal.returns-then-room-lt-ACCEPTED_BYTES
returns-then-room-lt-ACCEPTED_BYTES c =
    let o = no_room (whole_in c.args.m.now) c.args.message.now c.args.room.now c.if-room-lt-ACCEPTED_BYTES.true in
    record { m_after = ap (λ x. x.tool) o.0; o_after = c.no_reports.ensures ∙ ap (λ x. x.reports) o.0; value = ap (λ x. x.answer) o.0; after = c.request_in.ensures.counted; room_after = o.1; told_after = o.2 }

pub returns-in-Ok : goal.returns-in-Ok
returns-in-Ok c =
    let w = c.bridge_step-said.ensures in
    let t = whole_in c.args.m.now in
    let room = c.args.room.now in
    let wrote : Wrote room (replied t c.args.message.now) 0 c.reply.new.room c.in-Ok.many =
    same_text (ap reply_text (c.from.ensures ∙ c.answer.ensures ∙ w.value))
    (subst (λ (r : Result ℕ Refusal). Wrote room (reply_text c.from.result) (answer_of r) c.reply.new.room (many_of r)) c.in-Ok.is c.reply.ensures) in
    let o = it_fits t c.args.message.now room 0 c.in-Ok.many _ wrote refl in
    record { m_after = w.m_after ∙ ap (λ x. x.tool) o; o_after = w.o_after ∙ ap (λ x. x.reports) o; value = w.value ∙ ap (λ x. x.answer) o; after = w.after; room_after = wrote.left; told_after = wrote.many }

pub returns-in-Err : goal.returns-in-Err
returns-in-Err c =
    let w = c.bridge_step-said.ensures in
    let t = whole_in c.args.m.now in
    let room = c.args.room.now in
    let wrote : Wrote room (replied t c.args.message.now) (number c.in-Err.refusal) c.reply.new.room 0 =
    same_text (ap reply_text (c.from.ensures ∙ c.answer.ensures ∙ w.value))
    (subst (λ (r : Result ℕ Refusal). Wrote room (reply_text c.from.result) (answer_of r) c.reply.new.room (many_of r)) c.in-Err.is c.reply.ensures) in
    let z = numbered c.in-Err.refusal in
    let o = too_long t c.args.message.now room _ 0 _ wrote c.if-room-lt-ACCEPTED_BYTES.false z in
    record {
      m_after = w.m_after ∙ o.0 ∙ ap (λ x. x.tool) o.2;
      o_after = w.o_after ∙ o.1 ∙ ap (λ x. x.reports) o.2;
      value = fourteen t c.args.message.now room _ 0 _ wrote z ∙ ap (λ x. x.answer) o.2;
      after = w.after;
      room_after = wrote.left;
      told_after = wrote.many;
    }
