use Rattle.std.proofs.Common.{rules}
use native.Mathlib.Omega.{arith}
use Prim.Native.Nat.{ℕ, ◌-◌, ◌<◌}
use mathlib.Core.Path.{◌≡◌, ap, sym, ◌∙◌}
use mathlib.Core.List.{List, []}
use lib.ListN.{length, get_or, set}
use lib.Dec.{eqb}
use borrow.Author.Tests.{ne_eqb}
use Rattle.lists.specs.Lists.{fill}
use Rattle.records.specs.declared.carrier.Carrier.{Carrier}
use Rattle.rules.specs.State as base
use Rattle.rules.proofs.Holding.{count_held, record_held}
use Rattle.image.specs.Image.{tool_from}
use Rattle.parts.specs.Told.{note_all}
use Rattle.follow.specs.Follow.{KeptOutside}
use Rattle.follow.proofs.Entries.{kept_twice}
use Rattle.line.proofs.Changed.{kept_wider}
use Rattle.mapped.specs.Bytes.{own_in}
use Rattle.queue.specs.Outcome as below
use Rattle.queued.specs.Bytes.{queued_in}
use Rattle.std.specs.Prelude.{Err}
use Rattle.std.specs.Result.{is_err}
use Rattle.records.specs.Refusals.{answer}
use Rattle.machine.proofs.Refused.{never_zero}
use Rattle.queued.proofs.Given.{not_zero_of}
use Rattle.prediction.specs.declared.prediction.Prediction.{Prediction}
use Rattle.prediction.specs.Predictions.{no_prediction}
use Rattle.prediction.specs.State.{Predicted, state_of, timed_in}
use Rattle.prediction.specs.Outcome as outcome
use Rattle.prediction.specs.Outcome.{says_of, answer_in}
use Rattle.times.proofs.Kept.{times_before}
use Rattle.predicted.specs.Bytes.{predicted_in, base_in}
use Rattle.predicted.proofs.Movers.{own_then, kept_then, used_then, none_then}
use Rattle.predicted.proofs.Held.{queue_is, held, table_at}
use Rattle.predicted.proofs.Given.{same_after, same_told, refused_then, accepted_left}
use Rattle.predicted.proofs.Clocked.{queued_same}
use Rattle.predicted.proofs.Followed as follows
use Rattle.predicted.proofs.Below.{left_is, taken_is, laid_is}
use Rattle.predicted.proofs.others.other_step.Goals as goal

pub queued_step-r-requires : goal.queued_step-r-requires
queued_step-r-requires c =
    queue_is c.args.m.now c.requires.m_value

pub records_follow-requires : goal.records_follow-requires
records_follow-requires c =
    let m : List (List ℕ) =
    c.args.m.now in
    let e = c.from-n.ensures ∙ c.count.ensures in
    let f = (held m c.requires.m_value).few_carriers in
    omega arith

pub spot-k-requires : goal.spot-k-requires
spot-k-requires c =
    let two : 1 < length c.queued_step-r.new.m = search rules in
    let l = laid_is c.args.m.now c.queued_step-r.new.m c.queued_step-r.new.o c.queued_step-r.result (timed_in c.args.i) c.requires.m_value c.requires.number_value
    c.queued_step-r.ensures.result_after c.queued_step-r.ensures.kept_outside
    (ap answer c.in_ok-r.was) c.records_follow.new.m two _ _ (c.from-n.ensures ∙ c.count.ensures) c.places-fixed.ensures c.records_follow.ensures.m_after in
    l.held_still

pub moved_along-requires : goal.moved_along-requires
moved_along-requires c =
    let two : 1 < length c.queued_step-r.new.m = search rules in
    let l = laid_is c.args.m.now c.queued_step-r.new.m c.queued_step-r.new.o c.queued_step-r.result (timed_in c.args.i) c.requires.m_value c.requires.number_value
    c.queued_step-r.ensures.result_after c.queued_step-r.ensures.kept_outside
    (ap answer c.in_ok-r.was) c.records_follow.new.m two _ _ (c.from-n.ensures ∙ c.count.ensures) c.places-fixed.ensures c.records_follow.ensures.m_after in
    record { held = l.held_still; none_after = none_then (set c.queued_step-r.new.m 1 c.records_follow.new.m) _ l.laid l.long l.few }

pub returns : goal.returns
returns c =
    let m = c.args.m.now in
    let n = c.queued_step-r.new.m in
    let w = c.records_follow.new.m in
    let i = timed_in c.args.i in
    let state : Predicted = state_of (predicted_in m) in
    let t = c.requires.number_value in
    let two : 1 < length c.queued_step-r.new.m = search rules in
    let l = laid_is c.args.m.now c.queued_step-r.new.m c.queued_step-r.new.o c.queued_step-r.result (timed_in c.args.i) c.requires.m_value c.requires.number_value
    c.queued_step-r.ensures.result_after c.queued_step-r.ensures.kept_outside
    (ap answer c.in_ok-r.was) c.records_follow.new.m two _ _ (c.from-n.ensures ∙ c.count.ensures) c.places-fixed.ensures c.records_follow.ensures.m_after in
    let f = left_is c.args.m.now c.queued_step-r.new.m c.queued_step-r.new.o c.queued_step-r.result (timed_in c.args.i) c.requires.m_value c.requires.number_value
    c.queued_step-r.ensures.result_after c.queued_step-r.ensures.kept_outside in
    let g = taken_is c.args.m.now c.queued_step-r.new.m c.queued_step-r.new.o c.queued_step-r.result (timed_in c.args.i) c.requires.m_value c.requires.number_value
    c.queued_step-r.ensures.result_after c.queued_step-r.ensures.kept_outside
    (ap answer c.in_ok-r.was) in
    let last_is : c.last_name-new.result ≡ (base.record_of (outcome.after state i) (length (outcome.after state i).carriers - 1)).name =
    c.last_name-new.ensures
    ∙ ap (λ (r : Carrier). r.name) (record_held (tool_from (get_or n 0 [])) f.held_then ((tool_from (get_or n 0 [])).count - 1))
    ∙ ap (λ k. (base.record_of (base_in n) (k - 1)).name) (sym (count_held (tool_from (get_or n 0 [])) f.held_then))
    ∙ ap (λ b. (base.record_of b (length b.carriers - 1)).name) f.base_is in
    let e = c.moved_along.ensures in
    let n₂ = set n 1 w in
    let n₃ = c.moved_along.new.m in
    let ts = c.times_at-t.ensures ∙ follows.times_is state i t in
    let fs : base_in n₂ ≡ outcome.after state i = ap (λ b. base.state_of (tool_from b)) l.base_same ∙ f.base_is in
    let gs = used_then n₂ _ l.laid l.long l.few in
    let hs = c.spot-k.ensures ∙ follows.spot_is state i t _ fs _ (sym (count_held (tool_from (get_or n₂ 0 [])) l.held_still)) in
    let own = own_then n w two in
    let kept : KeptOutside 1201 1597 (own_in n) (own_in n₃) =
    kept_twice 1201 1597 _ _ _ (kept_then n w two c.records_follow.ensures.kept_outside) e.kept_outside in
    let after : KeptOutside 1189 1597 (own_in n) (own_in n₃) = kept_wider (omega arith) (omega arith) kept in
    let told = c.records_follow.ensures.o_after in record {
      result_after = accepted_left m i g.accepts n₃ _
          (queued_same n n₃ (e.m_unchanged ∙ l.base_same) after ∙ g.tool_then)
          (times_before 1201 1597 (own_in n) (own_in n₃) kept (omega arith) ∙ f.times_stay ∙ follows.times_is state i t)
          (e.m_after ∙ ap (fill 36 no_prediction) (same_after c.args.i.input.number c.args.i.time ts fs gs hs))
          (e.o_after ∙ ap (note_all _) (same_told c.args.i.input.number c.args.i.time ts fs gs hs)
          ∙ follows.all_told state i _ _ _ _ g.told_then told (follows.records_told state i _ _ _ _ _ _ g.goes_then g.made_then
          (ap (λ (p : Prediction). p.state) (ap (λ l. get_or l c.queued_step-r.result.goes no_prediction) f.predictions_stay ∙ table_at m c.requires.m_value _)) g.gone_then
          (ap (λ k'. eqb k' 0) c.places-fixed.ensures) last_is));
      kept_outside = kept_twice 0 1597 _ _ _ (kept_wider (omega arith) (omega arith) c.queued_step-r.ensures.kept_outside) (kept_wider (omega arith) (omega arith) kept);
    }

pub returns-in_err-r : goal.returns-in_err-r
returns-in_err-r c =
    let m = c.args.m.now in
    let i = timed_in c.args.i in
    let f = left_is c.args.m.now c.queued_step-r.new.m c.queued_step-r.new.o c.queued_step-r.result (timed_in c.args.i) c.requires.m_value c.requires.number_value
    c.queued_step-r.ensures.result_after c.queued_step-r.ensures.kept_outside in
    let refusal = c.in_err-r.field-0.0 in
    let was : c.queued_step-r.result.answer ≡ Err refusal = c.in_err-r.was in
    let d = not_zero_of c.queued_step-r.result.answer (ap is_err was) in
    let z = sym (follows.answer_is (state_of (predicted_in m)) i c.requires.number_value) ∙ sym f.answered in
    let g = c.queued_step-r.ensures.result_after ∙ follows.below_refused (queued_in m) i.input (rw z (ne_eqb _ 0 d)) in
    let e : c.from_residual.result ≡ Err refusal = search rules in record {
      result_after = rw e (refused_then m i c.queued_step-r.new.m (Err refusal) _ (ap (λ (g : below.Given). g.tool) g) f.times_stay f.predictions_stay
          (sym f.answered ∙ ap answer was) (never_zero refusal) (ap (λ (g : below.Given). g.reports) g));
      kept_outside = kept_wider (omega arith) (omega arith) c.queued_step-r.ensures.kept_outside;
    }
