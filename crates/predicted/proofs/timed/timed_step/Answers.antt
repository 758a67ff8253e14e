use Rattle.std.proofs.Common.{rules}
use native.Mathlib.Omega.{arith}
use Prim.Native.Nat.{ℕ, ◌<◌}
use mathlib.Core.Path.{◌≡◌, ap, ap₂, sym, subst⁻¹, ◌∙◌}
use mathlib.Core.Bool.{true, cond}
use mathlib.Core.List.{List, []}
use lib.ListN.{length, get_or, set}
use lib.Dec.{ltb}
use borrow.Author.Tests.{lt-ltb}
use Rattle.lists.specs.Lists.{fill}
use Rattle.std.specs.Prelude.{Err}
use Rattle.records.specs.Refusals.{answer}
use Rattle.rules.specs.State as base
use Rattle.rules.specs.Held.{Held}
use Rattle.rules.specs.Seen.{see}
use Rattle.rules.specs.Reports.{listed}
use Rattle.rules.proofs.Holding.{tool_sound}
use Rattle.image.specs.Image.{tool_from}
use Rattle.machine.proofs.Refused.{never_zero}
use Rattle.parts.specs.Told.{note_all}
use Rattle.parts.proofs.Notes.{all_noted}
use Rattle.follow.specs.Follow.{KeptOutside}
use Rattle.follow.proofs.Entries.{kept_all, kept_twice}
use Rattle.line.proofs.Changed.{kept_wider}
use Rattle.mapped.specs.Bytes.{own_in}
use Rattle.queue.specs.State as queue
use Rattle.queued.proofs.Held.{base_is}
use Rattle.prediction.specs.declared.prediction.Times.{Times}
use Rattle.prediction.specs.Predictions.{no_prediction}
use Rattle.prediction.specs.State.{Predicted, state_of, Timed, timed_in}
use Rattle.prediction.specs.Outcome as outcome
use Rattle.prediction.specs.Outcome.{says_of, answer_in}
use Rattle.times.specs.Bytes.{times_from, predictions_from}
use Rattle.times.proofs.Kept.{times_before, predictions_after}
use Rattle.predicted.specs.Bytes.{predicted_in, base_in, used_in, NoneAfter}
use Rattle.predicted.proofs.Movers.{own_then, base_then, kept_then, as_many}
use Rattle.predicted.proofs.Held.{queue_is, held, none_after, queued_again}
use Rattle.predicted.proofs.Given.{same_after, same_told, refused_left, accepted_left}
use Rattle.predicted.proofs.Asked.{seen_answers}
use Rattle.predicted.proofs.Clocked.{queued_same, after_is, times_is, first_is, reports_are, spot_is}
use Rattle.predicted.proofs.timed.timed_step.Goals as goal
use Rattle.predicted.proofs.timed.timed_step.Goals.{then-says_of, else-says_of}

pub look-x-requires : goal.look-x-requires
look-x-requires c = held c.args.m.now c.requires.m_value

pub moved_along-requires : goal.moved_along-requires
moved_along-requires c =
    let m : List (List ℕ) =
    c.args.m.now in
    let two : 1 < length c.args.m.now =
    search rules in
    let was : List (List ℕ) =
    m in
    let w : List ℕ =
    c.put_clock.new.m in
    let long : 1 < length was =
    two in
    let base_same : get_or (set was 1 w) 0 [] ≡ get_or was 0 [] =
    base_then was w long in
    let used_same : used_in (set was 1 w) ≡ used_in was =
    rw (base_same, own_then was w long, predictions_after 1189 1193 (own_in was) w c.put_clock.ensures.kept_outside (omega arith)) in
    let none_still : NoneAfter (set was 1 w) =
    ap predictions_from (own_then was w long) ∙ predictions_after 1189 1193 (own_in was) w c.put_clock.ensures.kept_outside (omega arith)
    ∙ none_after was c.requires.m_value ∙ ap (fill 36 no_prediction) (sym used_same) in
    record { held = subst⁻¹ (λ b. Held (tool_from b)) base_same (held was c.requires.m_value); none_after = none_still }

pub returns : goal.returns
returns c =
    let input : Timed =
    timed_in c.args.i in
    let state : Predicted =
    state_of (predicted_in c.args.m.now) in
    let clock_fits : ltb c.args.i.clock 4294967296 ≡ true =
    lt-ltb c.args.i.clock 4294967296 (omega arith) in
    let time_fits : ltb c.args.i.time 4294967296 ≡ true =
    lt-ltb c.args.i.time 4294967296 (omega arith) in
    let m : List (List ℕ) =
    c.args.m.now in
    let looked : c.look-x.result ≡ see (base_in m) input.input =
    c.look-x.ensures in
    let answered : answer c.seen_answer.result ≡ answer_in state input =
    c.seen_answer.ensures ∙ seen_answers m c.requires.m_value input c.look-x.result looked c.requires.number_value clock_fits time_fits in
    let two : 1 < length c.args.m.now =
    search rules in
    let was : List (List ℕ) =
    m in
    let w : List ℕ =
    c.put_clock.new.m in
    let long : 1 < length was =
    two in
    let base_same : get_or (set was 1 w) 0 [] ≡ get_or was 0 [] =
    base_then was w long in
    let used_same : used_in (set was 1 w) ≡ used_in was =
    rw (base_same, own_then was w long, predictions_after 1189 1193 (own_in was) w c.put_clock.ensures.kept_outside (omega arith)) in
    let m = was in
    let i = input in
    let n = c.moved_along.new.m in
    let e = c.moved_along.ensures in
    let ts = ap (λ (t : Times). record { now = c.args.i.clock; setting = t.setting; timeout = t.timeout }) c.times_at-t.ensures
    ∙ times_is state i c.requires.number_value in
    let fs : base_in (set m 1 w) ≡ outcome.after state i =
    ap (λ b. base.state_of (tool_from b)) base_same ∙ ap (λ q. q.mapped.base) (sym (after_is state i c.requires.number_value)) in
    let gs = used_same ∙ first_is state i c.requires.number_value (sym (as_many m (held m c.requires.m_value))) in
    let chosen : c.if-says_of.k ≡ cond (says_of i.input.number) c.look-x.result.stands c.look-x.result.count =
    elim c.if-says_of.branch [
      | then-says_of w ↦ rw (sym c.says_of.ensures ∙ w.if-says_of.true) w.k-is
      | else-says_of w ↦ rw (sym c.says_of.ensures ∙ w.if-says_of.false) w.k-is
    ] in
    let hs = chosen ∙ spot_is state i c.requires.number_value c.look-x.result looked in
    let own = own_then m w long in
    let below : KeptOutside 1189 1597 (own_in m) (own_in n) =
    kept_twice 1189 1597 _ _ _ (kept_wider (omega arith) (omega arith) (kept_then m w long c.put_clock.ensures.kept_outside))
    (kept_wider (omega arith) (omega arith) e.kept_outside) in record {
      result_after = accepted_left m i (sym answered ∙ ap answer c.in_ok-seen_answer.was) n _
          (queued_same m n (e.m_unchanged ∙ base_same) below ∙ sym (queued_again m c.requires.m_value) ∙ ap queue.in_tool (sym (after_is state i c.requires.number_value)))
          (times_before 1201 1597 (own_in (set m 1 w)) (own_in n) e.kept_outside (omega arith) ∙ ap times_from own ∙ c.put_clock.ensures.m_after
          ∙ times_is state i c.requires.number_value)
          (e.m_after ∙ ap (fill 36 no_prediction) (same_after c.args.i.input.number c.args.i.time ts fs gs hs))
          (e.o_after ∙ ap₂ note_all c.no_reports.ensures (same_told c.args.i.input.number c.args.i.time ts fs gs hs)
          ∙ all_noted _
          ∙ ap listed (reports_are state i c.requires.number_value (sym (as_many m (held m c.requires.m_value))) (tool_sound _ (base_is m (queue_is m c.requires.m_value)))));
      kept_outside = kept_wider (omega arith) (omega arith) below;
    }

pub returns-in_err-seen_answer : goal.returns-in_err-seen_answer
returns-in_err-seen_answer c =
    let input : Timed =
    timed_in c.args.i in
    let state : Predicted =
    state_of (predicted_in c.args.m.now) in
    let clock_fits : ltb c.args.i.clock 4294967296 ≡ true =
    lt-ltb c.args.i.clock 4294967296 (omega arith) in
    let time_fits : ltb c.args.i.time 4294967296 ≡ true =
    lt-ltb c.args.i.time 4294967296 (omega arith) in
    let m : List (List ℕ) =
    c.args.m.now in
    let looked : c.look-x.result ≡ see (base_in m) input.input =
    c.look-x.ensures in
    let answered : answer c.seen_answer.result ≡ answer_in state input =
    c.seen_answer.ensures ∙ seen_answers m c.requires.m_value input c.look-x.result looked c.requires.number_value clock_fits time_fits in
    let refusal = c.in_err-seen_answer.field-0.0 in
    let e : c.from_residual.result ≡ Err refusal = search rules in
    record { result_after = rw e (refused_left m input (Err refusal) _ (sym answered ∙ ap answer c.in_err-seen_answer.was) (never_zero refusal) c.no_reports.ensures); kept_outside = kept_all 0 1597 (own_in m) }
