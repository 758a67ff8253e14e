-- What any other input leaves below, and what its records leave of the predictions: over plain values, for `other_step`.
use native.Mathlib.Omega.{arith}
use Prim.Native.Nat.{ℕ, ◌<◌, ◌≤◌}
use mathlib.Core.Path.{◌≡◌, ap, sym, subst⁻¹, ◌∙◌}
use mathlib.Core.Bool.{true, false, cond}
use mathlib.Core.List.{List, []}
use lib.ListN.{length, get_or, set}
use lib.Dec.{eqb}
use Rattle.std.specs.Prelude.{Result}
use Rattle.lists.specs.Lists.{fill}
use Rattle.records.specs.Refusals.{answer}
use Rattle.records.specs.declared.refusal.Refusal.{Refusal}
use Rattle.rules.specs.State as base
use Rattle.rules.specs.Held.{Held}
use Rattle.rules.specs.Reports.{listed, differences}
use Rattle.rules.proofs.Holding.{count_held}
use Rattle.image.specs.Image.{tool_from, reports_from}
use Rattle.follow.specs.Follow.{followed_in, KeptOutside}
use Rattle.follow.proofs.Follows.{follow_fill}
use Rattle.mapped.specs.Bytes.{own_in}
use Rattle.queue.specs.State as queue
use Rattle.queue.specs.Sound as queue-sound
use Rattle.queue.specs.Outcome as below
use Rattle.queue.proofs.SoundTools as queue-tools
use Rattle.queued.specs.Bytes.{queued_in, left}
use Rattle.queued.proofs.Held as queued
use Rattle.prediction.specs.declared.prediction.Prediction.{Prediction}
use Rattle.prediction.specs.Predictions.{no_prediction, new_prediction}
use Rattle.prediction.specs.State.{Predicted, state_of, base_of, Timed, first_prediction}
use Rattle.prediction.specs.Outcome as outcome
use Rattle.prediction.specs.Outcome.{is_timed, answer_in}
use Rattle.prediction.specs.Sound.{sound_tool}
use Rattle.mapped.specs.declared.step.Moved.{Moved}
use Rattle.times.specs.Bytes.{times_from, predictions_from}
use Rattle.times.proofs.Kept.{times_after, predictions_after}
use Rattle.predicted.specs.Bytes.{predicted_in, base_in, used_in}
use Rattle.predicted.proofs.Movers.{own_then, base_then, used_long, fits}
use Rattle.predicted.proofs.Held.{queue_is, held, none_after, state_sound}
use Rattle.predicted.proofs.Followed as follows

-- below, whether it is accepted or not
pub record Left (m n : List (List ℕ)) (r : Moved (Result Unit Refusal)) (i : Timed) : Type 0 where
  pub answered : answer r.answer ≡ answer_in (state_of (predicted_in m)) i
  pub times_stay : times_from (own_in n) ≡ times_from (own_in m)
  pub predictions_stay : predictions_from (own_in n) ≡ predictions_from (own_in m)
  pub held_then : Held (tool_from (get_or n 0 []))
  pub base_is : base_in n ≡ outcome.after (state_of (predicted_in m)) i

-- accepted below
pub record Taken (m n : List (List ℕ)) (o : List ℕ) (r : Moved (Result Unit Refusal)) (i : Timed) : Type 0 where
  pub accepts : answer_in (state_of (predicted_in m)) i ≡ 0
  pub tool_then : queued_in n ≡ queue.in_tool (outcome.below (state_of (predicted_in m)) i).after
  pub told_then : reports_from o ≡ listed (differences (base_of (state_of (predicted_in m))) (outcome.after (state_of (predicted_in m)) i))
  pub goes_then : r.goes ≡ (outcome.below (state_of (predicted_in m)) i).goes
  pub made_then : r.made ≡ (outcome.below (state_of (predicted_in m)) i).made
  pub gone_then : r.gone ≡ (base.record_of (base_of (state_of (predicted_in m))) r.goes).name

-- and the predictions w that follow the records
pub record Laid (m n : List (List ℕ)) (w : List ℕ) (i : Timed) : Type 0 where
  pub base_same : get_or (set n 1 w) 0 [] ≡ get_or n 0 []
  pub laid : predictions_from (own_in (set n 1 w)) ≡ fill 36 no_prediction (outcome.first (state_of (predicted_in m)) i)
  pub long : length (outcome.first (state_of (predicted_in m)) i) ≡ (tool_from (get_or (set n 1 w) 0 [])).count
  pub few : length (outcome.first (state_of (predicted_in m)) i) ≤ 36
  pub held_still : Held (tool_from (get_or (set n 1 w) 0 []))

module _ (m n : List (List ℕ)) (o : List ℕ) (r : Moved (Result Unit Refusal)) (i : Timed) (h : sound_tool (predicted_in m) ≡ true)
    (t : is_timed i.input.number ≡ false) (e : left n o r ≡ below.given_in (queued_in m) i.input)
    (k : KeptOutside 0 1189 (own_in m) (own_in n)) where
  abbrev state : Predicted
  state = state_of (predicted_in m)

  sound_then : queue-sound.sound_tool (queued_in n) ≡ true
  sound_then = ap queue-sound.sound_tool (ap (λ (g : below.Given). g.tool) e) ∙ queue-tools.given_sound (queued_in m) i.input (queue_is m h)

  pub left_is : Left m n r i
  left_is = record {
    answered = ap (λ (g : below.Given). g.answer) e ∙ follows.given_answer (queued_in m) i.input ∙ sym (follows.answer_is state i t);
    times_stay = times_after 0 1189 (own_in m) (own_in n) k (omega arith);
    predictions_stay = predictions_after 0 1189 (own_in m) (own_in n) k (omega arith);
    held_then = queued.held n sound_then;
    base_is = ap (λ (g : below.Given). queue.base_of (queue.state_of g.tool)) e
        ∙ ap queue.base_of (queue-tools.given_state (queued_in m) i.input (queue_is m h) ∙ sym (follows.after_is state i t));
  }

  pub taken_is : answer r.answer ≡ 0 → Taken m n o r i
  taken_is z =
      let accepts : answer_in state i ≡ 0 = sym left_is.answered ∙ z in
      let given = e ∙ follows.below_given (queued_in m) i.input (sym (follows.answer_is state i t) ∙ accepts) in record {
        accepts = accepts;
        tool_then = ap (λ (g : below.Given). g.tool) given ∙ ap queue.in_tool (sym (follows.after_is state i t));
        told_then = ap (λ (g : below.Given). g.reports) given
            ∙ ap (λ q. listed (differences (base_of state) (queue.base_of q))) (sym (follows.after_is state i t));
        goes_then = ap (λ (g : below.Given). g.goes) given ∙ sym (follows.goes_is state i t);
        made_then = ap (λ (g : below.Given). g.made) given ∙ sym (follows.made_is state i t);
        gone_then = ap (λ (g : below.Given). g.gone) given
            ∙ ap (λ j. (base.record_of (base_of state) j).name) (sym (ap (λ (g : below.Given). g.goes) given));
      }

  pub laid_is : answer r.answer ≡ 0 → (w : List ℕ) → 1 < length n → (u p : ℕ) → u ≡ (tool_from (get_or m 0 [])).count
      → p ≡ (base_in m).places
      → predictions_from w ≡ followed_in no_prediction u r.goes r.made (cond (eqb p 0) new_prediction no_prediction) (predictions_from (own_in n))
      → Laid m n w i
  unfolding first_prediction
  laid_is z w two u p c f a =
      let first : List Prediction = outcome.first state i in
      let base_same : get_or (set n 1 w) 0 [] ≡ get_or n 0 [] = base_then n w two in
      let held_then = left_is.held_then in
      let counted : u ≡ length (used_in m) = c ∙ sym (used_long m (held m h)) in
      let laid : predictions_from (own_in (set n 1 w)) ≡ fill 36 no_prediction first =
      ap predictions_from (own_then n w two) ∙ a
      ∙ follows.follow_of counted (taken_is z).goes_then (taken_is z).made_then (ap (λ q. cond (eqb q 0) new_prediction no_prediction) f)
      (left_is.predictions_stay ∙ none_after m h)
      ∙ follow_fill 36 no_prediction (used_in m) (fits m (held m h)) (outcome.below state i).goes (outcome.below state i).made _ in
      let long : length first ≡ (tool_from (get_or (set n 1 w) 0 [])).count =
      follows.first_long state i t (state_sound m h) (taken_is z).accepts
      ∙ ap (λ b. length b.carriers) (sym left_is.base_is) ∙ count_held (tool_from (get_or n 0 [])) held_then
      ∙ ap (λ b. (tool_from b).count) (sym base_same) in record {
        base_same = base_same;
        laid = laid;
        long = long;
        few = let l = long in let q = ap (λ b. (tool_from b).count) base_same in let v = held_then.few_carriers in omega arith;
        held_still = subst⁻¹ (λ b. Held (tool_from b)) base_same held_then;
      }
