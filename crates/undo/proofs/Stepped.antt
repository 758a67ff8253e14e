-- An input that each layer passes on as it is: what it makes of the state, part by part.
use Prim.Native.Nat.{◌≤◌}
use mathlib.Core.Path.{◌≡◌, ap, sym, subst, ◌∙◌}
use mathlib.Core.Bool.{false}
use mathlib.Core.List.{List, [], ◌∷◌}
use lib.ListN.{length, set}
use lib.Seq.{set_out}
use lib.Dec.{eqb}
use Rattle.rules.specs.declared.row.Effect.{Effect}
use Rattle.rules.specs.State.{State, spot_of}
use Rattle.rules.specs.Seen.{Input, narrow}
use Rattle.rules.specs.Row.{lower, lowest}
use Rattle.rules.specs.Row as row
use Rattle.follow.specs.Follow.{followed}
use Rattle.maps.specs.Expected.{new_map}
use Rattle.maps.specs.Outcome as maps
use Rattle.maps.specs.Projection as maps-runs
use Rattle.queue.specs.State.{Queued}
use Rattle.queue.specs.Outcome as queue
use Rattle.queue.proofs.SoundRuns.{lower_zero}
use Rattle.prediction.specs.declared.prediction.Prediction.{Prediction}
use Rattle.prediction.specs.State as prediction-state
use Rattle.prediction.specs.State.{Predicted, first_prediction}
use Rattle.prediction.specs.Outcome as prediction
use Rattle.prediction.specs.Outcome.{is_timed, says_of, all_along, all_facts, below_in}
use Rattle.prediction.proofs.Projected.{plain_answers}
use Rattle.wafers.specs.Outcome as wafers
use Rattle.wafers.specs.Outcome.{Brought}
use Rattle.hands.specs.declared.alarm.Alarm.{Alarm}
use Rattle.hands.specs.State.{Handled, base_of}
use Rattle.hands.specs.Outcome.{row_in, answer_below, answer_in, all_settled, state_after}

-- The layers pass it on: it brings no clock and no wafers, says nothing of a carrier's prediction, and leaves the queue.
pub record Passes (s : Handled) (i : Brought) : Type 0 where
  pub no_clock : is_timed i.timed.input.number ≡ false
  pub no_wafers : eqb i.timed.input.number 35 ≡ false
  pub nobody : says_of i.timed.input.number ≡ false
  pub stands : (row_in s i).stands ≡ i ∷ []
  pub queued : (queue.row_in s.predicted.queued i.timed.input).stands ≡ i.timed.input ∷ []
  pub line : (queue.row_in s.predicted.queued i.timed.input).queue ≡ s.predicted.queued.queue

module _ (s : Handled) (i : Brought) (t : Passes s i) where
  abbrev p : Predicted
  p = s.predicted

  abbrev input : Input
  input = i.timed.input

  abbrev pub effect : Effect
  effect = (maps.row_in p.queued.mapped input).effect

  -- document 01's part afterwards
  abbrev pub after : State
  after = row.enact effect (base_of s)

  -- ── Answers ──
  -- accepted: by the rows that P9 and P5 have, and below
  module _ (g : lowest (row_in s i).grounds ≡ 0) (h : lowest (queue.row_in p.queued input).grounds ≡ 0)
      (k : maps.answer_in p.queued.mapped input ≡ 0) where
    queue_accepts : queue.answer_in p.queued input ≡ 0
    unfolding queue.answer_in queue.answers_in lower maps-runs.reached
    queue_accepts = rw (h, t.queued, k)

    pub accepts : answer_in s i ≡ 0
    unfolding answer_in answer_below lower wafers.answer_in
    accepts = rw (g, t.stands, t.no_wafers) (plain_answers p i.timed t.no_clock ∙ queue_accepts)

  module _ (yes : answer_in s i ≡ 0) where
    below_yes : wafers.answer_in p i ≡ 0
    unfolding answer_in answer_below
    below_yes = subst (λ l. answer_below p l ≡ 0) t.stands (lower_zero (lowest (row_in s i).grounds) _ yes).1

    timed_yes : prediction.answer_in p i.timed ≡ 0
    unfolding wafers.answer_in
    timed_yes = rw t.no_wafers at below_yes

    queue_yes : queue.answer_in p.queued input ≡ 0
    queue_yes = sym (plain_answers p i.timed t.no_clock) ∙ timed_yes

    pub maps_yes : maps.answer_in p.queued.mapped input ≡ 0
    unfolding queue.answer_in queue.answers_in lower maps-runs.reached
    maps_yes =
        subst (λ l. queue.answers_in p.queued.mapped l ≡ 0) t.queued
        (lower_zero (lowest (queue.row_in p.queued input).grounds) (queue.answers_in p.queued.mapped (queue.row_in p.queued input).stands) queue_yes).1

    -- ── The state ──
    queue_after : queue.state_after p.queued input
        ≡ record { mapped = maps.enact effect (new_map input.number input.codes) p.queued.mapped; queue = p.queued.queue }
    unfolding queue.state_after maps-runs.reached maps.state_after
    queue_after = rw (queue_yes, t.queued, t.line, maps_yes)

    predicted_after : wafers.reached p (row_in s i).stands ≡ prediction.enact p i.timed
    unfolding wafers.reached wafers.state_after wafers.stands_for prediction.reached prediction.state_after
    predicted_after = rw (t.stands, t.no_wafers, timed_yes)

    predicted_is : (state_after s i).predicted ≡ prediction.enact p i.timed
    unfolding state_after
    predicted_is = rw yes predicted_after

    queued_is : (state_after s i).predicted.queued
        ≡ record { mapped = maps.enact effect (new_map input.number input.codes) p.queued.mapped; queue = p.queued.queue }
    unfolding below_in
    queued_is = ap (λ (r : Predicted). r.queued) predicted_is ∙ rw t.no_clock queue_after

    pub base_is : base_of (state_after s i) ≡ after
    base_is = ap (λ (q : Queued). q.mapped.base) queued_is

    pub maps_are : (state_after s i).predicted.queued.mapped.maps
        ≡ followed effect.goes effect.made (new_map input.number input.codes) p.queued.mapped.maps
    maps_are = ap (λ (q : Queued). q.mapped.maps) queued_is

    pub queue_is : (state_after s i).predicted.queued.queue ≡ p.queued.queue
    queue_is = ap (λ (q : Queued). q.queue) queued_is

    pub times_are : (state_after s i).predicted.times ≡ p.times
    times_are = ap (λ (r : Predicted). r.times) predicted_is ∙ rw t.no_clock

    -- the predictions follow the records, and each moves as it is
    abbrev pub first : List Prediction
    first = followed effect.goes effect.made (first_prediction (base_of s)) p.predictions

    pub predictions_are : (l : List Prediction) → first ≡ l → length l ≤ length after.carriers
        → (state_after s i).predicted.predictions ≡ all_along (all_facts input.number p.times after) after.carriers l
    unfolding below_in queue.goes_in queue.made_in maps-runs.reached
    predictions_are l e b =
        ap (λ (r : Predicted). r.predictions) predicted_is
        ∙ rw (t.no_clock, t.nobody, queue_after, t.queued, e) (ap (all_along (all_facts input.number p.times after) after.carriers) (set_out l _ _ b))

    under : (below_in p input).after ≡ queue.state_after p.queued input
    unfolding below_in
    under = rw t.no_clock

    abbrev settling : State → List Alarm
    settling b = all_settled b.ports (set s.alarms (spot_of (narrow input.port)) (row_in s i).alarm)

    pub alarms_are : (state_after s i).alarms ≡ settling after
    unfolding state_after
    alarms_are =
        rw yes
        (ap (λ (r : Predicted). settling (prediction-state.base_of r)) predicted_after ∙ ap (λ (q : Queued). settling q.mapped.base) (under ∙ queue_after))
