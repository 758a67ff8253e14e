-- A pair of document 01 is one in the whole machine, where nothing else moves.
use Prim.Native.Nat.{ℕ, ◌≤◌}
use native.Mathlib.Omega.{arith}
use mathlib.Core.Path.{◌≡◌, refl, ap, sym, ◌∙◌}
use mathlib.Core.Bool.{true, false, ◌&&◌}
use mathlib.Core.List.{List}
use lib.ListN.{length, set}
use lib.Seq.{set-get_or}
use lib.Dec.{eqb}
use borrow.Author.Tests.{eq-eqb}
use Rattle.lists.proofs.Bools.{and_r}
use Rattle.rules.specs.State.{State, spot_of}
use Rattle.rules.specs.Seen.{Input, narrow, see}
use Rattle.rules.specs.Row.{lowest}
use Rattle.rules.specs.Outcome as base
use Rattle.rules.proofs.Lowest.{row_first_is_lowest}
use Rattle.follow.specs.Follow.{followed}
use Rattle.maps.specs.Expected.{new_map, carries}
use Rattle.maps.specs.Rows.{codes_in}
use Rattle.maps.specs.Outcome as maps
use Rattle.maps.proofs.Amended.{grounds_are, effect_is, accepted_there}
use Rattle.queue.specs.Outcome as queue
use Rattle.queue.specs.declared.request.Request.{Request}
use Rattle.prediction.specs.declared.prediction.Prediction.{Prediction}
use Rattle.prediction.specs.declared.prediction.Times.{Times}
use Rattle.prediction.specs.State.{first_prediction}
use Rattle.prediction.specs.Sound as prediction-sound
use Rattle.prediction.specs.Sound.{times_in_range, each_fits}
use Rattle.prediction.specs.Outcome.{all_along, all_facts}
use Rattle.queue.specs.Sound as queue-sound
use Rattle.wafers.specs.Outcome.{Brought}
use Rattle.hands.specs.declared.alarm.Alarm.{Alarm}
use Rattle.hands.specs.Alarms.{no_alarm}
use Rattle.hands.specs.State.{Handled, base_of, alarm_of}
use Rattle.hands.specs.Sound.{sound}
use Rattle.hands.specs.Outcome.{row_in, answer_in, all_settled, state_after}
use Rattle.hands.proofs.Sounds.{predicted_part}
use Rattle.undo.specs.Undoing.{TakenBack}
use Rattle.undo.proofs.Stepped.{Passes, effect, after, accepts, maps_yes, base_is, maps_are, queue_is, times_are, predictions_are, alarms_are}
use Rattle.undo.proofs.Rest.{all_rest, as_many}

-- ── Document 01's part ──
module _ (s : Handled) (i : Brought) (t : Passes s i) (no_map : eqb i.timed.input.number 20 ≡ false) where
  abbrev input : Input
  input = i.timed.input

  pub effect_same : effect s i t ≡ (base.row_in (base_of s) input).effect
  effect_same = effect_is input.number (see (base_of s) input) (codes_in s.predicted.queued.mapped input) ∙ rw no_map

  module _ (yes : answer_in s i ≡ 0) where
    pub base_yes : base.answer_in (base_of s) input ≡ 0
    unfolding base.answer_in
    base_yes =
        sym (row_first_is_lowest input.number (see (base_of s) input))
        ∙ accepted_there s.predicted.queued.mapped input (eq-eqb _ 0 (maps_yes s i t yes))

    pub base_after : base_of (state_after s i) ≡ base.state_after (base_of s) input
    unfolding base.state_after
    base_after = base_is s i t yes ∙ rw (base_yes, effect_same)

    pub after_is : after s i t ≡ base.state_after (base_of s) input
    after_is = sym (base_is s i t yes) ∙ base_after

  -- where P1, P5 and P9 add nothing to a row, it is accepted where document 01 accepts it
  pub all_accept : lowest (row_in s i).grounds ≡ 0 → lowest (queue.row_in s.predicted.queued input).grounds ≡ 0
      → carries input.number ≡ false → base.answer_in (base_of s) input ≡ 0 → answer_in s i ≡ 0
  unfolding maps.answer_in base.answer_in
  all_accept g h c e = accepts s i t g h below
    where
      below : maps.answer_in s.predicted.queued.mapped input ≡ 0
      below = rw (grounds_are input.number (see (base_of s) input) (codes_in s.predicted.queued.mapped input), c) e

-- ── All parts ──
state_of : {b c : State} {m n : List (List ℕ)} {q r : List Request} {t u : Times} {o p : List Prediction} {a l : List Alarm}
    → b ≡ c → m ≡ n → q ≡ r → t ≡ u → o ≡ p → a ≡ l
    → ◌≡◌ {A = Handled}
    (record { predicted = record { queued = record { mapped = record { base = b; maps = m }; queue = q }; times = t; predictions = o }; alarms = a })
    (record { predicted = record { queued = record { mapped = record { base = c; maps = n }; queue = r }; times = u; predictions = p }; alarms = l })
state_of e f g h i j = rw (e, f, g, h, i, j)

pub each_fits_fact : (s : Handled) → sound s ≡ true → each_fits (base_of s) (base_of s).carriers s.predicted.predictions ≡ true
unfolding prediction-sound.sound
each_fits_fact s h = and_r (queue-sound.sound s.predicted.queued && times_in_range s.predicted.times) _ (predicted_part s h)

module _ (s : Handled) (i j : Brought) (h : sound s ≡ true) (t : Passes s i) (u : Passes (state_after s i) j)
    (yes : answer_in s i ≡ 0) (again : answer_in (state_after s i) j ≡ 0) where
  abbrev between : Handled
  between = state_after s i

  -- what the tables beside the records do, step by step
  pub record Follows {A : Type 0} (l : List A) (x y : A) : Type 0 where
    pub then : List A
    pub first : followed (effect s i t).goes (effect s i t).made x l ≡ then
    pub second : followed (effect between j u).goes (effect between j u).made y then ≡ l

  module _ (base_back : base_of (state_after between j) ≡ base_of s)
      (maps_follow : (x y : List ℕ) → Follows s.predicted.queued.mapped.maps x y)
      (predictions_follow : (y : Prediction) → Follows s.predicted.predictions (first_prediction (base_of s)) y)
      (rest : (y : Prediction) → let f = predictions_follow y in (length f.then ≤ length (after s i t).carriers)
      × (all_along (all_facts i.timed.input.number s.predicted.times (after s i t)) (after s i t).carriers f.then ≡ f.then))
      (own : (row_in between j).alarm ≡ alarm_of between (narrow j.timed.input.port))
      (alarms-back : all_settled (base_of s).ports (all_settled (after s i t).ports (set s.alarms (spot_of (narrow i.timed.input.port)) (row_in s i).alarm))
      ≡ s.alarms) where
    maps_back : (state_after between j).predicted.queued.mapped.maps ≡ s.predicted.queued.mapped.maps
    maps_back =
        let x = new_map i.timed.input.number i.timed.input.codes in
        let y = new_map j.timed.input.number j.timed.input.codes in
        let f = maps_follow x y in
        maps_are between j u again
        ∙ ap (followed (effect between j u).goes (effect between j u).made y) (maps_are s i t yes ∙ f.first)
        ∙ f.second

    abbrev y : Prediction
    y = first_prediction (base_of between)

    predictions_then : between.predicted.predictions ≡ (predictions_follow y).then
    predictions_then = predictions_are s i t yes _ (predictions_follow y).first (rest y).0 ∙ (rest y).1

    predictions_second : followed (effect between j u).goes (effect between j u).made y between.predicted.predictions ≡ s.predicted.predictions
    predictions_second = ap (followed (effect between j u).goes (effect between j u).made y) predictions_then ∙ (predictions_follow y).second

    after_back : after between j u ≡ base_of s
    after_back = sym (base_is between j u again) ∙ base_back

    many_back : length s.predicted.predictions ≤ length (after between j u).carriers
    many_back = rw after_back (let e = as_many (base_of s) (base_of s).carriers s.predicted.predictions (each_fits_fact s h) in omega arith)

    predictions_back : (state_after between j).predicted.predictions ≡ s.predicted.predictions
    predictions_back =
        predictions_are between j u again s.predicted.predictions predictions_second many_back
        ∙ rw after_back
        (all_rest j.timed.input.number u.no_clock between.predicted.times (base_of s) (base_of s) (base_of s).carriers (base_of s).carriers
        s.predicted.predictions (each_fits_fact s h) refl (λ k e. e))

    alarms_twice : (state_after between j).alarms ≡ s.alarms
    unfolding alarm_of
    alarms_twice =
        alarms_are between j u again
        ∙ rw (own, after_back, set-get_or between.alarms (spot_of (narrow j.timed.input.port)) no_alarm)
        (ap (all_settled (base_of s).ports) (alarms_are s i t yes) ∙ alarms-back)

    pub taken_back : TakenBack s i j
    taken_back = record {
      accepted = again;
      back = state_of base_back maps_back (queue_is between j u again ∙ queue_is s i t yes) (times_are between j u again ∙ times_are s i t yes)
          predictions_back alarms_twice;
    }
