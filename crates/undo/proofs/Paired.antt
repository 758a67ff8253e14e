-- Two inputs that are a pair in document 01, each passed on by every layer: what is left to be shown of maps, predictions and alarms.
use Prim.Native.Nat.{ℕ, ◌≤◌}
use native.Mathlib.Omega.{arith}
use mathlib.Core.Path.{◌≡◌, refl, ap, sym, ◌∙◌}
use mathlib.Core.Bool.{true, false}
use mathlib.Core.List.{List, [], ◌∷◌, ◌++◌}
use lib.ListN.{length, length-append, get_or, set}
use Rattle.lists.proofs.Tables.{without_out}
use Rattle.records.specs.declared.carrier.Carrier.{Carrier}
use Rattle.records.specs.Carriers.{no_carrier}
use Rattle.rules.specs.State.{State, spot_of}
use Rattle.rules.specs.Seen.{narrow, see}
use Rattle.rules.specs.Row.{lowest}
use Rattle.rules.specs.Rows as base-rows
use Rattle.rules.specs.Outcome as base
use Rattle.rules.specs.Undoing as base-pairs
use Rattle.rules.proofs.UndoneBookings.{without_last}
use Rattle.follow.specs.Follow.{followed}
use Rattle.maps.proofs.SoundRuns as maps-sound
use Rattle.queue.specs.Outcome as queue
use Rattle.queue.proofs.SoundRuns as queue-sound
use Rattle.prediction.specs.declared.prediction.Prediction.{Prediction}
use Rattle.prediction.specs.State.{first_prediction}
use Rattle.prediction.specs.Sound.{is_ready}
use Rattle.prediction.specs.Outcome.{all_along, all_facts}
use Rattle.prediction.proofs.Sounds.{queue_part}
use Rattle.wafers.specs.Outcome.{Brought}
use Rattle.hands.specs.State.{Handled, base_of}
use Rattle.hands.specs.Sound.{sound}
use Rattle.hands.specs.Outcome.{row_in, answer_in, all_settled, state_after}
use Rattle.hands.proofs.Sounds.{predicted_part}
use Rattle.undo.specs.Undoing.{TakenBack}
use Rattle.undo.proofs.Stepped.{Passes, effect, after, base_is}
use Rattle.undo.proofs.Passing.{Sent, passes, no_map_fact, Undoing, no_codes_fact, no_grounds, own_alarm}
use Rattle.undo.proofs.Rest.{all_rest, unready_rests, along_more, as_many}
use Rattle.undo.proofs.Lifted.{effect_same, base_after, all_accept, each_fits_fact, Follows, taken_back}

-- as many maps as carriers
maps_many : (s : Handled) → sound s ≡ true → length s.predicted.queued.mapped.maps ≡ length (base_of s).carriers
maps_many s h =
    (maps-sound.sound_parts s.predicted.queued.mapped
    (queue-sound.sound_parts s.predicted.queued (queue_part s.predicted (predicted_part s h))).mapped).many

predictions_many : (s : Handled) → sound s ≡ true → length s.predicted.predictions ≡ length (base_of s).carriers
predictions_many s h = as_many (base_of s) (base_of s).carriers s.predicted.predictions (each_fits_fact s h)

-- the records of a layer's table, where none goes, and where one is made
none_follow : {A : Type 0} (n : ℕ) (x : A) (l : List A) → length l ≡ n → followed n false x l ≡ l
unfolding followed
none_follow n x l e = without_out l n (omega arith)

one_follows : {A : Type 0} (n : ℕ) (x : A) (l : List A) → length l ≡ n → followed n true x l ≡ l ++ x ∷ []
unfolding followed
one_follows n x l e = ap (λ r. r ++ x ∷ []) (without_out l n (omega arith))

one_goes : {A : Type 0} (n : ℕ) (x y : A) (l : List A) → length l ≡ n → followed n false y (l ++ x ∷ []) ≡ l
unfolding followed
one_goes n x y l e = rw (sym e) (without_last l x)

module _ (s : Handled) (i j : Brought) (h : sound s ≡ true) (n m : ℕ) (is : i.timed.input.number ≡ n) (js : j.timed.input.number ≡ m)
    (sent : Sent n) (undoing : Undoing m) (yes : answer_in s i ≡ 0) where
  abbrev between : Handled
  between = state_after s i

  abbrev pub t : Passes s i
  t = passes s i n is sent

  abbrev pub u : Passes between j
  u = passes between j m js undoing.sent

  -- the effects, by document 01's rows
  pub first_effect : effect s i t ≡ (base-rows.row_of n (see (base_of s) i.timed.input)).effect
  first_effect = effect_same s i t (no_map_fact s i n is sent) ∙ ap (λ k. (base-rows.row_of k (see (base_of s) i.timed.input)).effect) is

  pub second_effect : effect between j u ≡ (base-rows.row_of m (see (base_of between) j.timed.input)).effect
  second_effect =
      effect_same between j u (no_map_fact between j m js undoing.sent) ∙ ap (λ k. (base-rows.row_of k (see (base_of between) j.timed.input)).effect) js

  module _ (pair : base-pairs.TakenBack (base_of s) i.timed.input j.timed.input)
      (free : lowest (queue.row_in between.predicted.queued j.timed.input).grounds ≡ 0) where
    base_between : base_of between ≡ base.state_after (base_of s) i.timed.input
    base_between = base_after s i t (no_map_fact s i n is sent) yes

    again : answer_in between j ≡ 0
    again =
        all_accept between j u (no_map_fact between j m js undoing.sent) (no_grounds between j m js undoing) free (no_codes_fact between j m js undoing)
        (ap (λ b. base.answer_in b j.timed.input) base_between ∙ pair.accepted)

    base_back : base_of (state_after between j) ≡ base_of s
    base_back =
        base_after between j u (no_map_fact between j m js undoing.sent) again
        ∙ ap (λ b. base.state_after b j.timed.input) base_between
        ∙ pair.back

    -- the alarms, as the first row and then each port leaves them
    abbrev pub AlarmsBack : Type 0
    AlarmsBack =
        all_settled (base_of s).ports (all_settled (after s i t).ports (set s.alarms (spot_of (narrow i.timed.input.port)) (row_in s i).alarm))
        ≡ s.alarms

    -- ── No record is made, and none goes ──
    pub records_stay : (effect s i t).goes ≡ length (base_of s).carriers → (effect s i t).made ≡ false
        → (effect between j u).goes ≡ length (base_of between).carriers → (effect between j u).made ≡ false
        → length (after s i t).carriers ≡ length (base_of s).carriers
        → ((k : ℕ) → is_ready (after s i t) (get_or (after s i t).carriers k no_carrier) ≡ true
        → is_ready (base_of s) (get_or (base_of s).carriers k no_carrier) ≡ true)
        → AlarmsBack → TakenBack s i j
    records_stay goes made leaves makes many ready alarms =
        taken_back s i j h t u yes again base_back (λ x y. follows s.predicted.queued.mapped.maps x y (maps_many s h))
        (λ y. follows s.predicted.predictions (first_prediction (base_of s)) y (predictions_many s h)) (λ y. (few, rest)) (own_alarm between j m js undoing)
        alarms
      where
        left : length (base_of between).carriers ≡ length (base_of s).carriers
        left = ap (λ (b : State). length b.carriers) (base_is s i t yes) ∙ many

        follows : {A : Type 0} (l : List A) (x y : A) → length l ≡ length (base_of s).carriers → Follows s i j h t u yes again l x y
        follows l x y e = record {
          then = l;
          first = rw (goes, made) (none_follow _ x l e);
          second = rw (leaves, makes) (none_follow _ y l (e ∙ sym left));
        }

        few : length s.predicted.predictions ≤ length (after s i t).carriers
        few = let e = predictions_many s h in omega arith

        rest : all_along (all_facts i.timed.input.number s.predicted.times (after s i t)) (after s i t).carriers s.predicted.predictions
            ≡ s.predicted.predictions
        rest =
            all_rest i.timed.input.number t.no_clock s.predicted.times (after s i t) (base_of s) (base_of s).carriers (after s i t).carriers
            s.predicted.predictions (each_fits_fact s h) many ready

    -- ── One is made, and goes: a carrier that is nowhere yet ──
    pub record_goes : (c : Carrier) → (effect s i t).goes ≡ length (base_of s).carriers → (effect s i t).made ≡ true
        → (effect between j u).goes ≡ length (base_of s).carriers → (effect between j u).made ≡ false
        → (after s i t).carriers ≡ (base_of s).carriers ++ c ∷ [] → is_ready (after s i t) c ≡ false
        → ((k : ℕ) → is_ready (after s i t) (get_or (base_of s).carriers k no_carrier) ≡ true
        → is_ready (base_of s) (get_or (base_of s).carriers k no_carrier) ≡ true)
        → AlarmsBack → TakenBack s i j
    record_goes c goes made leaves makes more unready ready alarms =
        taken_back s i j h t u yes again base_back (λ x y. follows s.predicted.queued.mapped.maps x y (maps_many s h))
        (λ y. follows s.predicted.predictions p y (predictions_many s h)) (λ y. (few, rest)) (own_alarm between j m js undoing) alarms
      where
        p : Prediction
        p = first_prediction (base_of s)

        follows : {A : Type 0} (l : List A) (x y : A) → length l ≡ length (base_of s).carriers → Follows s i j h t u yes again l x y
        follows l x y e = record {
          then = l ++ x ∷ [];
          first = rw (goes, made) (one_follows _ x l e);
          second = rw (leaves, makes) (one_goes _ x y l e);
        }

        few : length (s.predicted.predictions ++ p ∷ []) ≤ length (after s i t).carriers
        few =
            let e = predictions_many s h in
            let a = length-append s.predicted.predictions (p ∷ []) in
            let b = ap length more ∙ length-append (base_of s).carriers (c ∷ []) in
            omega arith

        rest : all_along (all_facts i.timed.input.number s.predicted.times (after s i t)) (after s i t).carriers (s.predicted.predictions ++ p ∷ [])
            ≡ s.predicted.predictions ++ p ∷ []
        rest =
            let f = all_facts i.timed.input.number s.predicted.times (after s i t) in
            ap (λ l. all_along f l (s.predicted.predictions ++ p ∷ [])) more
            ∙ along_more f (base_of s).carriers s.predicted.predictions c p (sym (predictions_many s h))
            ∙ rw (
              all_rest i.timed.input.number t.no_clock s.predicted.times (after s i t) (base_of s) (base_of s).carriers (base_of s).carriers
                  s.predicted.predictions (each_fits_fact s h) refl ready,
              unready_rests i.timed.input.number t.no_clock s.predicted.times (after s i t) c p unready,
            )
