-- Every input keeps a sound state sound, and so is every state that a run reaches.
use Prim.Native.Nat.{ℕ, ◌<◌}
use native.Mathlib.Omega.{arith}
use mathlib.Core.Path.{◌≡◌, refl, ap, sym, subst, ◌∙◌}
use mathlib.Core.Bool.{Bool, true, false, cond, ◌&&◌, ◌||◌}
use mathlib.Core.List.{List, [], ◌∷◌}
use lib.ListN.{length, get_or}
use lib.Dec.{eqb}
use borrow.Author.Tests.{eqb-true, eq-eqb}
use Rattle.lists.proofs.Bools.{clash, and_l, and_r, and_i}
use Rattle.lists.proofs.Tables.{without_out}
use Rattle.records.specs.declared.carrier.Carrier.{Carrier}
use Rattle.records.specs.Names.{in_bytes}
use Rattle.records.specs.Carriers.{at_port, expected}
use Rattle.rules.specs.State.{State, record_of}
use Rattle.rules.specs.Seen.{see}
use Rattle.rules.specs.Row as row
use Rattle.rules.specs.declared.row.Seen.{Seen}
use Rattle.rules.specs.Row.{Ground, unless, lowest}
use Rattle.rules.proofs.Accepts.{Clear, clear}
use Rattle.rules.proofs.SoundParts as base-parts
use Rattle.follow.specs.Follow.{followed}
use Rattle.maps.specs.Sound as maps-sound
use Rattle.maps.specs.Outcome as maps
use Rattle.maps.specs.Projection as maps-runs
use Rattle.queue.specs.Requests.{carrier_of}
use Rattle.queue.specs.State as queue-state
use Rattle.queue.specs.State.{Queued}
use Rattle.queue.specs.Sound as queue-sound
use Rattle.queue.specs.Rows as queue-rows
use Rattle.queue.specs.Outcome as queue
use Rattle.queue.proofs.Below.{base_facts}
use Rattle.queue.proofs.SoundRuns as queue-runs
use Rattle.prediction.specs.declared.prediction.Prediction.{Prediction}
use Rattle.prediction.specs.Predictions.{no_prediction}
use Rattle.prediction.specs.State.{Predicted, base_of, Timed, is_fixed, first_prediction}
use Rattle.prediction.specs.Sound.{is_time, is_span, times_in_range, is_ready, sound}
use Rattle.prediction.specs.Outcome as outcome
use Rattle.prediction.specs.Outcome.{is_timed, answer_in, all_facts, Below, below_in, grounds_of, clock_grounds, tp_grounds, te_grounds, none_grounds}
use Rattle.prediction.proofs.Pairs.{Pairs, Fit, as_long, pairs_of, pairs_fit, pairs_put, pairs_at, pairs_use, pairs_along}
use Rattle.prediction.proofs.Effects.{Changes, input_changes}
use Rattle.prediction.proofs.Written.{own_ready, own_taken, all_ready, all_untaken, near_fit, written_near, written_none}
use Rattle.prediction.proofs.Placed.{six_placed, twenty_one_placed}
use Rattle.prediction.proofs.SoundRuns.{Near, fit_near, pairs_kept, kept_near, placed_there}

-- an effect leaves the number of places
same_fixed : (s t : State) (g : ℕ) (m : Bool) → Changes s t g m → is_fixed t ≡ is_fixed s
unfolding row.enact
same_fixed s t g m c = ap is_fixed c.leads

-- the parts of a sound state
module _ (s : Predicted) (h : sound s ≡ true) where
  pub queue_part : queue-sound.sound s.queued ≡ true
  unfolding sound
  queue_part = and_l _ _ (and_l _ _ h)

  times_part : times_in_range s.times ≡ true
  unfolding sound
  times_part = and_r (queue-sound.sound s.queued) _ (and_l _ _ h)

  pub pairs_part : Pairs (Fit (base_of s)) (base_of s).carriers s.predictions
  unfolding sound
  pairs_part = pairs_of (base_of s) _ _ (and_r (queue-sound.sound s.queued && times_in_range s.times) _ h)

module _ (s : Predicted) (i : Timed) (h : sound s ≡ true) (a : answer_in s i ≡ 0) where
  abbrev number : ℕ
  number = i.input.number

  abbrev queue_is : queue-sound.sound s.queued ≡ true
  queue_is = queue_part s h

  abbrev times_are : times_in_range s.times ≡ true
  times_are = times_part s h

  abbrev pairs_are : Pairs (Fit (base_of s)) (base_of s).carriers s.predictions
  pairs_are = pairs_part s h

  plain_accepts : is_timed number ≡ false → queue.answer_in s.queued i.input ≡ 0
  unfolding answer_in
  plain_accepts t = rw t at a

  pub changes : is_timed number ≡ false → Changes (base_of s) (queue-state.base_of (queue.state_after s.queued i.input))
      (queue.goes_in s.queued.mapped (queue.row_in s.queued i.input).stands)
      (queue.made_in s.queued.mapped (queue.row_in s.queued i.input).stands)
  changes t = input_changes s.queued i.input queue_is (plain_accepts t)

  facts_then : (q : Queued) → queue-sound.sound q ≡ true → base-parts.Facts (queue-state.base_of q)
  facts_then q z = base_facts q.mapped (queue-runs.sound_parts q z).mapped

  abbrev fixed : Bool
  fixed = is_fixed (base_of s)

  -- what follows below: sound, of the same kind, and each pair near
  pub record Follows (b : Below) : Type 0 where
    pub still : queue-sound.sound b.after ≡ true
    pub kind : is_fixed (queue-state.base_of b.after) ≡ fixed
    pub near : Pairs (Near fixed) (queue-state.base_of b.after).carriers
        (followed b.goes b.made (first_prediction (base_of s)) s.predictions)

  -- where no record goes and none is made
  near_still : Pairs (Near fixed) (base_of s).carriers (followed (length (base_of s).carriers) false (first_prediction (base_of s)) s.predictions)
  unfolding followed
  near_still =
      let l = as_long pairs_are in
      rw (without_out s.predictions (length (base_of s).carriers) (omega arith))
      (pairs_use pairs_are (λ k b p f. fit_near (base_of s) _ p f))

  follows : Follows (below_in s i.input)
  unfolding below_in
  follows = go (is_timed number) refl
    where
      go : (w : Bool) → is_timed number ≡ w → Follows (cond w
          (record { after = s.queued; goes = length (base_of s).carriers; made = false })
          (record {
            after = queue.state_after s.queued i.input;
            goes = queue.goes_in s.queued.mapped (queue.row_in s.queued i.input).stands;
            made = queue.made_in s.queued.mapped (queue.row_in s.queued i.input).stands;
          }))
      go true t = record { still = queue_is; kind = refl; near = near_still }
      go false t = record {
        still = queue-runs.sound_after s.queued i.input queue_is;
        kind = same_fixed _ _ _ _ (changes t);
        near = kept_near _ (facts_then _ (queue-runs.sound_after s.queued i.input queue_is)) fixed (same_fixed _ _ _ _ (changes t)) _
            (pairs_kept _ _ _ _ (changes t) s.predictions pairs_are);
      }

  -- ── Rows 6 and 21: the carrier that is named is placed afterwards ──
  abbrev below_then : State
  below_then = queue-state.base_of (queue.state_after s.queued i.input)

  module _ (t : is_timed number ≡ false) (one : (queue.row_in s.queued i.input).stands ≡ i.input ∷ []) where
    below_one : below_then ≡ (maps.state_after s.queued.mapped i.input).base
    unfolding queue.state_after maps-runs.reached
    below_one = rw (plain_accepts t, one)

    one_accepts : eqb (maps.answer_in s.queued.mapped i.input) 0 ≡ true
    unfolding maps-runs.reached
    one_accepts =
        queue-runs.last_zero s.queued.mapped i.input []
        (rw one at (queue-runs.below_zero s.queued i.input (eq-eqb _ 0 (plain_accepts t))))

  abbrev mapped_sound : maps-sound.sound s.queued.mapped ≡ true
  mapped_sound = (queue-runs.sound_parts s.queued queue_is).mapped

  six_stands : number ≡ 6 → (queue.row_in s.queued i.input).stands ≡ i.input ∷ []
  unfolding queue-rows.row_of
  six_stands z = rw z

  twenty_one_stands : number ≡ 21 → (queue.row_in s.queued i.input).stands ≡ i.input ∷ []
  unfolding queue-rows.row_of
  twenty_one_stands z = rw z

  named_placed : is_timed number ≡ false → (eqb number 6 || eqb number 21) ≡ true
      → expected (carrier_of below_then (in_bytes i.input.name)) ≡ false
  named_placed t o = go (eqb number 6) refl o
    where
      go : (w : Bool) → eqb number 6 ≡ w → (w || eqb number 21) ≡ true → expected (carrier_of below_then (in_bytes i.input.name)) ≡ false
      go true e _ =
          let z = eqb-true number 6 e in
          rw (below_one t (six_stands z)) (six_placed s.queued.mapped i.input mapped_sound (one_accepts t (six_stands z)) z)
      go false e o =
          let z = eqb-true number 21 o in
          rw (below_one t (twenty_one_stands z))
          (twenty_one_placed s.queued.mapped i.input mapped_sound (one_accepts t (twenty_one_stands z)) z)

  -- ── What 31 to 34 ask ──
  abbrev x : Seen
  x = see (base_of s) i.input

  timed_accepts : is_timed number ≡ true → lowest (grounds_of number s x i) ≡ 0
  unfolding answer_in
  timed_accepts t = rw t at a

  -- the first ground is the same for all four
  first_fine : (b : Bool) (gs : List Ground) → lowest (unless b 1 ∷ gs) ≡ 0 → b ≡ true
  unfolding lowest
  first_fine true gs e = refl
  first_fine false gs e = let z = (queue-runs.lower_zero 1 (lowest gs) e).0 in absurd (omega arith)

  clock_fine : is_timed number ≡ true → is_time i.clock ≡ true
  unfolding grounds_of
  clock_fine t = go (eqb number 31) (eqb number 32) (eqb number 33) (timed_accepts t)
    where
      go : (u v w : Bool) → lowest (cond u (clock_grounds s i) (cond v (tp_grounds s x i) (cond w (te_grounds s x i) (none_grounds s x i)))) ≡ 0
          → is_time i.clock ≡ true
      go true v w e = first_fine (is_time i.clock) _ e
      go false true w e = first_fine (is_time i.clock) _ e
      go false false true e = first_fine (is_time i.clock) _ e
      go false false false e = first_fine (is_time i.clock) _ e

  tp_grounds_fact : (n : ℕ) → n ≡ 32 → grounds_of n s x i ≡ tp_grounds s x i
  unfolding grounds_of
  tp_grounds_fact n e = rw e

  te_grounds_fact : (n : ℕ) → n ≡ 33 → grounds_of n s x i ≡ te_grounds s x i
  unfolding grounds_of
  te_grounds_fact n e = rw e

  is_timed_fact : (n k : ℕ) → n ≡ k → is_timed k ≡ true → is_timed n ≡ true
  is_timed_fact n k e t = ap is_timed e ∙ t

  tp_clear : number ≡ 32 → Clear (tp_grounds s x i)
  tp_clear z =
      clear (tp_grounds s x i) refl (queue-runs.cleared (tp_grounds s x i) refl
      (ap lowest (sym (tp_grounds_fact number z)) ∙ timed_accepts (is_timed_fact number 32 z refl)))

  te_clear : number ≡ 33 → Clear (te_grounds s x i)
  te_clear z =
      clear (te_grounds s x i) refl (queue-runs.cleared (te_grounds s x i) refl
      (ap lowest (sym (te_grounds_fact number z)) ∙ timed_accepts (is_timed_fact number 33 z refl)))

  -- the time that 32 and 33 bring is one, and their tool a fixed buffer tool
  tp_fine : eqb number 32 ≡ true → (is_time i.time ≡ true) × (fixed ≡ true)
  tp_fine e = let c = tp_clear (eqb-true number 32 e) in (c.1.0, c.1.1.1.1.0)

  te_fine : eqb number 33 ≡ true → (is_time i.time ≡ true) × (fixed ≡ true)
  te_fine e = let c = te_clear (eqb-true number 33 e) in (c.1.0, c.1.1.1.1.0)

  -- ── The times that follow ──
  now_fine : is_time (outcome.times_then s i).now ≡ true
  unfolding times_in_range
  now_fine = go (is_timed number) refl
    where
      go : (w : Bool) → is_timed number ≡ w
          → is_time (cond w (record { now = i.clock; setting = s.times.setting; timeout = s.times.timeout }) s.times).now ≡ true
      go true t = clock_fine t
      go false t = and_l _ _ (and_l _ _ times_are)

  pub times_then : times_in_range (outcome.times_then s i) ≡ true
  unfolding times_in_range
  times_then = go (is_timed number) refl
    where
      go : (w : Bool) → is_timed number ≡ w
          → times_in_range (cond w (record { now = i.clock; setting = s.times.setting; timeout = s.times.timeout }) s.times) ≡ true
      go true t =
          and_i {a = is_time i.clock && is_span s.times.setting}
          (and_i {a = is_time i.clock} (clock_fine t) (and_r (is_time s.times.now) _ (and_l _ _ times_are)))
          (and_r (is_time s.times.now && is_span s.times.setting) _ times_are)
      go false t = times_are

  -- ── The carrier that is named, and then each of them ──
  abbrev then : State
  then = outcome.after s i

  abbrev first : List Prediction
  first = outcome.first s i

  abbrev spot : ℕ
  spot = outcome.spot s i

  facts_are : base-parts.Facts then
  facts_are = facts_then (below_in s i.input).after follows.still

  kind_is : is_fixed then ≡ fixed
  kind_is = follows.kind

  -- taken: rows 6 and 21, whose carrier is at a port afterwards
  then_is : is_timed number ≡ false → then ≡ below_then
  unfolding below_in
  then_is t = rw t

  spot_is : (u : State) → record_of u (see u i.input).stands ≡ carrier_of u (in_bytes i.input.name)
  unfolding see carrier_of
  spot_is u = refl

  spot_named : (eqb number 6 || eqb number 21) ≡ true → spot ≡ (see then i.input).stands
  unfolding outcome.says_of
  spot_named o = rw o

  not_timed : (eqb number 6 || eqb number 21) ≡ true → is_timed number ≡ false
  not_timed o = go (eqb number 6) refl o
    where
      go : (w : Bool) → eqb number 6 ≡ w → (w || eqb number 21) ≡ true → is_timed number ≡ false
      go true e _ = ap is_timed (eqb-true number 6 e)
      go false e o = ap is_timed (eqb-true number 21 o)

  taken_there : (eqb number 6 || eqb number 21) ≡ true → is_fixed then ≡ true → spot < length then.carriers
      → at_port (record_of then spot) ≡ true
  taken_there o f l =
      placed_there then facts_are f spot l
      (ap (λ k. expected (record_of then k)) (spot_named o) ∙ ap expected (spot_is then) ∙ ap (λ u. expected (carrier_of u (in_bytes i.input.name))) (then_is (not_timed o))
      ∙ named_placed (not_timed o) o)

  abbrev here : Carrier
  here = record_of then spot

  own_near : spot < length then.carriers → Near (is_fixed then) here (outcome.own s i)
  unfolding record_of
  own_near l = record {
    near = λ e. written_near here o number (outcome.times_then s i) i.time now_fine (λ z. (tp_fine z).0) (λ z. (te_fine z).0)
        (n.near (sym kind_is ∙ e));
    none = λ e. let f = sym kind_is ∙ e in
        rw (written_none o number (outcome.times_then s i) i.time (other 32 tp_fine f) (other 33 te_fine f) (n.none f)) (n.none f);
  }
    where
      o : Prediction
      o = get_or first spot no_prediction

      n : Near fixed here o
      n = pairs_at follows.near spot l

      other : (k : ℕ) → (eqb number k ≡ true → (is_time i.time ≡ true) × (fixed ≡ true)) → fixed ≡ false → eqb number k ≡ false
      other k fine f = go (eqb number k) refl
        where
          go : (w : Bool) → eqb number k ≡ w → w ≡ false
          go true e = clash (fine e).1 f
          go false e = refl

  pub second_near : Pairs (Near (is_fixed then)) then.carriers (outcome.second s i)
  unfolding record_of
  second_near =
      pairs_put spot (outcome.own_moved s i).prediction (subst (λ b. Pairs (Near b) then.carriers first) (sym kind_is) follows.near)
      (λ l. fit_near then here _ (near_fit then here (outcome.own s i) _ (own_ready number (outcome.times_then s i) _ (is_ready then here))
      (λ f e. taken_there (own_taken number (outcome.times_then s i) _ (is_ready then here) e) f l) (own_near l)))

  third_fits : Pairs (Fit then) then.carriers (outcome.third s i)
  third_fits =
      pairs_along (all_facts number (outcome.times_then s i) then)
      (λ c p n. near_fit then c p (all_facts number (outcome.times_then s i) then c p) (all_ready number (outcome.times_then s i) then c p)
      (λ _ e. clash e (all_untaken number (outcome.times_then s i) then c p)) n) second_near

  pub enact_sound : sound (outcome.enact s i) ≡ true
  unfolding sound
  enact_sound = and_i (and_i follows.still times_then) (pairs_fit then third_fits)

pub sound_after : (s : Predicted) (i : Timed) → sound s ≡ true → sound (outcome.state_after s i) ≡ true
unfolding outcome.state_after
sound_after s i h = go (eqb (answer_in s i) 0) refl
  where
    go : (w : Bool) → eqb (answer_in s i) 0 ≡ w → sound (cond w (outcome.enact s i) s) ≡ true
    go true e = enact_sound s i h (eqb-true _ 0 e)
    go false e = h

pub sound_reached : (s : Predicted) → sound s ≡ true → (run : List Timed) → sound (outcome.reached s run) ≡ true
unfolding outcome.reached
sound_reached s h [] = h
sound_reached s h (i ∷ earlier) = sound_after (outcome.reached s earlier) i (sound_reached s h earlier)
