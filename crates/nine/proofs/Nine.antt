-- Nine reports are enough with predictions.
use Prim.Native.Nat.{ℕ, ◌+◌, ◌≤◌}
use native.Mathlib.Omega.{arith}
use mathlib.Core.Path.{◌≡◌, refl, ap, sym, subst, ◌∙◌}
use mathlib.Core.Bool.{Bool, true, false, cond, ◌||◌}
use mathlib.Core.List.{[], ◌++◌}
use lib.ListN.{length, get_or}
use lib.Dec.{eqb}
use borrow.Author.Tests.{eqb-true}
use Rattle.lists.specs.Lists.{how_many}
use Rattle.lists.proofs.Bools.{clash, and_l}
use Rattle.lists.proofs.Tables.{without_out}
use Rattle.records.specs.declared.carrier.Carrier.{Carrier}
use Rattle.records.specs.Carriers.{at_port}
use Rattle.rules.specs.State.{State, record_of}
use Rattle.rules.specs.Reports.{differences}
use Rattle.rules.proofs.SoundParts as base-parts
use Rattle.rules.proofs.Orderly.{few_at_ports}
use Rattle.follow.specs.Follow.{followed}
use Rattle.maps.proofs.SoundRuns as maps-proofs
use Rattle.queue.specs.State as queue-state
use Rattle.queue.proofs.SoundRuns as queue-runs
use Rattle.queued.proofs.Seven.{no_difference}
use Rattle.prediction.specs.declared.prediction.Prediction.{Prediction}
use Rattle.prediction.specs.Model.{course, last_of, waiting_for_carrier}
use Rattle.prediction.specs.Predictions.{no_prediction}
use Rattle.prediction.specs.State.{Predicted, base_of, Timed, is_fixed, first_prediction}
use Rattle.prediction.specs.Sound.{is_ready, left_at_port, is_none, sound}
use Rattle.prediction.specs.Outcome as outcome
use Rattle.prediction.specs.Outcome.{is_timed, answer_in, all_facts, Below, below_in, reports_in}
use Rattle.prediction.proofs.Pairs.{Pairs, Fit, as_long, pairs_use}
use Rattle.prediction.proofs.Written.{same_state, own_ready, own_taken, all_ready, all_untaken}
use Rattle.prediction.proofs.SoundRuns.{Near, fit_near}
use Rattle.prediction.proofs.Sounds.{queue_part, pairs_part}
use Rattle.nine.proofs.Few.{left_from, left_two, wears_down_fact}
use Rattle.nine.proofs.Together.{told_length, sum, all_told_length, sum_less, sum_twice, sum_put}
use Rattle.nine.proofs.Listed.{number, then, spot, first, own_told, others_told, facts, gone_none, fresh_none, all_parts}
use Rattle.nine.proofs.Listed.{facts_after, first_long}
use Rattle.nine.proofs.Unclocked.{plain_nine}

-- no more carriers are at ports than there are ports
few_at_four : (s : State) → base-parts.Facts s → how_many at_port s.carriers ≤ 4
few_at_four s f = let b = f.few_ports in let n = few_at_ports s f in omega arith

-- only a carrier at a port has states to pass, and two at most
left_at_port_fact : (ready : Bool) (s : State) (c : Carrier) (p : Prediction) → Fit s c p → left_from ready p.state ≤ cond (at_port c) 2 0
unfolding left_from left_at_port is_none
left_at_port_fact ready s c p h = go (is_fixed s) refl
  where
    n : Near (is_fixed s) c p
    n = fit_near s c p h

    waits : (w : Bool) → eqb p.state waiting_for_carrier ≡ w → (v : Bool) → (w || v) ≡ true → left_from ready p.state ≤ cond v 2 0
    waits true e v _ = rw (eqb-true p.state waiting_for_carrier e) (omega arith)
    waits false e true _ = left_two ready p.state
    waits false e false o = clash o refl

    go : (w : Bool) → is_fixed s ≡ w → left_from ready p.state ≤ cond (at_port c) 2 0
    go true f = waits (eqb p.state waiting_for_carrier) refl (at_port c) (n.near f).left
    go false f = rw (eqb-true p.state 0 (and_l _ _ (and_l _ _ (and_l _ _ (and_l _ _ (n.none f)))))) (omega arith)

-- ── 31 to 34: no difference, and two for each carrier at a port ──
module _ (s : Predicted) (i : Timed) (h : sound s ≡ true) (a : answer_in s i ≡ 0) (timed : is_timed (number s i) ≡ true) where
  abbrev t : State
  t = then s i

  abbrev still_below : Below
  still_below = record { after = s.queued; goes = length (base_of s).carriers; made = false }

  still_is : outcome.below s i ≡ still_below
  unfolding below_in
  still_is = rw timed

  no_differences : length (differences (base_of s) t) ≡ 0
  no_differences =
      let b = (maps-proofs.sound_parts s.queued.mapped (queue-runs.sound_parts s.queued (queue_part s h)).mapped).base in
      ap (λ (w : Below). length (differences (base_of s) (queue-state.base_of w.after))) still_is
      ∙ ap length (no_difference (base_of s) b)

  -- how many states a carrier can still pass
  abbrev left : Carrier → Prediction → ℕ
  left c p = left_from (is_ready t c) p.state

  -- nobody is taken, the carrier that is named neither
  untaken : (facts s i).taken ≡ false
  untaken = go (facts s i).taken refl
    where
      six : (w : Bool) → eqb (number s i) 6 ≡ w → (w || eqb (number s i) 21) ≡ true → is_timed (number s i) ≡ false
      six true e _ = ap is_timed (eqb-true (number s i) 6 e)
      six false _ o = ap is_timed (eqb-true (number s i) 21 o)

      go : (w : Bool) → (facts s i).taken ≡ w → w ≡ false
      go true e = clash timed (six (eqb (number s i) 6) refl (own_taken (number s i) (outcome.times_then s i) _ _ e))
      go false e = refl

  -- its own course, then each course: what is passed is less to pass
  own_wears : length (own_told s i) + left (record_of t (spot s i)) (outcome.own_moved s i).prediction
      ≤ left (record_of t (spot s i)) (get_or (first s i) (spot s i) no_prediction)
  own_wears =
      rw (
        told_length (record_of t (spot s i)).name (get_or (first s i) (spot s i) no_prediction).state (outcome.own_moved s i).passed,
        ← same_state (number s i) (outcome.times_then s i) i.time (get_or (first s i) (spot s i) no_prediction),
      )
      (subst (λ r. length (course (facts s i) o) + left_from r (last_of o (course (facts s i) o)) ≤ left_from r o)
      (own_ready (number s i) (outcome.times_then s i) (get_or (first s i) (spot s i) no_prediction) (is_ready t (record_of t (spot s i))))
      (wears_down_fact o (facts s i) untaken))
    where
      o : ℕ
      o = (outcome.own s i).state

  others_wear : length (others_told s i) ≤ sum left t.carriers (outcome.second s i)
  others_wear =
      rw (all_told_length (all_facts (number s i) (outcome.times_then s i) t) t.carriers (outcome.second s i))
      (sum_less _ _ each t.carriers (outcome.second s i))
    where
      each : (c : Carrier) (p : Prediction) → length (course (all_facts (number s i) (outcome.times_then s i) t c p) p.state) ≤ left c p
      each c p =
          let f = all_facts (number s i) (outcome.times_then s i) t c p in
          let r = all_ready (number s i) (outcome.times_then s i) t c p in
          let b = wears_down_fact p.state f (all_untaken (number s i) (outcome.times_then s i) t c p) in
          let c : left_from f.ready p.state ≡ left c p = ap (λ w. left_from w p.state) r in
          omega arith

  all_wear : length (own_told s i) + sum left t.carriers (outcome.second s i) ≤ sum left t.carriers (first s i)
  unfolding record_of left_from
  all_wear = sum_put left (length (own_told s i)) (spot s i) _ t.carriers (first s i) (λ _. refl) own_wears (first_long s i h a)

  -- before that, two for each carrier at a port
  first_left : Pairs (λ c p. left c p ≤ cond (at_port c) 2 0) t.carriers (first s i)
  unfolding followed
  first_left =
      let l = as_long (pairs_part s h) in
      subst Here (sym still_is)
      (rw (without_out s.predictions (length (base_of s).carriers) (omega arith))
      (pairs_use (pairs_part s h) (λ k b p f. left_at_port_fact (is_ready t _) (base_of s) _ p f)))
    where
      Here : Below → Type 0
      Here b = Pairs (λ c p. left c p ≤ cond (at_port c) 2 0) (queue-state.base_of b.after).carriers
          (followed b.goes b.made (first_prediction (base_of s)) s.predictions)

  timed_eight : length (differences (base_of s) t ++ outcome.eight s i) ≤ 8
  timed_eight =
      let l = as_long (pairs_part s h) in
      let d = no_differences in
      let g = gone_none s i (rw still_is (omega arith)) in
      let f = fresh_none s i (rw still_is) in
      let w = all_wear in
      let o = others_wear in
      let b = sum_twice left at_port first_left in
      let c = few_at_four t (facts_after s i h a) in
      rw (all_parts s i) (omega arith)

-- ── Every input ──
pub nine : (s : Predicted) (i : Timed) → sound s ≡ true → length (reports_in s i) ≤ 9
unfolding reports_in
nine s i h = go (eqb (answer_in s i) 0) refl
  where
    accepted : answer_in s i ≡ 0 → (w : Bool) → is_timed i.input.number ≡ w
        → length (differences (base_of s) (then s i) ++ outcome.eight s i) ≤ 9
    accepted a true e = let b = timed_eight s i h a e in omega arith
    accepted a false e = plain_nine s i h a e

    go : (w : Bool) → eqb (answer_in s i) 0 ≡ w → length (cond w (differences (base_of s) (then s i) ++ outcome.eight s i) []) ≤ 9
    go true e = accepted (eqb-true _ 0 e) (is_timed i.input.number) refl
    go false e = omega arith
