-- An input that brings no clock gives nine reports at most.
use Prim.Native.Nat.{ℕ, ◌≤◌, ◌<◌}
use native.Mathlib.Omega.{arith}
use native.Mathlib.Decide.{ℕ_discrete}
use mathlib.Core.Path.{◌≡◌, refl, ap, sym, subst, ◌∙◌}
use mathlib.Core.Logic.{◌≢◌}
use mathlib.Core.Bool.{Bool, true, false, cond, ◌&&◌}
use mathlib.Core.List.{◌++◌}
use lib.ListN.{length, get_or, get_or-eq_default}
use lib.Seq.{get_or-set_same, get_or-set_other}
use lib.Dec.{eqb, leb}
use borrow.Author.Tests.{eqb-true, leb-true, le-leb}
use Rattle.lists.proofs.Bools.{clash, and_l}
use Rattle.lists.proofs.Tests.{where_one}
use Rattle.records.specs.declared.name.Name.{Name}
use Rattle.records.specs.declared.carrier.Carrier.{Carrier}
use Rattle.records.specs.Names.{same_name, in_bytes}
use Rattle.records.specs.Carriers.{no_carrier}
use Rattle.rules.specs.State.{State, record_of}
use Rattle.rules.specs.Row as row
use Rattle.rules.specs.Seen.{is_named, name_stands, see}
use Rattle.rules.specs.Reports.{differences}
use Rattle.rules.proofs.Names.{name_is, name_same}
use Rattle.rules.proofs.SoundParts as base-parts
use Rattle.queue.specs.Outcome as queue
use Rattle.queued.proofs.Seven.{seven}
use Rattle.prediction.specs.declared.prediction.Prediction.{Prediction}
use Rattle.prediction.specs.Model.{course}
use Rattle.prediction.specs.Predictions.{no_prediction, as_it_is, on_access, on_none}
use Rattle.prediction.specs.State.{Predicted, base_of, Timed, is_fixed}
use Rattle.prediction.specs.Sound.{is_ready, is_none, sound}
use Rattle.prediction.specs.Outcome as outcome
use Rattle.prediction.specs.Outcome.{is_timed, says_of, answer_in, own_facts, all_facts, Below, below_in}
use Rattle.prediction.proofs.Effects.{Changes}
use Rattle.prediction.proofs.Pairs.{as_long, pairs_at}
use Rattle.prediction.proofs.Sounds.{queue_part, pairs_part, changes, second_near}
use Rattle.prediction.proofs.Modelled.{none_quiet}
use Rattle.nine.proofs.Few.{is_overdue, only_overdue_fact, is_judged, one, three}
use Rattle.nine.proofs.Together.{all_told_length, sum_less, count, count_none, count_one}
use Rattle.nine.proofs.Freed.{overdue_in, FreedAt, freed}
use Rattle.nine.proofs.Mild.{Mild, calm, still, mild}
use Rattle.nine.proofs.Cancelled.{Cancels, none_goes, cancels}
use Rattle.nine.proofs.Listed.{number, then, spot, first, own_told, others_told, facts, own_told_fact, all_parts}
use Rattle.nine.proofs.Listed.{gone_one, gone_none, fresh_one, fresh_none}
use Rattle.nine.proofs.Listed.{facts_after, facts_before, first_long, own_not_overdue}

-- where a name stands
stands_at : (s : State) → base-parts.Facts s → (n : Name) (k : ℕ) → k < length s.carriers → (record_of s k).name ≡ n → name_stands s n ≡ k
unfolding name_stands record_of
stands_at s f n k b e =
    where_one (is_named n) s.carriers k no_carrier b (name_same _ _ e) (λ j i o. other j i o (same_name (record_of s j).name n) refl)
  where
    other : (j : ℕ) → j < length s.carriers → j ≢ k → (w : Bool) → same_name (get_or s.carriers j no_carrier).name n ≡ w → w ≡ false
    other j i o true q = absurd (o (f.names j k i b (name_is _ _ q ∙ sym e)))
    other j i o false q = refl

module _ (s : Predicted) (i : Timed) (h : sound s ≡ true) (a : answer_in s i ≡ 0) (plain : is_timed (number s i) ≡ false) where
  abbrev t : State
  t = then s i

  -- ── P5's layer ──
  accepts : queue.answer_in s.queued i.input ≡ 0
  unfolding answer_in
  accepts = rw plain at a

  abbrev plain_below : Below
  plain_below = record {
    after = queue.state_after s.queued i.input;
    goes = queue.goes_in s.queued.mapped (queue.row_in s.queued i.input).stands;
    made = queue.made_in s.queued.mapped (queue.row_in s.queued i.input).stands;
  }

  below_is : outcome.below s i ≡ plain_below
  unfolding below_in
  below_is = rw plain

  changes_then : Changes (base_of s) t (outcome.below s i).goes (outcome.below s i).made
  changes_then = rw below_is (changes s i h a plain)

  seven_then : length (differences (base_of s) t) ≤ 7
  seven_then = rw below_is (seven s.queued i.input (queue_part s h) accepts)

  -- ── Who is overdue when the course of the carrier that is named is over ──
  abbrev OverdueAt : ℕ → Type 0
  OverdueAt k = overdue_in t (get_or t.carriers k no_carrier) (get_or (outcome.second s i) k no_prediction) ≡ true

  same_kind : is_fixed t ≡ is_fixed (base_of s)
  unfolding row.enact
  same_kind = ap is_fixed changes_then.leads

  -- nobody in a tool with a buffer
  fixed_tool : (k : ℕ) → k < length t.carriers → OverdueAt k → is_fixed (base_of s) ≡ true
  unfolding is_none
  fixed_tool k l o = go (is_fixed (base_of s)) refl
    where
      go : (w : Bool) → is_fixed (base_of s) ≡ w → w ≡ true
      go true f = refl
      go false f =
          let n = (pairs_at (second_near s i h a) k l).none (same_kind ∙ f) in
          let z = eqb-true (get_or (outcome.second s i) k no_prediction).state 0 (and_l _ _ (and_l _ _ (and_l _ _ (and_l _ _ n)))) in
          clash o (ap (is_overdue _) z)

  -- another than the one that is named, at the port that became READY TO UNLOAD
  record Left (k : ℕ) : Type 0 where
    another : k ≢ spot s i
    freed_at : FreedAt (base_of s) t changes_then.effect.port (record_of t k).name

  left_overdue : (k : ℕ) → k < length t.carriers → OverdueAt k → Left k
  unfolding record_of
  left_overdue k l o = go (ℕ_discrete k (spot s i))
    where
      go : Dec (k ≡ spot s i) → Left k
      go (yes z) =
          let f = first_long s i h a in
          let b : spot s i < length (first s i) = omega arith in
          let p = get_or-set_same (first s i) (spot s i) (outcome.own_moved s i).prediction no_prediction b in
          clash (subst OverdueAt z o) (ap (overdue_in t (record_of t (spot s i))) p ∙ own_not_overdue s i h a)
      go (no d) = record {
        another = d;
        freed_at =
            freed (base_of s) t (facts_before s i h a) (facts_after s i h a) _ _ changes_then
            s.predictions (fixed_tool k l o) (pairs_part s h) k l
            (rw (get_or-set_other (first s i) (spot s i) k (outcome.own_moved s i).prediction no_prediction d) at o);
      }

  -- each gives one report, and nobody else gives any
  each_few : (c : Carrier) (p : Prediction)
      → length (course (all_facts (number s i) (outcome.times_then s i) t c p) p.state) ≤ cond (overdue_in t c p) 1 0
  unfolding all_facts
  each_few c p = rw plain (only_overdue_fact p.state (is_ready t c))

  others_few : length (others_told s i) ≤ count (overdue_in t) t.carriers (outcome.second s i)
  unfolding count
  others_few =
      rw (all_told_length (all_facts (number s i) (outcome.times_then s i) t) t.carriers (outcome.second s i))
      (sum_less _ _ each_few t.carriers (outcome.second s i))

  nobody_else : ((k : ℕ) → k < length t.carriers → OverdueAt k → ⊥) → length (others_told s i) ≡ 0
  nobody_else n = let b = others_few in let z = count_none (overdue_in t) t.carriers (outcome.second s i) n in omega arith

  -- ── The carrier that is named ──
  -- no row but 6 and 21 names any here
  says_not : eqb (number s i) 6 ≡ false → eqb (number s i) 21 ≡ false → says_of (number s i) ≡ false
  unfolding says_of
  says_not u v = rw (u, v) (go (leb 32 (number s i)) refl)
    where
      go : (w : Bool) → leb 32 (number s i) ≡ w → (w && leb (number s i) 34) ≡ false
      go true e = rw (le-leb 31 (number s i) (let b = leb-true 32 (number s i) e in omega arith)) at plain
      go false e = refl

  unnamed : says_of (number s i) ≡ false → length (own_told s i) ≡ 0
  unnamed n =
      let l = first_long s i h a in
      let z : spot s i ≡ length t.carriers = rw n in
      let p : get_or (first s i) (spot s i) no_prediction ≡ no_prediction = get_or-eq_default (first s i) no_prediction (omega arith) in
      own_told_fact s i
      ∙ ap (λ (q : Prediction). length (course (facts s i) q.state)) p
      ∙ ap length (none_quiet (facts s i))

  own_one : eqb (number s i) 6 ≡ false → length (own_told s i) ≤ 1
  unfolding own_facts
  own_one u = rw (own_told_fact s i) (one p.state (facts s i) (rw u (go (eqb (number s i) 21) (eqb (number s i) 34) refl)))
    where
      p : Prediction
      p = get_or (first s i) (spot s i) no_prediction

      r : Bool
      r = is_ready t (record_of t (spot s i))

      go : (v w : Bool) → eqb (number s i) 34 ≡ w
          → is_judged (cond v (on_access (outcome.times_then s i) r) (cond w (on_none r) (as_it_is r))) ≡ false
      go true w e = refl
      go false true e = clash (ap is_timed (eqb-true (number s i) 34 e)) plain
      go false false e = refl

  -- ── The count ──
  nobody_gone : length (base_of s).carriers ≤ (outcome.below s i).goes → length (outcome.gone s i) ≡ 0
  nobody_gone g = let l = as_long (pairs_part s h) in gone_none s i (omega arith)

  -- every input but CancelCarrier: seven differences, and two of model 8
  mild_nine : eqb (number s i) 6 ≡ false → Mild (number s i) (base_of s) t (outcome.below s i).goes (outcome.below s i).made
      → length (differences (base_of s) t ++ outcome.eight s i) ≤ 9
  mild_nine u (calm v k) =
      let d = seven_then in
      let g = gone_one s i in
      let f = fresh_one s i in
      let o = unnamed (says_not u v) in
      let z = nobody_else (λ j l b. let w = (left_overdue j l b).freed_at in w.before (k _ w.ready)) in
      rw (all_parts s i) (omega arith)
  mild_nine u (still g m) =
      let d = seven_then in
      let n = nobody_gone g in
      let f = fresh_none s i m in
      let o = own_one u in
      let b = others_few in
      let z = count_one (overdue_in t) t.carriers (outcome.second s i) same in
      rw (all_parts s i) (omega arith)
    where
      -- both are the one that the port is tied to
      same : (j k : ℕ) → j < length t.carriers → k < length t.carriers → OverdueAt j → OverdueAt k → j ≡ k
      same j k b l p q = (facts_after s i h a).names j k b l (sym (left_overdue j b p).freed_at.tie ∙ (left_overdue k l q).freed_at.tie)

  named_spot : number s i ≡ 6 → spot s i ≡ name_stands t (in_bytes i.input.name)
  unfolding see says_of
  named_spot e = rw e

  -- CancelCarrier: five differences, one record that is made, three of the carrier that is named; the port is tied to this one
  six_nine : number s i ≡ 6 → length (differences (base_of s) t ++ outcome.eight s i) ≤ 9
  six_nine e =
      let d = c.few in
      let n = nobody_gone (rw goes (omega arith)) in
      let f = fresh_one s i in
      let o : length (own_told s i) ≤ 3 = rw (own_told_fact s i) (three (get_or (first s i) (spot s i) no_prediction).state (facts s i)) in
      let z = nobody_else (λ k l b. let w = left_overdue k l b in w.another (sym (spot_is k l w.freed_at))) in
      rw (all_parts s i) (omega arith)
    where
      c : Cancels (base_of s) t (in_bytes i.input.name)
      c = rw below_is (cancels s.queued i.input (queue_part s h) accepts e)

      goes : (outcome.below s i).goes ≡ length (base_of s).carriers
      goes = rw below_is (none_goes s.queued i.input (queue_part s h) accepts e)

      spot_is : (k : ℕ) → k < length t.carriers → FreedAt (base_of s) t changes_then.effect.port (record_of t k).name → spot s i ≡ k
      spot_is k l w =
          named_spot e ∙ stands_at t (facts_after s i h a) (in_bytes i.input.name) k l (sym w.tie ∙ c.tie _ w.ready w.before)

  pub plain_nine : length (differences (base_of s) t ++ outcome.eight s i) ≤ 9
  plain_nine = go (eqb (number s i) 6) refl
    where
      go : (w : Bool) → eqb (number s i) 6 ≡ w → length (differences (base_of s) t ++ outcome.eight s i) ≤ 9
      go true e = six_nine (eqb-true (number s i) 6 e)
      go false e = mild_nine e (rw below_is (mild s.queued i.input (queue_part s h) accepts e))
