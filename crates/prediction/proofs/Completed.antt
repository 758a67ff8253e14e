-- A carrier that is COMPLETED stays so until its record goes.
use Prim.Native.Nat.{ℕ, ◌<◌}
use native.Mathlib.Omega.{arith}
use mathlib.Core.Path.{◌≡◌, refl, ap, sym, ◌∙◌}
use mathlib.Core.Bool.{Bool, true, false, cond}
use mathlib.Core.List.{List}
use lib.ListN.{length, get_or}
use lib.Dec.{eqb}
use borrow.Author.Tests.{eqb-true}
use Rattle.lists.proofs.Bools.{clash}
use Rattle.lists.proofs.Tables.{without_out}
use Rattle.records.specs.declared.name.Name.{Name}
use Rattle.records.specs.declared.carrier.Carrier.{Carrier}
use Rattle.records.specs.Carriers.{no_carrier}
use Rattle.rules.specs.State.{State, record_of}
use Rattle.rules.specs.Row as row
use Rattle.rules.proofs.Names.{name_same}
use Rattle.follow.specs.Follow.{followed}
use Rattle.queue.specs.State as queue-state
use Rattle.queue.specs.Outcome as queue
use Rattle.queue.proofs.Below.{base_facts}
use Rattle.queue.proofs.SoundRuns as queue-runs
use Rattle.prediction.specs.declared.prediction.Prediction.{Prediction}
use Rattle.prediction.specs.declared.prediction.Facts.{Facts}
use Rattle.prediction.specs.Model.{completed, course, last_of}
use Rattle.prediction.specs.Predictions.{no_prediction}
use Rattle.prediction.specs.State.{Predicted, base_of, Timed, first_prediction}
use Rattle.prediction.specs.Sound.{sound}
use Rattle.prediction.specs.Outcome as outcome
use Rattle.prediction.specs.Outcome.{is_timed, answer_in, along, all_facts, Below, below_in}
use Rattle.prediction.proofs.Modelled.{completed_stays}
use Rattle.prediction.proofs.Effects.{Changes}
use Rattle.prediction.proofs.Pairs.{Pairs, as_long, pairs_all, pairs_set, pairs_without, pairs_new, pairs_put, pairs_at, pairs_along}
use Rattle.prediction.proofs.Written.{same_state}
use Rattle.prediction.proofs.Sounds.{queue_part, pairs_part, changes}

-- whoever has this name is COMPLETED
abbrev Done : Name → Carrier → Prediction → Type 0
Done n c p = c.name ≡ n → p.state ≡ completed

along_done : (n : Name) (c : Carrier) (p : Prediction) (f : Facts) → Done n c p → Done n c (along f p).prediction
unfolding last_of
along_done n c p f h e = ap (λ z. last_of z (course f z)) (h e) ∙ ap (λ l. last_of completed l) (completed_stays f)

-- a record keeps its name, and a new one has another
effect_done : (n : Name) (s t : State) (goes : ℕ) (made : Bool) → Changes s t goes made → (k : ℕ) → k < length s.carriers
    → (record_of s k).name ≡ n → (new : Prediction) (ps : List Prediction) → Pairs (Done n) s.carriers ps
    → Pairs (Done n) t.carriers (followed goes made new ps)
unfolding row.enact followed record_of
effect_done n s t goes made c k l z new ps h =
    let e = c.effect in
    rw (c.leads, c.goes_so, c.made_so)
    (pairs_new e.made e.next new
    (pairs_without e.goes (pairs_set e.changes e.next h (λ b p g q. g (sym (c.apt.named b) ∙ q))))
    (λ m q. clash (name_same _ _ (z ∙ sym q)) (c.apt.fresh m k l)))

module _ (s : Predicted) (h : sound s ≡ true) (k : ℕ) (l : k < length (base_of s).carriers)
    (d : (get_or s.predictions k no_prediction).state ≡ completed) where
  abbrev n : Name
  n = (record_of (base_of s) k).name

  before_done : Pairs (Done n) (base_of s).carriers s.predictions
  unfolding record_of
  before_done =
      let facts = base_facts s.queued.mapped (queue-runs.sound_parts s.queued (queue_part s h)).mapped in
      pairs_all (base_of s).carriers s.predictions (as_long (pairs_part s h))
      (λ j b e. ap (λ m. (get_or s.predictions m no_prediction).state) (facts.names j k b l e) ∙ d)

  module _ (i : Timed) (a : answer_in s i ≡ 0) where
    abbrev FirstDone : Below → Type 0
    FirstDone b = Pairs (Done n) (queue-state.base_of b.after).carriers (followed b.goes b.made (first_prediction (base_of s)) s.predictions)

    still_done : Pairs (Done n) (base_of s).carriers (followed (length (base_of s).carriers) false (first_prediction (base_of s)) s.predictions)
    unfolding followed
    still_done =
        let e = as_long (pairs_part s h) in
        rw (without_out s.predictions (length (base_of s).carriers) (omega arith)) before_done

    first_done : FirstDone (below_in s i.input)
    unfolding below_in
    first_done = go (is_timed i.input.number) refl
      where
        go : (w : Bool) → is_timed i.input.number ≡ w → FirstDone (cond w
            (record { after = s.queued; goes = length (base_of s).carriers; made = false })
            (record {
              after = queue.state_after s.queued i.input;
              goes = queue.goes_in s.queued.mapped (queue.row_in s.queued i.input).stands;
              made = queue.made_in s.queued.mapped (queue.row_in s.queued i.input).stands;
            }))
        go true t = still_done
        go false t = effect_done n _ _ _ _ (changes s i h a t) k l refl (first_prediction (base_of s)) s.predictions before_done

    abbrev then : State
    then = outcome.after s i

    -- the carrier that is named, and then each of them
    own_done : outcome.spot s i < length then.carriers → Done n (get_or then.carriers (outcome.spot s i) no_carrier) (outcome.own_moved s i).prediction
    own_done b =
        along_done n (get_or then.carriers (outcome.spot s i) no_carrier) (outcome.own s i) _
        (λ e. same_state i.input.number (outcome.times_then s i) i.time _ ∙ pairs_at first_done (outcome.spot s i) b e)

    third_done : Pairs (Done n) then.carriers (outcome.third s i)
    third_done =
        pairs_along (all_facts i.input.number (outcome.times_then s i) then)
        (λ c p. along_done n c p (all_facts i.input.number (outcome.times_then s i) then c p))
        (pairs_put (outcome.spot s i) (outcome.own_moved s i).prediction first_done own_done)

  after_done : (i : Timed) → Pairs (Done n) (base_of (outcome.state_after s i)).carriers (outcome.state_after s i).predictions
  unfolding outcome.state_after
  after_done i = go (eqb (answer_in s i) 0) refl
    where
      go : (w : Bool) → eqb (answer_in s i) 0 ≡ w
          → Pairs (Done n) (base_of (cond w (outcome.enact s i) s)).carriers (cond w (outcome.enact s i) s).predictions
      go true e = third_done i (eqb-true _ 0 e)
      go false e = before_done

  -- whoever has its name after an input is COMPLETED
  pub stays_completed : (i : Timed) (j : ℕ) → j < length (base_of (outcome.state_after s i)).carriers
      → (record_of (base_of (outcome.state_after s i)) j).name ≡ (record_of (base_of s) k).name
      → (get_or (outcome.state_after s i).predictions j no_prediction).state ≡ completed
  unfolding record_of
  stays_completed i = pairs_at (after_done i)
