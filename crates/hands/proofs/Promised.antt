-- Demand 3: P7's, read through the run cut down.
use Prim.Native.Nat.{ℕ, ◌+◌, ◌≤◌}
use mathlib.Core.Path.{◌≡◌, refl, ap, sym, subst, ◌∙◌}
use mathlib.Core.Bool.{Bool, true, false, cond, ◌&&◌}
use mathlib.Core.List.{List, [], ◌∷◌, ◌++◌}
use lib.ListN.{length}
use lib.Dec.{eqb}
use borrow.Author.Tests.{eqb-true}
use Rattle.lists.proofs.Bools.{clash}
use Rattle.records.specs.declared.name.Name.{Name}
use Rattle.rules.specs.State.{State, record_of}
use Rattle.rules.specs.Seen.{narrow, see, is_named}
use Rattle.rules.specs.History.{Event, is_live, history}
use Rattle.rules.specs.Promise.{Live, Orderly}
use Rattle.lists.specs.Lists.{any}
use Rattle.maps.specs.Promise.{Earned}
use Rattle.maps.proofs.Kept.{live_at, none_live}
use Rattle.queue.specs.State as queue-state
use Rattle.queue.specs.State.{Queued}
use Rattle.queue.proofs.SoundRuns.{lower_zero}
use Rattle.queue.proofs.Same.{Silent, silent_refused, silent_number, Same, alone, both, here, there, same_earned}
use Rattle.prediction.specs.State as prediction-state
use Rattle.prediction.specs.State.{Predicted, Timed, timed}
use Rattle.prediction.specs.Outcome as prediction
use Rattle.prediction.specs.Promise as prediction-promise
use Rattle.prediction.proofs.Promised as prediction-promised
use Rattle.prediction.proofs.Projected.{timed_leaves, plain_moves}
use Rattle.wafers.specs.Outcome as wafers
use Rattle.wafers.specs.Outcome.{Brought, is_wafers}
use Rattle.wafers.specs.Projection as wafers-runs
use Rattle.wafers.proofs.Projected as wafers-below
use Rattle.hands.specs.State.{Handled, base_of, alarm_of, start}
use Rattle.hands.specs.Rows.{LoadDone, violated}
use Rattle.hands.specs.Outcome.{row_in, answer_below, answer_in, enact, state_after, reached}
use Rattle.hands.specs.Projection.{stands_for, cut_down}
use Rattle.hands.specs.Promise.{events, Promise}
use Rattle.hands.proofs.Walk.{walk}
use Rattle.hands.proofs.Projected.{below}
use Rattle.hands.proofs.Loaded.{queued_leaves}

-- a state with the same records has the same live names
live_same : (s t : State) (n : Name) → t.carriers ≡ s.carriers → is_live t n ≡ true → is_live s n ≡ true
unfolding is_live
live_same s t n e l = ap (λ cs. any (is_named n) cs) (sym e) ∙ l

module _ (P B setting timeout : ℕ) (lo : 1 ≤ P) (hi : P ≤ 4) (few : B ≤ 16) where
  abbrev begin : Handled
  begin = start P B setting timeout

  abbrev there_begin : Predicted
  there_begin = prediction-state.start P B setting timeout

  -- the run of P7's layer
  abbrev lowered : List Brought → List Timed
  lowered run = wafers-runs.cut_down (cut_down begin run)

  all_below : (run : List Brought) → prediction.reached there_begin (lowered run) ≡ (reached begin run).predicted
  all_below run = sym (wafers-below.below there_begin (cut_down begin run)) ∙ below begin run

  abbrev here_of : List Brought → Name → List Event
  here_of run n = history n (events begin run)

  abbrev there_of : List Timed → Name → List Event
  there_of run n = history n (prediction-promise.events there_begin run)

  module _ (i : Brought) (earlier : List Brought) (n : Name) where
    abbrev s : Handled
    s = reached begin earlier

    abbrev p : Predicted
    p = s.predicted

    abbrev e : Event
    e = record { before = base_of s; input = i.timed.input; answer = answer_in s i }

    abbrev Before : Type 0
    Before = is_live (base_of s) n ≡ true → Same n (there_of (lowered earlier) n) (here_of earlier n)

    -- the event here, and the history there by what the input stands for
    abbrev Tells : List Timed → Type 0
    Tells stands = Same n (there_of (stands ++ lowered earlier) n) (e ∷ cond (is_live (base_of s) n) (here_of earlier n) [])

    here_one : here_of (i ∷ earlier) n ≡ e ∷ cond (is_live (base_of s) n) (here_of earlier n) []
    unfolding events history
    here_one = refl

    there_one : (j : Timed)
        → there_of (j ∷ lowered earlier) n
        ≡ record { before = base_of s; input = j.input; answer = prediction.answer_in p j } ∷ cond (is_live (base_of s) n) (there_of (lowered earlier) n) []
    unfolding prediction-promise.events history
    there_one j = rw (all_below earlier)

    module _ (r : Before) where
      -- an input that stands for none
      none_tells : Silent n e → is_live (base_of s) n ≡ true → Tells []
      none_tells q l = rw l (here e q (r l))

      -- one that stands for itself
      passed_tells : answer_in s i ≡ 0 → prediction.answer_in p i.timed ≡ 0 → Tells (i.timed ∷ [])
      passed_tells a b = rw (there_one i.timed, a, b) (go (is_live (base_of s) n) refl)
        where
          go : (w : Bool) → is_live (base_of s) n ≡ w
              → Same n (record { before = base_of s; input = i.timed.input; answer = 0 } ∷ cond w (there_of (lowered earlier) n) [])
              (record { before = base_of s; input = i.timed.input; answer = 0 } ∷ cond w (here_of earlier n) [])
          go true l = both _ (r l)
          go false l = alone _

      -- one that stands for another, which neither verifies nor cancels anybody
      other_tells : Silent n e → (j : Timed)
          → Silent n (record { before = base_of s; input = j.input; answer = prediction.answer_in p j })
          → is_live (base_of s) n ≡ true → Tells (j ∷ [])
      other_tells q j o l = rw (there_one j, l) (here e q (there _ o (r l)))

      silent_row : (k : ℕ) → i.timed.input.number ≡ k → eqb k 5 ≡ false → eqb k 6 ≡ false → eqb k 16 ≡ false → eqb k 20 ≡ false → Silent n e
      silent_row k z a b c d = silent_number n e (rw z a) (rw z b) (rw z c) (rw z d)

      -- ── What P8's layer makes of the input, as it is ──
      abbrev Told : List Brought → Type 0
      Told l = answer_below p l ≡ 0 → is_live (prediction-state.base_of (wafers.reached p l)) n ≡ true → Tells (wafers-runs.cut_down l)

      itself_tells : answer_in s i ≡ 0 → Told (i ∷ [])
      unfolding answer_below wafers-runs.cut_down wafers.reached wafers.state_after prediction.reached wafers.stands_for
      itself_tells a z l = go (is_wafers i) refl (wafers.fits i && wafers.good i) refl z l
        where
          go : (w : Bool) → is_wafers i ≡ w → (g : Bool) → (wafers.fits i && wafers.good i) ≡ g → wafers.answer_in p i ≡ 0
              → is_live (prediction-state.base_of (prediction.reached p (cond w (cond g (wafers.with_tp i (wafers.tp_of i) ∷ []) []) (i.timed ∷ [])))) n ≡ true
              → Tells (cond w (cond g (wafers.with_tp i (wafers.tp_of i) ∷ []) []) (i.timed ∷ []) ++ [])
          go true w true g z l =
              other_tells (silent_row 35 (eqb-true _ 35 w) refl refl refl refl) (wafers.with_tp i (wafers.tp_of i)) (silent_number n _ refl refl refl refl)
              (ap (λ (q : Queued). is_live (queue-state.base_of q) n) (sym (timed_leaves p (wafers.with_tp i (wafers.tp_of i)) refl)) ∙ l)
          go true w false g z l = none_tells (silent_row 35 (eqb-true _ 35 w) refl refl refl refl) l
          go false w g q z l =
              passed_tells a (sym (wafers-below.answers_below p i i.timed (rw w)) ∙ z)

      -- Continue stands for LoadDone
      continue_tells : i.timed.input.number ≡ 36 → Told (LoadDone i.timed.input.port ∷ [])
      unfolding answer_below wafers-runs.cut_down wafers.reached wafers.state_after prediction.reached wafers.stands_for
      continue_tells k z l =
          let j = (LoadDone i.timed.input.port).timed in
          let moved = ap queue-state.base_of (plain_moves p j refl) in
          other_tells (silent_row 36 k refl refl refl refl) j (silent_number n _ refl refl refl refl)
          (live_same (base_of s) _ n (ap (λ (t : State). t.carriers) moved ∙ queued_leaves p.queued i.timed.input.port) l)

      held_tells : i.timed.input.number ≡ 14 → Told []
      unfolding wafers-runs.cut_down wafers.reached
      held_tells k z l = none_tells (silent_row 14 k refl refl refl refl) l

      -- ── Row by row ──
      refused_tells : Silent n e → is_live (base_of s) n ≡ true → Tells (wafers-runs.cut_down [])
      unfolding wafers-runs.cut_down
      refused_tells = none_tells

      done_tells : answer_in s i ≡ 0 → i.timed.input.number ≡ 14 → (w : Bool) → Told (cond w [] (i ∷ []))
      done_tells a k true = held_tells k
      done_tells a k false = itself_tells a

      rows_tell : answer_in s i ≡ 0 → Told (row_in s i).stands
      rows_tell a = walk (λ w. Told w.stands) i.timed.input.number (see (base_of s) i.timed.input) _ i (record {
        load_start = λ _. itself_tells a;
        load_done = λ k. done_tells a k (violated (see (base_of s) i.timed.input) (alarm_of s (narrow i.timed.input.port)));
        unload_start = λ _. itself_tells a;
        continue_row = continue_tells;
        other = itself_tells a;
      })

      below_zero : answer_in s i ≡ 0 → answer_below p (row_in s i).stands ≡ 0
      unfolding answer_in
      below_zero a = (lower_zero _ _ a).1

      same_after : is_live (base_of (state_after s i)) n ≡ true → Same n (there_of (lowered (i ∷ earlier)) n) (here_of (i ∷ earlier) n)
      unfolding cut_down stands_for state_after
      same_after l = rw (here_one, wafers-below.cut_on (stands_for s i) (cut_down begin earlier)) (go (eqb (answer_in s i) 0) refl l)
        where
          go : (w : Bool) → eqb (answer_in s i) 0 ≡ w → is_live (base_of (cond w (enact s i) s)) n ≡ true
              → Tells (wafers-runs.cut_down (cond w (row_in s i).stands []))
          go true a l = rows_tell (eqb-true _ 0 a) (below_zero (eqb-true _ 0 a)) l
          go false a l = refused_tells (silent_refused n e a) l

  same : (run : List Brought) (n : Name) → is_live (base_of (reached begin run)) n ≡ true → Same n (there_of (lowered run) n) (here_of run n)
  unfolding reached
  same [] n l = clash l (none_live P B n)
  same (i ∷ earlier) n l = same_after i earlier n (same earlier n) l

  pub promised : (run : List Brought) → Promise P B setting timeout run
  promised run = record {
    orderly = subst (λ (t : Predicted). Orderly (prediction-state.base_of t)) b k.orderly;
    few = subst (λ (t : Predicted). length (prediction-state.base_of t).carriers ≤ P + B + 16) b k.few;
    earned = λ j l.
        let c = record_of (base_of (reached begin run)) j in
        same_earned _ _ c (same run c.name (live_at (base_of (reached begin run)) j l)) (there_earned j l);
  }
    where
      b : prediction.reached there_begin (lowered run) ≡ (reached begin run).predicted
      b = all_below run

      k : prediction-promise.Promise P B setting timeout (lowered run)
      k = prediction-promised.promised P B setting timeout lo hi few (lowered run)

      there_earned : (j : ℕ) → Live (base_of (reached begin run)) j
          → Earned (there_of (lowered run) (record_of (base_of (reached begin run)) j).name) (record_of (base_of (reached begin run)) j)
      there_earned =
          subst (λ (t : Predicted). (j : ℕ) → Live (prediction-state.base_of t) j
          → Earned (there_of (lowered run) (record_of (prediction-state.base_of t) j).name) (record_of (prediction-state.base_of t) j)) b
          k.earned
