-- Demand 3 over runs with clocks: P5's, read through the run cut down.
use Prim.Native.Nat.{ℕ, ◌+◌, ◌≤◌}
use native.Mathlib.Omega.{arith}
use mathlib.Core.Path.{◌≡◌, refl, ap, sym, subst, ◌∙◌}
use mathlib.Core.Bool.{Bool, true, false, cond}
use mathlib.Core.List.{List, [], ◌∷◌}
use lib.ListN.{length}
use lib.Dec.{eqb}
use borrow.Author.Tests.{leb-true, ne_eqb}
use Rattle.lists.proofs.Bools.{clash, and_l}
use Rattle.records.specs.declared.name.Name.{Name}
use Rattle.rules.specs.State.{record_of}
use Rattle.rules.specs.Seen.{Input}
use Rattle.rules.specs.History.{Event, is_live, history}
use Rattle.rules.specs.Promise.{Live, Orderly}
use Rattle.maps.specs.Promise.{Earned}
use Rattle.maps.proofs.Kept.{live_at, none_live}
use Rattle.queue.specs.State as queue-state
use Rattle.queue.specs.State.{Queued}
use Rattle.queue.specs.Outcome as queue
use Rattle.queue.specs.Projection as queue-runs
use Rattle.queue.specs.Promise as queue-promise
use Rattle.queue.proofs.Same.{Silent, silent_number, Same, alone, both, here, same_earned}
use Rattle.queue.proofs.Promised as queue-promised
use Rattle.prediction.specs.State.{Predicted, base_of, Timed, start}
use Rattle.prediction.specs.Outcome.{is_timed, answer_in, reached}
use Rattle.prediction.specs.Projection.{cut_down}
use Rattle.prediction.specs.Promise.{events, Promise}
use Rattle.prediction.proofs.Projected.{timed_leaves, plain_answers, below}

-- an input that brings a clock is none that demand 3 counts
timed_silent : (n : Name) (e : Event) → is_timed e.input.number ≡ true → Silent n e
timed_silent n e t = silent_number n e (other 5 (omega arith)) (other 6 (omega arith)) (other 16 (omega arith)) (other 20 (omega arith))
  where
    other : (k : ℕ) → k ≤ 30 → eqb e.input.number k ≡ false
    other k b = let l = leb-true 31 e.input.number (and_l _ _ t) in ne_eqb e.input.number k (λ z. omega arith)

module _ (P B setting timeout : ℕ) (lo : 1 ≤ P) (hi : P ≤ 4) (few : B ≤ 16) where
  abbrev begin : Predicted
  begin = start P B setting timeout

  abbrev here_of : List Timed → Name → List Event
  here_of run n = history n (events begin run)

  abbrev there_of : List Timed → Name → List Event
  there_of run n = history n (queue-promise.events (queue-state.start P B) (cut_down run))

  -- the events there, of one input more that goes on below
  there_one : (i : Input) (earlier : List Timed) (n : Name)
      → history n (queue-promise.events (queue-state.start P B) (i ∷ cut_down earlier))
      ≡ record { before = base_of (reached begin earlier); input = i; answer = queue.answer_in (reached begin earlier).queued i }
      ∷ cond (is_live (base_of (reached begin earlier)) n) (there_of earlier n) []
  unfolding queue-promise.events history
  there_one i earlier n = rw (below begin earlier)

  here_one : (i : Timed) (earlier : List Timed) (n : Name)
      → here_of (i ∷ earlier) n
      ≡ record { before = base_of (reached begin earlier); input = i.input; answer = answer_in (reached begin earlier) i }
      ∷ cond (is_live (base_of (reached begin earlier)) n) (here_of earlier n) []
  unfolding events history
  here_one i earlier n = refl

  module _ (i : Timed) (earlier : List Timed) (n : Name) where
    abbrev s : Predicted
    s = reached begin earlier

    abbrev e : ℕ → Event
    e a = record { before = base_of s; input = i.input; answer = a }

    abbrev Before : Type 0
    Before = is_live (base_of s) n ≡ true → Same n (there_of earlier n) (here_of earlier n)

    -- a clock: one event more here
    timed_tells : is_timed i.input.number ≡ true → Before → is_live (base_of s) n ≡ true
        → Same n (there_of earlier n) (here_of (i ∷ earlier) n)
    timed_tells t r l = rw (here_one i earlier n, l) (here (e (answer_in s i)) (timed_silent n (e (answer_in s i)) t) (r l))

    -- any other: the same event
    plain_tells : is_timed i.input.number ≡ false → Before
        → Same n (history n (queue-promise.events (queue-state.start P B) (i.input ∷ cut_down earlier))) (here_of (i ∷ earlier) n)
    plain_tells t r = rw (here_one i earlier n, there_one i.input earlier n, plain_answers s i t) (go (is_live (base_of s) n) refl)
      where
        go : (w : Bool) → is_live (base_of s) n ≡ w
            → Same n (e (queue.answer_in s.queued i.input) ∷ cond w (there_of earlier n) [])
            (e (queue.answer_in s.queued i.input) ∷ cond w (here_of earlier n) [])
        go true l = both (e (queue.answer_in s.queued i.input)) (r l)
        go false l = alone (e (queue.answer_in s.queued i.input))

  same : (run : List Timed) (n : Name) → is_live (base_of (reached begin run)) n ≡ true → Same n (there_of run n) (here_of run n)
  unfolding reached cut_down
  same [] n l = clash l (none_live P B n)
  same (i ∷ earlier) n l = go (is_timed i.input.number) refl (same earlier n)
    where
      go : (w : Bool) → is_timed i.input.number ≡ w → Before i earlier n
          → Same n (history n (queue-promise.events (queue-state.start P B) (cond w (cut_down earlier) (i.input ∷ cut_down earlier))))
          (here_of (i ∷ earlier) n)
      go true t r = timed_tells i earlier n t r (ap (λ (q : Queued). is_live (queue-state.base_of q) n) (sym (timed_leaves (reached begin earlier) i t)) ∙ l)
      go false t r = plain_tells i earlier n t r

  pub promised : (run : List Timed) → Promise P B setting timeout run
  promised run = record {
    orderly = subst (λ (q : Queued). Orderly (queue-state.base_of q)) b p.orderly;
    few = subst (λ (q : Queued). length (queue-state.base_of q).carriers ≤ P + B + 16) b p.few;
    earned = λ k l.
        let c = record_of (base_of (reached begin run)) k in
        same_earned _ _ c (same run c.name (live_at (base_of (reached begin run)) k l)) (there_earned k l);
  }
    where
      b : queue-runs.reached (queue-state.start P B) (cut_down run) ≡ (reached begin run).queued
      b = below begin run

      p : queue-promise.Promise P B (cut_down run)
      p = queue-promised.promised P B lo hi few (cut_down run)

      there_earned : (k : ℕ) → Live (base_of (reached begin run)) k
          → Earned (there_of run (record_of (base_of (reached begin run)) k).name) (record_of (base_of (reached begin run)) k)
      there_earned =
          subst (λ (q : Queued). (k : ℕ) → Live (queue-state.base_of q) k
          → Earned (there_of run (record_of (queue-state.base_of q) k).name) (record_of (queue-state.base_of q) k)) b
          p.earned
