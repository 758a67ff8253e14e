-- LoadStart is accepted only where the port is READY TO LOAD; while it is loading, only some inputs there change its load or its alarm.
use Prim.Native.Nat.{ℕ}
use native.Mathlib.Omega.{arith}
use mathlib.Core.Path.{◌≡◌, refl, ap, sym, ◌∙◌}
use mathlib.Core.Logic.{◌≢◌}
use mathlib.Core.Bool.{Bool, true, false, cond, ◌&&◌}
use mathlib.Core.List.{List, [], ◌∷◌, ◌++◌}
use lib.Dec.{eqb}
use borrow.Author.Tests.{eqb-true, eqb-false, eq-eqb, ne_eqb}
use Rattle.lists.proofs.Bools.{clash, and_l, and_r, and_i}
use Rattle.records.specs.Ports.{ready_to_load}
use Rattle.rules.specs.declared.row.Seen.{Seen}
use Rattle.rules.specs.State.{port_of}
use Rattle.rules.specs.Seen.{Input, narrow, see}
use Rattle.rules.specs.Row.{judge}
use Rattle.rules.specs.Transfer.{load_start}
use Rattle.rules.specs.Rows as base
use Rattle.rules.proofs.Accepts.{clear}
use Rattle.maps.specs.Projection as maps-runs
use Rattle.maps.proofs.Amended.{accepted_there}
use Rattle.queue.specs.State.{Queued}
use Rattle.queue.specs.Rows as queue-rows
use Rattle.queue.specs.Outcome as queue
use Rattle.queue.proofs.SoundRuns.{last_zero, below_zero}
use Rattle.prediction.proofs.Projected.{plain_answers}
use Rattle.wafers.specs.Outcome as wafers
use Rattle.wafers.specs.Outcome.{Brought}
use Rattle.hands.specs.State.{Handled, base_of}
use Rattle.hands.specs.Rows.{LoadDone}
use Rattle.hands.specs.Outcome.{answer_below, answer_in}
use Rattle.hands.specs.Host as host
use Rattle.hands.specs.Host.{step_of}
use Rattle.tally.specs.Count.{Entry}
use Rattle.counted.proofs.Gathered.{turns_load, taken, loading_read, load_taken}
use Rattle.counted.proofs.Lowered.{stands_or, took, keeps, below_accepts, keeps_or}

-- ── LoadStart is accepted only at READY TO LOAD ──
start_there : (n : ℕ) (x : Seen) → n ≡ 13 → base.row_of n x ≡ load_start x
unfolding base.row_of
start_there n x e = rw e

queue_start : (q : Queued) (i : Input) → i.number ≡ 13 → (queue.row_in q i).stands ≡ i ∷ []
unfolding queue-rows.row_of
queue_start q i e = rw e

queue_ready : (q : Queued) (i : Input) → i.number ≡ 13 → queue.answer_in q i ≡ 0 → ready_to_load (port_of q.mapped.base (narrow i.port)) ≡ true
unfolding maps-runs.reached see
queue_ready q i n a =
    let x = see q.mapped.base i in
    let z = below_zero q i (eq-eqb _ 0 a) in
    let m = last_zero q.mapped i [] (ap (queue.answers_in q.mapped) (sym (queue_start q i n)) ∙ z) in
    let g : judge (load_start x).grounds ≡ 0 = ap (λ r. judge r.grounds) (sym (start_there i.number x n)) ∙ accepted_there q.mapped i m in
    (clear (load_start x).grounds refl g).1.0

module _ (s : Handled) (i : Brought) (n : i.timed.input.number ≡ 13) (a : answer_in s i ≡ 0) where
  pub start_ready : ready_to_load (port_of (base_of s) (narrow i.timed.input.port)) ≡ true
  unfolding answer_below wafers.answer_in
  start_ready =
      stands_or i.timed.input.number _ _ i
      (λ l. answer_below s.predicted l ≡ 0 → ready_to_load (port_of (base_of s) (narrow i.timed.input.port)) ≡ true)
      (λ z. absurd (omega arith)) (λ z. absurd (omega arith))
      (λ _ _ z.
      queue_ready s.predicted.queued i.timed.input n
      (sym (plain_answers s.predicted i.timed (rw n)) ∙ (rw (ne_eqb i.timed.input.number 35 (λ o. omega arith)) at z)))
      (below_accepts s i a)

-- ── While a port is loading, an input that isn't LoadStart there leaves its alarm ──
module _ (s : Handled) (i : Brought) (p : ℕ) (log : List Entry) where
  abbrev port : ℕ
  port = narrow i.timed.input.port

  abbrev number : ℕ
  number = i.timed.input.number

  -- it was loading before, and the input is no LoadFail, UnloadStart or Continue there
  pub record Loads : Type 0 where
    pub before : loading_read p log ≡ true
    pub away : eqb (answer_in s i) 0 ≡ true → port ≡ p → (number ≢ 15) × (number ≢ 24) × (number ≢ 36)

  -- a choice that holds where its first part fails
  second : (b c l : Bool) → cond b c l ≡ true → (b ≡ true → c ≡ false) → (b ≡ false) × (l ≡ true)
  second true c l e f = clash e (f refl)
  second false c l e f = (refl, e)

  continue_loads : number ≡ 36 → loading_read p (took (LoadDone i.timed.input.port ∷ []) ++ log) ≡ true → Loads
  unfolding took
  continue_loads n e =
      let t = second (eqb port p) false (loading_read p log) (sym (load_taken (LoadDone i.timed.input.port).timed.input log p true) ∙ e) (λ _. refl) in
      record { before = t.1; away = λ _ z. absurd (eqb-false port p t.0 z) }

  itself_loads : number ≢ 36 → (number ≡ 13 → port ≢ p) → loading_read p (taken true i.timed.input ++ log) ≡ true → Loads
  itself_loads d n e =
      let t =
      second (turns_load number && eqb port p) (eqb number 13) (loading_read p log) (sym (load_taken i.timed.input log p true) ∙ e)
      (λ z. ne_eqb number 13 (λ o. n o (eqb-true port p (and_r (turns_load number) _ z)))) in
      record {
        before = t.1;
        away = λ _ z.
            let out : (k : ℕ) → turns_load k ≡ true → number ≢ k =
            λ k c o. clash (and_i (ap turns_load o ∙ c) (eq-eqb port p z)) t.0 in
            (out 15 refl, out 24 refl, d);
      }

  pub loads : (eqb (answer_in s i) 0 ≡ true → number ≡ 13 → port ≢ p) → loading_read p (keeps s i ++ log) ≡ true → Loads
  loads n = keeps_or s i (λ l. loading_read p (l ++ log) ≡ true → Loads) (record {
    refused = λ r e. record { before = e; away = λ a. clash a r };
    held = λ _ o _ e. record { before = e; away = λ _ _. (λ z. omega arith, λ z. omega arith, λ z. omega arith) };
    continues = λ _ o. continue_loads o;
    itself = λ a d _. itself_loads d (n a);
  })

  -- the step that it is, and rows that it isn't there
  done_says : (k : ℕ) → host.done_at k p (step_of s i) ≡ true → (eqb (answer_in s i) 0 ≡ true) × (port ≡ p) × (number ≡ k)
  done_says k d =
      let b = and_l (eqb (answer_in s i) 0 && eqb port p) _ d in
      (and_l _ _ b, eqb-true port p (and_r (eqb (answer_in s i) 0) _ b), eqb-true number k (and_r (eqb (answer_in s i) 0 && eqb port p) _ d))

  pub not_done : (k : ℕ) → (eqb (answer_in s i) 0 ≡ true → port ≡ p → number ≢ k) → host.done_at k p (step_of s i) ≡ false
  not_done k n = go (host.done_at k p (step_of s i)) refl
    where
      go : (w : Bool) → host.done_at k p (step_of s i) ≡ w → w ≡ false
      go true d = let c = done_says k d in absurd (n c.0 c.1 c.2)
      go false d = refl
