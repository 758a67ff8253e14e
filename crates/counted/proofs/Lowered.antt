-- What is gathered of a run of the whole machine: a held LoadDone adds nothing, and Continue adds LoadDone.
use Prim.Native.Nat.{ℕ, ◌+◌, ◌≤◌}
use native.Mathlib.Omega.{arith}
use mathlib.Core.Path.{◌≡◌, refl, ap, ap₂, sym, ◌∙◌}
use mathlib.Core.Logic.{◌≢◌}
use mathlib.Core.Bool.{Bool, true, false, cond, ◌&&◌}
use mathlib.Core.List.{List, [], ◌∷◌, ◌++◌}
use lib.Dec.{eqb}
use borrow.Author.Tests.{eqb-true, eqb-false, eq-eqb}
use Rattle.lists.specs.Lists.{how_many}
use Rattle.records.specs.Ports.{loading}
use Rattle.rules.specs.declared.row.Seen.{Seen}
use Rattle.rules.specs.State as base-state
use Rattle.rules.specs.State.{port_of}
use Rattle.rules.specs.History as base-runs
use Rattle.rules.specs.Seen.{Input, narrow, see}
use Rattle.queue.proofs.SoundRuns.{lower_zero}
use Rattle.prediction.specs.State.{Predicted}
use Rattle.wafers.specs.Outcome as wafers
use Rattle.wafers.specs.Outcome.{Brought}
use Rattle.hands.specs.declared.alarm.Alarm.{Alarm}
use Rattle.hands.specs.State.{Handled, base_of, alarm_of, start}
use Rattle.hands.specs.Rows.{LoadDone, violated, row_of}
use Rattle.hands.specs.Outcome.{row_in, answer_below, answer_in, reached}
use Rattle.hands.specs.Projection.{stands_for, cut_down}
use Rattle.hands.proofs.Projected.{below}
use Rattle.hands.proofs.Nobody.{projected}
use Rattle.tally.specs.Count as tally
use Rattle.tally.specs.Count.{Entry, went_out, pods_here}
use Rattle.tally.proofs.Lists.{one}
use Rattle.tally.proofs.Counted as tally-proofs
use Rattle.counted.specs.Count.{entries, mode_of}
use Rattle.counted.proofs.Gathered.{gathered, one_gathered, same_gathered, taken, loading_read, mode_taken, went_taken}
use Rattle.counted.proofs.Modes.{adds, came_run, went_run, mode_run, load_run}
use Rattle.counted.proofs.Layers.{brought_adds, lowered, same_below}

-- ── One input ──
-- a held LoadDone stands for none, Continue for LoadDone, any other for itself
pub stands_or : (n : ℕ) (x : Seen) (a : Alarm) (i : Brought) (Q : List Brought → Type 0)
    → (n ≡ 14 → violated x a ≡ true → Q []) → (n ≡ 36 → Q (LoadDone i.timed.input.port ∷ []))
    → (n ≢ 36 → (n ≡ 14 → violated x a ≡ false) → Q (i ∷ [])) → Q (row_of n x a i).stands
unfolding row_of
stands_or n x a i Q held on itself = go (eqb n 13) refl (eqb n 14) refl (eqb n 24) refl (eqb n 36) refl
  where
    done : n ≡ 14 → (v : Bool) → violated x a ≡ v → Q (cond v [] (i ∷ []))
    done e true w = held e w
    done e false w = itself (λ z. omega arith) (λ _. w)

    go : (u : Bool) → eqb n 13 ≡ u → (v : Bool) → eqb n 14 ≡ v → (w : Bool) → eqb n 24 ≡ w → (z : Bool) → eqb n 36 ≡ z
        → Q (cond u (row_of 13 x a i) (cond v (row_of 14 x a i) (cond w (row_of 13 x a i) (cond z (row_of 36 x a i) (row_of 0 x a i))))).stands
    go true e v f w g z h = let k = eqb-true n 13 e in itself (λ o. omega arith) (λ o. absurd (omega arith))
    go false e true f w g z h = done (eqb-true n 14 f) (violated x a) refl
    go false e false f true g z h = let k = eqb-true n 24 g in itself (λ o. omega arith) (λ o. absurd (omega arith))
    go false e false f false g true h = on (eqb-true n 36 h)
    go false e false f false g false h = itself (eqb-false n 36 h) (λ o. absurd (eqb-false n 14 f o))

-- what the input below adds, which is accepted
unfoldable pub took : List Brought → List Entry
took [] = []
took (j ∷ l) = taken true j.timed.input

module _ (s : Handled) (i : Brought) where
  unfoldable pub keeps : List Entry
  keeps = cond (eqb (answer_in s i) 0) (took (row_in s i).stands) []

  pub below_accepts : answer_in s i ≡ 0 → answer_below s.predicted (row_in s i).stands ≡ 0
  unfolding answer_in
  below_accepts a = (lower_zero _ _ a).1

  abbrev number : ℕ
  number = i.timed.input.number

  -- LoadDone is held
  abbrev pub holds : Bool
  holds = violated (see (base_of s) i.timed.input) (alarm_of s (narrow i.timed.input.port))

  -- the four ways of an input: refused; a held LoadDone; Continue; any other
  pub record Ways (Q : List Entry → Type 0) : Type 0 where
    pub refused : eqb (answer_in s i) 0 ≡ false → Q []
    pub held : eqb (answer_in s i) 0 ≡ true → number ≡ 14 → holds ≡ true → Q []
    pub continues : eqb (answer_in s i) 0 ≡ true → number ≡ 36 → Q (took (LoadDone i.timed.input.port ∷ []))
    pub itself : eqb (answer_in s i) 0 ≡ true → number ≢ 36 → (number ≡ 14 → holds ≡ false) → Q (taken true i.timed.input)

  pub keeps_or : (Q : List Entry → Type 0) → Ways Q → Q keeps
  unfolding keeps took
  keeps_or Q ways = go (eqb (answer_in s i) 0) refl
    where
      go : (w : Bool) → eqb (answer_in s i) 0 ≡ w → Q (cond w (took (row_in s i).stands) [])
      go true a = stands_or number _ _ i (λ l. Q (took l)) (ways.held a) (ways.continues a) (ways.itself a)
      go false a = ways.refused a

-- what a run from s keeps
abbrev pub kept : Handled → List Brought → List Entry
kept s run = gathered (λ earlier i. keeps (reached s earlier) i) run

-- ── It is what is gathered below ──
module _ (begin : Handled) (earlier : List Brought) (i : Brought) where
  abbrev now : Handled
  now = reached begin earlier

  abbrev then : List Brought → Brought → List Entry
  then l j = brought_adds begin.predicted (l ++ cut_down begin earlier) j

  one_adds : (j : Brought) → answer_below now.predicted (j ∷ []) ≡ 0 → gathered then (j ∷ []) ≡ took (j ∷ [])
  unfolding answer_below took
  one_adds j z =
      one_gathered then j
      ∙ ap (λ w. taken w j.timed.input)
      (ap (λ (p : Predicted). eqb (wafers.answer_in p j) 0) (below begin earlier) ∙ eq-eqb _ 0 z)

  same_here : gathered then (stands_for now i) ≡ keeps now i
  unfolding stands_for keeps gathered took
  same_here = go (eqb (answer_in now i) 0) refl
    where
      rows : answer_below now.predicted (row_in now i).stands ≡ 0 → gathered then (row_in now i).stands ≡ took (row_in now i).stands
      rows =
          stands_or i.timed.input.number _ _ i (λ l. answer_below now.predicted l ≡ 0 → gathered then l ≡ took l)
          (λ _ _ _. refl) (λ _. one_adds _) (λ _ _. one_adds i)

      go : (w : Bool) → eqb (answer_in now i) 0 ≡ w → gathered then (cond w (row_in now i).stands []) ≡ cond w (took (row_in now i).stands) []
      go true a = rows (below_accepts now i (eqb-true _ 0 a))
      go false a = refl

-- and so of document 01's run, which reaches the same ports and carriers
module _ (P B setting timeout : ℕ) (lo : 1 ≤ P) (hi : P ≤ 4) (few : B ≤ 16) (run : List Brought) where
  abbrev first : Handled
  first = start P B setting timeout

  abbrev lowest : List Input
  lowest = lowered P B (cut_down first run)

  same_kept : gathered (adds (base-state.start P B)) lowest ≡ kept first run
  unfolding cut_down
  same_kept =
      same_below P B setting timeout lo hi few (cut_down first run)
      ∙ same_gathered (brought_adds first.predicted) (λ earlier i. keeps (reached first earlier) i)
      (cut_down first) (λ earlier i. stands_for (reached first earlier) i) refl (λ _ _. refl) (same_here first) run

  same_state : base-runs.reached (base-state.start P B) lowest ≡ base_of (reached first run)
  same_state = projected P B setting timeout lo hi few run

  pub mode_kept : (p : ℕ) → (port_of (base_of (reached first run)) p).access ≡ mode_of p (kept first run)
  mode_kept p = ap (λ t. (port_of t p).access) (sym same_state) ∙ mode_run P B lo hi few p lowest ∙ ap (mode_of p) same_kept

  pub load_kept : (p : ℕ) → loading (port_of (base_of (reached first run)) p) ≡ loading_read p (kept first run)
  load_kept p = ap (λ t. loading (port_of t p)) (sym same_state) ∙ load_run P B lo hi few p lowest ∙ ap (loading_read p) same_kept

  pub count_kept : tally.came_in (kept first run) ≡ went_out (kept first run) + pods_here (base_of (reached first run))
  count_kept =
      ap tally.came_in (sym same_kept)
      ∙ sym (came_run (base-state.start P B) lowest)
      ∙ (tally-proofs.counted P B lo hi few lowest).all
      ∙ ap₂ ◌+◌ (went_run (base-state.start P B) lowest ∙ ap went_out same_kept) (ap pods_here same_state)

-- ── The log says the same ──
module _ (s : Handled) where
  pub mode_log : (p : ℕ) (run : List Brought) → mode_of p (entries s run) ≡ mode_of p (kept s run)
  unfolding entries gathered mode_of took taken
  mode_log p [] = refl
  mode_log p (i ∷ earlier) =
      let t = reached s earlier in
      let n = i.timed.input.number in
      let port = narrow i.timed.input.port in
      let value = narrow i.timed.input.value in
      keeps_or t i
      (λ l. cond (eqb (answer_in t i) 0 && eqb n 9 && eqb port p) value (mode_of p (entries s earlier)) ≡ mode_of p (l ++ kept s earlier))
      (record {
        refused = λ a. rw a (mode_log p earlier);
        held = λ a e _. rw (a, ap (λ k. eqb k 9) e) (mode_log p earlier);
        continues = λ a e. rw (a, ap (λ k. eqb k 9) e) (mode_log p earlier);
        itself = λ a _ _. rw (a, mode_log p earlier) (sym (mode_taken i.timed.input (kept s earlier) p true));
      })

  pub went_log : (run : List Brought) → went_out (entries s run) ≡ went_out (kept s run)
  unfolding entries gathered went_out how_many took taken
  went_log [] = refl
  went_log (i ∷ earlier) =
      let t = reached s earlier in
      let n = i.timed.input.number in
      let r = went_log earlier in
      keeps_or t i
      (λ l. one (eqb (answer_in t i) 0 && eqb n 25) + went_out (entries s earlier) ≡ went_out (l ++ kept s earlier))
      (record {
        refused = λ a. rw a (omega arith);
        held = λ a e _. rw (a, ap (λ k. eqb k 25) e) (omega arith);
        continues = λ a e. rw (a, ap (λ k. eqb k 25) e) (omega arith);
        itself = λ a _ _. rw (a, r) (sym (went_taken i.timed.input (kept s earlier) true));
      })
