-- A run by outcomes is demand 2's run: the entries of its log are the lines of its table.
use Prim.Native.Nat.{ℕ, ◌+◌, ◌≤◌}
use native.Mathlib.Omega.{arith}
use mathlib.Core.Path.{◌≡◌, refl, ap, ap₂, ◌∙◌}
use mathlib.Core.Bool.{Bool, true, false, cond}
use mathlib.Core.List.{List, [], ◌∷◌, ◌++◌}
use lib.ListN.{length}
use lib.Seq.{take_all}
use lib.Dec.{eqb}
use borrow.Author.Tests.{eqb-true}
use Rattle.lists.proofs.Tables.{take_fill}
use Rattle.rules.specs.declared.tool.Tool.{Tool}
use Rattle.rules.specs.declared.report.Report.{Report}
use Rattle.rules.specs.declared.report.Outcome.{Outcome}
use Rattle.rules.specs.State.{State, state_of, start, set_up}
use Rattle.rules.specs.Sound.{sound, sound_tool}
use Rattle.rules.specs.Seen.{Input}
use Rattle.rules.specs.Reports.{no_report, listed, differences}
use Rattle.rules.specs.Outcome.{answer_in, state_after, outcome}
use Rattle.rules.specs.Run.{run, table, line_of}
use Rattle.rules.proofs.Holding.{tool_sound}
use Rattle.rules.proofs.SoundTools.{setup_sound, setup_state, outcome_state, outcome_answer, outcome_reports, tool_sound_after}
use Rattle.machine.proofs.Seven.{seven}
use Rattle.logs.specs.Written.{shown, list_of, input, entries, head_of, log_of}
use Rattle.logs.specs.Judging.{untouched}
use Rattle.logs.proofs.Judged.{after, entries_of}

-- seven suffice, so that the list holds all
listed_back : (l : List Report) → length l ≤ 7 → list_of (listed l) ≡ l
unfolding listed
listed_back l h = rw (take_all 10 l (omega arith)) (take_fill 10 no_report l (omega arith))

line_few : (s : State) (i : Input) → sound s ≡ true → length (line_of s i).reports ≤ 7
line_few s i h = go (eqb (answer_in s i) 0) refl
  where
    go : (b : Bool) → eqb (answer_in s i) 0 ≡ b → length (cond b (differences s (state_after s i)) []) ≤ 7
    go true e = seven s i h (eqb-true _ 0 e)
    go false e = omega arith

module _ (t : Tool) (i : Input) (h : sound_tool t ≡ true) where
  pub shown_is : shown (outcome t i).answer (list_of (outcome t i).reports)
      ≡ shown (line_of (state_of t) i).answer (line_of (state_of t) i).reports
  shown_is =
      ap₂ shown (outcome_answer t i h)
      (ap list_of (outcome_reports t i h) ∙ listed_back (line_of (state_of t) i).reports (line_few (state_of t) i (tool_sound t h)))

pub entries_are : (o : Outcome) (is : List Input) → sound_tool o.tool ≡ true → entries_of o is ≡ entries (table (state_of o.tool) is)
unfolding entries_of entries table
entries_are o [] h = refl
entries_are o (i ∷ is) h =
    let t = o.tool in
    let rest = entries_are (outcome t i) is (tool_sound_after t i h) in
    ap₂ (λ a b. (input i ++ a) ++ b) (shown_is t i h) (rest ∙ ap (λ s. entries (table s is)) (outcome_state t i h))

pub state_after_fact : (o : Outcome) (is : List Input) → sound_tool o.tool ≡ true
    → (sound_tool (after o is).tool ≡ true) × (state_of (after o is).tool ≡ run (state_of o.tool) is)
unfolding after run
state_after_fact o [] h = (h, refl)
state_after_fact o (i ∷ is) h =
    let t = o.tool in
    let r = state_after_fact (outcome t i) is (tool_sound_after t i h) in
    (r.0, r.1 ∙ ap (λ s. run s is) (outcome_state t i h))

-- from set-up on
module _ (P B : ℕ) (yes : (set_up P B).answer ≡ 0) (is : List Input) where
  abbrev begun : Outcome
  begun = untouched (set_up P B).tool

  pub log_is : head_of P B ++ entries_of begun is ≡ log_of P B is
  unfolding log_of
  log_is =
      ap (λ l. head_of P B ++ l)
      (entries_are begun is (setup_sound P B yes) ∙ ap (λ s. entries (table s is)) (setup_state P B yes))

  pub log_long : 7 + length (entries_of begun is) ≡ length (log_of P B is)
  log_long = let e = ap length log_is in omega arith

  pub sound_there : sound_tool (after begun is).tool ≡ true
  sound_there = (state_after_fact begun is (setup_sound P B yes)).0

  pub state_there : state_of (after begun is).tool ≡ run (start P B) is
  state_there = (state_after_fact begun is (setup_sound P B yes)).1 ∙ ap (λ s. run s is) (setup_state P B yes)
