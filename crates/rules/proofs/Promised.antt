-- The promise holds of every run from every valid set-up.
use Prim.Native.Nat.{ℕ, ◌≤◌}
use mathlib.Core.Path.{◌≡◌, refl, ◌∙◌}
use mathlib.Core.Bool.{true}
use mathlib.Core.List.{List, [], ◌∷◌, reverse, reverse_aux}
use Rattle.rules.specs.State.{State, start, state_of, set_up}
use Rattle.rules.specs.Sound.{sound_tool}
use Rattle.rules.specs.Seen.{Input}
use Rattle.rules.specs.Run.{run}
use Rattle.rules.specs.History.{reached, reached_tool}
use Rattle.rules.specs.Promise.{Promise}
use Rattle.rules.proofs.SoundRuns.{sound_run, orderly_run, few_run}
use Rattle.rules.proofs.SoundTools.{tool_sound_after, setup_sound, setup_state, outcome_state}
use Rattle.rules.proofs.Earned.{earned}

pub promised : (P B : ℕ) → 1 ≤ P → P ≤ 4 → B ≤ 16 → (past : List Input) → Promise P B past
promised P B a b c past = record {
  orderly = orderly_run P B a b c past;
  few = few_run P B a b c past;
  earned = earned P B (sound_run P B a b c) past;
}

-- ── The tools that the step returns hold these very states ──
module _ (P B : ℕ) (yes : (set_up P B).answer ≡ 0) where
  -- after a set-up that was accepted every tool that a run reaches is sound
  pub tool_sound : (past : List Input) → sound_tool (reached_tool (set_up P B).tool past) ≡ true
  unfolding reached_tool
  tool_sound [] = setup_sound P B yes
  tool_sound (i ∷ earlier) = tool_sound_after (reached_tool (set_up P B).tool earlier) i (tool_sound earlier)

  -- and holds the state that the run reaches
  pub tool_holds : (past : List Input) → state_of (reached_tool (set_up P B).tool past) ≡ reached (start P B) past
  unfolding reached_tool reached
  tool_holds [] = setup_state P B yes
  tool_holds (i ∷ earlier) = outcome_state (reached_tool (set_up P B).tool earlier) i (tool_sound earlier) ∙ rw (tool_holds earlier)

-- a run read forwards reaches the same state
forwards : (s : State) (is past : List Input) → reached s (reverse_aux is past) ≡ run (reached s past) is
unfolding run reached
forwards s [] past = refl
forwards s (i ∷ is) past = forwards s is (i ∷ past)

pub run_reaches : (s : State) (is : List Input) → reached s (reverse is) ≡ run s is
unfolding reached
run_reaches s is = forwards s is []
