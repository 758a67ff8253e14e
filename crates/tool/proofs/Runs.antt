-- Every input keeps a sound tool sound; after a set-up that was accepted the tools hold the states of the definitions.
use Prim.Native.Nat.{ℕ, zero, suc, ◌≤◌}
use mathlib.Core.Path.{◌≡◌, refl, ◌∙◌}
use native.Mathlib.Omega.{arith}
use mathlib.Core.Bool.{Bool, true, false, cond, ◌&&◌}
use mathlib.Core.List.{List, [], ◌∷◌}
use lib.ListN.{replicate}
use lib.Dec.{eqb, leb}
use borrow.Author.Tests.{eqb-true, leb-true}
use Rattle.lists.specs.Lists.{every, between}
use Rattle.lists.proofs.Bools.{and_l, and_r, and_i}
use Rattle.rules.specs.declared.tool.Setup as base-setup
use Rattle.rules.specs.State as base
use Rattle.passes.specs.Passes.{is_zero}
use Rattle.prediction.specs.Sound.{is_span}
use Rattle.wafers.specs.Outcome.{Brought}
use Rattle.hands.specs.State.{state_of, start}
use Rattle.hands.specs.Sound.{sound_tool}
use Rattle.hands.specs.Outcome.{state_after, reached}
use Rattle.hands.proofs.SoundTools.{setup_sound, setup_state, given_state, given_sound}
use Rattle.tool.specs.Whole.{Whole, sound_whole, Setup, fresh, set_up, outcome, reached_whole}
use Rattle.tool.proofs.Tested.{when_sound}

zeros_zero : (n : ℕ) → every is_zero (replicate n 0) ≡ true
unfolding every
zeros_zero zero = refl
zeros_zero (suc n) = zeros_zero n

module _ (t : Whole) (i : Brought) (h : sound_whole t ≡ true) where
  layered_is_sound : sound_tool t.layered ≡ true
  unfolding sound_whole
  layered_is_sound = and_l _ _ h

  pub sound_after : sound_whole (outcome t i).tool ≡ true
  unfolding sound_whole
  sound_after = rw (← when_sound t i h) (and_i (given_sound t.layered i layered_is_sound) (and_r (sound_tool t.layered) _ h))

  pub state_after_fact : state_of (outcome t i).tool.layered ≡ state_after (state_of t.layered) i
  state_after_fact = rw (← when_sound t i h) (given_state t.layered i layered_is_sound)

module _ (P B setting timeout : ℕ) where
  abbrev up : Bool
  up = eqb (base.set_up P B).answer 0 && (is_span setting && is_span timeout)

  abbrev set_up_if : Bool → Setup
  set_up_if w = cond w (record { tool = fresh (base.set_up P B).tool setting timeout; answer = 0 }) (record { tool = fresh base.no_tool 0 0; answer = 1 })

  -- accepted: document 01's set-up is, and both times are within a day
  fine : (set_up P B setting timeout).answer ≡ 0 → up ≡ true
  unfolding set_up
  fine = go up
    where
      go : (w : Bool) → (set_up_if w).answer ≡ 0 → w ≡ true
      go true e = refl
      go false e = absurd (omega arith)

  tool_is : up ≡ true → (set_up P B setting timeout).tool ≡ fresh (base.set_up P B).tool setting timeout
  unfolding set_up
  tool_is e = rw e

  module _ (yes : (set_up P B setting timeout).answer ≡ 0) where
    abbrev tool : Whole
    tool = (set_up P B setting timeout).tool

    below : (base.set_up P B).answer ≡ 0
    below = eqb-true _ 0 (and_l _ _ (fine yes))

    -- 1 to 4 ports, and 0 to 16 places
    pub valid : (1 ≤ P) × (P ≤ 4) × (B ≤ 16)
    unfolding base.set_up
    valid = go (between 1 P 4 && leb B 16) refl below
      where
        up_if : Bool → base-setup.Setup
        up_if w = cond w (record { tool = base.in_tool (base.start P B); answer = 0 }) (record { tool = base.no_tool; answer = 1 })

        go : (w : Bool) → (between 1 P 4 && leb B 16) ≡ w → (up_if w).answer ≡ 0 → (1 ≤ P) × (P ≤ 4) × (B ≤ 16)
        go true e z =
            let b = and_l _ _ e in
            (leb-true 1 P (and_l _ _ b), leb-true P 4 (and_r (leb 1 P) _ b), leb-true B 16 (and_r (between 1 P 4) _ e))
        go false e z = absurd (omega arith)

    spans : (is_span setting && is_span timeout) ≡ true
    spans = and_r (eqb (base.set_up P B).answer 0) _ (fine yes)

    pub tool_sound : (past : List Brought) → sound_whole (reached_whole tool past) ≡ true
    unfolding reached_whole sound_whole
    tool_sound [] = rw (tool_is (fine yes)) (and_i (setup_sound P B setting timeout below spans) (zeros_zero 286))
    tool_sound (i ∷ earlier) = sound_after (reached_whole tool earlier) i (tool_sound earlier)

    pub tool_holds : (past : List Brought) → state_of (reached_whole tool past).layered ≡ reached (start P B setting timeout) past
    unfolding reached_whole reached
    tool_holds [] = rw (tool_is (fine yes)) (setup_state P B setting timeout below spans)
    tool_holds (i ∷ earlier) = state_after_fact (reached_whole tool earlier) i (tool_sound earlier) ∙ rw (tool_holds earlier)
