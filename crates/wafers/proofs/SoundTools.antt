-- A tool that holds a sound state is sound after every input.
use mathlib.Core.Path.{◌≡◌, refl, sym}
use mathlib.Core.Bool.{Bool, true, false, cond}
use lib.Dec.{eqb}
use Rattle.prediction.specs.State.{PredictedTool, state_of}
use Rattle.prediction.specs.Sound.{sound, sound_tool}
use Rattle.prediction.specs.Outcome.{Given, refused, accepted}
use Rattle.prediction.proofs.SoundTools.{held_state, held_sound, tool_sound}
use Rattle.wafers.specs.Outcome.{Brought, answer_in, state_after, reports_in, given_in}
use Rattle.wafers.proofs.Projected.{sound_after, refused_leaves}

module _ (t : PredictedTool) (i : Brought) (h : sound_tool t ≡ true) where
  abbrev given_if : Bool → Given
  given_if w = cond w (accepted (state_after (state_of t) i) (reports_in (state_of t) i)) (refused t (answer_in (state_of t) i))

  next_sound : sound (state_after (state_of t) i) ≡ true
  next_sound = sound_after (state_of t) i (tool_sound t h)

  -- the state that a tool holds is the one that follows
  pub given_state : state_of (given_in t i).tool ≡ state_after (state_of t) i
  unfolding given_in
  given_state = go (eqb (answer_in (state_of t) i) 0) refl
    where
      go : (w : Bool) → eqb (answer_in (state_of t) i) 0 ≡ w → state_of (given_if w).tool ≡ state_after (state_of t) i
      go true e = held_state (state_after (state_of t) i) next_sound
      go false e = sym (refused_leaves (state_of t) i e)

  pub given_sound : sound_tool (given_in t i).tool ≡ true
  unfolding given_in
  given_sound = go (eqb (answer_in (state_of t) i) 0)
    where
      go : (w : Bool) → sound_tool (given_if w).tool ≡ true
      go true = held_sound (state_after (state_of t) i) next_sound
      go false = h
