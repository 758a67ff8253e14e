-- A tool that holds a sound state is sound: after set-up, and after every input.
use Prim.Native.Nat.{ℕ, ◌≤◌}
use native.Mathlib.Omega.{arith}
use mathlib.Core.Path.{◌≡◌, refl, ap, sym, ◌∙◌}
use mathlib.Core.Bool.{Bool, true, false, cond, ◌&&◌}
use mathlib.Core.List.{[]}
use lib.ListN.{length, drop}
use lib.Seq.{take_all}
use lib.Dec.{eqb, leb}
use Rattle.lists.specs.Lists.{every, between}
use Rattle.lists.proofs.Bools.{and_r, and_i}
use Rattle.lists.proofs.Tables.{take_fill, rest_fill, fill_none}
use Rattle.rules.specs.declared.tool.Setup.{Setup}
use Rattle.rules.specs.State as base
use Rattle.rules.proofs.SoundParts.{facts}
use Rattle.rules.proofs.Orderly.{bounded}
use Rattle.maps.specs.State as maps
use Rattle.maps.proofs.SoundRuns as maps-runs
use Rattle.queue.specs.State as queue
use Rattle.queue.specs.State.{QueuedTool}
use Rattle.queue.specs.Sound as queue-sound
use Rattle.queue.proofs.SoundRuns as queue-runs
use Rattle.queue.proofs.SoundTools as queue-tools
use Rattle.prediction.specs.Predictions.{no_prediction}
use Rattle.prediction.specs.State.{Predicted, base_of, PredictedTool, count_of, state_of, in_tool, Timed, start, no_predictions}
use Rattle.prediction.specs.Sound.{is_span, times_in_range, is_none, each_fits, sound, sound_tool}
use Rattle.prediction.specs.Outcome.{answer_in, state_after, reports_in, Given, refused, accepted, given_in}
use Rattle.prediction.proofs.Pairs.{as_long}
use Rattle.prediction.proofs.Sounds.{queue_part, pairs_part, sound_after}

none_zero : is_none no_prediction ≡ true
unfolding is_none
none_zero = refl

module _ (s : Predicted) (h : sound s ≡ true) where
  base_fits : length (base_of s).carriers ≤ 36
  base_fits =
      let g = (maps-runs.sound_parts s.queued.mapped (queue-runs.sound_parts s.queued (queue_part s h)).mapped).base in
      let b = bounded (base_of s) g in
      let p = (facts (base_of s) g).few_ports in
      let q = (facts (base_of s) g).few_places in
      omega arith

  few : length s.predictions ≤ 36
  few = let e = as_long (pairs_part s h) in let b = base_fits in omega arith

  count_is : (queue.in_tool s.queued).mapped.base.count ≡ length s.predictions
  unfolding queue.in_tool maps.in_tool base.in_tool
  count_is = ap length (take_all 36 (base_of s).carriers base_fits) ∙ sym (as_long (pairs_part s h))

  pub held_state : state_of (in_tool s) ≡ s
  unfolding in_tool
  held_state = rw (queue-tools.held_state s.queued (queue_part s h), count_is, take_fill 36 no_prediction s.predictions few)

  queue_held : queue-sound.sound_tool (in_tool s).queued ≡ true
  unfolding in_tool
  queue_held = queue-tools.held_sound s.queued (queue_part s h)

  none_after : every is_none (drop (count_of (in_tool s)) (in_tool s).predictions) ≡ true
  unfolding in_tool
  none_after = rw count_is (rest_fill is_none 36 no_prediction s.predictions none_zero)

  pub held_sound : sound_tool (in_tool s) ≡ true
  unfolding sound_tool
  held_sound = and_i (and_i queue_held none_after) (rw held_state h)

-- what a sound tool holds is sound
pub tool_sound : (t : PredictedTool) → sound_tool t ≡ true → sound (state_of t) ≡ true
unfolding sound_tool
tool_sound t h = and_r (queue-sound.sound_tool t.queued && every is_none (drop (count_of t) t.predictions)) _ h

-- ── Set-up: no record, no prediction ──
module _ (P B setting timeout : ℕ) (yes : (base.set_up P B).answer ≡ 0) (fine : (is_span setting && is_span timeout) ≡ true) where
  abbrev below : QueuedTool
  below = record { mapped = record { base = (base.set_up P B).tool; maps = maps.no_maps }; waiting = 0; queue = queue.no_requests }

  abbrev tool : PredictedTool
  tool = record { queued = below; times = record { now = 0; setting = setting; timeout = timeout }; predictions = no_predictions }

  below_is : queue.state_of below ≡ queue.start P B
  below_is = queue-tools.setup_state P B yes

  none_counted : (base.set_up P B).tool.count ≡ 0
  unfolding base.set_up base.in_tool
  none_counted = go (between 1 P 4 && leb B 16)
    where
      set_up_if : Bool → Setup
      set_up_if w = cond w (record { tool = base.in_tool (base.start P B); answer = 0 }) (record { tool = base.no_tool; answer = 1 })

      go : (w : Bool) → (set_up_if w).tool.count ≡ 0
      go true = refl
      go false = refl

  pub setup_state : state_of tool ≡ start P B setting timeout
  setup_state = rw (below_is, none_counted)

  start_sound : sound (start P B setting timeout) ≡ true
  unfolding sound times_in_range each_fits
  start_sound = and_i (and_i (rw below_is at (queue-tools.tool_sound below (queue-tools.setup_sound P B yes))) fine) refl

  pub setup_sound : sound_tool tool ≡ true
  unfolding sound_tool
  setup_sound =
      let z : every is_none no_predictions ≡ true = rw (fill_none 36 no_prediction) (rest_fill is_none 36 no_prediction [] none_zero) in
      and_i (and_i (queue-tools.setup_sound P B yes) (rw none_counted z)) (rw setup_state start_sound)

-- ── Inputs ──
module _ (t : PredictedTool) (i : Timed) (h : sound_tool t ≡ true) where
  abbrev given_if : Bool → Given
  given_if w = cond w (accepted (state_after (state_of t) i) (reports_in (state_of t) i)) (refused t (answer_in (state_of t) i))

  next_sound : sound (state_after (state_of t) i) ≡ true
  next_sound = sound_after (state_of t) i (tool_sound t h)

  -- the state that a tool holds is the one that follows
  pub given_state : state_of (given_in t i).tool ≡ state_after (state_of t) i
  unfolding given_in state_after
  given_state = go (eqb (answer_in (state_of t) i) 0) refl
    where
      go : (w : Bool) → eqb (answer_in (state_of t) i) 0 ≡ w → state_of (given_if w).tool ≡ state_after (state_of t) i
      go true e = held_state (state_after (state_of t) i) next_sound
      go false e = rw e

  pub given_sound : sound_tool (given_in t i).tool ≡ true
  unfolding given_in
  given_sound = go (eqb (answer_in (state_of t) i) 0)
    where
      go : (w : Bool) → sound_tool (given_if w).tool ≡ true
      go true = held_sound (state_after (state_of t) i) next_sound
      go false = h
