-- A tool that holds a sound state is sound: after set-up, and after every input.
use Prim.Native.Nat.{ℕ, ◌≤◌}
use mathlib.Core.Path.{◌≡◌, refl, ap}
use mathlib.Core.Bool.{Bool, true, false, cond, ◌&&◌}
use mathlib.Core.List.{[]}
use lib.ListN.{length, drop}
use lib.Seq.{take_all}
use lib.Dec.{eqb, leb}
use borrow.Author.Tests.{le-leb}
use Rattle.lists.specs.Lists.{every, same_list}
use Rattle.lists.proofs.Bools.{and_r, and_i}
use Rattle.lists.proofs.Tables.{take_fill, rest_fill, fill_none}
use Rattle.records.specs.Names.{same_name}
use Rattle.rules.specs.State as base
use Rattle.rules.specs.Seen.{Input}
use Rattle.maps.specs.State as maps
use Rattle.maps.specs.Sound as maps-sound
use Rattle.maps.proofs.SoundTools as maps-tools
use Rattle.queue.specs.Requests.{no_request}
use Rattle.queue.specs.State.{Queued, base_of, QueuedTool, state_of, in_tool, start, no_requests}
use Rattle.queue.specs.Sound.{sound, zero_request, sound_tool}
use Rattle.queue.specs.Outcome.{row_in, answer_in, state_after, Given, refused, accepted, given_in}
use Rattle.queue.proofs.Lines.{line_none}
use Rattle.queue.proofs.SoundRuns.{sound_parts, sound_of, sound_after}

none_zero : zero_request no_request ≡ true
unfolding zero_request same_name same_list
none_zero = refl

module _ (s : Queued) (h : sound s ≡ true) where
  few : length s.queue ≤ 16
  few = (sound_parts s h).line.few

  waiting_is : (in_tool s).waiting ≡ length s.queue
  unfolding in_tool
  waiting_is = ap length (take_all 16 s.queue few)

  pub held_state : state_of (in_tool s) ≡ s
  unfolding in_tool
  held_state =
      rw (maps-tools.held_state s.mapped (sound_parts s h).mapped, take_all 16 s.queue few, take_fill 16 no_request s.queue few)

  mapped_held : maps-sound.sound_tool (in_tool s).mapped ≡ true
  unfolding in_tool
  mapped_held = maps-tools.held_sound s.mapped (sound_parts s h).mapped

  none_after : every zero_request (drop (in_tool s).waiting (in_tool s).queue) ≡ true
  unfolding in_tool
  none_after = rw (take_all 16 s.queue few) (rest_fill zero_request 16 no_request s.queue none_zero)

  pub held_sound : sound_tool (in_tool s) ≡ true
  unfolding sound_tool
  held_sound = and_i (and_i (and_i mapped_held (rw waiting_is (le-leb _ 16 few))) none_after) (rw held_state h)

-- what a sound tool holds is sound
pub tool_sound : (t : QueuedTool) → sound_tool t ≡ true → sound (state_of t) ≡ true
unfolding sound_tool
tool_sound t h =
    and_r (maps-sound.sound_tool t.mapped && leb t.waiting 16 && every zero_request (drop t.waiting t.queue)) _ h

-- ── Set-up: no request ──
module _ (P B : ℕ) (yes : (base.set_up P B).answer ≡ 0) where
  abbrev tool : QueuedTool
  tool = record { mapped = record { base = (base.set_up P B).tool; maps = maps.no_maps }; waiting = 0; queue = no_requests }

  mapped_is : maps.state_of tool.mapped ≡ maps.start P B
  mapped_is = maps-tools.setup_state P B yes

  start_sound : sound (start P B) ≡ true
  start_sound = sound_of (start P B) (record {
    mapped = rw mapped_is at (maps-tools.tool_sound tool.mapped (maps-tools.setup_sound P B yes));
    line = line_none (base_of (start P B));
  })

  pub setup_state : state_of tool ≡ start P B
  setup_state = rw mapped_is

  pub setup_sound : sound_tool tool ≡ true
  unfolding sound_tool
  setup_sound =
      let z : every zero_request no_requests ≡ true = rw (fill_none 16 no_request) (rest_fill zero_request 16 no_request [] none_zero) in
      and_i (and_i (and_i (maps-tools.setup_sound P B yes) refl) z) (rw setup_state start_sound)

-- ── Inputs ──
module _ (t : QueuedTool) (i : Input) (h : sound_tool t ≡ true) where
  abbrev given_if : Bool → Given
  given_if w = cond w (accepted (state_of t) (state_after (state_of t) i) (row_in (state_of t) i).stands) (refused t (answer_in (state_of t) i))

  next_sound : sound (state_after (state_of t) i) ≡ true
  next_sound = sound_after (state_of t) i (tool_sound t h)

  -- the state that a tool holds is the one that follows
  pub given_state : state_of (given_in t i).tool ≡ state_after (state_of t) i
  unfolding given_in state_after
  given_state = go (eqb (answer_in (state_of t) i) 0) refl
    where
      go : (w : Bool) → eqb (answer_in (state_of t) i) 0 ≡ w → state_of (given_if w).tool ≡ state_after (state_of t) i
      go true e = held_state (state_after (state_of t) i) next_sound
      go false e = rw e

  pub given_sound : sound_tool (given_in t i).tool ≡ true
  unfolding given_in
  given_sound = go (eqb (answer_in (state_of t) i) 0)
    where
      go : (w : Bool) → sound_tool (given_if w).tool ≡ true
      go true = held_sound (state_after (state_of t) i) next_sound
      go false = h
