-- A tool that holds a sound state is sound: after set-up, and after every input.
use Prim.Native.Nat.{ℕ, ◌≤◌}
use mathlib.Core.List.{[]}
use native.Mathlib.Omega.{arith}
use mathlib.Core.Path.{◌≡◌, refl, ap, sym, ◌∙◌}
use mathlib.Core.Bool.{Bool, true, false, cond, ◌&&◌}
use lib.ListN.{length, drop}
use lib.Seq.{take_all}
use lib.Dec.{eqb, leb}
use Rattle.lists.specs.Lists.{every, fill, between}
use Rattle.lists.proofs.Bools.{and_r, and_i}
use Rattle.lists.proofs.Tables.{take_fill, rest_fill, fill_none}
use Rattle.rules.specs.declared.tool.Setup.{Setup}
use Rattle.rules.specs.State as base
use Rattle.rules.specs.Sound as base_sound
use Rattle.rules.specs.Seen.{Input}
use Rattle.rules.proofs.SoundParts.{facts}
use Rattle.rules.proofs.Orderly.{bounded}
use Rattle.rules.proofs.Holding as holding
use Rattle.rules.proofs.SoundTools as base-tools
use Rattle.maps.specs.Expected.{no_map, is_none}
use Rattle.maps.specs.State.{Mapped, MappedTool, state_of, in_tool, start, no_maps}
use Rattle.maps.specs.Sound.{sound, sound_tool}
use Rattle.maps.specs.Outcome.{row_in, answer_in, state_after, Given, refused, accepted, given_in}
use Rattle.maps.proofs.SoundRuns.{sound_parts, sound_of, sound_after}

none_zero : is_none no_map ≡ true
unfolding every
none_zero = refl

module _ (s : Mapped) (h : sound s ≡ true) where
  base_fits : length s.base.carriers ≤ 36
  base_fits =
      let g = (sound_parts s h).base in
      let b = bounded s.base g in
      let p = (facts s.base g).few_ports in
      let q = (facts s.base g).few_places in
      omega arith

  maps_fit : length s.maps ≤ 36
  maps_fit = let e = (sound_parts s h).many in let b = base_fits in omega arith

  count_is : (base.in_tool s.base).count ≡ length s.maps
  unfolding base.in_tool
  count_is = ap length (take_all 36 s.base.carriers base_fits) ∙ sym (sound_parts s h).many

  pub held_state : state_of (in_tool s) ≡ s
  unfolding in_tool
  held_state = rw (base-tools.held_state s.base (sound_parts s h).base, count_is, take_fill 36 no_map s.maps maps_fit)

  base_held : base_sound.sound_tool (in_tool s).base ≡ true
  unfolding in_tool
  base_held = base-tools.held_sound s.base (sound_parts s h).base

  none_after : every is_none (drop (in_tool s).base.count (in_tool s).maps) ≡ true
  unfolding in_tool
  none_after = rw count_is (rest_fill is_none 36 no_map s.maps none_zero)

  pub held_sound : sound_tool (in_tool s) ≡ true
  unfolding sound_tool
  held_sound = and_i base_held (and_i none_after (rw held_state h))

-- what a sound tool holds is sound
pub tool_sound : (t : MappedTool) → sound_tool t ≡ true → sound (state_of t) ≡ true
unfolding sound_tool
tool_sound t h = and_r (every is_none (drop t.base.count t.maps)) _ (and_r (base_sound.sound_tool t.base) _ h)

-- ── Set-up: no record, no map ──
module _ (P B : ℕ) (yes : (base.set_up P B).answer ≡ 0) where
  abbrev tool : MappedTool
  tool = record { base = (base.set_up P B).tool; maps = no_maps }

  abbrev set_up_if : Bool → Setup
  set_up_if w = cond w (record { tool = base.in_tool (base.start P B); answer = 0 }) (record { tool = base.no_tool; answer = 1 })

  setup_is : tool ≡ in_tool (start P B)
  unfolding base.set_up in_tool
  setup_is = rw (fill_none 36 no_map) (go (between 1 P 4 && leb B 16) yes)
    where
      go : (w : Bool) → (set_up_if w).answer ≡ 0
          → ◌≡◌ {A = MappedTool} (record { base = (set_up_if w).tool; maps = fill 36 no_map [] })
          (record { base = base.in_tool (base.start P B); maps = fill 36 no_map [] })
      go true z = refl
      go false z = absurd (omega arith)

  start_sound : sound (start P B) ≡ true
  unfolding every
  start_sound =
      sound_of (start P B) (record {
        base = rw (base-tools.setup_state P B yes) at (holding.tool_sound (base.set_up P B).tool (base-tools.setup_sound P B yes));
        many = refl;
        kept = refl;
      })

  pub setup_sound : sound_tool tool ≡ true
  setup_sound = rw setup_is (held_sound (start P B) start_sound)

  pub setup_state : state_of tool ≡ start P B
  setup_state = ap state_of setup_is ∙ held_state (start P B) start_sound

-- ── Inputs ──
module _ (t : MappedTool) (i : Input) (h : sound_tool t ≡ true) where
  abbrev given_if : Bool → Given
  given_if w = cond w (accepted (state_of t) (state_after (state_of t) i) (row_in (state_of t) i).effect) (refused t (answer_in (state_of t) i))

  next_sound : sound (state_after (state_of t) i) ≡ true
  next_sound = sound_after (state_of t) i (tool_sound t h)

  -- the state that a tool holds is the one that follows
  pub given_state : state_of (given_in t i).tool ≡ state_after (state_of t) i
  unfolding given_in state_after
  given_state = go (eqb (answer_in (state_of t) i) 0) refl
    where
      go : (w : Bool) → eqb (answer_in (state_of t) i) 0 ≡ w → state_of (given_if w).tool ≡ state_after (state_of t) i
      go true e = held_state (state_after (state_of t) i) next_sound
      go false e = rw e

  pub given_sound : sound_tool (given_in t i).tool ≡ true
  unfolding given_in
  given_sound = go (eqb (answer_in (state_of t) i) 0)
    where
      go : (w : Bool) → sound_tool (given_if w).tool ≡ true
      go true = held_sound (state_after (state_of t) i) next_sound
      go false = h
