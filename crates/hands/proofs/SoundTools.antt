-- A tool that holds a sound state is sound: after set-up, and after every input.
use Prim.Native.Nat.{ℕ, zero, suc, ◌≤◌}
use native.Mathlib.Omega.{arith}
use mathlib.Core.Path.{◌≡◌, refl, ap, ap₂, sym, subst, ◌∙◌}
use mathlib.Core.Bool.{Bool, true, false, cond, ◌&&◌}
use mathlib.Core.List.{◌∷◌}
use lib.ListN.{length, length-replicate, take, drop, replicate}
use lib.Seq.{take_all}
use lib.Dec.{eqb, leb}
use borrow.Author.Tests.{leb-true}
use Rattle.lists.specs.Lists.{every, between, fill}
use Rattle.lists.proofs.Bools.{and_l, and_r, and_i}
use Rattle.lists.proofs.Tables.{take_fill, rest_fill}
use Rattle.records.specs.Ports.{new_port}
use Rattle.rules.specs.declared.tool.Setup.{Setup}
use Rattle.rules.specs.State as base
use Rattle.rules.proofs.SoundParts.{facts}
use Rattle.maps.specs.State as maps
use Rattle.queue.specs.State as queue
use Rattle.prediction.specs.State as prediction
use Rattle.prediction.specs.State.{PredictedTool}
use Rattle.prediction.specs.Sound as prediction-sound
use Rattle.prediction.specs.Sound.{is_span}
use Rattle.prediction.proofs.SoundTools as prediction-tools
use Rattle.wafers.specs.Outcome.{Brought}
use Rattle.hands.specs.Alarms.{no_alarm}
use Rattle.hands.specs.State.{Handled, base_of, HandledTool, used_of, state_of, in_tool, start, no_alarms}
use Rattle.hands.specs.Sound.{agrees, each_agrees, sound, is_none, sound_tool}
use Rattle.hands.specs.Outcome.{answer_in, state_after, reports_in, Given, refused, accepted, given_in}
use Rattle.hands.proofs.Settled.{as_long}
use Rattle.hands.proofs.Sounds.{predicted_part, alarms_part, base_part, sound_after}

none_zero : is_none no_alarm ≡ true
unfolding is_none
none_zero = refl

module _ (s : Handled) (h : sound s ≡ true) where
  few_ports : length (base_of s).ports ≤ 4
  few_ports = (facts (base_of s) (base_part s.predicted (predicted_part s h))).few_ports

  few : length s.alarms ≤ 4
  few = let e = as_long (base_of s).ports s.alarms (alarms_part s h) in let b = few_ports in omega arith

  used_is : (prediction.in_tool s.predicted).queued.mapped.base.used ≡ length s.alarms
  unfolding prediction.in_tool queue.in_tool maps.in_tool base.in_tool
  used_is = ap length (take_all 4 (base_of s).ports few_ports) ∙ sym (as_long (base_of s).ports s.alarms (alarms_part s h))

  pub held_state : state_of (in_tool s) ≡ s
  unfolding in_tool
  held_state = rw (prediction-tools.held_state s.predicted (predicted_part s h), used_is, take_fill 4 no_alarm s.alarms few)

  below_held : prediction-sound.sound_tool (in_tool s).predicted ≡ true
  unfolding in_tool
  below_held = prediction-tools.held_sound s.predicted (predicted_part s h)

  none_after : every is_none (drop (used_of (in_tool s)) (in_tool s).alarms) ≡ true
  unfolding in_tool
  none_after = rw used_is (rest_fill is_none 4 no_alarm s.alarms none_zero)

  pub held_sound : sound_tool (in_tool s) ≡ true
  unfolding sound_tool
  held_sound = and_i (and_i below_held none_after) (rw held_state h)

-- what a sound tool holds is sound
pub tool_sound : (t : HandledTool) → sound_tool t ≡ true → sound (state_of t) ≡ true
unfolding sound_tool
tool_sound t h = and_r (prediction-sound.sound_tool t.predicted && every is_none (drop (used_of t) t.alarms)) _ h

-- ── Set-up: no alarm is on ──
new_agree : (P : ℕ) → each_agrees (replicate P new_port) (replicate P no_alarm) ≡ true
unfolding each_agrees agrees
new_agree zero = refl
new_agree (suc P) = new_agree P

all_none : (n P : ℕ) → fill n no_alarm (replicate P no_alarm) ≡ replicate n no_alarm
unfolding fill
all_none zero P = refl
all_none (suc n) zero = ap (λ l. no_alarm ∷ l) (all_none n zero)
all_none (suc n) (suc P) = ap (λ l. no_alarm ∷ l) (all_none n P)

module _ (P B setting timeout : ℕ) (yes : (base.set_up P B).answer ≡ 0) (fine : (is_span setting && is_span timeout) ≡ true) where
  abbrev below : PredictedTool
  below = record {
    queued = record { mapped = record { base = (base.set_up P B).tool; maps = maps.no_maps }; waiting = 0; queue = queue.no_requests };
    times = record { now = 0; setting = setting; timeout = timeout };
    predictions = prediction.no_predictions;
  }

  abbrev tool : HandledTool
  tool = record { predicted = below; alarms = no_alarms }

  below_is : prediction.state_of below ≡ prediction.start P B setting timeout
  below_is = prediction-tools.setup_state P B setting timeout yes fine

  start_sound : sound (start P B setting timeout) ≡ true
  unfolding sound
  start_sound =
      and_i (rw below_is at (prediction-tools.tool_sound below (prediction-tools.setup_sound P B setting timeout yes fine))) (new_agree P)

  used_set : (base.set_up P B).tool.used ≡ P
  unfolding base.set_up base.in_tool
  used_set = go (between 1 P 4 && leb B 16) refl yes
    where
      up_if : Bool → Setup
      up_if w = cond w (record { tool = base.in_tool (base.start P B); answer = 0 }) (record { tool = base.no_tool; answer = 1 })

      go : (w : Bool) → (between 1 P 4 && leb B 16) ≡ w → (up_if w).answer ≡ 0 → (up_if w).tool.used ≡ P
      go true e z =
          let b = leb-true P 4 (and_r (leb 1 P) _ (and_l (between 1 P 4) _ e)) in
          let l = length-replicate P new_port in
          ap length (take_all 4 (replicate P new_port) (omega arith)) ∙ l
      go false e z = absurd (omega arith)

  few_set : P ≤ 4
  few_set = let l = length-replicate P new_port in let b = few_ports (start P B setting timeout) start_sound in omega arith

  alarms_set : take (base.set_up P B).tool.used no_alarms ≡ replicate P no_alarm
  alarms_set =
      let l = length-replicate P no_alarm in
      let b = few_set in
      ap₂ take (used_set ∙ sym l) (sym (all_none 4 P)) ∙ take_fill 4 no_alarm (replicate P no_alarm) (omega arith)

  pub setup_state : state_of tool ≡ start P B setting timeout
  setup_state = rw (below_is, alarms_set)

  pub setup_sound : sound_tool tool ≡ true
  unfolding sound_tool
  setup_sound =
      let z = subst (λ k. every is_none (drop k (fill 4 no_alarm (replicate P no_alarm))) ≡ true) (length-replicate P no_alarm)
      (rest_fill is_none 4 no_alarm (replicate P no_alarm) none_zero) in
      and_i (and_i (prediction-tools.setup_sound P B setting timeout yes fine) (rw (used_set, ← all_none 4 P) z)) (rw setup_state start_sound)

-- ── Inputs ──
module _ (t : HandledTool) (i : Brought) (h : sound_tool t ≡ true) where
  abbrev given_if : Bool → Given
  given_if w = cond w (accepted (state_after (state_of t) i) (reports_in (state_of t) i)) (refused t (answer_in (state_of t) i))

  next_sound : sound (state_after (state_of t) i) ≡ true
  next_sound = sound_after (state_of t) i (tool_sound t h)

  -- the state that a tool holds is the one that follows
  pub given_state : state_of (given_in t i).tool ≡ state_after (state_of t) i
  unfolding given_in state_after
  given_state = go (eqb (answer_in (state_of t) i) 0) refl
    where
      go : (w : Bool) → eqb (answer_in (state_of t) i) 0 ≡ w → state_of (given_if w).tool ≡ state_after (state_of t) i
      go true e = held_state (state_after (state_of t) i) next_sound
      go false e = rw e

  pub given_sound : sound_tool (given_in t i).tool ≡ true
  unfolding given_in
  given_sound = go (eqb (answer_in (state_of t) i) 0)
    where
      go : (w : Bool) → sound_tool (given_if w).tool ≡ true
      go true = held_sound (state_after (state_of t) i) next_sound
      go false = h
