-- A sound state is sound after every input.
use Prim.Native.Nat.{ℕ, zero, suc}
use mathlib.Core.Path.{◌≡◌, refl, ap, sym, ◌∙◌}
use mathlib.Core.Bool.{Bool, true, false, not, cond, ◌&&◌, ◌||◌}
use mathlib.Core.List.{List, [], ◌∷◌}
use lib.ListN.{length-set, get_or, set}
use lib.Dec.{eqb, leb}
use Rattle.lists.specs.Lists.{every, every_two}
use Rattle.lists.proofs.Bools.{and_l, and_r, and_i}
use Rattle.records.specs.Ports.{loading}
use Rattle.rules.specs.declared.row.Seen.{Seen}
use Rattle.rules.specs.State as base
use Rattle.rules.specs.Sound as base_sound
use Rattle.rules.specs.Sound.{in_range, other_name, ties_agree, place_agrees, other_spot, few_expected, port_agrees}
use Rattle.maps.proofs.SoundRuns as maps-runs
use Rattle.queue.proofs.SoundRuns as queue-runs
use Rattle.prediction.specs.State as prediction
use Rattle.prediction.specs.State.{Predicted}
use Rattle.prediction.specs.Sound as prediction-sound
use Rattle.prediction.proofs.Sounds.{queue_part, sound_reached}
use Rattle.wafers.specs.Outcome.{Brought}
use Rattle.wafers.specs.Projection.{cut_down}
use Rattle.wafers.proofs.Projected as wafers-below
use Rattle.hands.specs.declared.alarm.Alarm.{Alarm}
use Rattle.hands.specs.Alarms.{no_alarm, is_on, is_held, raised, holding}
use Rattle.hands.specs.State.{Handled, base_of, alarm_of}
use Rattle.hands.specs.Sound.{each_agrees, sound}
use Rattle.hands.specs.Rows.{manual, in_auto, violated, row_of}
use Rattle.hands.specs.Outcome.{row_in, answer_in, below, alarms_then, enact, state_after, reached}
use Rattle.hands.proofs.Settled.{fine, none_fine, all_agree, each_fine, as_long}
use Rattle.hands.proofs.Below.{ports_stay}

-- ── What soundness says ──
module _ (s : Handled) (h : sound s ≡ true) where
  pub predicted_part : prediction-sound.sound s.predicted ≡ true
  unfolding sound
  predicted_part = and_l _ _ h

  pub alarms_part : each_agrees (base_of s).ports s.alarms ≡ true
  unfolding sound
  alarms_part = and_r (prediction-sound.sound s.predicted) _ h

-- document 01's part
pub base_part : (s : Predicted) → prediction-sound.sound s ≡ true → base_sound.sound (prediction.base_of s) ≡ true
base_part s h = (maps-runs.sound_parts s.queued.mapped (queue-runs.sound_parts s.queued (queue_part s h)).mapped).base

-- and of it, that each port agrees with itself
abbrev first_clauses : base.State → Bool
first_clauses s = in_range s && every_two other_name s.carriers && ties_agree s && every place_agrees s.carriers
    && every_two other_spot s.carriers && few_expected s

ports_agree : (s : base.State) → base_sound.sound s ≡ true → every port_agrees s.ports ≡ true
unfolding base_sound.sound
ports_agree s h = and_r (first_clauses s) _ (and_l (first_clauses s && every port_agrees s.ports) _ h)

-- ── The alarm of a row is fine ──
raised_fine : (a : Alarm) → fine a ≡ true → fine (raised a) ≡ true
unfolding fine
raised_fine a f = and_i {a = leb a.held 1} (and_r (leb a.on 1) _ (and_l (leb a.on 1 && leb a.held 1) _ f)) (go (is_held a))
  where
    go : (b : Bool) → (not b || true) ≡ true
    go true = refl
    go false = refl

holding_fine : (a : Alarm) → is_on a ≡ true → fine a ≡ true → fine (holding a) ≡ true
unfolding fine
holding_fine a o f =
    and_i {a = leb a.on 1 && true} (and_i (and_l (leb a.on 1) _ (and_l (leb a.on 1 && leb a.held 1) _ f)) refl) o

row_fine : (n : ℕ) (x : Seen) (a : Alarm) (i : Brought) → fine a ≡ true → fine (row_of n x a i).alarm ≡ true
unfolding row_of
row_fine n x a i f = go (eqb n 13) (eqb n 14) (eqb n 24) (eqb n 36)
  where
    starting : (w : Bool) → fine (cond w (raised a) a) ≡ true
    starting true = raised_fine a f
    starting false = f

    held : (w : Bool) → violated x a ≡ w → fine (cond w (holding a) a) ≡ true
    held true e = holding_fine a (and_r (loading x.here) _ e) f
    held false e = f

    go : (p q r t : Bool)
        → fine (cond p (row_of 13 x a i) (cond q (row_of 14 x a i) (cond r (row_of 13 x a i) (cond t (row_of 36 x a i) (row_of 0 x a i))))).alarm ≡ true
    go true q r t = starting (manual x && in_auto x)
    go false true r t = held (violated x a) refl
    go false false true t = starting (manual x && in_auto x)
    go false false false true = none_fine
    go false false false false = f

-- ── Each alarm of a list ──
at_fine : (l : List Alarm) → every fine l ≡ true → (k : ℕ) → fine (get_or l k no_alarm) ≡ true
unfolding every
at_fine [] f k = none_fine
at_fine (a ∷ l) f zero = and_l _ _ f
at_fine (a ∷ l) f (suc k) = at_fine l (and_r (fine a) _ f) k

set_fine : (l : List Alarm) (k : ℕ) (a : Alarm) → every fine l ≡ true → fine a ≡ true → every fine (set l k a) ≡ true
unfolding every
set_fine [] k a f g = refl
set_fine (b ∷ l) zero a f g = and_i g (and_r (fine b) _ f)
set_fine (b ∷ l) (suc k) a f g = and_i {a = fine b} (and_l (fine b) _ f) (set_fine l k a (and_r (fine b) _ f) g)

-- ── After an input ──
module _ (s : Handled) (i : Brought) (h : sound s ≡ true) where
  pub below_sound : prediction-sound.sound (below s i) ≡ true
  below_sound =
      ap prediction-sound.sound (wafers-below.below s.predicted (row_in s i).stands)
      ∙ sound_reached s.predicted (predicted_part s h) (cut_down (row_in s i).stands)

  own_fine : fine (row_in s i).alarm ≡ true
  unfolding alarm_of
  own_fine = row_fine _ _ _ i (at_fine s.alarms (each_fine (base_of s).ports s.alarms (alarms_part s h)) _)

  pub then_agree : each_agrees (prediction.base_of (below s i)).ports (alarms_then s i) ≡ true
  then_agree =
      all_agree (prediction.base_of (below s i)).ports _ (ports_agree _ (base_part (below s i) below_sound))
      (set_fine s.alarms _ _ (each_fine (base_of s).ports s.alarms (alarms_part s h)) own_fine)
      (length-set s.alarms _ _ ∙ as_long (base_of s).ports s.alarms (alarms_part s h) ∙ sym (ports_stay s.predicted (row_in s i).stands))

  pub enact_sound : sound (enact s i) ≡ true
  unfolding sound
  enact_sound = and_i below_sound then_agree

pub sound_after : (s : Handled) (i : Brought) → sound s ≡ true → sound (state_after s i) ≡ true
unfolding state_after
sound_after s i h = go (eqb (answer_in s i) 0)
  where
    go : (w : Bool) → sound (cond w (enact s i) s) ≡ true
    go true = enact_sound s i h
    go false = h

pub sound_reached_run : (s : Handled) → sound s ≡ true → (run : List Brought) → sound (reached s run) ≡ true
unfolding reached
sound_reached_run s h [] = h
sound_reached_run s h (i ∷ earlier) = sound_after (reached s earlier) i (sound_reached_run s h earlier)
