-- Cut down to its inputs of document 01, a run of this layer is a run of document 01 that reaches the same base state.
use Prim.Native.Nat.{ℕ, ◌≤◌}
use mathlib.Core.Path.{◌≡◌, refl, ap, sym, subst, ◌∙◌}
use mathlib.Core.Bool.{Bool, true, false, cond}
use mathlib.Core.List.{List, [], ◌∷◌, ◌++◌}
use lib.Dec.{eqb}
use borrow.Author.Tests.{eqb-true}
use Rattle.lists.proofs.Bools.{and_l}
use Rattle.records.specs.Carriers.{is_open, id_ok}
use Rattle.rules.specs.declared.row.Effect.{Effect}
use Rattle.rules.specs.State as base
use Rattle.rules.specs.State.{State, record_of}
use Rattle.rules.specs.Sound as base_sound
use Rattle.rules.specs.Seen.{Input, see}
use Rattle.rules.specs.Row as row
use Rattle.rules.specs.Row.{judge}
use Rattle.rules.specs.Rows as base-rows
use Rattle.rules.specs.Outcome as base-outcome
use Rattle.rules.specs.Opening.{slot_map}
use Rattle.rules.specs.History as base-history
use Rattle.rules.specs.Promise.{Live}
use Rattle.rules.proofs.Accepts.{clear}
use Rattle.maps.specs.Expected.{new_map}
use Rattle.maps.specs.State.{Mapped, start}
use Rattle.maps.specs.Rows.{codes_in}
use Rattle.maps.specs.Outcome.{row_in, answer_in, enact, state_after}
use Rattle.maps.specs.Projection.{reached, equal_map, proceed, stands_for, cut_down}
use Rattle.maps.proofs.Amended.{at_once, row_twenty, effect_is, accepted_there, mapped_live}
use Rattle.maps.proofs.SoundRuns.{base_step, sound_parts, sound_start, sound_reached}
use Rattle.maps.proofs.AtOnce.{equal_step}
use Rattle.maps.proofs.Opened.{open_ok}

nothing_yet : (s : State) → base-history.reached s [] ≡ s
unfolding base-history.reached
nothing_yet s = refl

-- ── One input ──
-- an equal map is a SlotMap
pub equal_twenty : (s : Mapped) (i : Input) → equal_map s i ≡ true → i.number ≡ 20
unfolding equal_map
equal_twenty s i q = eqb-true i.number 20 (and_l (eqb i.number 20) _ q)

-- the carriers that are open have ID OK
abbrev pub OpenOk : State → Type 0
OpenOk s = (k : ℕ) → Live s k → is_open (record_of s k) ≡ true → id_ok (record_of s k) ≡ true

module _ (s : Mapped) (i : Input) (h : base_sound.sound s.base ≡ true) (ok : OpenOk s.base) where
  abbrev effect : Effect
  effect = (base-rows.row_of i.number (see s.base i)).effect

  -- a SlotMap that is accepted meets an open carrier
  found_ok : judge (slot_map (see s.base i)).grounds ≡ 0 → id_ok (see s.base i).found ≡ true
  unfolding see
  found_ok z =
      ok (see s.base i).stands (mapped_live s.base i h z)
      (and_l (is_open (see s.base i).found) _ (clear (slot_map (see s.base i)).grounds refl z).1.1.1.0)

  pub equal_ok : eqb (answer_in s i) 0 ≡ true → equal_map s i ≡ true → id_ok (see s.base i).found ≡ true
  equal_ok a q =
      found_ok (ap (λ r. judge r.grounds) (sym (row_twenty i.number (see s.base i) (equal_twenty s i q))) ∙ accepted_there s i a)

  accepted_stands : eqb (answer_in s i) 0 ≡ true
      → base-history.reached s.base (cond (equal_map s i) (proceed i ∷ i ∷ []) (i ∷ [])) ≡ row.enact (row_in s i).effect s.base
  unfolding base-history.reached equal_map
  accepted_stands a = rw (effect_is i.number (see s.base i) (codes_in s i)) (go (equal_map s i) refl)
    where
      go : (b : Bool) → equal_map s i ≡ b
          → base-history.reached s.base (cond b (proceed i ∷ i ∷ []) (i ∷ [])) ≡ row.enact (cond b (at_once effect) effect) s.base
      go true q = equal_step s.base i h (equal_twenty s i q) (accepted_there s i a) (equal_ok a q)
      go false q = base_step s.base i (accepted_there s i a)

  pub stands_for_fact : base-history.reached s.base (stands_for s i) ≡ (state_after s i).base
  unfolding stands_for state_after
  stands_for_fact = go (eqb (answer_in s i) 0) refl
    where
      go : (a : Bool) → eqb (answer_in s i) 0 ≡ a
          → base-history.reached s.base (cond a (cond (equal_map s i) (proceed i ∷ i ∷ []) (i ∷ [])) [])
          ≡ (cond a (enact (row_in s i).effect (new_map i.number i.codes) s) s).base
      go true e = accepted_stands e
      go false e = nothing_yet s.base

-- ── Runs ──
pub reached_append : (s : State) (later earlier : List Input)
    → base-history.reached s (later ++ earlier) ≡ base-history.reached (base-history.reached s earlier) later
unfolding base-history.reached
reached_append s [] earlier = refl
reached_append s (i ∷ later) earlier = ap (λ u. base-outcome.state_after u i) (reached_append s later earlier)

module _ (P B : ℕ) (a : 1 ≤ P) (b : P ≤ 4) (c : B ≤ 16) where
  pub base_sound_run : (run : List Input) → base_sound.sound (reached (start P B) run).base ≡ true
  base_sound_run run = (sound_parts (reached (start P B) run) (sound_reached (start P B) (sound_start P B a b c) run)).base

  -- the theorem, once for every request that stands on it
  pub projected : (run : List Input) → base-history.reached (base.start P B) (cut_down (start P B) run) ≡ (reached (start P B) run).base
  unfolding cut_down reached
  projected [] = nothing_yet (base.start P B)
  projected (i ∷ earlier) =
      reached_append (base.start P B) (stands_for (reached (start P B) earlier) i) (cut_down (start P B) earlier)
      ∙ ap (λ u. base-history.reached u (stands_for (reached (start P B) earlier) i)) (projected earlier)
      ∙ stands_for_fact (reached (start P B) earlier) i (base_sound_run earlier)
      (subst OpenOk (projected earlier) (open_ok P B a b c (cut_down (start P B) earlier)))

  pub open_ok_run : (run : List Input) → OpenOk (reached (start P B) run).base
  open_ok_run run = subst OpenOk (projected run) (open_ok P B a b c (cut_down (start P B) run))
