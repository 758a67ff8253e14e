-- Every input keeps a sound state sound, and so is every state that a run reaches.
use Prim.Native.Nat.{ℕ, zero, suc, ◌≤◌}
use native.Mathlib.Omega.{arith}
use mathlib.Core.Path.{◌≡◌, refl, ap, sym, subst, ◌∙◌}
use mathlib.Core.Bool.{Bool, true, false, cond, ◌&&◌, ◌||◌}
use mathlib.Core.List.{List, [], ◌∷◌}
use lib.ListN.{length, set, length-set}
use lib.Dec.{eqb}
use borrow.Author.Tests.{eqb-true, eq-eqb}
use Rattle.lists.specs.Lists.{every, fill, without}
use Rattle.lists.proofs.Bools.{and_l, and_r, and_i, or_r}
use Rattle.lists.proofs.Tests.{every_at}
use Rattle.lists.proofs.Parts.{every_gone, every_new}
use Rattle.records.specs.Maps.{in_map}
use Rattle.records.specs.Carriers.{with_map}
use Rattle.records.specs.Fields.{with_slot}
use Rattle.rules.specs.declared.row.Seen.{Seen}
use Rattle.rules.specs.declared.row.Effect.{Effect}
use Rattle.rules.specs.State.{State}
use Rattle.rules.specs.Sound as base
use Rattle.rules.specs.Seen.{Input, see}
use Rattle.rules.specs.Row.{judge}
use Rattle.rules.specs.Row as row
use Rattle.rules.specs.Opening as opening
use Rattle.rules.specs.Rows as base-rows
use Rattle.rules.specs.Outcome as base-outcome
use Rattle.rules.proofs.Lowest.{row_first_is_lowest}
use Rattle.rules.proofs.Accepts.{clear}
use Rattle.rules.proofs.Apt.{Apt}
use Rattle.rules.proofs.SoundParts.{facts}
use Rattle.rules.proofs.Keep.{keeps_sound}
use Rattle.rules.proofs.KeepShapes.{record_keeps}
use Rattle.rules.proofs.KeepFits.{states_fit}
use Rattle.rules.proofs.KeepSeen.{found_live, found_fits, map_fits}
use Rattle.rules.proofs.SoundRuns as base-runs
use Rattle.follow.specs.Follow.{followed}
use Rattle.follow.proofs.Beside.{length_followed}
use Rattle.maps.specs.Expected.{is_slot, is_expected, no_map, is_none, is_kept, carries, new_map}
use Rattle.maps.specs.State.{Mapped, start}
use Rattle.maps.specs.Sound.{sound}
use Rattle.maps.specs.Rows.{codes_in}
use Rattle.maps.specs.Outcome.{row_in, answer_in, enact, state_after}
use Rattle.maps.specs.Projection.{reached}
use Rattle.maps.proofs.Amended.{at_once, row_twenty, effect_is, accepted_there, codes_fine, apt_amended}

-- ── The base ──
-- what document 01 makes of an input that it accepts
pub base_step : (s : State) (i : Input) → judge (base-rows.row_of i.number (see s i)).grounds ≡ 0
    → base-outcome.state_after s i ≡ row.enact (base-rows.row_of i.number (see s i)).effect s
unfolding base-outcome.state_after base-outcome.answer_in
base_step s i z = rw (sym (row_first_is_lowest i.number (see s i)) ∙ z)

module _ (s : State) (i : Input) (h : base.sound s ≡ true) where
  abbrev x : Seen
  x = see s i

  at_once_sound : judge (opening.slot_map x).grounds ≡ 0 → Apt s (at_once (opening.slot_map x).effect)
      → base.sound (row.enact (at_once (opening.slot_map x).effect) s) ≡ true
  unfolding see
  at_once_sound z a =
      let f = facts s h in
      let k = clear (opening.slot_map x).grounds refl z in
      let u = k.1.1.0 in
      let g = found_fits s i f u in
      let b = found_live s i f u in
      keeps_sound s f (at_once (opening.slot_map x).effect) a
      (record_keeps s f x.stands (with_slot 3 (with_map x.map 2 x.found)) a b
      (states_fit g (map_fits s i f k.1.0) g.id (omega arith, omega arith) g.accessing)
      (record { name = refl; place = refl; spot = refl; port = refl }) (f.shown x.stands b))

  row_once : (n : ℕ) → n ≡ 20 → judge (base-rows.row_of n x).grounds ≡ 0 → Apt s (at_once (base-rows.row_of n x).effect)
      → base.sound (row.enact (at_once (base-rows.row_of n x).effect) s) ≡ true
  row_once n e = rw (row_twenty n x e) at_once_sound

module _ (s : Mapped) (i : Input) (h : base.sound s.base ≡ true) (a : eqb (answer_in s i) 0 ≡ true) where
  abbrev effect : Effect
  effect = (base-rows.row_of i.number (see s.base i)).effect

  base_sound : base.sound (row.enact (row_in s i).effect s.base) ≡ true
  base_sound =
      let z = accepted_there s i a in
      let q = effect_is i.number (see s.base i) (codes_in s i) in
      rw q (go (eqb i.number 20 && (codes_in s i).equal) refl z
      (subst (Apt s.base) q (apt_amended s.base i h i.number (codes_in s i) z)))
    where
      go : (b : Bool) → (eqb i.number 20 && (codes_in s i).equal) ≡ b
          → judge (base-rows.row_of i.number (see s.base i)).grounds ≡ 0
          → Apt s.base (cond b (at_once effect) effect) → base.sound (row.enact (cond b (at_once effect) effect) s.base) ≡ true
      go true q z p = row_once s.base i h i.number (eqb-true i.number 20 (and_l (eqb i.number 20) _ q)) z p
      go false q z p = ap base.sound (sym (base_step s.base i z)) ∙ base-runs.sound_after s.base i h

-- ── The maps ──
fill_all : (l : List ℕ) (n : ℕ) → length l ≡ n → fill n 0 l ≡ l
unfolding fill
fill_all [] zero e = refl
fill_all [] (suc n) e = absurd (omega arith)
fill_all (x ∷ l) zero e = absurd (omega arith)
fill_all (x ∷ l) (suc n) e = ap (λ t. x ∷ t) (fill_all l n (omega arith))

none_kept : is_kept no_map ≡ true
unfolding every
none_kept = refl

empty_kept : (l : List ℕ) → length l ≡ 0 → is_kept (fill 25 0 l) ≡ true
unfolding fill every
empty_kept [] e = refl
empty_kept (x ∷ l) e = absurd (omega arith)

expected_kept : (codes : List ℕ) → is_expected codes ≡ true → is_kept (in_map codes) ≡ true
unfolding is_expected in_map
expected_kept l e = go (eqb (length l) 0) refl e
  where
    go : (b : Bool) → eqb (length l) 0 ≡ b → (b || (eqb (length l) 25 && every is_slot l)) ≡ true → is_kept (fill 25 0 l) ≡ true
    go true p e = empty_kept l (eqb-true (length l) 0 p)
    go false p e =
        let n = eqb-true (length l) 25 (and_l (eqb (length l) 25) _ e) in
        rw (fill_all l 25 n) (or_r (is_none l) (and_r (eqb (length l) 25) _ e))

-- what a record is made with, where the input is accepted
new_kept : (n : ℕ) (codes : List ℕ) → (carries n ≡ true → is_expected codes ≡ true) → is_kept (new_map n codes) ≡ true
unfolding new_map
new_kept n codes f = go (carries n) f
  where
    go : (c : Bool) → (c ≡ true → is_expected codes ≡ true) → is_kept (cond c (in_map codes) no_map) ≡ true
    go true f = expected_kept codes (f refl)
    go false f = none_kept

followed_kept : (g : ℕ) (b : Bool) (x : List ℕ) (l : List (List ℕ)) → every is_kept l ≡ true → is_kept x ≡ true
    → every is_kept (followed g b x l) ≡ true
unfolding followed
followed_kept g b x l h p =
    every_new is_kept b (without g l) x (every_gone is_kept l g no_map (λ j c _. every_at is_kept l no_map h j c)) (λ _. p)

-- ── As many maps as records ──
as_many : (e : Effect) (x : List ℕ) (s : Mapped) → length s.maps ≡ length s.base.carriers
    → length (enact e x s).maps ≡ length (enact e x s).base.carriers
unfolding row.enact
as_many e x s h =
    sym (length_followed (set s.base.carriers e.changes e.next) s.maps e.goes e.made e.next x
    (length-set s.base.carriers e.changes e.next ∙ sym h))

-- ── Together ──
pub record Sound (s : Mapped) : Type 0 where
  pub base : base.sound s.base ≡ true
  pub many : length s.maps ≡ length s.base.carriers
  pub kept : every is_kept s.maps ≡ true

pub sound_parts : (s : Mapped) → sound s ≡ true → Sound s
unfolding sound
sound_parts s h =
    let r = and_r (base.sound s.base) _ h in
    record {
      base = and_l _ _ h;
      many = eqb-true _ _ (and_l _ _ r);
      kept = and_r (eqb (length s.maps) (length s.base.carriers)) _ r;
    }

pub sound_of : (s : Mapped) → Sound s → sound s ≡ true
unfolding sound
sound_of s p = and_i p.base (and_i (eq-eqb _ _ p.many) p.kept)

fine_is : (s : Mapped) (i : Input) → (codes_in s i).fine ≡ is_expected i.codes
unfolding codes_in
fine_is s i = refl

pub sound_after : (s : Mapped) (i : Input) → sound s ≡ true → sound (state_after s i) ≡ true
unfolding state_after
sound_after s i h = go (eqb (answer_in s i) 0) refl
  where
    p : Sound s
    p = sound_parts s h

    go : (b : Bool) → eqb (answer_in s i) 0 ≡ b
        → sound (cond b (enact (row_in s i).effect (new_map i.number i.codes) s) s) ≡ true
    go true a = sound_of (enact (row_in s i).effect (new_map i.number i.codes) s) (record {
      base = base_sound s i p.base a;
      many = as_many (row_in s i).effect (new_map i.number i.codes) s p.many;
      kept = followed_kept (row_in s i).effect.goes (row_in s i).effect.made (new_map i.number i.codes) s.maps p.kept
          (new_kept i.number i.codes (λ w. sym (fine_is s i) ∙ codes_fine s i a w));
    })
    go false a = h

pub sound_start : (P B : ℕ) → 1 ≤ P → P ≤ 4 → B ≤ 16 → sound (start P B) ≡ true
unfolding every
sound_start P B a b c = sound_of (start P B) (record { base = base-runs.sound_start P B a b c; many = refl; kept = refl })

pub sound_reached : (s : Mapped) → sound s ≡ true → (run : List Input) → sound (reached s run) ≡ true
unfolding reached
sound_reached s h [] = h
sound_reached s h (i ∷ earlier) = sound_after (reached s earlier) i (sound_reached s h earlier)
