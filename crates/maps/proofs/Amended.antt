-- The amended rows beside document 01's: what is accepted here is accepted there, and only row 20's slot status differs.
use Prim.Native.Nat.{ℕ, ◌<◌}
use native.Mathlib.Omega.{arith}
use mathlib.Core.Path.{◌≡◌, refl, sym, subst, ◌∙◌}
use mathlib.Core.Bool.{Bool, true, false, cond, not, ◌&&◌}
use mathlib.Core.List.{List, ◌∷◌}
use lib.ListN.{length}
use lib.Dec.{eqb, leb}
use borrow.Author.Tests.{eqb-true, eqb-false, le-leb}
use Rattle.lists.proofs.Bools.{and_l}
use Rattle.records.specs.Fields.{with_slot}
use Rattle.rules.specs.declared.row.Seen.{Seen}
use Rattle.rules.specs.declared.row.Effect.{Effect}
use Rattle.rules.specs.State.{State}
use Rattle.rules.specs.Sound.{sound}
use Rattle.rules.specs.Seen.{Input, see}
use Rattle.rules.specs.Row.{Ground, unless, judge, lowest, lower}
use Rattle.rules.specs.Booking as booking
use Rattle.rules.specs.Opening as opening
use Rattle.rules.specs.Rows as base
use Rattle.rules.proofs.Lowest.{row_first_is_lowest}
use Rattle.rules.proofs.Accepts.{clear}
use Rattle.rules.proofs.Apt.{Apt, apt, stands_in}
use Rattle.maps.specs.declared.codes.Codes.{Codes}
use Rattle.maps.specs.Expected.{carries}
use Rattle.maps.specs.State.{Mapped}
use Rattle.maps.specs.Rows.{codes_in, row_of}
use Rattle.maps.specs.Outcome.{row_in, answer_in}

-- slot status OK at once
abbrev pub at_once : Effect → Effect
at_once e = record {
  port = e.port;
  becomes = e.becomes;
  goes = e.goes;
  changes = e.changes;
  next = with_slot 3 e.next;
  made = e.made;
}

pub row_twenty : (n : ℕ) (x : Seen) → n ≡ 20 → base.row_of n x ≡ opening.slot_map x
unfolding base.row_of
row_twenty n x e = rw e

module _ (n : ℕ) (x : Seen) (c : Codes) where
  row_one : base.row_of 1 x ≡ booking.bind x
  unfolding base.row_of
  row_one = refl

  row_three : base.row_of 3 x ≡ booking.carrier_notification x
  unfolding base.row_of
  row_three = refl

  pub grounds_are : (row_of n x c).grounds ≡ cond (carries n) (unless c.fine 1 ∷ (base.row_of n x).grounds) (base.row_of n x).grounds
  unfolding row_of carries
  grounds_are = go (eqb n 1) refl (eqb n 3) refl (eqb n 20) refl
    where
      go : (a : Bool) → eqb n 1 ≡ a → (b : Bool) → eqb n 3 ≡ b → (d : Bool) → eqb n 20 ≡ d
          → (row_of n x c).grounds ≡ cond (carries n) (unless c.fine 1 ∷ (base.row_of n x).grounds) (base.row_of n x).grounds
      go true p _ _ _ _ = rw (eqb-true n 1 p, row_one)
      go false p true q _ _ = rw (eqb-true n 3 q, row_three)
      go false p false q true r = rw (eqb-true n 20 r, row_twenty 20 x refl)
      go false p false q false r = rw (p, q, r)

  pub effect_is : (row_of n x c).effect ≡ cond (eqb n 20 && c.equal) (at_once (base.row_of n x).effect) (base.row_of n x).effect
  unfolding row_of
  effect_is = go (eqb n 1) refl (eqb n 3) refl (eqb n 20) refl
    where
      twenty : (w : Bool) → (row_of 20 x (record { fine = c.fine; equal = w })).effect
          ≡ cond w (at_once (opening.slot_map x).effect) (opening.slot_map x).effect
      twenty true = refl
      twenty false = refl

      go : (a : Bool) → eqb n 1 ≡ a → (b : Bool) → eqb n 3 ≡ b → (d : Bool) → eqb n 20 ≡ d
          → (row_of n x c).effect ≡ cond (eqb n 20 && c.equal) (at_once (base.row_of n x).effect) (base.row_of n x).effect
      go true p _ _ _ _ = rw (eqb-true n 1 p, row_one)
      go false p true q _ _ = rw (eqb-true n 3 q, row_three)
      go false p false q true r = rw (eqb-true n 20 r, row_twenty 20 x refl) (twenty c.equal)
      go false p false q false r = rw (p, q, r)

-- whether the codes equal the map kept matters to row 20 alone
pub row_same : (n : ℕ) (x : Seen) (fine equal : Bool)
    → row_of n x (record { fine = fine; equal = eqb n 20 && equal }) ≡ row_of n x (record { fine = fine; equal = equal })
unfolding row_of
row_same n x fine equal = go (eqb n 20) refl
  where
    go : (b : Bool) → eqb n 20 ≡ b
        → row_of n x (record { fine = fine; equal = eqb n 20 && equal }) ≡ row_of n x (record { fine = fine; equal = equal })
    go true e = rw (eqb-true n 20 e)
    go false e = rw e

-- ── The answer ──
pub amended_judge : (n : ℕ) (x : Seen) (c : Codes)
    → cond (carries n && not c.fine) 1 (judge (base.row_of n x).grounds) ≡ judge (row_of n x c).grounds
amended_judge n x c = rw (grounds_are n x c) (go (carries n) c.fine)
  where
    go : (w f : Bool) → cond (w && not f) 1 (judge (base.row_of n x).grounds)
        ≡ judge (cond w (unless f 1 ∷ (base.row_of n x).grounds) (base.row_of n x).grounds)
    go true true = refl
    go true false = refl
    go false f = refl

one_first : (b : Bool) (l : ℕ) → eqb l 0 ≡ b → 1 ≡ cond b 1 (cond (leb 1 l) 1 l)
one_first true l e = refl
one_first false l e = let n = eqb-false l 0 e in rw (le-leb 1 l (omega arith))

pub lower_one : (l : ℕ) → 1 ≡ lower 1 l
unfolding lower
lower_one l = one_first (eqb l 0) l refl

-- the grounds stand lowest number first
pub first_is_lowest : (n : ℕ) (x : Seen) (c : Codes) → judge (row_of n x c).grounds ≡ lowest (row_of n x c).grounds
unfolding lowest lower
first_is_lowest n x c = rw (grounds_are n x c) (go (base.row_of n x).grounds (row_first_is_lowest n x) (carries n) c.fine)
  where
    go : (gs : List Ground) → judge gs ≡ lowest gs → (w f : Bool)
        → judge (cond w (unless f 1 ∷ gs) gs) ≡ lowest (cond w (unless f 1 ∷ gs) gs)
    go gs e true true = e
    go gs e true false = lower_one (lowest gs)
    go gs e false f = e

module _ (s : Mapped) (i : Input) (a : eqb (answer_in s i) 0 ≡ true) where
  abbrev x : Seen
  x = see s.base i

  pub accepted_judge : judge (row_in s i).grounds ≡ 0
  unfolding answer_in
  accepted_judge = first_is_lowest i.number x (codes_in s i) ∙ eqb-true _ 0 a

  -- where the layer accepts, document 01 does, and the codes of a row that carries a map are one
  both : (judge (base.row_of i.number x).grounds ≡ 0) × (carries i.number ≡ true → (codes_in s i).fine ≡ true)
  both = go (carries i.number) (codes_in s i).fine (rw (grounds_are i.number x (codes_in s i)) at accepted_judge)
    where
      go : (w f : Bool) → judge (cond w (unless f 1 ∷ (base.row_of i.number x).grounds) (base.row_of i.number x).grounds) ≡ 0
          → (judge (base.row_of i.number x).grounds ≡ 0) × (w ≡ true → f ≡ true)
      go true true e = (e, λ _. refl)
      go true false e = absurd (omega arith)
      go false f e = (e, λ w. absurd (go_not w))
        where
          go_not : ◌≡◌ {A = Bool} false true → ⊥
          go_not w = let z : ◌≡◌ {A = ℕ} 0 1 = cc in omega arith

  pub accepted_there : judge (base.row_of i.number x).grounds ≡ 0
  accepted_there = both.0

  pub codes_fine : carries i.number ≡ true → (codes_in s i).fine ≡ true
  codes_fine = both.1

-- ── An effect at once is fit for the reports ──
at_once_apt : (s : State) (e : Effect) → e.made ≡ false → e.changes < length s.carriers → Apt s e → Apt s (at_once e)
at_once_apt s e m b a = record {
  still = a.still;
  apart = a.apart;
  named = a.named;
  lone = a.lone;
  fresh = a.fresh;
  none = λ _ l. absurd (omega arith);
}

module _ (s : State) (i : Input) (h : sound s ≡ true) where
  -- an accepted SlotMap is for a live record
  pub mapped_live : judge (opening.slot_map (see s i)).grounds ≡ 0 → (see s i).stands < length s.carriers
  mapped_live z = stands_in s i h (clear (opening.slot_map (see s i)).grounds refl z).1.1.0

  twenty : (n : ℕ) → n ≡ 20 → judge (base.row_of n (see s i)).grounds ≡ 0 → Apt s (base.row_of n (see s i)).effect
      → Apt s (at_once (base.row_of n (see s i)).effect)
  twenty n e = rw (row_twenty n (see s i) e) (λ z a. at_once_apt s (opening.slot_map (see s i)).effect refl (mapped_live z) a)

  pub apt_amended : (n : ℕ) (c : Codes) → judge (base.row_of n (see s i)).grounds ≡ 0 → Apt s (row_of n (see s i) c).effect
  apt_amended n c z = subst (Apt s) (sym (effect_is n (see s i) c)) (go (eqb n 20 && c.equal) refl)
    where
      go : (b : Bool) → (eqb n 20 && c.equal) ≡ b
          → Apt s (cond b (at_once (base.row_of n (see s i)).effect) (base.row_of n (see s i)).effect)
      go true e = twenty n (eqb-true n 20 (and_l (eqb n 20) c.equal e)) z (apt s i h n z)
      go false e = apt s i h n z
