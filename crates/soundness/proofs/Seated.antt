-- One carrier more: its buffer place and its port are nobody else's.
use Prim.Native.Nat.{ℕ, ◌+◌, ◌<◌}
use native.Mathlib.Omega.{arith}
use mathlib.Core.Path.{◌≡◌, refl, ap, sym, ◌∙◌}
use mathlib.Core.Bool.{Bool, true, false, not, ◌&&◌, ◌||◌}
use mathlib.Core.List.{List}
use lib.ListN.{get_or}
use lib.Dec.{eqb, leb}
use borrow.Author.Tests.{eqb-true, eqb-false, eq-eqb, ne_eqb, leb-true, le-leb, lt-leb}
use Rattle.lists.specs.Lists.{every_two}
use Rattle.records.specs.declared.carrier.Carrier.{Carrier}
use Rattle.rules.specs.Sound.{spot_in_range, place_agrees}
use Rattle.image.specs.Image.{table}
use Rattle.image.proofs.Table.{getD_table}
use Rattle.passes.specs.Passes.{record_on, latest}
use Rattle.soundness.specs.Seats.{seat_fits}
use Rattle.passes.proofs.Turns.{two_next}
use Rattle.passes.proofs.Latest.{marked, fresh}

-- The code's test of a seat, which asks fewer questions of a sound record.
abbrev seated : ℕ → ℕ → Carrier → Bool
seated P B c =
    (((leb c.place 2
    && (((eqb c.place 2 && not (eqb c.spot 0)) || (not (eqb c.place 2) && eqb c.spot 0)) && leb c.spot B))
    && leb c.port P)
    && (eqb c.place 0 || ((eqb c.place 2 && eqb c.port 0) || (not (eqb c.place 2) && not (eqb c.port 0)))))
    && (not (eqb c.opened 1) || not (eqb c.place 0))

-- a spot that is 0 is no larger than any
spot_tests : (p s B : ℕ) (two none low : Bool) → eqb p 2 ≡ two → eqb s 0 ≡ none → leb s B ≡ low
    → (((two && not none) || (not two && none)) && low) ≡ ((two && (leb 1 s && low)) || (not two && none))
spot_tests p s B two true low a b c =
    let z = eqb-true s 0 b in
    let h : leb 1 s ≡ false = lt-leb 1 s (omega arith) in
    let l : low ≡ true = sym c ∙ le-leb s B (omega arith) in
    rw (h, l) (go two)
  where
    go : (t : Bool) → (((t && false) || (not t && true)) && true) ≡ ((t && (false && true)) || (not t && true))
    go true = refl
    go false = refl
spot_tests p s B two false low a b c =
    let z = eqb-false s 0 b in
    let h : leb 1 s ≡ true = le-leb 1 s (omega arith) in
    rw h (go two low)
  where
    go : (t l : Bool) → (((t && true) || (not t && false)) && l) ≡ ((t && (true && l)) || (not t && false))
    go true true = refl
    go true false = refl
    go false l = refl

-- a place from 0 to 2 that is not 0 and not 2 is 1
tie_tests : (p : ℕ) (spot port none : Bool)
    → (((leb p 2 && spot) && port) && (eqb p 0 || ((eqb p 2 && none) || (not (eqb p 2) && not none))))
    ≡ (((leb p 2 && spot) && port) && ((not (eqb p 1) || not none) && (not (eqb p 2) || none)))
tie_tests p spot port none = go (leb p 2) refl (eqb p 0) refl (eqb p 2) refl
  where
    go : (l : Bool) → leb p 2 ≡ l → (e : Bool) → eqb p 0 ≡ e → (t : Bool) → eqb p 2 ≡ t
        → (((l && spot) && port) && (e || ((t && none) || (not t && not none))))
        ≡ (((l && spot) && port) && ((not (eqb p 1) || not none) && (not t || none)))
    go false a e b t c = refl
    go true a true b t c =
        let z = eqb-true p 0 b in
        let o : eqb p 1 ≡ false = ne_eqb p 1 (λ d. omega arith) in
        let w : t ≡ false = sym c ∙ ne_eqb p 2 (λ d. omega arith) in
        rw (o, w)
    go true a false b true c =
        let z = eqb-true p 2 c in
        let o : eqb p 1 ≡ false = ne_eqb p 1 (λ d. omega arith) in
        rw o (same none)
      where
        same : (n : Bool) → ((spot && port) && (n || false)) ≡ ((spot && port) && n)
        same true = refl
        same false = refl
    go true a false b false c =
        let x = eqb-false p 0 b in
        let y = eqb-false p 2 c in
        let l = leb-true p 2 a in
        rw (eq-eqb p 1 (omega arith)) (same none)
      where
        same : (n : Bool) → ((spot && port) && not n) ≡ ((spot && port) && (not n && true))
        same true = refl
        same false = refl

pub seat_tests : (P B : ℕ) (c : Carrier) → seated P B c ≡ seat_fits P B c
unfolding seat_fits spot_in_range place_agrees
seat_tests P B c =
    rw (spot_tests c.place c.spot B (eqb c.place 2) (eqb c.spot 0) (leb c.spot B) refl refl refl)
    (ap (λ t. t && (not (eqb c.opened 1) || not (eqb c.place 0)))
    (tie_tests c.place ((eqb c.place 2 && (leb 1 c.spot && leb c.spot B)) || (not (eqb c.place 2) && eqb c.spot 0))
    (leb c.port P) (eqb c.port 0)))

-- one record more, by a key that only 0 may share
module _ (g : Carrier → ℕ) (m : List ℕ) (k : ℕ) where
  abbrev apart : Carrier → Carrier → Bool
  apart a b = eqb (g a) 0 || not (eqb (g a) (g b))

  abbrev key : ℕ → ℕ
  key j = g (record_on m j)

  pub key_more : key k < 256 → every_two apart (table (k + 1) (record_on m))
      ≡ ((eqb (key k) 0 || eqb (get_or (marked key 256 k) (key k) 0) 0) && every_two apart (table k (record_on m)))
  key_more h =
      two_next apart (record_on m) k
      ∙ ap (λ b. b && every_two apart (table k (record_on m)))
      (fresh g (record_on m) (key k) k ∙ ap (λ j. eqb (key k) 0 || eqb j 0) (sym (getD_table 256 (λ v. latest key v k) (key k) 0 h)))
