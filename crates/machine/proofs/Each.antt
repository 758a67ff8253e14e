-- Reports of lists of which little changes.
use Prim.Native.Nat.{ℕ, zero, suc, ◌+◌, ◌<◌, suc-le-suc}
use native.Mathlib.Nat.{le_of_suc-le-suc}
use native.Mathlib.Omega.{arith}
use mathlib.Core.Path.{◌≡◌, refl, ap₂, sym}
use mathlib.Core.Logic.{◌≢◌}
use mathlib.Core.Bool.{Bool, false}
use mathlib.Core.List.{List, [], ◌∷◌, ◌++◌, append-nil, append_assoc}
use lib.ListN.{length, get_or, set}
use borrow.Author.Tests.{eq-eqb}
use Rattle.lists.specs.Lists.{without}
use Rattle.records.specs.declared.name.Name.{Name}
use Rattle.records.specs.declared.port.Port.{Port}
use Rattle.records.specs.declared.carrier.Carrier.{Carrier}
use Rattle.records.specs.Ports.{no_port}
use Rattle.rules.specs.declared.report.Report.{Report}
use Rattle.rules.specs.Reports.{report_if, change, by_port, each}

pub not_reported : (b : Bool) (m p : ℕ) (n : Name) (x y : ℕ) → b ≡ false → report_if b m p n x y ≡ []
unfolding report_if
not_reported b m p n x y e = rw e

pub unchanged : (m p : ℕ) (n : Name) (x y : ℕ) → x ≡ y → change m p n x y ≡ []
unchanged m p n x y e = not_reported _ m p n x y (rw (eq-eqb x y e))

-- port by port
module _ (d : ℕ → Port → Port → List Report) (still : (p : ℕ) (x : Port) → d p x x ≡ []) where
  pub all_still : (p : ℕ) (l : List Port) → by_port d p l l ≡ []
  unfolding by_port
  all_still p [] = refl
  all_still p (x ∷ l) = ap₂ ◌++◌ (still p x) (all_still (suc p) l)

  pub one_port : (p : ℕ) (l : List Port) (k : ℕ) (q : Port) → k < length l
      → by_port d p l (set l k q) ≡ d (p + k) (get_or l k no_port) q
  unfolding by_port
  one_port p [] k q h = absurd (omega arith)
  one_port p (x ∷ l) zero q h = let e : p + 0 ≡ p = omega arith in rw (all_still (suc p) l, append-nil, e)
  one_port p (x ∷ l) (suc k) q h =
      let e : p + suc k ≡ suc p + k = omega arith in
      rw (still p x, e) (one_port (suc p) l k q (le_of_suc-le-suc h))

-- carrier by carrier
module _ (F : Carrier → List Report) where
  pub each_none : (l : List Carrier) (d : Carrier) → ((j : ℕ) → j < length l → F (get_or l j d) ≡ []) → each F l ≡ []
  unfolding each
  each_none [] d h = refl
  each_none (x ∷ l) d h = rw (h 0 (omega arith)) (each_none l d (λ j i. h (suc j) (suc-le-suc i)))

  pub each_one : (l : List Carrier) (k : ℕ) (d : Carrier) → k < length l
      → ((j : ℕ) → j < length l → j ≢ k → F (get_or l j d) ≡ []) → each F l ≡ F (get_or l k d)
  unfolding each
  each_one [] k d i h = absurd (omega arith)
  each_one (x ∷ l) zero d i h = rw (each_none l d (λ j b. h (suc j) (suc-le-suc b) (omega arith))) (append-nil (F x))
  each_one (x ∷ l) (suc k) d i h =
      rw (h 0 (omega arith) (omega arith))
      (each_one l k d (le_of_suc-le-suc i) (λ j b n. h (suc j) (suc-le-suc b) (omega arith)))

  pub each_without_none : (l : List Carrier) (g : ℕ) (d : Carrier)
      → ((j : ℕ) → j < length l → j ≢ g → F (get_or l j d) ≡ []) → each F (without g l) ≡ []
  unfolding each without
  each_without_none [] g d h = refl
  each_without_none (x ∷ l) zero d h = each_none l d (λ j b. h (suc j) (suc-le-suc b) (omega arith))
  each_without_none (x ∷ l) (suc g) d h =
      rw (h 0 (omega arith) (omega arith))
      (each_without_none l g d (λ j b n. h (suc j) (suc-le-suc b) (omega arith)))

  pub each_without_one : (l : List Carrier) (g k : ℕ) (d : Carrier) → k < length l → k ≢ g
      → ((j : ℕ) → j < length l → j ≢ g → j ≢ k → F (get_or l j d) ≡ []) → each F (without g l) ≡ F (get_or l k d)
  unfolding each without
  each_without_one [] g k d i n h = absurd (omega arith)
  each_without_one (x ∷ l) zero zero d i n h = absurd (n refl)
  each_without_one (x ∷ l) zero (suc k) d i n h =
      each_one l k d (le_of_suc-le-suc i) (λ j b m. h (suc j) (suc-le-suc b) (omega arith) (omega arith))
  each_without_one (x ∷ l) (suc g) zero d i n h =
      rw (each_without_none l g d (λ j b m. h (suc j) (suc-le-suc b) (omega arith) (omega arith))) (append-nil (F x))
  each_without_one (x ∷ l) (suc g) (suc k) d i n h =
      rw (h 0 (omega arith) (omega arith) (omega arith))
      (each_without_one l g k d (le_of_suc-le-suc i) (omega arith)
      (λ j b m o. h (suc j) (suc-le-suc b) (omega arith) (omega arith)))

  pub each_append : (l m : List Carrier) → each F (l ++ m) ≡ each F l ++ each F m
  unfolding each
  each_append [] m = refl
  each_append (x ∷ l) m = rw (each_append l m) (sym (append_assoc (F x) (each F l) (each F m)))
