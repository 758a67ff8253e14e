-- A number that is none of the 26 has no row.
use Prim.Native.Nat.{ℕ, zero, suc, ◌≤◌}
use native.Mathlib.Omega.{arith}
use mathlib.Core.Path.{◌≡◌}
use mathlib.Core.Bool.{true, false}
use lib.Dec.{eqb, leb}
use borrow.Author.Tests.{leb-true, ne_eqb}
use Rattle.lists.specs.Lists.{between}
use Rattle.lists.proofs.Bools.{and_l, and_r}
use Rattle.rules.specs.declared.row.Seen.{Seen}
use Rattle.rules.specs.Rows.{row_of, no_row}

-- n is none of 1 to k: what a match knows in its last arm
abbrev pub NoneOf : ℕ → ℕ → Type 0
NoneOf n zero = Unit {0}
NoneOf n (suc k) = NoneOf n k × (n ≡ suc k → ⊥)

outside : (n k : ℕ) → NoneOf n k → 1 ≤ n → n ≤ k → ⊥
outside n zero h p q = omega arith
outside n (suc k) h p q = outside n k h.0 p (omega (arith, h.1))

other : (n : ℕ) → NoneOf n 26 → (k : ℕ) → between 1 k 26 ≡ true → eqb n k ≡ false
other n h k c =
    let low = leb-true 1 k (and_l (leb 1 k) _ c) in
    let high = leb-true k 26 (and_r (leb 1 k) _ c) in
    ne_eqb n k (λ e. outside n 26 h (omega arith) (omega arith))

pub no_row_fact : (n : ℕ) (x : Seen) → NoneOf n 26 → row_of n x ≡ no_row x
unfolding row_of
no_row_fact n x h = simp (other n h)
