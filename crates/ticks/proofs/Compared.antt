-- f64 comparisons and the cut to a whole number, of floats that are n / c and not below zero.
use Rattle.std.proofs.Common.{◌≡◌, ℕ, ◌+◌, ◌-◌, ◌*◌, ◌/◌, ◌^◌, ◌<◌, min, Bool, true, false, ◌||◌, eqb, ℤ, pos, sym, refl, ap, ◌∙◌, mul_assoc, mul_comm, mul-lt-mul_of_pos_right, mul-pos, one-mul, zero-mul, mul-one, mul_right_comm, mul-div_cancel, arith, lt-ltb, eq-eqb, eqb-true}
use native.Mathlib.Nat.{eq_of_mul-eq-mul_right}
use mathlib.Core.Bool.{beq}
use lib.Ieee.{Float, nan, inf, fin, up, down, eq, lt, to_unsigned}
use lib.Ieee.Fits.{down_pos}
use Rattle.lists.proofs.Bools.{clash, and_l, and_r}
use Rattle.ticks.specs.Times.{Is}
use Rattle.ticks.proofs.Rounds.{Sign, plus}

module _ (c : ℕ) (C : 0 < c) where
  -- two floats over one denominator
  cross : (m u d d' n : ℕ) → m * u * c ≡ n * d → m * u * d' * c ≡ n * (d * d')
  cross m u d d' n h = mul_right_comm (m * u) d' c ∙ rw h (mul_assoc n d d')

  module _ (A n D : ℕ) (a : A * c ≡ n * D) where
    nothing : n ≡ 0 → eqb A 0 ≡ true
    nothing z = eq-eqb A 0 (eq_of_mul-eq-mul_right c C A 0 (a ∙ rw z (zero-mul D ∙ sym (zero-mul c))))

    signs : (s t : Bool) → Sign s n → Sign t n → (beq s t || eqb A 0) ≡ true
    signs true true y z = refl
    signs false false y z = refl
    signs true false y z = nothing (y refl)
    signs false true y z = nothing (z refl)

    sign : 0 < D → (s t : Bool) → Sign s n → (beq s t || eqb A 0) ≡ true → Sign t n
    sign P true t y w z = y refl
    sign P false false y w z = plus n z
    sign P false true y w z = eq_of_mul-eq-mul_right D P n 0 (sym a ∙ rw (eqb-true A 0 w) (zero-mul c ∙ sym (zero-mul D)))

  -- the same number is found equal
  pub same : (x y : Float) (n : ℕ) → Is c x n → Is c y n → eq x y ≡ true
  unfolding eq
  same nan y n p q = absurd p
  same (inf s) y n p q = absurd p
  same (fin s m e) nan n p q = absurd q
  same (fin s m e) (inf t) n p q = absurd q
  same (fin s m e) (fin t k d) n p q =
      let A = m * up e * down d in
      let B = k * up d * down e in
      let a : A * c ≡ n * (down e * down d) = cross m (up e) (down e) (down d) n p.1 in
      let swap : n * (down d * down e) ≡ n * (down e * down d) = ap (λ (x : ℕ). n * x) (mul_comm (down d) (down e)) in
      let b : B * c ≡ n * (down e * down d) = cross k (up d) (down d) (down e) n q.1 ∙ swap in
      rw (eq-eqb A B (eq_of_mul-eq-mul_right c C A B (a ∙ sym b))) (signs A n (down e * down d) a s t p.0 q.0)

  -- what is found equal is the same number
  pub found : (x y : Float) (n : ℕ) → Is c x n → eq x y ≡ true → Is c y n
  unfolding eq
  found nan y n p h = absurd p
  found (inf s) y n p h = absurd p
  found (fin s m e) nan n p h = clash h refl
  found (fin s m e) (inf t) n p h = clash h refl
  found (fin s m e) (fin t k d) n p h =
      let A = m * up e * down d in
      let B = k * up d * down e in
      let g : A ≡ B = eqb-true A B (and_l (eqb A B) (beq s t || eqb A 0) h) in
      let a : A * c ≡ n * (down e * down d) = cross m (up e) (down e) (down d) n p.1 in
      let swap : n * (down e * down d) ≡ n * (down d * down e) = ap (λ (x : ℕ). n * x) (mul_comm (down e) (down d)) in (
        sign A n (down e * down d) a (mul-pos (down_pos e) (down_pos d)) s t p.0 (and_r (eqb A B) (beq s t || eqb A 0) h),
        eq_of_mul-eq-mul_right (down e) (down_pos e) (k * up d * c) (n * down d)
            (mul_right_comm (k * up d) c (down e) ∙ rw (sym g) (a ∙ swap ∙ sym (mul_assoc n (down d) (down e)))),
      )

-- ── A whole number ──
whole_val : (m : ℕ) (e : ℤ) (n : ℕ) → m * up e * 1 ≡ n * down e → m * up e ≡ n * down e
whole_val m e n h = sym (mul-one (m * up e)) ∙ h

capped : (n : ℕ) → n < 2 ^ 64 → min n (2 ^ 64 - 1) ≡ n
capped n h = omega arith

-- cut to a u64 it is itself
pub cut_is : (y : Float) (n : ℕ) → Is 1 y n → n < 2 ^ 64 → to_unsigned 64 y ≡ n
unfolding to_unsigned
cut_is nan n p l = absurd p
cut_is (inf s) n p l = absurd p
cut_is (fin true m e) n p l = sym (p.0 refl)
cut_is (fin false m e) n p l =
    ap (λ (x : ℕ). min (x / down e) (2 ^ 64 - 1)) (whole_val m e n p.1)
    ∙ ap (λ (x : ℕ). min x (2 ^ 64 - 1)) (mul-div_cancel n (down_pos e))
    ∙ capped n l

-- and the two tests before it hold
pub above_is : (y : Float) (n : ℕ) → Is 1 y n → lt (fin true 1 (pos 0)) y ≡ true
unfolding lt
above_is nan n p = absurd p
above_is (inf s) n p = absurd p
above_is (fin false m e) n p = lt-ltb 0 _ (more (down e) (m * up e * 1) (down_pos e))
  where
    more : (d a : ℕ) → 0 < d → 0 < 1 * d + a
    more d a h = omega arith
above_is (fin true m e) n p = lt-ltb (m * up e * 1) (1 * down e) (rw (p.1, p.0 refl, zero-mul (down e), one-mul (down e)) (down_pos e))

pub under_is : (y : Float) (n : ℕ) → Is 1 y n → n < 2 ^ 64 → lt y (fin false 1 (pos 64)) ≡ true
unfolding lt
under_is nan n p l = absurd p
under_is (inf s) n p l = absurd p
under_is (fin false m e) n p l = lt-ltb (m * up e * 1) (2 ^ 64 * down e) (rw p.1 (mul-lt-mul_of_pos_right l (down_pos e)))
under_is (fin true m e) n p l = lt-ltb 0 _ (more (m * up e * 1) (down e) (down_pos e))
  where
    more : (a d : ℕ) → 0 < d → 0 < a + 2 ^ 64 * d
    more a d h = omega arith
