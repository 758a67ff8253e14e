-- One time: `timely` says of a float that it is exactly a number of ticks below 1,048,576 seconds, and `time_of` gives that number, or none.
use Rattle.std.proofs.Common.{◌≡◌, ℕ, ◌*◌, ◌/◌, ◌%◌, ◌<◌, Bool, true, false, cond, ◌&&◌, ℤ, Some, None, sym, refl, ap, ◌∙◌, add-zero, div-add-mod', zero-mul, mul-div_cancel, ltb-true, lt-ltb, eq-eqb, eqb-true}
use native.Mathlib.Nat.{mul-mod_left, eq_of_mul-eq-mul_right}
use lib.Ieee.{Float, nan, inf, fin, up, down}
use lib.Ieee.Fits.{up_pos, down_pos}
use Rattle.lists.proofs.Bools.{clash, and_l, and_r}
use Rattle.ticks.specs.Times.{Is, in_ticks, ticks, not_below_zero, whole_multiple, up_to_end, timely, time_of}
use Rattle.ticks.proofs.Rounds.{Sign, plus, tick_pos}

-- ── What is n / 1024 has n ticks, and is timely where these are few enough ──
pub counted : (x : Float) (n : ℕ) → Is 1024 x n → ticks x ≡ n
unfolding ticks
counted nan n p = absurd p
counted (inf s) n p = absurd p
counted (fin s m e) n p = rw p.1 (mul-div_cancel n (down_pos e))

module _ (s : Bool) (m : ℕ) (e : ℤ) (n : ℕ) (p : Is 1024 (fin s m e) n) where
  no_size : n ≡ 0 → m ≡ 0
  no_size z =
      eq_of_mul-eq-mul_right (up e) (up_pos e) m 0
      (eq_of_mul-eq-mul_right 1024 tick_pos (m * up e) (0 * up e) (p.1 ∙ rw (z, zero-mul (down e), zero-mul (up e))))

  not_below : (t : Bool) → Sign t n → not_below_zero t m ≡ true
  not_below false z = refl
  not_below true z = eq-eqb m 0 (no_size (z refl))

pub is_timely : (x : Float) (n : ℕ) → Is 1024 x n → n < 1048576 * 1024 → timely x ≡ true
unfolding timely
is_timely nan n p l = absurd p
is_timely (inf s) n p l = absurd p
is_timely (fin s m e) n p l =
    let d : in_ticks m e / down e ≡ n = rw p.1 (mul-div_cancel n (down_pos e)) in
    let r : in_ticks m e % down e ≡ 0 = rw p.1 (mul-mod_left n (down e)) in
    rw (not_below s m e n p s p.0, eq-eqb (in_ticks m e % down e) 0 r, d, lt-ltb n (1048576 * 1024) l)

-- ── And the other way round ──
no_ticks : (e : ℤ) → in_ticks 0 e / down e ≡ 0
no_ticks e = rw (zero-mul (up e)) (ap (λ (x : ℕ). x / down e) (sym (zero-mul (down e))) ∙ mul-div_cancel 0 (down_pos e))

signed : (s : Bool) (m : ℕ) (e : ℤ) → not_below_zero s m ≡ true → Sign s (in_ticks m e / down e)
signed true m e h z = rw (eqb-true m 0 h) (no_ticks e)
signed false m e h z = plus _ z

module _ (s : Bool) (m : ℕ) (e : ℤ) (h : (not_below_zero s m && whole_multiple m e && up_to_end m e) ≡ true) where
  first_two : (not_below_zero s m && whole_multiple m e) ≡ true
  first_two = and_l (not_below_zero s m && whole_multiple m e) (up_to_end m e) h

  nothing_over : in_ticks m e ≡ in_ticks m e / down e * down e
  nothing_over =
      let r : in_ticks m e % down e ≡ 0 = eqb-true (in_ticks m e % down e) 0 (and_r (not_below_zero s m) (whole_multiple m e) first_two) in
      sym (div-add-mod' (in_ticks m e) (down e)) ∙ rw r (add-zero (in_ticks m e / down e * down e))

pub timely_is : (x : Float) → timely x ≡ true → Is 1024 x (ticks x)
unfolding timely ticks
timely_is nan h = clash h refl
timely_is (inf s) h = clash h refl
timely_is (fin s m e) h =
    (signed s m e (and_l (not_below_zero s m) (whole_multiple m e) (first_two s m e h)), nothing_over s m e h)

pub timely_few : (x : Float) → timely x ≡ true → ticks x < 1048576 * 1024
unfolding timely ticks
timely_few nan h = clash h refl
timely_few (inf s) h = clash h refl
timely_few (fin s m e) h =
    ltb-true (in_ticks m e / down e) (1048576 * 1024) (and_r (not_below_zero s m && whole_multiple m e) (up_to_end m e) h)

-- ── Which of the two a time is ──
pub ticks_of : (x : Float) (n : ℕ) → Is 1024 x n → n < 1048576 * 1024 → Some n ≡ time_of x
unfolding time_of
ticks_of x n p l = rw (is_timely x n p l, counted x n p)

pub other : (x : Float) → (timely x ≡ true → ⊥) → None ≡ time_of x
unfolding time_of
other x h = go (timely x) h
  where
    go : (b : Bool) → (b ≡ true → ⊥) → None ≡ cond b (Some (ticks x)) None
    go true h = absurd (h refl)
    go false h = refl

pub told_ticks : (x : Float) (n : ℕ) → Some n ≡ time_of x → true ≡ timely x
unfolding time_of
told_ticks x n h = go (timely x) h
  where
    go : (b : Bool) → Some n ≡ cond b (Some (ticks x)) None → true ≡ b
    go true e = refl
    go false e = cc

pub told_other : (x : Float) → None ≡ time_of x → false ≡ timely x
unfolding time_of
told_other x h = go (timely x) h
  where
    go : (b : Bool) → None ≡ cond b (Some (ticks x)) None → false ≡ b
    go true e = cc
    go false e = refl
