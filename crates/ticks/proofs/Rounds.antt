-- Where f64 operations don't round: n / 1024 and n itself, with n below 2 ^ 53, are f64 values, so sums, products and quotients that come
-- to such a number are that number.
use Rattle.std.proofs.Common.{◌≡◌, ℕ, ◌+◌, ◌-◌, ◌*◌, ◌^◌, ◌<◌, ◌≤◌, Bool, true, false, cond, not, ◌&&◌, T, ltb, pos, sym, refl, ap, ◌∙◌, subst, lt_of_lt_of_le, mul_assoc, mul_comm, add-mul, mul-pos, zero-mul, mul-one, mul_right_comm, arith, lit<, lit≤, ltb→lt, nltb→le, pow_mono, shl_lt}
use native.Mathlib.Nat.{eq_of_mul-eq-mul_right}
use lib.Ieee.{Float, nan, inf, fin, binary64, unlike, up, down, round, sum, add, mul, div, of_int}
use lib.Ieee.Exact.{HasValue, round_exact}
use lib.Ieee.Fits.{down_pos}
use lib.Ieee.Scale.{round_same}
use Rattle.lists.proofs.Bools.{clash}
use Rattle.ticks.specs.Times.{Is}

-- minus only where the number is zero
abbrev pub Sign : Bool → ℕ → Type 0
Sign s n = s ≡ true → n ≡ 0

pub plus : (n : ℕ) → Sign false n
plus n z = clash z refl

of_value : (c : ℕ) (x : Float) (s : Bool) (n : ℕ) → Sign s n → HasValue x s n c → Is c x n
of_value c nan s n h v = v
of_value c (inf t) s n h v = v
of_value c (fin t m e) s n h v = (λ z. h (sym v.0 ∙ z), v.1)

-- c is 1 or 1024: 2 ^ 1074 / c is 2 ^ j
module _ (c j : ℕ) (C : 0 < c) (J : j ≤ 1074) (E : 2 ^ 1074 ≡ 2 ^ j * c) where
  -- a fraction that is n / c is kept
  pub round_is : (s : Bool) (num den n : ℕ) → 0 < den → num * c ≡ n * den → n < 2 ^ 53 → Sign s n → Is c (round binary64 s num den) n
  round_is s num den n D h l z =
      let b : 53 + j ≤ 2098 = omega arith in
      let fine : n * 2 ^ j < 2 ^ 2098 = lt_of_lt_of_le (shl_lt 53 j l) (pow_mono b) in
      let e : n * 2 ^ 1074 ≡ n * 2 ^ j * c = ap (λ (x : ℕ). n * x) E ∙ sym (mul_assoc n (2 ^ j) c) in
      subst (λ (x : Float). Is c x n) (sym (round_same binary64 s num den n c D C h))
      (of_value c (round binary64 s n c) s n z (round_exact binary64 s n c n j C l fine e))

  -- a / c + b / c, as the fractions A / D and B / D
  module _ (A B D a b : ℕ) (P : 0 < D) (g : A * c ≡ a * D) (h : B * c ≡ b * D) (l : a + b < 2 ^ 53) where
    both : (A + B) * c ≡ (a + b) * D
    both = add-mul A B c ∙ rw (g, h) (sym (add-mul a b D))

    -- no part of the one is no part of the other
    none_left : a ≡ 0 → A ≡ 0
    none_left k = eq_of_mul-eq-mul_right c C A 0 (g ∙ rw k (zero-mul D ∙ sym (zero-mul c)))

    none_right : b ≡ 0 → B ≡ 0
    none_right k = eq_of_mul-eq-mul_right c C B 0 (h ∙ rw k (zero-mul D ∙ sym (zero-mul c)))

    none_back : B ≡ 0 → b ≡ 0
    none_back w = eq_of_mul-eq-mul_right D P b 0 (sym h ∙ rw w (zero-mul c ∙ sym (zero-mul D)))

    -- minus zero and b
    from_left : a ≡ 0 → (q : Bool) → (T (not q) → B ≤ A)
        → Is c (cond q (round binary64 false (B - A) D) (round binary64 (true && ltb B A) (A - B) D)) (a + b)
    from_left k true v =
        let o = none_left k in
        let n : a + b ≡ b = omega arith in
        let d : B - A ≡ B = omega arith in
        round_is false (B - A) D (a + b) P (rw (d, n) h) l (plus (a + b))
    from_left k false v =
        let o = none_left k in
        let r : B ≤ A = v tt in
        let d : A - B ≡ 0 = omega arith in
        let u : b ≡ 0 = none_back (omega arith) in
        let x : a + b ≡ 0 = omega arith in
        round_is (true && ltb B A) (A - B) D (a + b) P (rw (d, x) (zero-mul c ∙ sym (zero-mul D))) l (λ _. x)

    -- a and minus zero
    from_right : b ≡ 0 → (q : Bool) → (T q → A < B)
        → Is c (cond q (round binary64 true (B - A) D) (round binary64 (false && ltb B A) (A - B) D)) (a + b)
    from_right k true v = let o = none_right k in let r : A < B = v tt in absurd (omega arith)
    from_right k false v =
        let o = none_right k in
        let n : a + b ≡ a = omega arith in
        let d : A - B ≡ A = omega arith in
        round_is false (A - B) D (a + b) P (rw (d, n) g) l (plus (a + b))

    sum_is : (s t : Bool) → Sign s a → Sign t b → Is c (sum binary64 s A t B D) (a + b)
    unfolding sum
    sum_is true true y z = let k = y refl in let m = z refl in round_is true (A + B) D (a + b) P both l (λ _. omega arith)
    sum_is false false y z = round_is false (A + B) D (a + b) P both l (plus (a + b))
    sum_is true false y z = from_left (y refl) (ltb A B) (nltb→le A B)
    sum_is false true y z = from_right (z refl) (ltb A B) (ltb→lt A B)

  add_is : (x y : Float) (a b : ℕ) → Is c x a → Is c y b → a + b < 2 ^ 53 → Is c (add binary64 x y) (a + b)
  unfolding add
  add_is nan y a b p q l = absurd p
  add_is (inf s) y a b p q l = absurd p
  add_is (fin s m e) nan a b p q l = absurd q
  add_is (fin s m e) (inf t) a b p q l = absurd q
  add_is (fin s m e) (fin t n d) a b p q l =
      let swap : b * (down d * down e) ≡ b * (down e * down d) = ap (λ (x : ℕ). b * x) (mul_comm (down d) (down e)) in
      sum_is (m * up e * down d) (n * up d * down e) (down e * down d) a b (mul-pos (down_pos e) (down_pos d))
      (mul_right_comm (m * up e) (down d) c ∙ rw p.1 (mul_assoc a (down e) (down d)))
      (mul_right_comm (n * up d) (down e) c ∙ rw q.1 (mul_assoc b (down d) (down e) ∙ swap))
      l s t p.0 q.0

-- ── In ticks, and in whole numbers ──
one_pos : 0 < 1
one_pos = lit< tt

pub tick_pos : 0 < 1024
tick_pos = lit< tt

round_ticks : (s : Bool) (num den n : ℕ) → 0 < den → num * 1024 ≡ n * den → n < 2 ^ 53 → Sign s n → Is 1024 (round binary64 s num den) n
round_ticks = round_is 1024 1064 tick_pos (lit≤ tt) refl

round_whole : (s : Bool) (num den n : ℕ) → 0 < den → num * 1 ≡ n * den → n < 2 ^ 53 → Sign s n → Is 1 (round binary64 s num den) n
round_whole = round_is 1 1074 one_pos (lit≤ tt) refl

pub add_ticks : (x y : Float) (a b : ℕ) → Is 1024 x a → Is 1024 y b → a + b < 2 ^ 53 → Is 1024 (add binary64 x y) (a + b)
add_ticks = add_is 1024 1064 tick_pos (lit≤ tt) refl

like : (s : Bool) → unlike s false ≡ s
like true = refl
like false = refl

-- n / 1024 times 1024 is n
pub times_is : (x : Float) (n : ℕ) → Is 1024 x n → n < 2 ^ 53 → Is 1 (mul binary64 x (fin false 1 (pos 10))) n
unfolding mul
times_is nan n p l = absurd p
times_is (inf s) n p l = absurd p
times_is (fin s m e) n p l =
    round_whole (unlike s false) (m * up e * 1024) (down e * 1) n (mul-pos (down_pos e) one_pos)
    (mul-one (m * up e * 1024) ∙ p.1 ∙ ap (λ (x : ℕ). n * x) (sym (mul-one (down e)))) l (λ z. p.0 (sym (like s) ∙ z))

-- a whole number as f64
pub of_int_fact : (n : ℕ) → n < 2 ^ 53 → Is 1 (of_int binary64 (pos n)) n
unfolding of_int
of_int_fact n l = round_whole false n 1 n one_pos refl l (plus n)

-- n divided by 1024 is n / 1024
pub over_is : (x : Float) (n : ℕ) → Is 1 x n → n < 2 ^ 53 → Is 1024 (div binary64 x (fin false 1 (pos 10))) n
unfolding div
over_is nan n p l = absurd p
over_is (inf s) n p l = absurd p
over_is (fin s m e) n p l =
    round_ticks (unlike s false) (m * up e * 1) (1024 * down e) n (mul-pos tick_pos (down_pos e))
    (rw p.1 (mul_assoc n (down e) 1024 ∙ ap (λ (x : ℕ). n * x) (mul_comm (down e) 1024))) l (λ z. p.0 (sym (like s) ∙ z))
