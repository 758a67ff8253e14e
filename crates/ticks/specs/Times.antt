-- Request P8: one time, in seconds as f64. A tick is 1/1024 of a second.
-- The bits of an f64 stand for no number (`nan`), an infinity, or `fin s m e`: m * 2 ^ e, negative where s is true. 2 ^ e is the fraction
-- up e / down e.
use Rattle.std.specs.Prelude.{◌≡◌, ℕ, ◌*◌, ◌/◌, ◌%◌, Bool, true, false, cond, not, ◌&&◌, ◌||◌, ℤ, Option, Some, None, ◌==◌, nat_lt, Float}
use Rattle.std.specs.Float.{nan, inf, fin}
use Rattle.std.specs.Float.Ieee.{up, down}

-- x is exactly n / c, and not below zero: minus zero is zero
abbrev pub Is : ℕ → Float → ℕ → Type 0
Is c nan n = ⊥
Is c (inf s) n = ⊥
Is c (fin s m e) n = (s ≡ true → n ≡ 0) × (m * up e * c ≡ n * down e)

-- x is exactly n ticks
abbrev pub Counts : Float → ℕ → Type 0
Counts x n = Is 1024 x n

-- m * 2 ^ e seconds in ticks are the fraction in_ticks m e / down e
abbrev pub in_ticks : ℕ → ℤ → ℕ
in_ticks m e = m * up e * 1024

-- the whole ticks in the size of x
unfoldable pub ticks : Float → ℕ
ticks nan = 0
ticks (inf s) = 0
ticks (fin s m e) = in_ticks m e / down e

-- not below zero: minus zero counts as zero
abbrev pub not_below_zero : Bool → ℕ → Bool
not_below_zero s m = not s || m == 0

-- a whole multiple of 1/1024
abbrev pub whole_multiple : ℕ → ℤ → Bool
whole_multiple m e = in_ticks m e % down e == 0

-- up to but not including 1,048,576 seconds
abbrev pub up_to_end : ℕ → ℤ → Bool
up_to_end m e = nat_lt (in_ticks m e / down e) (1048576 * 1024)

-- A time must be a whole multiple of 1/1024 from 0 up to but not including 1,048,576.
unfoldable pub timely : Float → Bool
timely nan = false
timely (inf s) = false
timely (fin s m e) = not_below_zero s m && whole_multiple m e && up_to_end m e

-- its ticks; none where it is any other float
unfoldable pub time_of : Float → Option ℕ
time_of x = cond (timely x) (Some (ticks x)) None
