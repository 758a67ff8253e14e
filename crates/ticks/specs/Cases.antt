-- Times by their bits, and wafers, with what is made of each.
use Rattle.std.specs.Prelude.{ℕ, ◌-◌, ◌*◌, Bool, true, false, cond, not, ◌&&◌, List, [], ◌∷◌, ◌++◌, replicate, ◌==◌, from_bits, Float}
use Rattle.std.specs.Float.{binary64}
use Rattle.ticks.specs.Times.{ticks, timely}
use Rattle.ticks.specs.Wafers.{wafers_from}

abbrev same : Bool → Bool → Bool
same a b = cond a b (not b)

-- ── One time ──
pub record OneTime : Type 0 where
  pub bits : ℕ
  pub good : Bool
  pub count : ℕ

-- the f64 of these bits is so many 1/1024ths; it is any other float
abbrev counts : ℕ → ℕ → OneTime
counts bits n = record { bits = bits; good = true; count = n }

abbrev other : ℕ → OneTime
other bits = record { bits = bits; good = false; count = 0 }

unfoldable pub time_holds : OneTime → Bool
time_holds t =
    let x = from_bits binary64 t.bits in
    same (timely x) t.good && cond t.good (ticks x) 0 == t.count

abbrev pub one_times : List OneTime
one_times =
    -- 0, and minus zero is zero
    counts 0x0000000000000000 0
    ∷ counts 0x8000000000000000 0
    -- 1/1024, 0.5, 1, and 1 and 1/1024
    ∷ counts 0x3F50000000000000 1
    ∷ counts 0x3FE0000000000000 512
    ∷ counts 0x3FF0000000000000 1024
    ∷ counts 0x3FF0040000000000 1025
    -- 1/2048, 3/2048, the next float above 1 and the next below it
    ∷ other 0x3F40000000000000
    ∷ other 0x3F58000000000000
    ∷ other 0x3FF0000000000001
    ∷ other 0x3FEFFFFFFFFFFFFF
    -- 1,048,576 less 1/1024; the next float above that; 1,048,576; the largest float
    ∷ counts 0x412FFFFFFF800000 (1048576 * 1024 - 1)
    ∷ other 0x412FFFFFFF800001
    ∷ other 0x4130000000000000
    ∷ other 0x7FEFFFFFFFFFFFFF
    -- minus 1/1024, minus 1
    ∷ other 0xBF50000000000000
    ∷ other 0xBFF0000000000000
    -- the infinities, NaNs of either sign
    ∷ other 0x7FF0000000000000
    ∷ other 0xFFF0000000000000
    ∷ other 0x7FF8000000000000
    ∷ other 0xFFF8000000000000
    ∷ other 0x7FF0000000000001
    -- the smallest subnormal, that below zero, the largest subnormal, the smallest normal
    ∷ other 0x0000000000000001
    ∷ other 0x8000000000000001
    ∷ other 0x000FFFFFFFFFFFFF
    ∷ other 0x0010000000000000
    ∷ []

-- ── Wafers ──
pub record Case : Type 0 where
  pub sent : List Float
  pub fits : Bool
  pub timely : Bool
  pub seconds : ℕ

abbrev enough : ℕ → List Float → Case
enough n sent = record { sent = sent; fits = true; timely = true; seconds = n }

abbrev untimely : List Float → Case
untimely sent = record { sent = sent; fits = true; timely = false; seconds = 0 }

abbrev misfit : List Float → Case
misfit sent = record { sent = sent; fits = false; timely = false; seconds = 0 }

unfoldable pub holds : Case → Bool
holds c =
    let r = wafers_from c.sent in
    same r.fits c.fits && same r.timely c.timely && r.seconds == c.seconds

-- a wafer's process time and handling time, by their bits
abbrev wafer : ℕ → ℕ → List Float
wafer p h = from_bits binary64 p ∷ from_bits binary64 h ∷ []

abbrev none : ℕ
none = 0x0000000000000000

abbrev minus_zero : ℕ
minus_zero = 0x8000000000000000

-- 1/2048, which is no whole multiple; 1/1024; 0.5; 1
abbrev half_tick : ℕ
half_tick = 0x3F40000000000000

abbrev tick : ℕ
tick = 0x3F50000000000000

abbrev half : ℕ
half = 0x3FE0000000000000

abbrev second : ℕ
second = 0x3FF0000000000000

-- 1,048,576 less 1/1024
abbrev largest : ℕ
largest = 0x412FFFFFFF800000

-- n of the float with these bits
abbrev times : ℕ → ℕ → List Float
times n bits = replicate n (from_bits binary64 bits)

abbrev pub cases : List Case
cases =
    -- no wafers
    enough 0 []
    -- rounded up, and no further
    ∷ enough 0 (wafer none minus_zero)
    ∷ enough 1 (wafer tick none)
    ∷ enough 1 (wafer none tick)
    ∷ enough 1 (wafer half half)
    ∷ enough 2 (wafer second tick)
    -- once, of the total of both times of all wafers
    ∷ enough 2 (wafer half half ++ wafer half half)
    ∷ enough 1 (wafer tick tick ++ wafer tick tick)
    ∷ enough 1 (times 50 tick)
    ∷ enough 25 (times 50 half)
    -- 25 wafers of the longest times, and 26 of any
    ∷ enough 52428800 (times 50 largest)
    ∷ misfit (times 52 none)
    ∷ misfit (times 52 half_tick)
    ∷ misfit (times 100 none)
    -- no whole wafers
    ∷ misfit (times 1 none)
    ∷ misfit (times 3 half_tick)
    ∷ misfit (times 49 none)
    ∷ misfit (times 51 none)
    -- any other float, be it a process time or a handling time, first or last
    ∷ untimely (wafer half_tick none)
    ∷ untimely (wafer none half_tick)
    ∷ untimely (wafer half_tick half_tick)
    ∷ untimely (wafer 0x4130000000000000 none)
    ∷ untimely (wafer none 0x7FF8000000000000)
    ∷ untimely (times 49 second ++ times 1 half_tick)
    ∷ untimely (times 1 half_tick ++ times 49 second)
    ∷ []
