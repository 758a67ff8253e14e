-- Request P8: up to 25 wafers, each with a process time and a handling time, and the whole seconds that are enough for all of them.
use Rattle.std.specs.Prelude.{ℕ, ◌+◌, ◌/◌, ◌%◌, Bool, false, cond, ◌&&◌, List, [], ◌∷◌, length, pos, ◌==◌, nat_le, Float}
use Rattle.std.specs.Float.{fin, binary64}
use Rattle.std.specs.Float.Ieee.{add}
use Rattle.lists.specs.Lists.{every}
use Rattle.ticks.specs.declared.seconds.Sent.{Sent}
use Rattle.ticks.specs.declared.wafers.Wafer.{Wafer}
use Rattle.ticks.specs.Times.{ticks, timely}

-- The times come in turn, process and handling. A process time with no handling time after it makes no wafer.
unfoldable pub wafers_in : List Float → List Wafer
wafers_in [] = []
wafers_in (p ∷ []) = []
wafers_in (p ∷ h ∷ l) = record { process = p; handling = h } ∷ wafers_in l

-- the times of wafers, in turn
unfoldable pub times_of : List Wafer → List Float
times_of [] = []
times_of (w ∷ ws) = w.process ∷ w.handling ∷ times_of ws

-- both times of a wafer, and of each wafer, are whole multiples of 1/1024 in range
abbrev pub timely_wafer : Wafer → Bool
timely_wafer w = timely w.process && timely w.handling

abbrev pub all_timely : List Wafer → Bool
all_timely ws = every timely_wafer ws

-- the whole-number total of 1/1024ths: both times of all wafers
unfoldable pub total_of : List Wafer → ℕ
total_of [] = 0
total_of (w ∷ ws) = ticks w.process + ticks w.handling + total_of ws

-- the f64 total: from zero on both times of each wafer are added in turn, by the f64 addition that rounds where it must
unfoldable pub added_to : Float → List Wafer → Float
added_to t [] = t
added_to t (w ∷ ws) = added_to (add binary64 (add binary64 t w.process) w.handling) ws

abbrev pub f64_total : List Wafer → Float
f64_total ws = added_to (fin false 0 (pos 0)) ws

-- 1/1024ths rounded up to a second
unfoldable pub rounded_up : ℕ → ℕ
rounded_up n = (n + 1023) / 1024

-- whole wafers, and at most 25
unfoldable pub fits : List Float → Bool
fits times = length times % 2 == 0 && nat_le (length (wafers_in times)) 25

-- and their times are good
unfoldable pub good : List Float → Bool
good times = fits times && all_timely (wafers_in times)

-- What is made of the times that were sent. The total is rounded up once; where a test fails there are no seconds.
unfoldable pub wafers_from : List Float → Sent
wafers_from times = record {
  fits = fits times;
  timely = good times;
  seconds = cond (good times) (rounded_up (total_of (wafers_in times))) 0;
}
