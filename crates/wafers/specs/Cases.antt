-- Runs of input 35 that differ in one condition each, in a tool of one port, a minute before and two minutes after.
use Rattle.std.specs.Prelude.{ℕ, ◌+◌, true, List, [], ◌∷◌, ◌++◌, map, replicate, Float}
use Rattle.std.specs.Float.{binary64}
use Rattle.std.specs.Float.Ieee.{of_bits}
use Rattle.rules.specs.declared.report.Report.{Report}
use Rattle.rules.specs.Seen.{input_of}
use Rattle.rules.specs.Run.{on_name}
use Rattle.rules.specs.Inputs.{A, B, A17, agreed, accessed}
use Rattle.prediction.specs.State.{Timed, timed, start}
use Rattle.prediction.specs.Cases.{Result, plain, Clock, PredictedTime, smooth, after}
use Rattle.wafers.specs.Outcome.{Brought, brought, answer_in, reports_in}

-- ── Inputs ──
abbrev pub Wafers : ℕ → List ℕ → List Float → Brought
Wafers clock name times = brought (timed (input_of 35 0 0 name []) clock 0) times

-- one wafer, by the bits of its process time and of its handling time
abbrev wafer : ℕ → ℕ → List Float
wafer p h = of_bits binary64 p ∷ of_bits binary64 h ∷ []

-- 0; 1/1024 of a second; half of that, which is no whole multiple; 60 seconds
abbrev none : ℕ
none = 0x0000000000000000

abbrev tick : ℕ
tick = 0x3F50000000000000

abbrev half_tick : ℕ
half_tick = 0x3F40000000000000

abbrev minute : ℕ
minute = 0x404E000000000000

abbrev odd : List Float
odd = wafer half_tick none

-- ── A run of inputs that are accepted, and one more: its answer and its reports ──
pub record Case : Type 0 where
  pub places : ℕ
  pub before : List Timed
  pub input : Brought

pub record Line : Type 0 where
  pub asked : Case
  pub said : Result

unfoldable pub result_of : Case → Result
result_of c =
    let s = after (start 1 c.places 60 120) c.before in
    record { smooth = smooth (start 1 c.places 60 120) c.before; answer = answer_in s c.input; reports = reports_in s c.input }

abbrev line : ℕ → List Timed → Brought → ℕ → List Report → Line
line places before input answer reports = record {
  asked = record { places = places; before = before; input = input };
  said = record { smooth = true; answer = answer; reports = reports };
}

abbrev told : List Timed → Brought → List Report → Line
told before input reports = line 0 before input 0 reports

abbrev refused : List Timed → Brought → ℕ → Line
refused before input answer = line 0 before input answer []

-- A is IN ACCESS at port 1, and so WAITING FOR PREDICTION
abbrev in_access : List Timed
in_access = map plain accessed

-- the last second that a clock shows
abbrev latest : ℕ
latest = 4294967295

abbrev pub conditions : List Line
conditions =
    -- Tp is the clock and the total: a minute away it is the setting time, a bit more is rounded up to a second more
    told in_access (Wafers 5 A (wafer minute none)) (on_name 8 A 3 4 ∷ [])
    ∷ told in_access (Wafers 5 A (wafer none minute)) (on_name 8 A 3 4 ∷ [])
    ∷ told in_access (Wafers 5 A (wafer minute tick)) []
    ∷ told in_access (Wafers 5 A []) (on_name 8 A 3 4 ∷ [])
    -- 25 wafers, and 26
    ∷ told in_access (Wafers 5 A (replicate 50 (of_bits binary64 minute))) []
    ∷ refused in_access (Wafers 5 A (replicate 52 (of_bits binary64 minute))) 1
    -- any other float; a Tp past the clock's range
    ∷ refused in_access (Wafers 5 A odd) 12
    ∷ told in_access (Wafers latest A []) (on_name 8 A 3 4 ∷ [])
    ∷ refused in_access (Wafers latest A (wafer tick none)) 12
    -- a time, a name, a record, WAITING FOR PREDICTION, a clock that runs back: each comes before 12
    ∷ refused in_access (Wafers (latest + 1) A odd) 1
    ∷ refused in_access (Wafers 5 A17 odd) 1
    ∷ refused in_access (Wafers 5 B odd) 2
    ∷ line 1 [] (Wafers 5 A odd) 2 []
    ∷ refused (map plain agreed) (Wafers 5 A odd) 5
    ∷ refused (in_access ++ PredictedTime 5 A 90 ∷ []) (Wafers 5 A []) 5
    ∷ told (in_access ++ Clock 5 ∷ []) (Wafers 5 A []) (on_name 8 A 3 4 ∷ [])
    ∷ refused (in_access ++ Clock 6 ∷ []) (Wafers 5 A []) 11
    ∷ refused (in_access ++ Clock 6 ∷ []) (Wafers 5 A odd) 11
    ∷ []
