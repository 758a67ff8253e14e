-- Input 35, Wafers(clock, name, wafers): where Tp comes from.
use Rattle.std.specs.Prelude.{ℕ, ◌+◌, Bool, cond, ◌&&◌, List, [], ◌∷◌, eqb, Float}
use Rattle.rules.specs.declared.report.Report.{Report}
use Rattle.rules.specs.Seen.{input_of}
use Rattle.rules.specs.Row.{lower}
use Rattle.prediction.specs.State.{Predicted, PredictedTool, state_of, Timed, timed, timed_in}
use Rattle.prediction.specs.Sound.{is_time}
use Rattle.prediction.specs.Outcome as prediction
use Rattle.prediction.specs.Outcome.{Given, refused, accepted}
use Rattle.ticks.specs.declared.seconds.Sent.{Sent}
use Rattle.ticks.specs.Wafers.{wafers_from}
use Rattle.wafers.specs.declared.input.Brought as sent

-- An input brings wafers, too, or what is made of their times: 35 looks at it.
pub record Brought : Type 0 where
  pub timed : Timed
  pub wafers : Sent

abbrev pub bringing : Timed → Sent → Brought
bringing i wafers = record { timed = i; wafers = wafers }

-- what the code was sent
abbrev pub brought_in : sent.Brought → Brought
brought_in i = bringing (timed_in i.timed) i.wafers

-- an input under another number
abbrev pub numbered : ℕ → Brought → Brought
numbered n i =
    bringing
    (timed (input_of n i.timed.input.port i.timed.input.value i.timed.input.name i.timed.input.codes) i.timed.clock i.timed.time)
    i.wafers

-- with the times of wafers, process time and handling time in turn
abbrev pub brought : Timed → List Float → Brought
brought i times = bringing i (wafers_from times)

abbrev pub is_wafers : Brought → Bool
is_wafers i = eqb i.timed.input.number 35

-- at most 25 wafers, and each a process time and a handling time
abbrev pub fits : Brought → Bool
fits i = i.wafers.fits

-- Tp is the clock plus the total, rounded up to a second.
abbrev pub tp_of : Brought → ℕ
tp_of i = i.timed.clock + i.wafers.seconds

-- each time is a whole multiple of 1/1024 in range, and Tp is within the clock's range
unfoldable pub good : Brought → Bool
good i = i.wafers.timely && is_time (tp_of i)

-- P7's input for Tp: 32 PredictedTime(clock, name, Tp)
abbrev pub with_tp : Brought → ℕ → Timed
with_tp i tp = timed (input_of 32 0 0 i.timed.input.name []) i.timed.clock tp

-- 1 for more than 25 wafers; 12 for any other float or a Tp past the clock's range, besides those of P7's input for Tp
unfoldable pub answer_in : Predicted → Brought → ℕ
answer_in s i =
    cond (is_wafers i)
    (cond (fits i) (cond (good i) (prediction.answer_in s (with_tp i (tp_of i))) (lower (prediction.answer_in s (with_tp i 0)) 12)) 1)
    (prediction.answer_in s i.timed)

-- what goes on below: P7's input for Tp, or the input as it is; nothing where 35 is refused for its wafers
unfoldable pub stands_for : Brought → List Timed
stands_for i = cond (is_wafers i) (cond (fits i && good i) (with_tp i (tp_of i) ∷ []) []) (i.timed ∷ [])

-- The state that follows, and the reports.
unfoldable pub state_after : Predicted → Brought → Predicted
state_after s i = prediction.reached s (stands_for i)

unfoldable pub told_of : Predicted → List Timed → List Report
told_of s [] = []
told_of s (i ∷ earlier) = prediction.reports_in (prediction.reached s earlier) i

abbrev pub reports_in : Predicted → Brought → List Report
reports_in s i = told_of s (stands_for i)

-- an input to a tool that is known to be sound
unfoldable pub given_in : PredictedTool → Brought → Given
given_in t i =
    cond (eqb (answer_in (state_of t) i) 0)
    (accepted (state_after (state_of t) i) (reports_in (state_of t) i))
    (refused t (answer_in (state_of t) i))

-- The state that a run has reached, the latest input first.
unfoldable pub reached : Predicted → List Brought → Predicted
reached s [] = s
reached s (i ∷ earlier) = state_after (reached s earlier) i
