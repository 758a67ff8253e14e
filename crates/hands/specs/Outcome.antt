-- What an input gives: the answer, the state that follows, and the reports, those of alarms last.
use Rattle.std.specs.Prelude.{ℕ, suc, cond, List, [], ◌∷◌, ◌++◌, set, eqb}
use Rattle.records.specs.declared.port.Port.{Port}
use Rattle.records.specs.Names.{no_name}
use Rattle.rules.specs.declared.report.Report.{Report}
use Rattle.rules.specs.declared.report.Reports.{Reports}
use Rattle.rules.specs.State.{spot_of}
use Rattle.rules.specs.Seen.{narrow, see}
use Rattle.rules.specs.Row.{lower, lowest}
use Rattle.rules.specs.Reports.{listed, no_reports, change}
use Rattle.prediction.specs.State as prediction
use Rattle.prediction.specs.State.{Predicted}
use Rattle.wafers.specs.Outcome as wafers
use Rattle.wafers.specs.Outcome.{Brought}
use Rattle.hands.specs.declared.alarm.Alarm.{Alarm}
use Rattle.hands.specs.Alarms.{settled}
use Rattle.hands.specs.State.{Handled, base_of, alarm_of, HandledTool, state_of, in_tool}
use Rattle.hands.specs.Rows.{Row, row_of}

-- the row that an input means in a state
abbrev pub row_in : Handled → Brought → Row
row_in s i = row_of i.timed.input.number (see (base_of s) i.timed.input) (alarm_of s (narrow i.timed.input.port)) i

-- the answer and the reports of the input below, if there is one
unfoldable pub answer_below : Predicted → List Brought → ℕ
answer_below s [] = 0
answer_below s (i ∷ l) = wafers.answer_in s i

unfoldable pub reports_below : Predicted → List Brought → List Report
reports_below s [] = []
reports_below s (i ∷ l) = wafers.reports_in s i

-- The lowest of the row's own numbers and of the one below.
unfoldable pub answer_in : Handled → Brought → ℕ
answer_in s i = lower (lowest (row_in s i).grounds) (answer_below s.predicted (row_in s i).stands)

-- ── Accepted ──
-- each port settles its alarm
unfoldable pub all_settled : List Port → List Alarm → List Alarm
all_settled [] l = []
all_settled (q ∷ qs) [] = []
all_settled (q ∷ qs) (a ∷ l) = settled q a ∷ all_settled qs l

-- Model 9, port by port from the number p on: the alarm before and after, 0 or 1.
abbrev pub alarm_change : ℕ → Alarm → Alarm → List Report
alarm_change p x y = change 9 p no_name x.on y.on

unfoldable pub alarms_told : ℕ → List Alarm → List Alarm → List Report
alarms_told p [] ys = []
alarms_told p (x ∷ xs) [] = []
alarms_told p (x ∷ xs) (y ∷ ys) = alarm_change p x y ++ alarms_told (suc p) xs ys

module _ (s : Handled) (i : Brought) where
  -- what the input below makes of the state
  abbrev pub below : Predicted
  below = wafers.reached s.predicted (row_in s i).stands

  -- the alarm of its port as the row has it, and then each as its port settles it
  abbrev pub alarms_then : List Alarm
  alarms_then = all_settled (prediction.base_of below).ports (set s.alarms (spot_of (narrow i.timed.input.port)) (row_in s i).alarm)

  abbrev pub enact : Handled
  enact = record { predicted = below; alarms = alarms_then }

  unfoldable pub state_after : Handled
  state_after = cond (eqb (answer_in s i) 0) enact s

  -- those below, and then model 9's
  unfoldable pub reports_in : List Report
  reports_in = cond (eqb (answer_in s i) 0) (reports_below s.predicted (row_in s i).stands ++ alarms_told 1 s.alarms alarms_then) []

-- ── In a tool ──
pub record Given : Type 0 where
  pub tool : HandledTool
  pub answer : ℕ
  pub reports : Reports

-- Refused: nothing changes, and nothing is reported.
abbrev pub refused : HandledTool → ℕ → Given
refused t n = record { tool = t; answer = n; reports = no_reports }

abbrev pub accepted : Handled → List Report → Given
accepted after reports = record { tool = in_tool after; answer = 0; reports = listed reports }

-- an input to a tool that is known to be sound
unfoldable pub given_in : HandledTool → Brought → Given
given_in t i =
    cond (eqb (answer_in (state_of t) i) 0)
    (accepted (state_after (state_of t) i) (reports_in (state_of t) i))
    (refused t (answer_in (state_of t) i))

-- The state that a run has reached, the latest input first.
unfoldable pub reached : Handled → List Brought → Handled
reached s [] = s
reached s (i ∷ earlier) = state_after (reached s earlier) i
