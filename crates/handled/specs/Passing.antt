-- An input that is answered below, with what becomes of the alarm of its port.
use Rattle.std.specs.Prelude.{ℕ, ◌≤◌, ◌≡◌, cond, List, ◌++◌, set, eqb}
use Rattle.rules.specs.declared.tool.Tool.{Tool}
use Rattle.rules.specs.State.{spot_of}
use Rattle.prediction.specs.State as prediction
use Rattle.wafers.specs.Outcome as wafers
use Rattle.wafers.specs.Outcome.{Brought}
use Rattle.hands.specs.declared.alarm.Alarm.{Alarm}
use Rattle.hands.specs.Alarms.{no_alarm}
use Rattle.hands.specs.State.{Handled, HandledTool, state_of}
use Rattle.hands.specs.Outcome.{Given, refused, accepted, all_settled, alarms_told}

module _ (s : Handled) (i : Brought) (p : ℕ) (a : Alarm) where
  abbrev pub alarms_after : List Alarm
  alarms_after = all_settled (prediction.base_of (wafers.state_after s.predicted i)).ports (set s.alarms (spot_of p) a)

  abbrev pub passed_to : Handled
  passed_to = record { predicted = wafers.state_after s.predicted i; alarms = alarms_after }

-- a port that isn't the tool's has no alarm
abbrev pub NoneElsewhere : Tool → ℕ → Alarm → Type 0
NoneElsewhere t p a = t.used ≤ spot_of p → a ≡ no_alarm

-- the input of port p: a is what the row makes of its alarm
unfoldable pub passed_in : HandledTool → Brought → ℕ → Alarm → Given
passed_in t i p a =
    cond (eqb (wafers.answer_in (state_of t).predicted i) 0)
    (accepted (passed_to (state_of t) i p a)
    (wafers.reports_in (state_of t).predicted i ++ alarms_told 1 (state_of t).alarms (alarms_after (state_of t) i p a)))
    (refused t (wafers.answer_in (state_of t).predicted i))
