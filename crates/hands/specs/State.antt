-- P8's state and tool, with an alarm for each port.
use Rattle.std.specs.Prelude.{ℕ, List, get_or, take, replicate}
use Rattle.lists.specs.Lists.{fill}
use Rattle.rules.specs.State as base
use Rattle.rules.specs.State.{spot_of}
use Rattle.prediction.specs.State as prediction
use Rattle.prediction.specs.State.{Predicted, PredictedTool}
use Rattle.hands.specs.declared.alarm.Alarm.{Alarm}
use Rattle.hands.specs.Alarms.{no_alarm}

pub record Handled : Type 0 where
  pub predicted : Predicted
  pub alarms : List Alarm

-- document 01's part
abbrev pub base_of : Handled → base.State
base_of s = prediction.base_of s.predicted

-- the alarm of port p
unfoldable pub alarm_of : Handled → ℕ → Alarm
alarm_of s p = get_or s.alarms (spot_of p) no_alarm

-- In a tool they are 4, with no alarm after those of the ports.
pub record HandledTool : Type 0 where
  pub predicted : PredictedTool
  pub alarms : List Alarm

-- how many ports there are
abbrev pub used_of : HandledTool → ℕ
used_of t = t.predicted.queued.mapped.base.used

abbrev pub state_of : HandledTool → Handled
state_of t = record { predicted = prediction.state_of t.predicted; alarms = take (used_of t) t.alarms }

unfoldable pub in_tool : Handled → HandledTool
in_tool s = record { predicted = prediction.in_tool s.predicted; alarms = fill 4 no_alarm s.alarms }

-- set-up: no alarm is on
abbrev pub start : ℕ → ℕ → ℕ → ℕ → Handled
start P B setting timeout = record { predicted = prediction.start P B setting timeout; alarms = replicate P no_alarm }

abbrev pub no_alarms : List Alarm
no_alarms = replicate 4 no_alarm
