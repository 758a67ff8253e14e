-- The alarms in the second block of a tool, and the tool with them in two blocks of 1,891 bytes.
use Rattle.std.specs.Prelude.{ℕ, ◌+◌, ◌*◌, List}
use Rattle.image.specs.Image.{table, byte_at, reports_from}
use Rattle.mapped.specs.Bytes.{own_in}
use Rattle.predicted.specs.Bytes.{predicted_in}
use Rattle.hands.specs.declared.alarm.Alarm.{Alarm}
use Rattle.hands.specs.State.{HandledTool}
use Rattle.hands.specs.Outcome.{Given}

-- From byte 1597 on: for each of the four ports whether its alarm is on, and whether a pod is held there.
abbrev pub alarm_start : ℕ → ℕ
alarm_start k = 1597 + 2 * k

abbrev pub alarm_from : List ℕ → ℕ → Alarm
alarm_from m o = record { on = byte_at m o; held = byte_at m (o + 1) }

unfoldable pub alarms_from : List ℕ → List Alarm
alarms_from m = table 4 (λ k. alarm_from m (alarm_start k))

abbrev pub handled_in : List (List ℕ) → HandledTool
handled_in m = record { predicted = predicted_in m; alarms = alarms_from (own_in m) }

-- what a step leaves: the bytes of the tool and of the reports, and its answer
abbrev pub left : List (List ℕ) → List ℕ → ℕ → Given
left m o answer = record { tool = handled_in m; answer = answer; reports = reports_from o }
