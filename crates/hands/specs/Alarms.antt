-- A port's AccessModeViolation alarm, and the pod that is held there.
use Rattle.std.specs.Prelude.{Bool, cond, eqb}
use Rattle.records.specs.declared.port.Port.{Port}
use Rattle.records.specs.Ports.{ready_to_load, loading}
use Rattle.hands.specs.declared.alarm.Alarm.{Alarm}

-- off, and nothing held
abbrev pub no_alarm : Alarm
no_alarm = record { on = 0; held = 0 }

abbrev pub is_on : Alarm → Bool
is_on a = eqb a.on 1

abbrev pub is_held : Alarm → Bool
is_held a = eqb a.held 1

abbrev pub raised : Alarm → Alarm
raised a = record { on = 1; held = a.held }

abbrev pub holding : Alarm → Alarm
holding a = record { on = a.on; held = 1 }

-- The alarm clears at READY TO LOAD, and only a port that is loading holds a pod.
unfoldable pub settled : Port → Alarm → Alarm
settled q a = record { on = cond (ready_to_load q) 0 a.on; held = cond (loading q) a.held 0 }
