-- One port's alarm after an input, in the table of four.
use Rattle.std.specs.Prelude.{ℕ, cond, List, get_or, set, eqb}
use Rattle.rules.specs.declared.tool.Tool.{Tool}
use Rattle.rules.specs.State.{spot_of, port_at}
use Rattle.hands.specs.declared.alarm.Alarm.{Alarm}
use Rattle.hands.specs.Alarms.{no_alarm, settled}

-- as port p settles it: what the input makes of it, if it was for p
abbrev pub settled_at : Tool → List Alarm → ℕ → Alarm → ℕ → Alarm
settled_at t l port a p = settled (port_at t p) (cond (eqb port p) a (get_or l (spot_of p) no_alarm))

abbrev pub settled_table : Tool → List Alarm → ℕ → Alarm → ℕ → List Alarm
settled_table t l port a p = set l (spot_of p) (settled_at t l port a p)
