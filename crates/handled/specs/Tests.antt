-- Whether the alarms of a tool are sound, port by port.
use Rattle.std.specs.Prelude.{ℕ, Bool, cond, ◌&&◌, List, get_or, leb}
use Rattle.rules.specs.declared.tool.Tool.{Tool}
use Rattle.rules.specs.State.{spot_of, port_at}
use Rattle.hands.specs.declared.alarm.Alarm.{Alarm}
use Rattle.hands.specs.Alarms.{no_alarm}
use Rattle.hands.specs.Sound.{agrees, is_none}

-- a port of the tool agrees with its alarm, and any other has none
unfoldable pub sound_at : Tool → List Alarm → ℕ → Bool
sound_at t l p = cond (leb p t.used) (agrees (port_at t p) (get_or l (spot_of p) no_alarm)) (is_none (get_or l (spot_of p) no_alarm))

unfoldable pub sound_alarms : Tool → List Alarm → Bool
sound_alarms t l = sound_at t l 1 && (sound_at t l 2 && (sound_at t l 3 && sound_at t l 4))
