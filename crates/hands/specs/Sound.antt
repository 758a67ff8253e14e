-- Soundness: P8's, which is P7's, and the alarms'.
use Rattle.std.specs.Prelude.{Bool, true, false, not, ◌&&◌, ◌||◌, List, [], ◌∷◌, drop, eqb, leb}
use Rattle.lists.specs.Lists.{every}
use Rattle.records.specs.declared.port.Port.{Port}
use Rattle.records.specs.Ports.{ready_to_load, loading}
use Rattle.prediction.specs.Sound as prediction
use Rattle.hands.specs.declared.alarm.Alarm.{Alarm}
use Rattle.hands.specs.Alarms.{is_on, is_held}
use Rattle.hands.specs.State.{Handled, base_of, HandledTool, used_of, state_of}

-- a held port is loading with its alarm on; none is on at READY TO LOAD
unfoldable pub agrees : Port → Alarm → Bool
agrees q a = leb a.on 1 && leb a.held 1 && (not (is_held a) || (loading q && is_on a)) && not (is_on a && ready_to_load q)

-- one for each port, in turn
unfoldable pub each_agrees : List Port → List Alarm → Bool
each_agrees [] [] = true
each_agrees [] (a ∷ l) = false
each_agrees (q ∷ qs) [] = false
each_agrees (q ∷ qs) (a ∷ l) = agrees q a && each_agrees qs l

unfoldable pub sound : Handled → Bool
sound s = prediction.sound s.predicted && each_agrees (base_of s).ports s.alarms

-- no alarm: both zero
unfoldable pub is_none : Alarm → Bool
is_none a = eqb a.on 0 && eqb a.held 0

-- P8's tool is sound, what is unused is zero, and what is used is sound.
unfoldable pub sound_tool : HandledTool → Bool
sound_tool t = prediction.sound_tool t.predicted && every is_none (drop (used_of t) t.alarms) && sound (state_of t)
