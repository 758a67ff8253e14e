-- What an input finds at the port that it gives.
use Rattle.rules.specs.declared.row.Seen.{Seen}
use Rattle.rules.specs.Seen.{narrow, see}
use Rattle.wafers.specs.Outcome.{Brought}
use Rattle.hands.specs.declared.alarm.Alarm.{Alarm}
use Rattle.hands.specs.State.{base_of, alarm_of, HandledTool, state_of}

-- what rows see
abbrev pub seen_in : HandledTool → Brought → Seen
seen_in t i = see (base_of (state_of t)) i.timed.input

-- the alarm of its port
abbrev pub alarm_in : HandledTool → Brought → Alarm
alarm_in t i = alarm_of (state_of t) (narrow i.timed.input.port)
