-- What an input gives: the answer, the state that follows, and the reports.
use Rattle.std.specs.Prelude.{ℕ, cond, eqb}
use Rattle.rules.specs.declared.tool.Tool.{Tool}
use Rattle.rules.specs.declared.report.Outcome.{Outcome}
use Rattle.rules.specs.State.{State, state_of, in_tool}
use Rattle.rules.specs.Sound.{sound_tool}
use Rattle.rules.specs.Seen.{Input, see}
use Rattle.rules.specs.Row.{Row, lowest, enact}
use Rattle.rules.specs.Rows.{row_of}
use Rattle.rules.specs.Reports.{listed, no_reports, differences}

-- Refused: nothing changes, and nothing is reported.
abbrev pub refused : Tool → ℕ → Outcome
refused t n = record { tool = t; answer = n; reports = no_reports }

-- Accepted: the state that follows, and every difference to it.
abbrev pub accepted : State → State → Outcome
accepted before after = record { tool = in_tool after; answer = 0; reports = listed (differences before after) }

-- the row that an input means in a state
abbrev pub row_in : State → Input → Row
row_in s i = row_of i.number (see s i)

-- the number that an input is answered with, and the state that follows it
unfoldable pub answer_in : State → Input → ℕ
answer_in s i = lowest (row_in s i).grounds

unfoldable pub state_after : State → Input → State
state_after s i = cond (eqb (answer_in s i) 0) (enact (row_in s i).effect s) s

-- an input to a tool that is known to be sound
unfoldable pub outcome_in : Tool → Input → Outcome
outcome_in t i =
    cond (eqb (answer_in (state_of t) i) 0)
    (accepted (state_of t) (state_after (state_of t) i))
    (refused t (answer_in (state_of t) i))

-- an input to any tool: one that isn't sound refuses it with 1
unfoldable pub outcome : Tool → Input → Outcome
outcome t i = cond (sound_tool t) (outcome_in t i) (refused t 1)
