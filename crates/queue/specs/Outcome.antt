-- What an input gives: the answer, the state that follows, and the reports.
use Rattle.std.specs.Prelude.{ℕ, Bool, false, cond, List, [], ◌∷◌, length, eqb}
use Rattle.records.specs.declared.name.Name.{Name}
use Rattle.records.specs.Names.{no_name}
use Rattle.rules.specs.declared.report.Reports.{Reports}
use Rattle.rules.specs.State.{record_of}
use Rattle.rules.specs.Seen.{Input, see}
use Rattle.rules.specs.Row.{lower, lowest}
use Rattle.rules.specs.Reports.{listed, no_reports, differences}
use Rattle.maps.specs.State.{Mapped}
use Rattle.maps.specs.Outcome as maps
use Rattle.maps.specs.Projection as maps-runs
use Rattle.queue.specs.declared.request.Request.{Request}
use Rattle.queue.specs.State.{Queued, base_of, QueuedTool, state_of, in_tool}
use Rattle.queue.specs.Rows.{Row, row_of}

-- the row that an input means in a state
abbrev pub row_in : Queued → Input → Row
row_in s i = row_of i.number (base_of s) s.queue (see (base_of s) i) i

-- the lowest number that inputs below are answered with, one after the other, the latest first
unfoldable pub answers_in : Mapped → List Input → ℕ
answers_in s [] = 0
answers_in s (i ∷ earlier) = lower (answers_in s earlier) (maps.answer_in (maps-runs.reached s earlier) i)

-- The lowest of the row's own numbers and of those below.
unfoldable pub answer_in : Queued → Input → ℕ
answer_in s i = lower (lowest (row_in s i).grounds) (answers_in s.mapped (row_in s i).stands)

-- Accepted: what the inputs below make of the state, and the queue that follows.
abbrev pub enact : Row → Queued → Queued
enact r s = record { mapped = maps-runs.reached s.mapped r.stands; queue = r.queue }

unfoldable pub state_after : Queued → Input → Queued
state_after s i = cond (eqb (answer_in s i) 0) (enact (row_in s i) s) s

-- For a layer around this one: the position of the record that went (the number of records: none), and whether one was made.
unfoldable pub goes_in : Mapped → List Input → ℕ
goes_in s [] = length s.base.carriers
goes_in s (i ∷ earlier) = (maps.row_in (maps-runs.reached s earlier) i).effect.goes

unfoldable pub made_in : Mapped → List Input → Bool
made_in s [] = false
made_in s (i ∷ earlier) = (maps.row_in (maps-runs.reached s earlier) i).effect.made

pub record Given : Type 0 where
  pub tool : QueuedTool
  pub answer : ℕ
  pub reports : Reports
  pub goes : ℕ
  pub made : Bool
  pub gone : Name

-- Refused: nothing changes, and nothing is reported.
abbrev pub refused : QueuedTool → ℕ → Given
refused t n = record { tool = t; answer = n; reports = no_reports; goes = t.mapped.base.count; made = false; gone = no_name }

-- Accepted: the state that follows, and every difference to it.
abbrev pub accepted : Queued → Queued → List Input → Given
accepted before after stands = record {
  tool = in_tool after;
  answer = 0;
  reports = listed (differences (base_of before) (base_of after));
  goes = goes_in before.mapped stands;
  made = made_in before.mapped stands;
  gone = (record_of (base_of before) (goes_in before.mapped stands)).name;
}

-- what is given below, beside a queue: so many requests are used of a table
abbrev pub beside : ℕ → List Request → maps.Given → Given
beside waiting queue g = record {
  tool = record { mapped = g.tool; waiting = waiting; queue = queue };
  answer = g.answer;
  reports = g.reports;
  goes = g.goes;
  made = g.made;
  gone = g.gone;
}

-- an input to a tool that is known to be sound
unfoldable pub given_in : QueuedTool → Input → Given
given_in t i =
    cond (eqb (answer_in (state_of t) i) 0)
    (accepted (state_of t) (state_after (state_of t) i) (row_in (state_of t) i).stands)
    (refused t (answer_in (state_of t) i))
