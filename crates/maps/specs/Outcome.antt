-- What an input gives: the answer, the state that follows, and the reports.
use Rattle.std.specs.Prelude.{ℕ, Bool, false, cond, List, eqb}
use Rattle.records.specs.declared.name.Name.{Name}
use Rattle.records.specs.Names.{no_name}
use Rattle.rules.specs.declared.row.Effect.{Effect}
use Rattle.rules.specs.declared.report.Reports.{Reports}
use Rattle.rules.specs.State.{record_of}
use Rattle.rules.specs.Seen.{Input, see}
use Rattle.rules.specs.Row as base
use Rattle.rules.specs.Row.{Row, lowest}
use Rattle.rules.specs.Reports.{listed, no_reports, differences}
use Rattle.follow.specs.Follow.{followed}
use Rattle.maps.specs.Expected.{new_map}
use Rattle.maps.specs.State.{Mapped, MappedTool, state_of, in_tool}
use Rattle.maps.specs.Rows.{codes_in, row_of}

-- the row that an input means in a state, and the number that it is answered with
abbrev pub row_in : Mapped → Input → Row
row_in s i = row_of i.number (see s.base i) (codes_in s i)

unfoldable pub answer_in : Mapped → Input → ℕ
answer_in s i = lowest (row_in s i).grounds

-- What an effect makes of the state, where a record that is made keeps this map: the maps follow the records.
abbrev pub enact : Effect → List ℕ → Mapped → Mapped
enact e map s = record { base = base.enact e s.base; maps = followed e.goes e.made map s.maps }

unfoldable pub state_after : Mapped → Input → Mapped
state_after s i = cond (eqb (answer_in s i) 0) (enact (row_in s i).effect (new_map i.number i.codes) s) s

-- What an input gives; and, for a layer around this one, the position of the record that went (the number of records: none),
-- whether one was made, and the name of the one that went (no name: none), which the state that follows doesn't have.
pub record Given : Type 0 where
  pub tool : MappedTool
  pub answer : ℕ
  pub reports : Reports
  pub goes : ℕ
  pub made : Bool
  pub gone : Name

-- Refused: nothing changes, and nothing is reported.
abbrev pub refused : MappedTool → ℕ → Given
refused t n = record { tool = t; answer = n; reports = no_reports; goes = t.base.count; made = false; gone = no_name }

-- Accepted: the state that follows, and every difference to it.
abbrev pub accepted : Mapped → Mapped → Effect → Given
accepted before after e = record {
  tool = in_tool after;
  answer = 0;
  reports = listed (differences before.base after.base);
  goes = e.goes;
  made = e.made;
  gone = (record_of before.base e.goes).name;
}

-- an input to a tool that is known to be sound
unfoldable pub given_in : MappedTool → Input → Given
given_in t i =
    cond (eqb (answer_in (state_of t) i) 0)
    (accepted (state_of t) (state_after (state_of t) i) (row_in (state_of t) i).effect)
    (refused t (answer_in (state_of t) i))
