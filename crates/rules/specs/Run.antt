-- A run: inputs one after the other, and what each gives.
use Rattle.std.specs.Prelude.{ℕ, cond, List, [], ◌∷◌, eqb}
use Rattle.records.specs.Names.{no_name, in_bytes}
use Rattle.rules.specs.declared.report.Report.{Report}
use Rattle.rules.specs.State.{State}
use Rattle.rules.specs.Seen.{Input, input_of}
use Rattle.rules.specs.Reports.{differences}
use Rattle.rules.specs.Outcome.{answer_in, state_after}

-- the state that a run ends in
unfoldable pub run : State → List Input → State
run s [] = s
run s (i ∷ is) = run (state_after s i) is

-- A line of a run's table: the input, the answer, the reports.
pub record Line : Type 0 where
  pub input : Input
  pub answer : ℕ
  pub reports : List Report

abbrev pub line_of : State → Input → Line
line_of s i = record {
  input = i;
  answer = answer_in s i;
  reports = cond (eqb (answer_in s i) 0) (differences s (state_after s i)) [];
}

-- the table of a run
unfoldable pub table : State → List Input → List Line
table s [] = []
table s (i ∷ is) = line_of s i ∷ table (state_after s i) is

-- ── How a table is written ──
abbrev pub row : ℕ → ℕ → ℕ → List ℕ → List ℕ → ℕ → List Report → Line
row number port value name codes answer reports =
    record { input = input_of number port value name codes; answer = answer; reports = reports }

-- a report of a port, and one of a carrier: the model, the subject, the old state and the new
abbrev pub on_port : ℕ → ℕ → ℕ → ℕ → Report
on_port m p old new = record { model = m; port = p; name = no_name; old = old; new = new }

abbrev pub on_name : ℕ → List ℕ → ℕ → ℕ → Report
on_name m n old new = record { model = m; port = 0; name = in_bytes n; old = old; new = new }

-- the inputs of a table
abbrev pub inputs : List Line → List Input
inputs [] = []
inputs (l ∷ ls) = l.input ∷ inputs ls
