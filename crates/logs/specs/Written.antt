-- The log of a run: its table, written down.
use Rattle.std.specs.Prelude.{ℕ, Bool, cond, List, [], ◌∷◌, ◌++◌, length, take, eqb}
use Rattle.lists.specs.Lists.{where_is}
use Rattle.records.specs.declared.name.Name.{Name}
use Rattle.rules.specs.declared.report.Report.{Report}
use Rattle.rules.specs.declared.report.Reports.{Reports}
use Rattle.rules.specs.State.{start}
use Rattle.rules.specs.Seen.{Input}
use Rattle.rules.specs.Run.{Line, table}
use Rattle.logs.specs.Layout.{codes_size, on_name}

-- a name without the zeros after it
unfoldable pub text_of : Name → List ℕ
text_of n = take (where_is (λ b. eqb b 0) n.bytes) n.bytes

-- a port byte, or name length and name
unfoldable pub subject_of : Report → List ℕ
subject_of r = cond (on_name r.model) (length (text_of r.name) ∷ text_of r.name) (r.port ∷ [])

unfoldable pub report : Report → List ℕ
report r = r.model ∷ (subject_of r ++ (r.old ∷ r.new ∷ []))

unfoldable pub reports : List Report → List ℕ
reports [] = []
reports (r ∷ l) = report r ++ reports l

-- answer, report count, reports
unfoldable pub shown : ℕ → List Report → List ℕ
shown answer l = answer ∷ length l ∷ reports l

-- the reports that a report list holds
abbrev pub list_of : Reports → List Report
list_of r = take r.count r.items

-- input number, port, second number, name length, name, codes
unfoldable pub input : Input → List ℕ
input i = i.number ∷ i.port ∷ i.value ∷ length i.name ∷ (i.name ++ i.codes)

-- an input that an entry can hold: 25 codes for row 20, and none for any other
abbrev pub fits : Input → Bool
fits i = eqb (length i.codes) (codes_size i.number)

abbrev pub entry : Line → List ℕ
entry l = input l.input ++ shown l.answer l.reports

unfoldable pub entries : List Line → List ℕ
entries [] = []
entries (l ∷ ls) = entry l ++ entries ls

-- the mark, the version, P and B
abbrev pub head_of : ℕ → ℕ → List ℕ
head_of P B = 0x43 ∷ 0x4D ∷ 0x54 ∷ 0 ∷ 1 ∷ P ∷ B ∷ []

-- the log of a run from set-up
unfoldable pub log_of : ℕ → ℕ → List Input → List ℕ
log_of P B is = head_of P B ++ entries (table (start P B) is)
