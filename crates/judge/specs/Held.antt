-- What the bytes say that the judging leaves.
use Rattle.std.specs.Prelude.{ℕ, ◌≤◌, List}
use Rattle.records.specs.Refusals.{number}
use Rattle.rules.specs.declared.report.Outcome.{Outcome}
use Rattle.image.specs.Image.{tool_from, reports_from}
use Rattle.logs.specs.Judging.{Judgement, ended}
use Rattle.judge.specs.declared.verdict.Said.{Said}
use Rattle.judge.specs.declared.verdict.Said.TheVariants.{Agrees, Disagrees, Refused}
use Rattle.judge.specs.declared.verdict.Verdict.{Verdict}

-- what document 01 gave last: a tool and a report list as bytes, and the answer
abbrev pub gave : List ℕ → List ℕ → ℕ → Outcome
gave tool reports answer = record { tool = tool_from tool; answer = answer; reports = reports_from reports }

abbrev pub number_of : Said → ℕ
number_of Agrees = 0
number_of Disagrees = 1
number_of (Refused r) = number r

-- refused for what a log can be refused for, 27 to 29: of these the number tells which
abbrev pub OfLogs : Said → Type 0
OfLogs Agrees = Unit
OfLogs Disagrees = Unit
OfLogs (Refused r) = 27 ≤ number r

abbrev pub judgement : Verdict → List ℕ → List ℕ → Judgement
judgement v tool reports = ended (number_of v.says) v.entry v.at (gave tool reports v.answer)
