-- A log judged by document 01, as it stands before any request.
use Rattle.std.specs.Prelude.{ℕ, zero, suc, ◌+◌, ◌-◌, Bool, cond, List, [], ◌∷◌, length, drop, eqb, ltb}
use Rattle.lists.specs.Lists.{same_list}
use Rattle.rules.specs.declared.tool.Tool.{Tool}
use Rattle.rules.specs.declared.report.Outcome.{Outcome}
use Rattle.rules.specs.State.{no_tool, set_up}
use Rattle.rules.specs.Reports.{no_reports}
use Rattle.rules.specs.Outcome.{outcome}
use Rattle.image.specs.Image.{byte_at}
use Rattle.logs.specs.Layout.{head, read_head, input_in, entry_size, shown_in}
use Rattle.logs.specs.Written.{shown, list_of}

-- What is said of a log: 0, it agrees; 1, an entry disagrees; 27 to 29, it is refused. How many entries agree before that. Where the
-- judging ended: at the file's end, where the entry begins that disagrees or is cut short, or at a byte of the head. What document 01
-- gave last.
pub record Judgement : Type 0 where
  pub says : ℕ
  pub entry : ℕ
  pub at : ℕ
  pub last : Outcome

abbrev pub ended : ℕ → ℕ → ℕ → Outcome → Judgement
ended says entry at last = record { says = says; entry = entry; at = at; last = last }

-- An entry shows what document 01 gives: answer, report count and reports, byte for byte.
unfoldable pub shows : List ℕ → Outcome → Bool
shows l o = same_list (shown_in l) (shown o.answer (list_of o.reports))

-- Entry after entry. Of an entry that agrees the bytes that are left are passed over; then the next one begins, or the file ends. An
-- entry is read to its end before it is judged, and nothing is read after one that disagrees.
unfoldable pub judging : ℕ → ℕ → Outcome → ℕ → List ℕ → Judgement
judging k at last left [] = ended 0 k at last
judging k at last (suc left) (b ∷ rest) = judging k at last left rest
judging k at last zero (b ∷ rest) =
    let l = b ∷ rest in
    let size = entry_size l in
    let next = outcome last.tool (input_in l) in
    cond (ltb (length l) size) (ended 29 k at last)
    (cond (shows l next) (judging (suc k) (at + size) next (size - 1) rest) (ended 1 k at next))

-- a tool that was given no input
abbrev pub untouched : Tool → Outcome
untouched t = record { tool = t; answer = 0; reports = no_reports }

unfoldable pub judge : List ℕ → Judgement
judge m =
    let h = read_head head 0 m in
    cond (eqb h.refusal 0) (judging 0 7 (untouched (set_up (byte_at m 5) (byte_at m 6)).tool) 0 (drop 7 m))
    (ended h.refusal 0 h.at (untouched no_tool))
