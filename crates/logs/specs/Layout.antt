-- Request P14: a log as a file. The mark CMT, a 16-bit version 1 with high byte first, P, B, then entries; every other number is one byte.
use Rattle.std.specs.Prelude.{ℕ, zero, suc, ◌+◌, Bool, cond, List, [], ◌∷◌, take, drop, eqb}
use Rattle.lists.specs.Lists.{between}
use Rattle.rules.specs.Seen.{Input, input_of}
use Rattle.image.specs.Image.{byte_at}

-- ── The head ──
-- A byte of the head: the least and the greatest that it may be, and what any other is refused with.
pub record Part : Type 0 where
  pub least : ℕ
  pub greatest : ℕ
  pub refusal : ℕ

-- 27: mark or version
abbrev pub exactly : ℕ → Part
exactly b = record { least = b; greatest = b; refusal = 27 }

-- 28: set-up
abbrev pub any_from : ℕ → ℕ → Part
any_from least greatest = record { least = least; greatest = greatest; refusal = 28 }

-- C, M and T; the version, high byte first; P and B
abbrev pub head : List Part
head = exactly 0x43 ∷ exactly 0x4D ∷ exactly 0x54 ∷ exactly 0 ∷ exactly 1 ∷ any_from 1 4 ∷ any_from 0 16 ∷ []

-- what is refused, or 0, and where
pub record Reading : Type 0 where
  pub refusal : ℕ
  pub at : ℕ

-- In file order, byte by byte. 29: the file is cut short.
unfoldable pub read_head : List Part → ℕ → List ℕ → Reading
read_head [] at rest = record { refusal = 0; at = at }
read_head (p ∷ ps) at [] = record { refusal = 29; at = at }
read_head (p ∷ ps) at (b ∷ rest) =
    cond (between p.least b p.greatest) (read_head ps (suc at) rest) (record { refusal = p.refusal; at = at })

-- ── An entry, which begins the list that is left of the file; past the end every byte reads as 0 ──
-- Input number, port, second number, name length, name, and 25 codes for row 20 only.
abbrev pub codes_size : ℕ → ℕ
codes_size number = cond (eqb number 20) 25 0

unfoldable pub input_size : List ℕ → ℕ
input_size l = 4 + byte_at l 3 + codes_size (byte_at l 0)

unfoldable pub input_in : List ℕ → Input
input_in l =
    input_of (byte_at l 0) (byte_at l 1) (byte_at l 2) (take (byte_at l 3) (drop 4 l)) (take (codes_size (byte_at l 0)) (drop (4 + byte_at l 3) l))

-- A report is model, subject, old, new. The subject of models 5 to 7 is a name, its length first; of every other number, a port byte.
abbrev pub on_name : ℕ → Bool
on_name model = between 5 model 7

unfoldable pub report_size : List ℕ → ℕ
report_size l = 4 + cond (on_name (byte_at l 0)) (byte_at l 1) 0

unfoldable pub reports_size : ℕ → List ℕ → ℕ
reports_size zero l = 0
reports_size (suc n) l = report_size l + reports_size n (drop (report_size l) l)

-- Then answer, report count, reports.
unfoldable pub answer_size : List ℕ → ℕ
answer_size l = 2 + reports_size (byte_at l 1) (drop 2 l)

unfoldable pub entry_size : List ℕ → ℕ
entry_size l = input_size l + answer_size (drop (input_size l) l)

-- what an entry shows: its bytes from the answer on
unfoldable pub shown_in : List ℕ → List ℕ
shown_in l = take (answer_size (drop (input_size l) l)) (drop (input_size l) l)
