-- What each row may answer: as in document 01, but for the rows that the request changes or adds.
use Rattle.std.specs.Prelude.{ℕ, Bool, cond, ◌&&◌, List, [], ◌∷◌, ◌++◌, eqb}
use Rattle.lists.specs.Lists.{any}
use Rattle.rules.specs.Reachable as base
use Rattle.rules.specs.Reachable.{Pair, answers}
use Rattle.queue.specs.Cases.{Line}

abbrev pub allowed : List Pair
allowed =
    answers 7 (0 ∷ 1 ∷ 2 ∷ 5 ∷ 9 ∷ 10 ∷ [])
    ++ answers 12 (0 ∷ 1 ∷ 4 ∷ 5 ∷ [])
    ++ answers 13 (0 ∷ 1 ∷ 4 ∷ 5 ∷ [])
    ++ answers 19 (0 ∷ 1 ∷ 2 ∷ 5 ∷ 7 ∷ 8 ∷ [])
    ++ answers 27 (0 ∷ 1 ∷ 4 ∷ 5 ∷ [])
    ++ answers 28 (0 ∷ 1 ∷ 5 ∷ [])
    ++ answers 29 (0 ∷ 1 ∷ 5 ∷ [])
    ++ answers 30 (0 ∷ [])

abbrev is_pair : ℕ → ℕ → Pair → Bool
is_pair row n p = eqb p.row row && eqb p.answer n

-- a row that the request changes or adds
unfoldable pub is_ours : ℕ → Bool
is_ours row = any (λ p. eqb p.row row) allowed

unfoldable pub may_answer : ℕ → ℕ → Bool
may_answer row n = cond (is_ours row) (any (is_pair row n) allowed) (base.may_answer row n)

-- a run of the table shows a pair of row and answer
unfoldable pub shown_by : List Line → Pair → Bool
shown_by table p = any (λ l. is_pair l.asked.input.number l.said.answer p) table
