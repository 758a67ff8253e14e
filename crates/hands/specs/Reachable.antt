-- What each row may answer: as in P8's layer, but for the rows that the request changes or adds.
use Rattle.std.specs.Prelude.{ℕ, Bool, cond, ◌&&◌, List, [], ◌∷◌, ◌++◌, eqb}
use Rattle.lists.specs.Lists.{any}
use Rattle.rules.specs.Reachable.{Pair, answers}
use Rattle.wafers.specs.Reachable as wafers
use Rattle.hands.specs.Cases.{Line}

abbrev pub allowed : List Pair
allowed =
    answers 13 (0 ∷ 1 ∷ 4 ∷ 5 ∷ 13 ∷ [])
    ++ answers 14 (0 ∷ 1 ∷ 5 ∷ [])
    ++ answers 24 (0 ∷ 1 ∷ 5 ∷ 13 ∷ [])
    ++ answers 36 (0 ∷ 1 ∷ 5 ∷ [])

abbrev is_pair : ℕ → ℕ → Pair → Bool
is_pair row n p = eqb p.row row && eqb p.answer n

-- a row that the request changes or adds
unfoldable pub is_ours : ℕ → Bool
is_ours row = any (λ p. eqb p.row row) allowed

unfoldable pub may_answer : ℕ → ℕ → Bool
may_answer row n = cond (is_ours row) (any (is_pair row n) allowed) (wafers.may_answer row n)

-- a run of the table shows a pair of row and answer
unfoldable pub shown_by : List Line → Pair → Bool
shown_by table p = any (λ l. is_pair l.asked.input.timed.input.number l.said.answer p) table
