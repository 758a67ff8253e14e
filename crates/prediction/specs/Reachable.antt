-- What each row may answer: as in P5's layer, but for the four inputs that the request adds.
use Rattle.std.specs.Prelude.{ℕ, Bool, cond, ◌&&◌, List, [], ◌∷◌, ◌++◌, eqb}
use Rattle.lists.specs.Lists.{any}
use Rattle.rules.specs.Reachable.{Pair, answers}
use Rattle.queue.specs.Reachable as queue
use Rattle.prediction.specs.Outcome.{is_timed}
use Rattle.prediction.specs.Cases.{Line}

abbrev pub allowed : List Pair
allowed =
    answers 31 (0 ∷ 1 ∷ 11 ∷ [])
    ++ answers 32 (0 ∷ 1 ∷ 2 ∷ 5 ∷ 11 ∷ [])
    ++ answers 33 (0 ∷ 1 ∷ 2 ∷ 5 ∷ 11 ∷ [])
    ++ answers 34 (0 ∷ 1 ∷ 2 ∷ 5 ∷ 11 ∷ [])

abbrev is_pair : ℕ → ℕ → Pair → Bool
is_pair row n p = eqb p.row row && eqb p.answer n

unfoldable pub may_answer : ℕ → ℕ → Bool
may_answer row n = cond (is_timed row) (any (is_pair row n) allowed) (queue.may_answer row n)

-- a run of the table shows a pair of row and answer
unfoldable pub shown_by : List Line → Pair → Bool
shown_by table p = any (λ l. is_pair l.asked.input.input.number l.said.answer p) table
