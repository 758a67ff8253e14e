-- What each row may answer: as in P7's layer, but for 35.
use Rattle.std.specs.Prelude.{ℕ, Bool, cond, List, [], ◌∷◌, eqb}
use Rattle.lists.specs.Lists.{any}
use Rattle.prediction.specs.Reachable as prediction
use Rattle.wafers.specs.Cases.{Line}

abbrev pub allowed : List ℕ
allowed = 0 ∷ 1 ∷ 2 ∷ 5 ∷ 11 ∷ 12 ∷ []

unfoldable pub may_answer : ℕ → ℕ → Bool
may_answer row n = cond (eqb row 35) (any (λ k. eqb k n) allowed) (prediction.may_answer row n)

-- a run of the table shows an answer of 35
unfoldable pub shown_by : List Line → ℕ → Bool
shown_by table n = any (λ l. eqb l.said.answer n) table
