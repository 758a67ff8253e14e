-- Model 8, CARRIER READY TO UNLOAD PREDICTION STATUS: its states, and its transitions as document 000 has them.
use Rattle.std.specs.Prelude.{ℕ, zero, suc, Bool, not, cond, ◌&&◌, ◌||◌, List, [], ◌∷◌, eqb}
use Rattle.prediction.specs.declared.prediction.Facts.{Facts}

-- ── States ──
abbrev pub disabled : ℕ
disabled = 1

abbrev pub waiting_for_carrier : ℕ
waiting_for_carrier = 2

abbrev pub waiting_for_prediction : ℕ
waiting_for_prediction = 3

abbrev pub predicted : ℕ
predicted = 4

abbrev pub aborted : ℕ
aborted = 5

abbrev pub completed : ℕ
completed = 6

-- ── Transitions ──
pub record Transition : Type 0 where
  pub number : ℕ
  pub from : ℕ
  pub when : Bool
  pub to : ℕ

abbrev row : ℕ → ℕ → Bool → ℕ → Transition
row number from when to = record { number = number; from = from; when = when; to = to }

-- Abort is looked at first.
abbrev pub transitions : Facts → List Transition
transitions f =
    row 23 waiting_for_carrier (f.taken && not f.unset) waiting_for_prediction
    ∷ row 24 waiting_for_prediction (f.soon && not (f.impossible || f.late)) predicted
    ∷ row 25 predicted f.ready completed
    ∷ row 26 waiting_for_carrier (f.taken && f.unset) disabled
    ∷ row 27 waiting_for_prediction (f.impossible || f.late) aborted
    ∷ row 28 predicted f.late aborted
    ∷ row 29 aborted f.ready completed
    ∷ []

-- where the first transition leads that applies in a state; the state itself where none does
unfoldable pub next : List Transition → ℕ → ℕ
next [] state = state
next (t ∷ ts) state = cond (eqb t.from state && t.when) t.to (next ts state)

-- the states that are passed in turn, at most so many, each after the one before
unfoldable pub passed : ℕ → Facts → ℕ → List ℕ
passed zero f state = []
passed (suc n) f state =
    cond (eqb (next (transitions f) state) state) [] (next (transitions f) state ∷ passed n f (next (transitions f) state))

-- From no state to the next there are three transitions at most: 23, 24, 25.
abbrev pub course : Facts → ℕ → List ℕ
course f state = passed 3 f state

-- where a course ends
unfoldable pub last_of : ℕ → List ℕ → ℕ
last_of state [] = state
last_of state (s ∷ l) = last_of s l
