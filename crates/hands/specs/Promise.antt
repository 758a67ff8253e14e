-- Demand 3 with hands on an AUTO port: what holds after any finite run from a valid set-up, refused inputs included.
use Rattle.std.specs.Prelude.{ℕ, ◌+◌, ◌≤◌, List, [], ◌∷◌, length}
use Rattle.rules.specs.State.{record_of}
use Rattle.rules.specs.History.{Event, history}
use Rattle.rules.specs.Promise.{Live, Orderly}
use Rattle.maps.specs.Promise.{Earned}
use Rattle.wafers.specs.Outcome.{Brought}
use Rattle.hands.specs.State.{Handled, base_of, start}
use Rattle.hands.specs.Outcome.{answer_in, reached}

-- what happened in a run: each input, document 01's part of the state that it met, and the answer that it got
unfoldable pub events : Handled → List Brought → List Event
events s [] = []
events s (i ∷ earlier) =
    record { before = base_of (reached s earlier); input = i.timed.input; answer = answer_in (reached s earlier) i } ∷ events s earlier

-- The promise as it was: a pod that is held is nobody's yet, and Continue verifies and cancels nobody.
pub record Promise (P B setting timeout : ℕ) (run : List Brought) : Type 0 where
  pub orderly : Orderly (base_of (reached (start P B setting timeout) run))
  pub few : length (base_of (reached (start P B setting timeout) run)).carriers ≤ P + B + 16
  pub earned : (k : ℕ) → Live (base_of (reached (start P B setting timeout) run)) k
      → Earned (history (record_of (base_of (reached (start P B setting timeout) run)) k).name (events (start P B setting timeout) run))
      (record_of (base_of (reached (start P B setting timeout) run)) k)
