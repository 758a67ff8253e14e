-- Demand 3 with the queue: what holds after any finite run from a valid set-up, refused inputs included.
use Rattle.std.specs.Prelude.{ℕ, ◌+◌, ◌≤◌, List, [], ◌∷◌, length}
use Rattle.rules.specs.State.{record_of}
use Rattle.rules.specs.Seen.{Input}
use Rattle.rules.specs.History.{Event, history}
use Rattle.rules.specs.Promise.{Live, Orderly}
use Rattle.maps.specs.Promise.{Earned}
use Rattle.queue.specs.State.{Queued, base_of, start}
use Rattle.queue.specs.Outcome.{answer_in}
use Rattle.queue.specs.Projection.{reached}

-- what happened in a run: each input, document 01's part of the state that it met, and the answer that it got
unfoldable pub events : Queued → List Input → List Event
events s [] = []
events s (i ∷ earlier) =
    record { before = base_of (reached s earlier); input = i; answer = answer_in (reached s earlier) i } ∷ events s earlier

-- The promise, of a tool of P ports and B places and a run: as it was, since inputs 27 to 30 and row 7 verify and cancel nobody.
pub record Promise (P B : ℕ) (run : List Input) : Type 0 where
  pub orderly : Orderly (base_of (reached (start P B) run))
  pub few : length (base_of (reached (start P B) run)).carriers ≤ P + B + 16
  pub earned : (k : ℕ) → Live (base_of (reached (start P B) run)) k
      → Earned (history (record_of (base_of (reached (start P B) run)) k).name (events (start P B) run))
      (record_of (base_of (reached (start P B) run)) k)
