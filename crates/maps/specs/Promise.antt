-- Demand 3 with expected maps: what holds after any finite run from a valid set-up, refused inputs included.
use Rattle.std.specs.Prelude.{ℕ, ◌+◌, ◌≤◌, ◌≡◌, true, false, ◌||◌, List, length}
use Rattle.records.specs.declared.carrier.Carrier.{Carrier}
use Rattle.records.specs.Carriers.{in_buffer, is_open, in_access}
use Rattle.rules.specs.State.{record_of}
use Rattle.rules.specs.Seen.{Input}
use Rattle.rules.specs.History.{Event, history, verified, was_cancelled, released}
use Rattle.rules.specs.Promise.{Live, Orderly}
use Rattle.maps.specs.State.{start}
use Rattle.maps.specs.Projection.{reached}
use Rattle.maps.specs.History.{events, matched}

-- What a carrier has behind it, by its history h.
pub record Earned (h : List Event) (c : Carrier) : Type 0 where
  -- each open carrier and each in the buffer was verified since its record was made
  pub open_verified : is_open c ≡ true → verified c.name h ≡ true
  pub buffer_verified : in_buffer c ≡ true → verified c.name h ≡ true
  -- an open one never cancelled
  pub open_not_cancelled : is_open c ≡ true → was_cancelled c.name h ≡ false
  -- each in access had ProceedWithCarrier after its slot map, or a SlotMap equal to the map that its record was made with
  pub access_released : in_access c ≡ true → (released c.name h || matched c.name h) ≡ true

-- The promise, of a tool of P ports and B places and a run.
pub record Promise (P B : ℕ) (run : List Input) : Type 0 where
  pub orderly : Orderly (reached (start P B) run).base
  pub few : length (reached (start P B) run).base.carriers ≤ P + B + 16
  pub earned : (k : ℕ) → Live (reached (start P B) run).base k
      → Earned (history (record_of (reached (start P B) run).base k).name (events (start P B) run))
      (record_of (reached (start P B) run).base k)
