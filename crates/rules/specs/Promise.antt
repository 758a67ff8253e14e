-- Demand 3: what holds after any finite run from a valid set-up, refused inputs included.
use Rattle.std.specs.Prelude.{ℕ, ◌+◌, ◌≤◌, ◌<◌, ◌≡◌, ◌≢◌, true, false, List, length}
use Rattle.records.specs.declared.carrier.Carrier.{Carrier}
use Rattle.records.specs.Names.{no_name}
use Rattle.records.specs.Carriers.{at_port, in_buffer, is_open, in_access}
use Rattle.rules.specs.State.{State, start, port_of, record_of}
use Rattle.rules.specs.Seen.{Input}
use Rattle.rules.specs.History.{Event, reached, events, history, verified, was_cancelled, released}

-- position k is a live carrier's
abbrev pub Live : State → ℕ → Type 0
Live s k = k < length s.carriers

-- Names, ties and places.
pub record Orderly (s : State) : Type 0 where
  -- names of live carriers differ
  pub names_differ : (j k : ℕ) → Live s j → Live s k → (record_of s j).name ≡ (record_of s k).name → j ≡ k
  -- a carrier that names a port is named by it, and a port that names a carrier is named by it
  pub carrier_tie : (k : ℕ) → Live s k → (record_of s k).port ≢ 0 → (port_of s (record_of s k).port).tie ≡ (record_of s k).name
  pub port_tie : (p : ℕ) → 1 ≤ p → (port_of s p).tie ≢ no_name
      → (k : ℕ) × Live s k × ((record_of s k).port ≡ p) × ((record_of s k).name ≡ (port_of s p).tie)
  -- no two carriers are tied to one port
  pub ties_differ : (j k : ℕ) → Live s j → Live s k → (record_of s j).port ≢ 0 → (record_of s j).port ≡ (record_of s k).port → j ≡ k
  -- a carrier at a port is tied to it; no two in the buffer share a place
  pub ports_differ : (k : ℕ) → Live s k → at_port (record_of s k) ≡ true → (record_of s k).port ≢ 0
  pub places_differ : (j k : ℕ) → Live s j → Live s k → in_buffer (record_of s j) ≡ true → in_buffer (record_of s k) ≡ true
      → (record_of s j).spot ≡ (record_of s k).spot → j ≡ k

-- What a carrier has behind it, by its history h.
pub record Earned (h : List Event) (c : Carrier) : Type 0 where
  -- each open carrier and each in the buffer was verified since its record was made
  pub open_verified : is_open c ≡ true → verified c.name h ≡ true
  pub buffer_verified : in_buffer c ≡ true → verified c.name h ≡ true
  -- an open one never cancelled
  pub open_not_cancelled : is_open c ≡ true → was_cancelled c.name h ≡ false
  -- each in access had ProceedWithCarrier after its slot map
  pub access_released : in_access c ≡ true → released c.name h ≡ true

-- The promise, of a tool of P ports and B places and a run.
pub record Promise (P B : ℕ) (run : List Input) : Type 0 where
  pub orderly : Orderly (reached (start P B) run)
  pub few : length (reached (start P B) run).carriers ≤ P + B + 16
  pub earned : (k : ℕ) → Live (reached (start P B) run) k
      → Earned (history (record_of (reached (start P B) run) k).name (events (start P B) run)) (record_of (reached (start P B) run) k)
