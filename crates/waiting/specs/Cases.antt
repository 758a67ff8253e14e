-- Tables, and the answer for each: what makes a carrier wait, which is the first, how many records were read.
use Rattle.std.specs.Prelude.{ℕ, suc, Bool, ◌&&◌, List, [], ◌∷◌, ◌++◌, replicate, eqb}
use Rattle.records.specs.Carriers.{no_carrier, new_carrier}
use Rattle.records.specs.Fields.{with_cancelled, with_id, with_slot}
use Rattle.records.specs.Names.{no_name}
use Rattle.records.specs.declared.carrier.Carrier.{Carrier}
use Rattle.waiting.specs.Waiting.{answer_in, found_in}

pub record Case : Type 0 where
  pub table : List Carrier
  pub answer : ℕ
  pub position : ℕ
  pub read : ℕ

-- the first that waits stands at p; none of n records waits
abbrev first : List Carrier → ℕ → Case
first t p = record { table = t; answer = 1; position = p; read = suc p }

abbrev none : List Carrier → ℕ → Case
none t n = record { table = t; answer = 0; position = n; read = n }

unfoldable pub holds : Case → Bool
holds c =
    eqb (answer_in c.table) c.answer && eqb (found_in c.table).position c.position
    && eqb (found_in c.table).read c.read

-- a record with an ID status and a slot status
abbrev statuses : ℕ → ℕ → Carrier
statuses id slot = with_id id (with_slot slot (new_carrier no_name 0))

abbrev alone : ℕ → ℕ → List Carrier
alone id slot = statuses id slot ∷ []

-- twos everywhere but in the two that count
abbrev twos : Carrier
twos = record {
  name = record { bytes = replicate 16 2 };
  place = 2;
  spot = 2;
  port = 2;
  opened = 2;
  cancelled = 2;
  cameout = 2;
  map = replicate 25 2;
  id = 3;
  slot = 3;
  accessing = 2;
}

-- n records that wait for nobody
abbrev idle : ℕ → List Carrier
idle n = replicate n (statuses 3 1)

abbrev waiter : List Carrier
waiter = alone 2 1

abbrev pub cases : List Case
cases =
    -- by ID, by slot map, by both
    first (alone 2 1) 0
    ∷ first (alone 3 2) 0
    ∷ first (alone 2 2) 0
    -- status 2 and no other, good or not
    ∷ none (alone 0 0) 1
    ∷ none (alone 1 1) 1
    ∷ none (alone 3 3) 1
    ∷ none (alone 4 4) 1
    ∷ none (alone 5 1) 1
    ∷ none (alone 1 5) 1
    ∷ none (alone 0x82 0xFF) 1
    -- no other part of a record decides, for or against
    ∷ none (twos ∷ []) 1
    ∷ first (with_id 2 twos ∷ []) 0
    ∷ first (with_slot 2 twos ∷ []) 0
    ∷ first (with_cancelled 1 (statuses 2 1) ∷ []) 0
    -- the first, and not the last or the one that waits for its ID
    ∷ first (waiter ++ waiter) 0
    ∷ first (idle 1 ++ waiter) 1
    ∷ first (idle 1 ++ waiter ++ idle 1 ++ waiter) 1
    ∷ first (alone 3 2 ++ alone 2 1) 0
    ∷ first (alone 2 1 ++ alone 3 2) 0
    -- a zero record waits for nobody and is read
    ∷ none (no_carrier ∷ no_carrier ∷ []) 2
    ∷ first (no_carrier ∷ waiter) 1
    -- of any length
    ∷ none [] 0
    ∷ none (idle 36) 36
    ∷ first (idle 35 ++ waiter) 35
    ∷ none (idle 40) 40
    ∷ first (idle 39 ++ waiter) 39
    ∷ []
