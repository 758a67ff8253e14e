-- Request P2: is anyone waiting? Of a table of carrier records, of any length and with any bytes: the first that waits for the host.
use Rattle.std.specs.Prelude.{ℕ, ◌+◌, Bool, cond, ◌||◌, List, length, ltb}
use Rattle.lists.specs.Lists.{any, where_is}
use Rattle.records.specs.Carriers.{id_waits, slot_waits}
use Rattle.records.specs.declared.carrier.Carrier.{Carrier}
use Rattle.waiting.specs.declared.found.Found.{Found}

-- a carrier waits for the host, by ID or by slot map
unfoldable pub waits : Carrier → Bool
waits c = id_waits c || slot_waits c

-- some carrier waits
abbrev pub some_waits : List Carrier → Bool
some_waits table = any waits table

-- the first position whose carrier waits, or the length where none does
abbrev pub first_waiting : List Carrier → ℕ
first_waiting table = where_is waits table

-- where a search of n records stopped, and how many it read: the position plus one, or the whole length
unfoldable pub stopped_at : ℕ → ℕ → Found
stopped_at at n = record { position = at; read = cond (ltb at n) (at + 1) n }

-- The answer: 1 when some carrier waits, else 0; the first waiting position, and how many records were read.
unfoldable pub answer_in : List Carrier → ℕ
answer_in table = cond (some_waits table) 1 0

unfoldable pub found_in : List Carrier → Found
found_in table = stopped_at (first_waiting table) (length table)
