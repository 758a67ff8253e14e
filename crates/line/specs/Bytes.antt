-- The queue in the second block of a tool, and what is found in it.
use Rattle.std.specs.Prelude.{ℕ, ◌+◌, ◌*◌, ◌≡◌, List, [], ◌∷◌, ◌++◌, length, take}
use Rattle.lists.specs.Lists.{fill}
use Rattle.image.specs.Image.{table, byte_at, name_from}
use Rattle.queue.specs.declared.request.Request.{Request}
use Rattle.queue.specs.Requests.{no_request}

-- Byte 900 says how many requests are queued; then come 16 of 18 bytes each: the name, the port, whether it is started.
abbrev pub waiting_in : List ℕ → ℕ
waiting_in m = byte_at m 900

abbrev pub request_start : ℕ → ℕ
request_start k = 901 + 18 * k

abbrev pub request_from : List ℕ → ℕ → Request
request_from m o = record { name = name_from m o; port = byte_at m (o + 16); started = byte_at m (o + 17) }

unfoldable pub queue_from : List ℕ → List Request
queue_from m = table 16 (λ k. request_from m (request_start k))

-- The requests of a block; and a block holds a queue: so many requests are used, with none after them.
abbrev pub queue_of : List ℕ → List Request
queue_of m = take (waiting_in m) (queue_from m)

pub record Holds (m : List ℕ) (q : List Request) : Type 0 where
  pub waiting : waiting_in m ≡ length q
  pub queue : queue_from m ≡ fill 16 no_request q

-- what a request is as bytes
unfoldable pub request_bytes : Request → List ℕ
request_bytes r = r.name.bytes ++ (r.port ∷ r.started ∷ [])
