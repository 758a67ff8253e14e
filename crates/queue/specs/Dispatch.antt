-- What a dispatcher may count on.
use Rattle.std.specs.Prelude.{ℕ, ◌<◌, ◌≡◌, Bool, true, false, not, ◌&&◌, ◌||◌, List, length, get_or, eqb, ltb}
use Rattle.lists.specs.Lists.{any, every, where_is}
use Rattle.records.specs.declared.name.Name.{Name}
use Rattle.records.specs.Names.{in_bytes, same_name}
use Rattle.records.specs.Ports.{handed_out}
use Rattle.records.specs.Carriers.{in_buffer, taken_out}
use Rattle.records.specs.Fields.{with_reserved}
use Rattle.rules.specs.State.{port_of}
use Rattle.rules.specs.Seen.{Input, narrow}
use Rattle.queue.specs.declared.request.Request.{Request}
use Rattle.queue.specs.Requests.{no_request, is_of, waits_of, started_to, is_ready, is_queued, carrier_of, may_leave}
use Rattle.queue.specs.State.{Queued, base_of}
use Rattle.queue.specs.Sound.{kept_free}
use Rattle.queue.specs.Outcome.{state_after}

-- ── An entry keeps its place until it is started, dropped or done ──
-- the request of m stands ahead of that of n
unfoldable pub is_ahead : Name → Name → List Request → Bool
is_ahead m n q = ltb (where_is (is_of m) q) (where_is (is_of n) q)

-- the request of n is started, to port p
unfoldable pub is_under_way : Name → ℕ → List Request → Bool
is_under_way n p q = any (λ r. is_of n r && started_to p r) q

-- OutDone to a port
unfoldable pub is_done : ℕ → Input → Bool
is_done p i = eqb i.number 28 && eqb (narrow i.port) p

-- CancelCarrierOut or CancelCarrier of a name, or CancelAllCarrierOut
unfoldable pub is_drop : Name → Input → Bool
is_drop n i = ((eqb i.number 29 || eqb i.number 6) && same_name (in_bytes i.name) n) || eqb i.number 30

-- an input that takes the request of n out of the queue: it is done, or dropped before it is started
unfoldable pub takes_out : List Request → Name → Input → Bool
takes_out q n i = (eqb i.number 28 && is_under_way n (narrow i.port) q) || (any (waits_of n) q && is_drop n i)

pub record KeepsPlace (s : Queued) (i : Input) : Type 0 where
  -- a carrier that is queued stays queued, unless the input takes its request out
  pub stays : (n : Name) → is_queued n s.queue ≡ true → takes_out s.queue n i ≡ false → is_queued n (state_after s i).queue ≡ true
  -- and whoever is ahead of it afterwards was ahead of it before
  pub no_overtaking : (m n : Name) → is_queued n s.queue ≡ true → is_queued n (state_after s i).queue ≡ true
      → is_ahead m n (state_after s i).queue ≡ true → is_ahead m n s.queue ≡ true

-- ── OutStart takes the oldest that is ready, and starts that one alone ──
pub record TakesOldest (s : Queued) (p k : ℕ) (after : Queued) : Type 0 where
  pub queued : k < length s.queue
  pub ready : is_ready (base_of s) p (get_or s.queue k no_request) ≡ true
  pub oldest : (j : ℕ) → j < k → is_ready (base_of s) p (get_or s.queue j no_request) ≡ false
  pub under_way : is_under_way (get_or s.queue k no_request).name p after.queue ≡ true

-- ── A started request ends by OutDone ──
-- no OutDone to this port among inputs
unfoldable pub none_done : ℕ → List Input → Bool
none_done p run = every (λ i. not (is_done p i)) run

-- OutDone hands the carrier out: the port as row 7 leaves it, no longer reserved; the carrier there; and its entry free.
pub record HandedOut (s : Queued) (n : Name) (p : ℕ) (after : Queued) : Type 0 where
  pub port : port_of (base_of after) p ≡ handed_out n (with_reserved 0 (port_of (base_of s) p))
  pub carrier : carrier_of (base_of after) n ≡ taken_out p (carrier_of (base_of s) n)
  pub free : is_queued n after.queue ≡ false

-- Until then nothing takes its carrier or its port: the one is in the buffer, closed and not in access, the other untied, reserved and
-- READY TO LOAD.
pub record HeldFor (s : Queued) (n : Name) (p : ℕ) : Type 0 where
  pub stored : in_buffer (carrier_of (base_of s) n) ≡ true
  pub shut : may_leave (carrier_of (base_of s) n) ≡ true
  pub kept : kept_free (port_of (base_of s) p) ≡ true
