-- Soundness of the queue as the code tests it: request by request, and every two.
use Rattle.std.specs.Prelude.{ℕ, Bool, ◌&&◌, ◌≡◌, List, Option, length, position, take, drop, leb}
use Rattle.lists.specs.Lists.{every, every_two}
use Rattle.rules.specs.State.{State}
use Rattle.queue.specs.declared.request.Request.{Request}
use Rattle.queue.specs.Sound.{request_in_range, carrier_stored, other_carrier, carrier_shut, alone_there, port_kept, zero_request}

unfoldable pub fits_in : State → Request → Bool
fits_in s r = request_in_range (length s.ports) r && carrier_stored s r && carrier_shut s r && port_kept s r

unfoldable pub apart : Request → Request → Bool
apart a b = other_carrier a b && alone_there a b

-- The count fits the table, what is unused is zero, and what is used fits.
unfoldable pub sound_line : State → ℕ → List Request → Bool
sound_line s n q =
    leb n 16 && (every zero_request (drop n q) && every (fits_in s) (take n q) && every_two apart (take n q))

-- k is where the first request of q stands that passes a test; the test is known by what its calls answer.
abbrev pub FirstAt : (Request → Bool → Type 0) → List Request → Option ℕ → Type 0
FirstAt answers q k = (f : Request → Bool) → ((r : Request) (b : Bool) → answers r b → b ≡ f r) → k ≡ position f q
