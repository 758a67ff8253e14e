-- The queue in the bytes, request by request.
use Prim.Native.Nat.{ℕ, ◌<◌, ◌≤◌}
use native.Mathlib.Omega.{arith}
use mathlib.Core.Path.{◌≡◌}
use mathlib.Core.List.{List}
use lib.ListN.{length, get_or, get_or-eq_default}
use Rattle.image.proofs.Table.{getD_table, length_table}
use Rattle.queue.specs.Requests.{no_request}
use Rattle.line.specs.Bytes.{request_start, request_from, queue_from}

pub queue_long : (m : List ℕ) → length (queue_from m) ≡ 16
unfolding queue_from
queue_long m = length_table 16 (λ k. request_from m (request_start k))

pub request_is : (m : List ℕ) (k : ℕ) → k < 16 → get_or (queue_from m) k no_request ≡ request_from m (request_start k)
unfolding queue_from
request_is m k h = getD_table 16 (λ k. request_from m (request_start k)) k no_request h

pub request_past : (m : List ℕ) (k : ℕ) → 16 ≤ k → get_or (queue_from m) k no_request ≡ no_request
request_past m k h = let l = queue_long m in get_or-eq_default (queue_from m) no_request (omega arith)
