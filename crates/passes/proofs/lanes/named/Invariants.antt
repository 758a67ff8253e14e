-- lane i of the record at position k
use Rattle.std.proofs.Common.{◌≡◌, ℕ, ◌+◌, Bool, List, length, get_or}
use Rattle.image.specs.Image.{byte_at, carrier_start}
use Rattle.passes.specs.Passes.{name_lane}
use Rattle.passes.proofs.Gathered.{lanes}
use Rattle.passes.proofs.lanes.named.Given as goal

abbrev pub lane : List ℕ → List ℕ → List ℕ → ℕ → ℕ → Bool
lane m first last i k = name_lane (get_or first i 0) (get_or last i 0) (byte_at m (carrier_start k + i)) (byte_at m (carrier_start k + i + 1))

abbrev pub invariant-loop-k : goal.invariant-loop-k
invariant-loop-k l = (length l.good ≡ 16) × (l.good ≡ lanes (lane l.m l.first l.last) 16 l.k)
