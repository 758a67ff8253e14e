-- lane i of the record at position k
use Rattle.std.proofs.Common.{◌≡◌, ℕ, ◌+◌, ◌*◌, Bool, List, length, get_or}
use Rattle.lists.specs.Lists.{between}
use Rattle.image.specs.Image.{byte_at}
use Rattle.passes.proofs.Gathered.{lanes}
use Rattle.passes.proofs.lanes.fields.Given as goal

abbrev pub lane : List ℕ → List ℕ → List ℕ → ℕ → ℕ → Bool
lane m least most i k = between (get_or least i 0) (byte_at m (109 + 50 * k + i)) (get_or most i 0)

abbrev pub invariant-loop-k : goal.invariant-loop-k
invariant-loop-k l = (length l.good ≡ 32) × (l.good ≡ lanes (lane l.m l.least l.most) 32 l.k)
