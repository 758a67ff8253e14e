-- The maps that are passed are kept ones.
use Prim.Native.Nat.{◌*◌, ◌≤◌}
use mathlib.Core.Path.{◌≡◌}
use Rattle.lists.specs.Lists.{every}
use Rattle.image.specs.Image.{table, bytes_from}
use Rattle.maps.specs.Expected.{is_kept}
use Rattle.mapped.proofs.kept.all_kept.Given as goal

abbrev pub invariant-loop-k : goal.invariant-loop-k
invariant-loop-k l = (l.k ≤ l.n) × (l.n ≤ 36) × (l.ok ≡ every is_kept (table l.k (λ k'. bytes_from l.m (25 * k') 25)))
