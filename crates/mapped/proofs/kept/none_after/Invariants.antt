-- From the end: the maps that are passed are none.
use Prim.Native.Nat.{◌≤◌}
use mathlib.Core.Path.{◌≡◌}
use lib.ListN.{drop}
use Rattle.lists.specs.Lists.{every}
use Rattle.maps.specs.Expected.{is_none}
use Rattle.mapped.specs.Bytes.{maps_from}
use Rattle.mapped.proofs.kept.none_after.Given as goal

abbrev pub invariant-loop-k : goal.invariant-loop-k
invariant-loop-k l = (l.n ≤ l.k) × (l.k ≤ 36) × (l.ok ≡ every is_none (drop l.k (maps_from l.m)))
