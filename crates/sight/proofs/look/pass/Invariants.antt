-- From the end: what the records that are passed show, with positions from the first of them.
use Prim.Native.Nat.{◌≤◌, ◌+◌}
use mathlib.Core.Path.{◌≡◌}
use lib.ListN.{drop, take}
use Rattle.image.specs.Image.{tool_from}
use Rattle.sight.proofs.Passing.{passed_in}
use Rattle.sight.proofs.look.pass.Given as goal

abbrev pub invariant-loop-k : goal.invariant-loop-k
invariant-loop-k l =
    ((tool_from l.m).count ≤ 36) × (l.k ≤ (tool_from l.m).count) × (l.p.expected + l.k ≤ 36)
    × (l.p ≡ passed_in l.name l.port l.value l.k (drop l.k (take (tool_from l.m).count (tool_from l.m).carriers)))
