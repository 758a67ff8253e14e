use Prim.Native.Nat.{◌≤◌}
use mathlib.Core.Path.{◌≡◌}
use lib.ListN.{get_or}
use Rattle.lists.specs.Lists.{same_list}
use Rattle.image.specs.Image.{table, bytes_from}
use Rattle.mapped.proofs.kept.same_codes.Given as goal

abbrev pub invariant-loop-i : goal.invariant-loop-i
invariant-loop-i l = (l.i ≤ 25) × (l.ok ≡ same_list (bytes_from l.m l.o l.i) (table l.i (λ j. get_or l.map j 0)))
