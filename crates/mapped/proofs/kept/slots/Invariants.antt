use Prim.Native.Nat.{◌≤◌}
use mathlib.Core.Path.{◌≡◌}
use Rattle.lists.specs.Lists.{every}
use Rattle.image.specs.Image.{bytes_from}
use Rattle.maps.specs.Expected.{is_slot}
use Rattle.mapped.proofs.kept.slots.Given as goal

abbrev pub invariant-loop-i : goal.invariant-loop-i
invariant-loop-i l = (l.i ≤ 25) × (l.ok ≡ every is_slot (bytes_from l.m l.o l.i))
