-- the names that are passed differ, and each has left its mark
use Rattle.std.proofs.Common.{◌≡◌}
use Rattle.lists.specs.Lists.{every_two}
use Rattle.rules.specs.Sound.{other_name}
use Rattle.image.specs.Image.{table}
use Rattle.passes.specs.Passes.{record_on, mark_key}
use Rattle.passes.proofs.Latest.{marked}
use Rattle.passes.proofs.names.differ.Given as goal

abbrev pub invariant-loop-k : goal.invariant-loop-k
invariant-loop-k l = (l.marks ≡ marked (mark_key l.m) 1024 l.k) × (l.ok ≡ every_two other_name (table l.k (record_on l.m)))
