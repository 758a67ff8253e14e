-- the ports that are passed fit
use mathlib.Core.Path.{◌≡◌}
use Rattle.lists.specs.Lists.{every}
use Rattle.image.specs.Image.{table}
use Rattle.soundness.specs.Seats.{port_on, port_fits}
use Rattle.soundness.proofs.whole.ports.Given as goal

abbrev pub invariant-loop-k : goal.invariant-loop-k
invariant-loop-k l = l.ok ≡ every port_fits (table l.k (port_on l.m))
