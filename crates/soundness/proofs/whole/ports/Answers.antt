-- the ports that are passed fit
use native.Mathlib.Omega.{arith}
use mathlib.Core.Path.{◌≡◌, refl}
use Rattle.lists.specs.Lists.{every}
use Rattle.image.specs.Image.{table}
use Rattle.soundness.specs.Seats.{port_on, port_fits}
use Rattle.passes.proofs.Turns.{every_next}
use Rattle.soundness.proofs.whole.ports.Goals as goal

pub loop-k-init : goal.loop-k-init
unfolding every table
loop-k-init c = refl

pub loop-k-preserved : goal.loop-k-preserved
loop-k-preserved c = rw (every_next port_fits (port_on c.args.m.now) c.loop-k.k, c.port-ok.ensures, c.loop-k.invariant)

pub returns : goal.returns
returns c =
    let z : c.loop-k.k ≡ c.args.n = omega arith in
    rw z at c.loop-k.invariant
