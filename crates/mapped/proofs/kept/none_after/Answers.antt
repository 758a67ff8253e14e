-- From the end: the maps that are passed are none.
use native.Mathlib.Omega.{arith}
use Prim.Native.Nat.{◌-◌}
use mathlib.Core.Path.{◌≡◌}
use Rattle.lists.specs.Lists.{every}
use Rattle.lists.proofs.Loops.{back, ended}
use Rattle.maps.specs.Expected.{no_map}
use Rattle.mapped.specs.Bytes.{maps_from}
use Rattle.mapped.proofs.InBytes.{maps_long, map_is}
use Rattle.mapped.proofs.kept.none_after.Goals as goal

pub loop-k-init : goal.loop-k-init
unfolding every
loop-k-init c = (c.requires, omega arith, rw (ended (maps_from c.args.m.now) 36 (maps_long c.args.m.now)))

pub loop-k-preserved : goal.loop-k-preserved
unfolding every
loop-k-preserved c =
    let m = c.args.m.now in
    let l = maps_long m in
    let e = back (maps_from m) c.loop-k.k no_map (omega arith) (omega arith) in
    (omega arith, omega arith, rw (e, map_is m (c.loop-k.k - 1) (omega arith), c.loop-k.invariant.2, c.zeros-ok.ensures))

pub returns : goal.returns
returns c =
    let z : c.loop-k.k ≡ c.args.n = omega arith in
    rw z at c.loop-k.invariant.2
