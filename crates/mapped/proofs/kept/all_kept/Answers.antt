-- The maps that are passed are kept ones.
use native.Mathlib.Omega.{arith}
use Prim.Native.Nat.{◌*◌}
use mathlib.Core.Path.{◌≡◌}
use Rattle.image.specs.Image.{bytes_from}
use Rattle.passes.proofs.Turns.{every_none, every_next}
use Rattle.maps.specs.Expected.{is_kept}
use Rattle.mapped.proofs.InBytes.{maps_first}
use Rattle.mapped.proofs.kept.all_kept.Goals as goal

pub loop-k-init : goal.loop-k-init
loop-k-init c = (omega arith, c.requires, every_none is_kept (λ k. bytes_from c.args.m.now (25 * k) 25))

pub loop-k-preserved : goal.loop-k-preserved
loop-k-preserved c =
    let m = c.args.m.now in (
      omega arith,
      c.loop-k.invariant.1,
      rw (every_next is_kept (λ k. bytes_from m (25 * k) 25) c.loop-k.k, c.loop-k.invariant.2, c.kept_at-ok.ensures),
    )

pub returns : goal.returns
returns c =
    let a = c.args in
    let z : c.loop-k.k ≡ a.n = omega arith in
    rw (maps_first a.m.now a.n c.loop-k.invariant.1) (rw z at c.loop-k.invariant.2)
