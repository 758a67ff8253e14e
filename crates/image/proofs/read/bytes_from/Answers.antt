-- the bytes that are passed stand in the array
use native.Mathlib.Omega.{arith}
use Prim.Native.Nat.{◌+◌}
use mathlib.Core.Path.{◌≡◌, ◌∙◌}
use lib.ListN.{get_or, set, length-set}
use lib.Seq.{get_or-set_same, get_or-set_other}
use borrow.Author.Count.{below_more}
use Rattle.image.specs.Image.{byte_at}
use Rattle.image.proofs.Table.{is_filled}
use Rattle.image.proofs.read.bytes_from.Goals as goal

pub loop-i-preserved : goal.loop-i-preserved
loop-i-preserved g c =
    let m = c.args.m.now in
    let o = c.args.o in
    let i = c.loop-i.i in
    let l = c.loop-i.bytes in
    let x = byte_at m (o + i) in (
      simp length-set c.loop-i.invariant.0,
      below_more (λ k. get_or (set l i x) k 0 ≡ byte_at m (o + k)) i
          (λ k b. get_or-set_other l i k x 0 (omega arith) ∙ c.loop-i.invariant.1 k b) (get_or-set_same l i x 0 (omega arith)),
    )

pub returns : goal.returns
returns g c =
    let a = c.args in
    let h = c.loop-i.invariant in
    is_filled c.loop-i.bytes g.row.N (λ k. byte_at a.m.now (a.o + k)) 0 h.0 (λ k b. h.1 k (omega arith))
