use Rattle.std.proofs.Common.{rules}
use native.Mathlib.Omega.{arith}
use Prim.Native.Nat.{min}
use mathlib.Core.Path.{◌≡◌, refl, ◌∙◌}
use lib.ListN.{length}
use Rattle.std.proofs.lemmas.List.{take_min}
use Rattle.lists.proofs.Tables.{fill_none, fill_more, fill_whole}
use Rattle.records.proofs.fill.fill.Goals as goal

pub loop-i-init : goal.loop-i-init
loop-i-init c = (refl, c.requires ∙ fill_none (length c.args.table.now) 0)

pub loop-i-preserved : goal.loop-i-preserved
loop-i-preserved c =
    let n = length c.args.table.now in
    let l = c.args.list.now in
    let e = fill_more n 0 0 l c.loop-i.i (omega arith) in
    (search rules, rw c.loop-i.invariant.1 e)

pub returns : goal.returns
returns c =
    let n = length c.args.table.now in
    let l = c.args.list.now in
    let end : c.loop-i.i ≡ min n (length l) = omega arith in
    c.loop-i.invariant.1 ∙ rw (end, take_min n l) (fill_whole n 0 l)
