-- lane i of the record at position k
use Rattle.std.proofs.Common.{rules}
use Rattle.std.proofs.Common.{◌≡◌, ◌+◌, length, ap, ◌∙◌, arith, rules}
use Rattle.lists.specs.Lists.{every}
use Rattle.image.specs.Image.{carrier_start}
use Rattle.image.proofs.Table.{length_table}
use Rattle.passes.specs.Passes.{record_on, itself, named_by}
use Rattle.passes.proofs.Gathered.{lanes, lanes_none, lanes_more, lanes_all}
use Rattle.passes.proofs.Bounds.{firsts, lasts, name_tests}
use Rattle.passes.proofs.lanes.named.Invariants.{lane}
use Rattle.passes.proofs.lanes.named.Goals as goal

pub loop-k-init : goal.loop-k-init
loop-k-init c =
    let e = lanes_none (lane c.args.m.now firsts lasts) 16 in
    (ap length e ∙ length_table 16 _, e)

pub name_lanes-requires : goal.name_lanes-requires
name_lanes-requires c = record { good_len = search rules; o_bound = omega arith }

pub loop-k-preserved : goal.loop-k-preserved
loop-k-preserved c =
    let P = lane c.args.m.now firsts lasts in
    let e : c.name_lanes.new.good ≡ lanes P 16 (c.loop-k.k + 1) = c.name_lanes.ensures
    ∙ rw c.loop-k.invariant.1 (lanes_more P 16 c.loop-k.k) in
    (ap length e ∙ length_table 16 _, e)

pub returns : goal.returns
returns c =
    let a = c.args in
    let m = a.m.now in
    let z : c.loop-k.k ≡ a.n = omega arith in
    c.all.ensures ∙ ap (every itself) (rw z at c.loop-k.invariant.1)
    ∙ lanes_all (lane m firsts lasts) 16 a.n named_by (record_on m) (λ k h. name_tests m (carrier_start k))
