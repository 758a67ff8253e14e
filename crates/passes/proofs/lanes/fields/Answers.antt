-- lane i of the record at position k
use Rattle.std.proofs.Common.{rules}
use Rattle.std.proofs.Common.{◌≡◌, ◌+◌, length, ap, ◌∙◌, arith, rules}
use Rattle.lists.specs.Lists.{every}
use Rattle.image.proofs.Table.{length_table}
use Rattle.passes.specs.Passes.{record_on, itself, fields_fit}
use Rattle.passes.proofs.Gathered.{lanes, lanes_none, lanes_more, lanes_all}
use Rattle.passes.proofs.Bounds.{leasts, mosts, field_tests}
use Rattle.passes.proofs.lanes.fields.Invariants.{lane}
use Rattle.passes.proofs.lanes.fields.Goals as goal

pub loop-k-init : goal.loop-k-init
loop-k-init c =
    let e = lanes_none (lane c.args.m.now leasts mosts) 32 in
    (ap length e ∙ length_table 32 _, e)

pub field_lanes-requires : goal.field_lanes-requires
field_lanes-requires c = record { good_len = search rules; o_bound = omega arith }

pub loop-k-preserved : goal.loop-k-preserved
loop-k-preserved c =
    let P = lane c.args.m.now leasts mosts in
    let e : c.field_lanes.new.good ≡ lanes P 32 (c.loop-k.k + 1) = c.field_lanes.ensures
    ∙ rw c.loop-k.invariant.1 (lanes_more P 32 c.loop-k.k) in
    (ap length e ∙ length_table 32 _, e)

pub returns : goal.returns
returns c =
    let a = c.args in
    let m = a.m.now in
    let z : c.loop-k.k ≡ a.n = omega arith in
    c.all.ensures ∙ ap (every itself) (rw z at c.loop-k.invariant.1)
    ∙ lanes_all (lane m leasts mosts) 32 a.n fields_fit (record_on m) (λ k h. field_tests m k)
