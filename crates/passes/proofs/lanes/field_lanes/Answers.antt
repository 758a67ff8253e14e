use Rattle.std.proofs.Common.{◌≡◌, false, length, get_or, sym, ap, ◌∙◌, arith}
use Rattle.image.proofs.Table.{is_table}
use Rattle.passes.proofs.Gathered.{still, none_new, one_new, all_new}
use Rattle.passes.proofs.lanes.field_lanes.Invariants.{was, next}
use Rattle.passes.proofs.lanes.field_lanes.Goals as goal

pub loop-i-init : goal.loop-i-init
loop-i-init c =
    let a = c.args in
    let good = a.good.now in
    let l : length good ≡ 32 = c.requires.good_len in
    sym (is_table good 32 false l) ∙ none_new (was good) (next good a.m.now a.o a.least.now a.most.now) 32

pub loop-i-preserved : goal.loop-i-preserved
loop-i-preserved c =
    let a = c.args in
    let good = a.good.now in
    let g = next good a.m.now a.o a.least.now a.most.now in
    let i = c.loop-i.i in
    let e = c.loop-i.invariant in
    let r : get_or c.loop-i.good i false ≡ was good i = ap (λ l. get_or l i false) e ∙ still (was good) g 32 i false (omega arith) in
    rw (r, e) (one_new (was good) g 32 i)

pub returns : goal.returns
returns c =
    let a = c.args in
    let z : c.loop-i.i ≡ 32 = omega arith in
    rw z at c.loop-i.invariant ∙ all_new (was a.good.now)
    (next a.good.now a.m.now a.o a.least.now a.most.now) 32
