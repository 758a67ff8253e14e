-- what is still to pass ends where all of it ends
use native.Mathlib.Omega.{arith}
use Prim.Native.Nat.{suc, ◌+◌, ◌-◌}
use mathlib.Core.Path.{◌≡◌, ◌∙◌}
use lib.ListN.{drop}
use Rattle.logs.specs.Layout.{reports_size}
use Rattle.logs.proofs.InPlace.{reports_on, none_more}
use Rattle.logs.proofs.sizes.reports_end.Goals as goal

pub loop-done-init : goal.loop-done-init
loop-done-init c = let z : c.args.n - 0 ≡ c.args.n = omega arith in (omega arith, rw z)

pub report_size-at-requires : goal.report_size-at-requires
report_size-at-requires c = omega arith

pub overflow_add-at : goal.overflow_add-at
overflow_add-at c = omega (arith, c.report_size-at.ensures.upper_bound)

pub loop-done-preserved : goal.loop-done-preserved
loop-done-preserved c =
    let l = c.loop-done in
    let m = c.args.log.now in
    let n = c.args.n in
    let s = c.report_size-at.result in
    let z : n - l._done ≡ suc (n - (l._done + 1)) = omega arith in
    let e : l.at + reports_size (suc (n - (l._done + 1))) (drop l.at m) ≡ _ = rw z at l.invariant.1 in
    (omega (arith, c.report_size-at.ensures.upper_bound), reports_on m l.at (n - (l._done + 1)) s c.report_size-at.ensures.value ∙ e)

pub returns : goal.returns
returns c =
    let l = c.loop-done in
    let m = c.args.log.now in
    let z : c.args.n - l._done ≡ 0 = omega arith in
    none_more m l.at ∙ rw z at l.invariant.1
