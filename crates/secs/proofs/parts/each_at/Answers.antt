-- What is still to come gives the same.
use native.Mathlib.Omega.{arith}
use Prim.Native.Nat.{suc, ◌+◌, ◌-◌}
use mathlib.Core.Path.{◌≡◌, ◌∙◌}
use Rattle.items.specs.Reading.{kept}
use Rattle.secs.proofs.Turns.{stops, goes_on, none_left}
use Rattle.secs.proofs.parts.each_at.Goals as goal

pub returns-then-not-fits_at : goal.returns-then-not-fits_at
returns-then-not-fits_at c =
    let l = c.loop in
    let a = c.args in
    let s : a.many - l.counter ≡ suc (a.many - (l.counter + 1)) = omega arith in
    stops a.msg.now a.pairs a.left _ l.at l.count _ c.fits_at.ensures _ s c.if-not-fits_at.true ∙ l.invariant

pub loop-preserved : goal.loop-preserved
loop-preserved c =
    let l = c.loop in
    let a = c.args in
    let s : a.many - l.counter ≡ suc (a.many - (l.counter + 1)) = omega arith in
    goes_on a.msg.now a.pairs a.left _ l.at l.count _ c.fits_at.ensures _ (kept c.item-w.result) s c.if-not-fits_at.false c.item-w.ensures
    ∙ l.invariant

pub returns : goal.returns
returns c =
    let l = c.loop in
    let a = c.args in
    let z : a.many - l.counter ≡ 0 = omega arith in
    none_left a.msg.now a.pairs a.left _ l.at l.count z ∙ l.invariant
