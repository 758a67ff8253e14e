use Rattle.std.proofs.Common.{rules}
use Rattle.std.proofs.Common.{◌≡◌, refl, arith}
use Rattle.lists.specs.Lists.{every}
use Rattle.ticks.proofs.Sums.{no_numbers, next_timely}
use Rattle.ticks.proofs.wafers.all_timely.Goals as goal

pub loop-i-init : goal.loop-i-init
unfolding every
loop-i-init c = (omega arith, (search rules), refl)

pub loop-i-preserved : goal.loop-i-preserved
loop-i-preserved c =
    let v = c.loop-i.invariant in
    let e = next_timely c.args.ws c.loop-i.i no_numbers (omega arith) in
    (omega arith, v.1, rw (e, c.is_timely-h.ensures, c.is_timely-p.ensures, v.2))

pub returns : goal.returns
returns c =
    let l = c.loop-i in
    let e : l.i ≡ c.args.n = omega arith in
    rw e at l.invariant.2
