-- The f64 is the f64 total of the first i wafers.
use Rattle.std.proofs.Common.{rules}
use Rattle.std.proofs.Common.{◌≡◌, take, sym, refl, subst, arith, length-take-le}
use lib.Ieee.{of_bits}
use Rattle.ticks.specs.Times.{Counts}
use Rattle.ticks.specs.Wafers.{total_of, added_to, f64_total}
use Rattle.ticks.proofs.Sums.{no_numbers, next_added, exact}
use Rattle.ticks.proofs.wafers.total.Goals as goal

pub loop-i-init : goal.loop-i-init
unfolding of_bits added_to
loop-i-init c = (omega arith, (search rules), refl)

pub loop-i-preserved : goal.loop-i-preserved
loop-i-preserved c =
    let v = c.loop-i.invariant in
    (omega arith, v.1, rw (next_added c.args.ws c.loop-i.i no_numbers (omega arith), v.2))

pub returns : goal.returns
returns c =
    let ws = take c.args.n c.args.ws in
    let e : c.loop-i.i ≡ c.args.n = omega arith in
    let r : c.loop-i.t ≡ f64_total ws = rw e at c.loop-i.invariant.2 in
    let k = length-take-le c.args.n c.args.ws (omega arith) in
    record { value = r; counts = subst (λ x. Counts x (total_of ws)) (sym r) (exact ws (omega arith) c.requires.ws_value) }
