use native.Mathlib.Omega.{arith}
use Prim.Native.Nat.{◌<◌, ◌≤◌}
use mathlib.Core.Path.{◌≡◌}
use Rattle.rules.specs.Row.{lower}
use Rattle.records.specs.Refusals.{number}
use Rattle.machine.proofs.Refused.{never_zero}
use Rattle.wafers.proofs.Given.{below_twelve, from_twelve}
use Rattle.wafers.proofs.step.or_untimely.Goals as goal

pub returns-in-Ok : goal.returns-in-Ok
unfolding lower
returns-in-Ok c = rw c.in-Ok.is

pub returns-then-number : goal.returns-then-number
returns-then-number c =
    let r = c.in-Err.refusal in
    let l : number r < 12 = omega arith in
    rw c.in-Err.is (below_twelve (number r) (never_zero r) l)

pub returns-else-number : goal.returns-else-number
returns-else-number c =
    let r = c.in-Err.refusal in
    let l : 12 ≤ number r = omega arith in
    rw c.in-Err.is (from_twelve (number r) (never_zero r) l)
