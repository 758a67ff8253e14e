-- what is still to pass ends where all of it ends
use Prim.Native.Nat.{◌+◌, ◌*◌, ◌-◌, ◌≤◌}
use mathlib.Core.Path.{◌≡◌}
use lib.ListN.{drop}
use Rattle.logs.specs.Layout.{reports_size}
use Rattle.logs.proofs.sizes.reports_end.Given as goal

abbrev pub invariant-loop-done : goal.invariant-loop-done
invariant-loop-done l =
    (l.at ≤ l.from + 260 * l._done) × (l.at + reports_size (l.n - l._done) (drop l.at l.log) ≡ l.from + reports_size l.n (drop l.from l.log))
