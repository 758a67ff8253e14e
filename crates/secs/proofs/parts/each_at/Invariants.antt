-- What is still to come gives the same.
use Prim.Native.Nat.{◌-◌}
use mathlib.Core.Path.{◌≡◌}
use Rattle.secs.specs.InPlace.{each_at}
use Rattle.secs.proofs.parts.each_at.Given as goal

abbrev pub invariant-loop : goal.invariant-loop
invariant-loop l = each_at l.msg l.pairs l.left (l.many - l.counter) l.at l.count ≡ each_at l.msg l.pairs l.left l.many l.from l.begun
