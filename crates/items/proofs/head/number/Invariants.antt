-- The bytes that are passed, high byte first.
use Prim.Native.Nat.{◌^◌, ◌<◌}
use mathlib.Core.Path.{◌≡◌}
use Rattle.items.specs.Heads.{number_at}
use Rattle.items.proofs.head.number.Given as goal

abbrev pub invariant-loop-i : goal.invariant-loop-i
invariant-loop-i l = record { value : l.v ≡ number_at l.msg l.at l.i; room : l.v < 256 ^ l.i }
