-- Byte by byte: what remains of the bytes that were passed is their front, of bytes that a name may have, and blanks alone follow it.
use Prim.Native.Nat.{◌≤◌}
use lib.ListN.{length}
use Rattle.names.proofs.Pass.{Passed}
use Rattle.names.proofs.check.name_length.Given as goal

abbrev pub invariant-loop-i : goal.invariant-loop-i
invariant-loop-i l = (l.i ≤ length l.text) × Passed l.text l.left l.i
