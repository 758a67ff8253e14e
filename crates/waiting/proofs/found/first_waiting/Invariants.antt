-- None before k waits.
use Rattle.waiting.proofs.First.{Passed}
use Rattle.waiting.proofs.found.first_waiting.Given as goal

abbrev pub invariant-loop-k : goal.invariant-loop-k
invariant-loop-k l = Passed l.table l.k
