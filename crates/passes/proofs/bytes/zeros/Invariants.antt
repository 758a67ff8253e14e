-- the bytes that are passed are zero
use Rattle.std.proofs.Common.{◌≡◌, take}
use Rattle.lists.specs.Lists.{every}
use Rattle.passes.specs.Passes.{is_zero}
use Rattle.passes.proofs.bytes.zeros.Given as goal

abbrev pub invariant-loop-b : goal.invariant-loop-b
invariant-loop-b l = l.ok ≡ every is_zero (take l.b-index l.part)
