-- The codes that are passed, and those still to come.
use Prim.Native.Nat.{◌-◌}
use mathlib.Core.Path.{◌≡◌}
use mathlib.Core.List.{◌++◌}
use lib.ListN.{length, take}
use Rattle.secs.specs.InPlace.{codes_at}
use Rattle.secs.proofs.request.codes_from.Given as goal

abbrev pub invariant-loop-code : goal.invariant-loop-code
invariant-loop-code l = record {
  whole : length l.code-items ≡ 25;
  parts : take l.code-index l.code-items ++ codes_at l.msg (25 - l.code-index) l.at ≡ codes_at l.msg 25 l.from;
}
