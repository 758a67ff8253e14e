-- the bytes that are passed have moved up
use mathlib.Core.Path.{◌≡◌}
use lib.ListN.{length}
use Rattle.image.specs.Image.{table}
use Rattle.follow.specs.Follow.{closed_up}
use Rattle.follow.proofs.table.close_up.Given as goal

abbrev pub invariant-loop-j : goal.invariant-loop-j
invariant-loop-j l = l.m ≡ table (length l.initial.m) (closed_up l.initial.m l.o l.w l.e l.j)
