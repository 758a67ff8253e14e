-- the bytes that are passed have moved
use mathlib.Core.Path.{◌≡◌}
use Rattle.image.specs.Image.{table, moved_up}
use Rattle.image.proofs.write.move_up.Given as goal

abbrev pub invariant-loop-j : goal.invariant-loop-j
invariant-loop-j l = l.m ≡ table 1891 (moved_up l.initial.m l.o l.j)
