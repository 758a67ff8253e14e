use Rattle.std.proofs.Common.{◌≡◌, ℕ, ◌+◌, Bool, false, ◌&&◌, List, get_or}
use Rattle.lists.specs.Lists.{between}
use Rattle.image.specs.Image.{table, byte_at}
use Rattle.passes.proofs.Gathered.{partly}
use Rattle.passes.proofs.lanes.field_lanes.Given as goal

abbrev pub was : List Bool → ℕ → Bool
was good j = get_or good j false

abbrev pub next : List Bool → List ℕ → ℕ → List ℕ → List ℕ → ℕ → Bool
next good m o least most j = get_or good j false && between (get_or least j 0) (byte_at m (o + j)) (get_or most j 0)

abbrev pub invariant-loop-i : goal.invariant-loop-i
invariant-loop-i l = l.good ≡ table 32 (partly (was l.initial.good) (next l.initial.good l.m l.o l.least l.most) l.i)
