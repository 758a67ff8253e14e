use Rattle.std.proofs.Common.{◌≡◌, ℕ, ◌+◌, Bool, false, ◌&&◌, List, get_or}
use Rattle.image.specs.Image.{table, byte_at}
use Rattle.passes.specs.Passes.{name_lane}
use Rattle.passes.proofs.Gathered.{partly}
use Rattle.passes.proofs.lanes.name_lanes.Given as goal

abbrev pub was : List Bool → ℕ → Bool
was good j = get_or good j false

abbrev pub next : List Bool → List ℕ → ℕ → List ℕ → List ℕ → ℕ → Bool
next good m o first last j = get_or good j false && name_lane (get_or first j 0) (get_or last j 0) (byte_at m (o + j)) (byte_at m (o + j + 1))

abbrev pub invariant-loop-i : goal.invariant-loop-i
invariant-loop-i l = l.good ≡ table 16 (partly (was l.initial.good) (next l.initial.good l.m l.o l.first l.last) l.i)
