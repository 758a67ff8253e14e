-- What the turns of the loop over pairs or codes cite.
use Prim.Native.Nat.{ℕ, suc}
use mathlib.Core.Path.{◌≡◌}
use mathlib.Core.Bool.{Bool, true, false}
use mathlib.Core.List.{List}
use Rattle.items.specs.Reading.{read_item, Walked, walked}
use Rattle.secs.specs.InPlace.{fits_at, each_at}

module _ (m : List ℕ) (pairs : Bool) (left n at count : ℕ) (b : Bool) (f : b ≡ fits_at m pairs at) where
  pub stops : (k : ℕ) → n ≡ suc k → b ≡ false → false ≡ each_at m pairs left n at count
  unfolding each_at
  stops k s q = rw (s, ← f, q)

  pub goes_on : (k : ℕ) (w : Walked) → n ≡ suc k → b ≡ true → w ≡ walked (read_item left m at count)
      → each_at m pairs left k w.at w.count ≡ each_at m pairs left n at count
  unfolding each_at
  goes_on k w s q e = rw (s, e, ← f, q)

pub none_left : (m : List ℕ) (pairs : Bool) (left n at count : ℕ) → n ≡ 0 → true ≡ each_at m pairs left n at count
unfolding each_at
none_left m pairs left n at count s = rw s
