-- What holds at every position of a list, after one element is replaced, goes or is new.
use Prim.Native.Nat.{ℕ, zero, suc, ◌<◌, suc-le-suc}
use native.Mathlib.Nat.{le_of_suc-le-suc}
use native.Mathlib.Omega.{arith}
use native.Mathlib.Decide.{ℕ_discrete}
use mathlib.Core.Path.{◌≡◌, refl}
use mathlib.Core.Logic.{◌≢◌}
use mathlib.Core.Bool.{Bool, true, false}
use mathlib.Core.List.{List, [], ◌∷◌, ◌++◌}
use lib.ListN.{length, get_or, set, length-set}
use lib.Seq.{get_or-set_same, get_or-set_other}
use Rattle.lists.specs.Lists.{without, with_new}

module _ {A : Type 0} (P : A → Type 0) (d : A) where
  abbrev pub AtEach : List A → Type 0
  AtEach l = (j : ℕ) → j < length l → P (get_or l j d)

  pub each_set : (l : List A) (k : ℕ) (y : A) → ((j : ℕ) → j < length l → j ≢ k → P (get_or l j d)) → (k < length l → P y)
      → AtEach (set l k y)
  each_set l k y h p j b = let i : j < length l = simp length-set at b in go (ℕ_discrete j k) i
    where
      go : Dec (j ≡ k) → j < length l → P (get_or (set l k y) j d)
      go (yes e) i = rw (e, get_or-set_same l k y d (rw e at i)) (p (rw e at i))
      go (no n) i = rw (get_or-set_other l k j y d n) (h j i n)

  pub each_without : (l : List A) (g : ℕ) → AtEach l → AtEach (without g l)
  unfolding without
  each_without [] g h j b = h j b
  each_without (x ∷ l) zero h j b = h (suc j) (suc-le-suc b)
  each_without (x ∷ l) (suc g) h zero b = h 0 (omega arith)
  each_without (x ∷ l) (suc g) h (suc j) b = each_without l g (λ k i. h (suc k) (suc-le-suc i)) j (le_of_suc-le-suc b)

  each_and_last : (l : List A) (y : A) → AtEach l → P y → AtEach (l ++ (y ∷ []))
  each_and_last [] y h p zero b = p
  each_and_last [] y h p (suc j) b = absurd (omega arith)
  each_and_last (x ∷ l) y h p zero b = h 0 (omega arith)
  each_and_last (x ∷ l) y h p (suc j) b = each_and_last l y (λ k i. h (suc k) (suc-le-suc i)) p j (le_of_suc-le-suc b)

  pub each_with_new : (w : Bool) (l : List A) (y : A) → AtEach l → (w ≡ true → P y) → AtEach (with_new w y l)
  each_with_new true l y h p = each_and_last l y h (p refl)
  each_with_new false l y h p = h
