-- What holds of each record and the entry beside it holds after both have followed an effect.
use Prim.Native.Nat.{ℕ, zero, suc, ◌<◌, suc-le-suc}
use native.Mathlib.Nat.{le_of_suc-le-suc}
use native.Mathlib.Omega.{arith}
use mathlib.Core.Path.{◌≡◌, refl}
use mathlib.Core.Bool.{Bool, true, false}
use mathlib.Core.List.{List, [], ◌∷◌, ◌++◌}
use lib.ListN.{length, get_or}
use Rattle.lists.specs.Lists.{without, with_new}
use Rattle.follow.specs.Follow.{followed}

module _ {A B : Type 0} where
  length_gone : (l : List A) (k : List B) (g : ℕ) → length l ≡ length k → length (without g l) ≡ length (without g k)
  unfolding without
  length_gone [] [] g e = refl
  length_gone [] (y ∷ k) g e = absurd (omega arith)
  length_gone (x ∷ l) [] g e = absurd (omega arith)
  length_gone (x ∷ l) (y ∷ k) zero e = omega arith
  length_gone (x ∷ l) (y ∷ k) (suc g) e = let r = length_gone l k g (omega arith) in omega arith

  pub length_followed : (l : List A) (k : List B) (g : ℕ) (made : Bool) (x : A) (y : B) → length l ≡ length k
      → length (with_new made x (without g l)) ≡ length (followed g made y k)
  unfolding followed
  length_followed l k g true x y e = length_more (without g l) (without g k) (length_gone l k g e)
    where
      length_more : (l : List A) (k : List B) → length l ≡ length k → length (l ++ (x ∷ [])) ≡ length (k ++ (y ∷ []))
      length_more [] [] e = refl
      length_more [] (z ∷ k) e = absurd (omega arith)
      length_more (w ∷ l) [] e = absurd (omega arith)
      length_more (w ∷ l) (z ∷ k) e = let r = length_more l k (omega arith) in omega arith
  length_followed l k g false x y e = length_gone l k g e

module _ {A B : Type 0} (R : A → B → Type 0) (a : A) (b : B) where
  abbrev pub Beside : List A → List B → Type 0
  Beside l k = (j : ℕ) → j < length l → R (get_or l j a) (get_or k j b)

  gone : (l : List A) (k : List B) (g : ℕ) → length l ≡ length k → Beside l k → Beside (without g l) (without g k)
  unfolding without
  gone [] [] g e h j i = h j i
  gone [] (y ∷ k) g e h j i = absurd (omega arith)
  gone (x ∷ l) [] g e h j i = absurd (omega arith)
  gone (x ∷ l) (y ∷ k) zero e h j i = h (suc j) (suc-le-suc i)
  gone (x ∷ l) (y ∷ k) (suc g) e h zero i = h 0 (omega arith)
  gone (x ∷ l) (y ∷ k) (suc g) e h (suc j) i = gone l k g (omega arith) (λ j i. h (suc j) (suc-le-suc i)) j (le_of_suc-le-suc i)

  more : (l : List A) (k : List B) (x : A) (y : B) → length l ≡ length k → Beside l k → R x y → Beside (l ++ (x ∷ [])) (k ++ (y ∷ []))
  more [] [] x y e h r zero i = r
  more [] [] x y e h r (suc j) i = absurd (omega arith)
  more [] (z ∷ k) x y e h r j i = absurd (omega arith)
  more (w ∷ l) [] x y e h r j i = absurd (omega arith)
  more (w ∷ l) (z ∷ k) x y e h r zero i = h 0 (omega arith)
  more (w ∷ l) (z ∷ k) x y e h r (suc j) i = more l k x y (omega arith) (λ j i. h (suc j) (suc-le-suc i)) r j (le_of_suc-le-suc i)

  pub beside_followed : (l : List A) (k : List B) (g : ℕ) (made : Bool) (x : A) (y : B) → length l ≡ length k → Beside l k
      → (made ≡ true → R x y) → Beside (with_new made x (without g l)) (followed g made y k)
  unfolding followed
  beside_followed l k g true x y e h r = more (without g l) (without g k) x y (length_gone l k g e) (gone l k g e h) (r refl)
  beside_followed l k g false x y e h r = gone l k g e h
