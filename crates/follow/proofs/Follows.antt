-- A table that follows the records, as a list.
use Prim.Native.Nat.{ℕ, ◌≤◌, ◌-◌}
use native.Mathlib.Omega.{arith}
use mathlib.Core.Path.{◌≡◌, refl, ap, sym}
use mathlib.Core.Bool.{Bool, true, false, cond}
use mathlib.Core.List.{List}
use lib.ListN.{length}
use lib.Dec.{ltb}
use borrow.Author.Tests.{ltb-true, ltb-false}
use Rattle.lists.specs.Lists.{fill, without, shifted}
use Rattle.lists.proofs.Tables.{push_fill, shift_fill, without_out, length_without}
use Rattle.follow.specs.Follow.{followed, dropped, added, left_of, followed_in}

module _ {A : Type 0} (w : ℕ) (z : A) (l : List A) (fits : length l ≤ w) where
  drop_fill : (g : ℕ) → dropped z (length l) g (fill w z l) ≡ fill w z (without g l)
  unfolding dropped
  drop_fill g = go (ltb g (length l)) refl
    where
      go : (b : Bool) → ltb g (length l) ≡ b → cond b (shifted z (fill w z l) g) (fill w z l) ≡ fill w z (without g l)
      go true e = shift_fill w z l g (ltb-true g (length l) e) fits
      go false e = ap (fill w z) (sym (without_out l g (ltb-false g (length l) e)))

  left_without : (g : ℕ) → left_of (length l) g ≡ length (without g l)
  unfolding left_of
  left_without g = go (ltb g (length l)) refl
    where
      go : (b : Bool) → ltb g (length l) ≡ b → cond b (length l - 1) (length l) ≡ length (without g l)
      go true e = let h = length_without l g (ltb-true g (length l) e) in omega arith
      go false e = ap length (sym (without_out l g (ltb-false g (length l) e)))

  -- the law: in the table as in the list
  pub follow_fill : (g : ℕ) (b : Bool) (x : A) → followed_in z (length l) g b x (fill w z l) ≡ fill w z (followed g b x l)
  unfolding added followed
  follow_fill g true x = rw (drop_fill g, left_without g) (push_fill w z (without g l) x)
  follow_fill g false x = drop_fill g
