-- The first position that passes a test.
use Prim.Native.Nat.{ℕ, zero, suc, ◌+◌, ◌<◌, suc-le-suc}
use native.Mathlib.Nat.{le_of_suc-le-suc, suc-add}
use native.Mathlib.Omega.{arith}
use mathlib.Core.Path.{◌≡◌, refl, ap}
use mathlib.Core.Bool.{Bool, true, false, cond, ◌||◌}
use mathlib.Core.List.{List, [], ◌∷◌, ◌++◌}
use lib.ListN.{length, get_or, take}
use Rattle.lists.specs.Lists.{any, where_is}
use Rattle.lists.proofs.Bools.{clash}

module _ {A : Type 0} (f : A → Bool) where
  -- it is one of the list's, or the length
  pub where_within : (l : List A) → any f l ≡ true → where_is f l < length l
  unfolding any where_is
  where_within [] e = clash e refl
  where_within (x ∷ l) e = go (f x) (λ h. where_within l h) e
    where
      go : (b : Bool) → (any f l ≡ true → where_is f l < length l) → (b || any f l) ≡ true → cond b 0 (suc (where_is f l)) < suc (length l)
      go true r e = omega arith
      go false r e = suc-le-suc (r e)

  pub where_past : (l : List A) → any f l ≡ false → where_is f l ≡ length l
  unfolding any where_is
  where_past [] e = refl
  where_past (x ∷ l) e = go (f x) (λ h. where_past l h) e
    where
      go : (b : Bool) → (any f l ≡ false → where_is f l ≡ length l) → (b || any f l) ≡ false → cond b 0 (suc (where_is f l)) ≡ suc (length l)
      go true r e = clash refl e
      go false r e = ap suc (r e)

  -- none before it passes
  pub none_earlier : (l : List A) (d : A) (j : ℕ) → j < where_is f l → f (get_or l j d) ≡ false
  unfolding where_is
  none_earlier [] d j b = absurd (omega arith)
  none_earlier (x ∷ l) d j b = go (f x) refl (none_earlier l d) j b
    where
      go : (c : Bool) → f x ≡ c → ((j : ℕ) → j < where_is f l → f (get_or l j d) ≡ false) → (j : ℕ) → j < cond c 0 (suc (where_is f l))
          → f (get_or (x ∷ l) j d) ≡ false
      go true e r j b = absurd (omega arith)
      go false e r zero b = e
      go false e r (suc j) b = r j (le_of_suc-le-suc b)

  -- what stands after it is never asked
  pub rest_unasked : (l rest : List A) → any f l ≡ true → where_is f (take (where_is f l + 1) l ++ rest) ≡ where_is f l
  unfolding any where_is
  rest_unasked [] rest e = clash e refl
  rest_unasked (x ∷ l) rest e = go (f x) refl (λ h. rest_unasked l rest h) e
    where
      go : (b : Bool) → f x ≡ b → (any f l ≡ true → where_is f (take (where_is f l + 1) l ++ rest) ≡ where_is f l) → (b || any f l) ≡ true
          → where_is f (take (cond b 0 (suc (where_is f l)) + 1) (x ∷ l) ++ rest) ≡ cond b 0 (suc (where_is f l))
      go true h r e = rw h
      go false h r e = rw (suc-add (where_is f l) 1, h) (ap suc (r e))
