-- What the library says of its iterators and comparisons, said with the tests of lists.
use Prim.Native.Nat.{ℕ, zero, suc, ◌-◌, ◌<◌}
use native.Mathlib.Omega.{arith}
use mathlib.Core.Path.{◌≡◌, refl, sym, ap}
use mathlib.Core.Logic.{◌↔◌}
use mathlib.Core.Bool.{Bool, true, ◌&&◌, and_assoc}
use mathlib.Core.List.{List, [], ◌∷◌, ◌++◌}
use lib.Dec.{eqb}
use lib.ListN.{length, get_or, take, replicate}
use lib.Pointwise.{pointwise}
use Rattle.std.proofs.Math.Bool.{and-true}
use Rattle.std.proofs.lemmas.List.Elements.{All-nil, All-cons}
use Rattle.std.specs.List.{AllPass}
use Rattle.lists.proofs.Bools.{and_l, and_r, and_i, same_test}
use Rattle.lists.proofs.Tables.{fill_none}
use Rattle.lists.specs.Lists.{every, fill, same_list}

-- `==` of arrays and slices of bytes
pub equal_is_same : (a b : List ℕ) → pointwise eqb a b ≡ same_list a b
unfolding same_list
equal_is_same [] [] = refl
equal_is_same [] (y ∷ ys) = refl
equal_is_same (x ∷ xs) [] = refl
equal_is_same (x ∷ xs) (y ∷ ys) = rw (equal_is_same xs ys)

module _ {A : Type 0} where
  pass_every : (f : A → Bool) (l : List A) → every f l ≡ true → AllPass f l
  unfolding every
  pass_every f [] h = All-nil _
  pass_every f (x ∷ l) h = All-cons (λ y. f y ≡ true) x l (and_l (f x) (every f l) h) (pass_every f l (and_r (f x) (every f l) h))

  every_pass : (f : A → Bool) (l : List A) → AllPass f l → every f l ≡ true
  unfolding every
  every_pass f [] h = refl
  every_pass f (x ∷ l) h = and_i (h 0 x (omega arith)) (every_pass f l (λ k d e. h (suc k) d (omega arith)))

  -- what `all` answers
  pub passed : (f : A → Bool) (l : List A) (b : Bool) → ((b ≡ true) ↔ AllPass f l) → b ≡ every f l
  passed f l b h = same_test b (every f l) (λ e. every_pass f l (h.0 e)) (λ e. h.1 (pass_every f l e))

  -- one turn more of a loop from the front
  pub every_more : (f : A → Bool) (l : List A) (k : ℕ) (d : A) → k < length l
      → every f (take (suc k) l) ≡ (every f (take k l) && f (get_or l k d))
  unfolding every
  every_more f [] k d h = absurd (omega arith)
  every_more f (x ∷ l) zero d h = and-true (f x)
  every_more f (x ∷ l) (suc k) d h = rw (every_more f l k d (omega arith)) (sym (and_assoc (f x) _ _))

  -- a table is what fits of the list, and z after it
  pub fill_is : (n : ℕ) (z : A) (l : List A) → fill n z l ≡ take n l ++ replicate (n - length l) z
  unfolding fill
  fill_is zero z l = let e : 0 - length l ≡ 0 = omega arith in rw e
  fill_is (suc n) z [] = let e : suc n - 0 ≡ suc n = omega arith in rw e (sym (fill_none (suc n) z))
  fill_is (suc n) z (x ∷ l) = let e : suc n - suc (length l) ≡ n - length l = omega arith in rw e (ap (λ r. x ∷ r) (fill_is n z l))
