-- Lists, and tests over them.
use Rattle.std.specs.Prelude.{ℕ, zero, suc, ◌+◌, Bool, true, false, cond, ◌&&◌, ◌||◌, List, [], ◌∷◌, ◌++◌, eqb, leb}

-- x lies from a to b
abbrev pub between : ℕ → ℕ → ℕ → Bool
between a x b = leb a x && leb x b

module _ {A : Type 0} where
  -- every element passes the test
  unfoldable pub every : (A → Bool) → List A → Bool
  every f [] = true
  every f (x ∷ l) = f x && every f l

  -- every two elements pass the test, the earlier one first
  unfoldable pub every_two : (A → A → Bool) → List A → Bool
  every_two f [] = true
  every_two f (x ∷ l) = every (f x) l && every_two f l

  -- some element passes the test
  unfoldable pub any : (A → Bool) → List A → Bool
  any f [] = false
  any f (x ∷ l) = f x || any f l

  -- how many elements pass the test
  unfoldable pub how_many : (A → Bool) → List A → ℕ
  how_many f [] = 0
  how_many f (x ∷ l) = cond (f x) 1 0 + how_many f l

  -- the first position whose element passes the test, or the length where none does
  unfoldable pub where_is : (A → Bool) → List A → ℕ
  where_is f [] = 0
  where_is f (x ∷ l) = cond (f x) 0 (suc (where_is f l))

  -- the list without the element at a position
  unfoldable pub without : ℕ → List A → List A
  without k [] = []
  without zero (x ∷ l) = l
  without (suc k) (x ∷ l) = x ∷ without k l

  -- the list, and one more after it if b holds
  abbrev pub with_new : Bool → A → List A → List A
  with_new true x l = l ++ (x ∷ [])
  with_new false x l = l

  -- a table of n entries: the list, and z after it
  unfoldable pub fill : ℕ → A → List A → List A
  fill zero z l = []
  fill (suc n) z [] = z ∷ fill n z []
  fill (suc n) z (x ∷ l) = x ∷ fill n z l

  -- the element at k goes, those after it move up, and the last is z
  unfoldable pub shifted : A → List A → ℕ → List A
  shifted z [] k = []
  shifted z (x ∷ l) zero = l ++ z ∷ []
  shifted z (x ∷ l) (suc k) = x ∷ shifted z l k

-- the same numbers in the same order
unfoldable pub same_list : List ℕ → List ℕ → Bool
same_list [] [] = true
same_list [] (y ∷ ys) = false
same_list (x ∷ xs) [] = false
same_list (x ∷ xs) (y ∷ ys) = eqb x y && same_list xs ys
