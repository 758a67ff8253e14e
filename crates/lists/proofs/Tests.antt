-- Laws of tests over lists.
use Prim.Native.Nat.{ℕ, zero, suc, ◌≤◌, ◌<◌, suc-le-suc}
use native.Mathlib.Nat.{le_of_suc-le-suc}
use native.Mathlib.Omega.{arith}
use mathlib.Core.Path.{◌≡◌, refl, ap, ap₂}
use mathlib.Core.Logic.{◌≢◌}
use mathlib.Core.Bool.{Bool, true, false, cond, ◌||◌}
use mathlib.Core.List.{List, [], ◌∷◌, ◌++◌}
use lib.ListN.{length, get_or}
use lib.Dec.{eqb}
use borrow.Author.Tests.{eqb-true, eq-eqb}
use Rattle.lists.specs.Lists.{every, every_two, any, where_is, without, same_list}
use Rattle.lists.proofs.Bools.{clash, and_l, and_r, or_r}

module _ {A : Type 0} (f : A → Bool) where
  pub every_at : (l : List A) (d : A) → every f l ≡ true → (j : ℕ) → j < length l → f (get_or l j d) ≡ true
  unfolding every
  every_at [] d e j b = absurd (omega arith)
  every_at (x ∷ l) d e zero b = and_l (f x) _ e
  every_at (x ∷ l) d e (suc j) b = every_at l d (and_r (f x) _ e) j (le_of_suc-le-suc b)

  -- some element passes: here, or with one gone
  pub any_here : (l : List A) (j : ℕ) (d : A) → j < length l → f (get_or l j d) ≡ true → any f l ≡ true
  unfolding any
  any_here [] j d b e = absurd (omega arith)
  any_here (x ∷ l) zero d b e = rw e
  any_here (x ∷ l) (suc j) d b e = or_r (f x) (any_here l j d (le_of_suc-le-suc b) e)

  pub any_other : (l : List A) (g j : ℕ) (d : A) → j < length l → j ≢ g → f (get_or l j d) ≡ true → any f (without g l) ≡ true
  unfolding any without
  any_other [] g j d b n e = absurd (omega arith)
  any_other (x ∷ l) zero zero d b n e = absurd (n refl)
  any_other (x ∷ l) zero (suc j) d b n e = any_here l j d (le_of_suc-le-suc b) e
  any_other (x ∷ l) (suc g) zero d b n e = rw e
  any_other (x ∷ l) (suc g) (suc j) d b n e = or_r (f x) (any_other l g j d (le_of_suc-le-suc b) (omega arith) e)

  pub any_not : (l : List A) (d : A) → ((j : ℕ) → j < length l → f (get_or l j d) ≡ false) → any f l ≡ false
  unfolding any
  any_not [] d h = refl
  any_not (x ∷ l) d h = rw (h 0 (omega arith)) (any_not l d (λ j b. h (suc j) (suc-le-suc b)))

  pub any_gone : (l : List A) (g : ℕ) (d : A) → ((j : ℕ) → j < length l → j ≢ g → f (get_or l j d) ≡ false) → any f (without g l) ≡ false
  unfolding any without
  any_gone [] g d h = refl
  any_gone (x ∷ l) zero d h = any_not l d (λ j b. h (suc j) (suc-le-suc b) (omega arith))
  any_gone (x ∷ l) (suc g) d h = rw (h 0 (omega arith) (omega arith)) (any_gone l g d (λ j b n. h (suc j) (suc-le-suc b) (omega arith)))

  pub any_append : (l m : List A) → any f (l ++ m) ≡ (any f l || any f m)
  unfolding any
  any_append [] m = refl
  any_append (x ∷ l) m = rw (any_append l m) (assoc (f x) (any f l) (any f m))
    where
      assoc : (a b c : Bool) → (a || (b || c)) ≡ ((a || b) || c)
      assoc true b c = refl
      assoc false b c = refl

  -- the first position that passes, where it is the only one; past the end where there is none; and back
  pub where_one : (l : List A) (k : ℕ) (d : A) → k < length l → f (get_or l k d) ≡ true
      → ((j : ℕ) → j < length l → j ≢ k → f (get_or l j d) ≡ false) → where_is f l ≡ k
  unfolding where_is
  where_one [] k d b e h = absurd (omega arith)
  where_one (x ∷ l) zero d b e h = rw e
  where_one (x ∷ l) (suc k) d b e h =
      rw (h 0 (omega arith) (omega arith))
      (ap suc (where_one l k d (le_of_suc-le-suc b) e (λ j i n. h (suc j) (suc-le-suc i) (omega arith))))

  pub where_not : (l : List A) (d : A) → ((j : ℕ) → j < length l → f (get_or l j d) ≡ false) → where_is f l ≡ length l
  unfolding where_is
  where_not [] d h = refl
  where_not (x ∷ l) d h = rw (h 0 (omega arith)) (ap suc (where_not l d (λ j b. h (suc j) (suc-le-suc b))))

  pub nowhere : (l : List A) (d : A) → length l ≤ where_is f l → (j : ℕ) → j < length l → f (get_or l j d) ≡ false
  unfolding where_is
  nowhere [] d h j b = absurd (omega arith)
  nowhere (x ∷ l) d h j b = go (f x) refl (nowhere l d) j b h
    where
      go : (c : Bool) → f x ≡ c → (length l ≤ where_is f l → (j : ℕ) → j < length l → f (get_or l j d) ≡ false)
          → (j : ℕ) → j < suc (length l) → suc (length l) ≤ cond c 0 (suc (where_is f l)) → f (get_or (x ∷ l) j d) ≡ false
      go true e r j b h = absurd (omega arith)
      go false e r zero b h = e
      go false e r (suc j) b h = r (le_of_suc-le-suc h) j (le_of_suc-le-suc b)

  pub where_holds : (l : List A) (d : A) → where_is f l < length l → f (get_or l (where_is f l) d) ≡ true
  unfolding where_is
  where_holds [] d h = absurd (omega arith)
  where_holds (x ∷ l) d h = go (f x) refl (where_holds l d) h
    where
      go : (c : Bool) → f x ≡ c → (where_is f l < length l → f (get_or l (where_is f l) d) ≡ true)
          → cond c 0 (suc (where_is f l)) < suc (length l) → f (get_or (x ∷ l) (cond c 0 (suc (where_is f l))) d) ≡ true
      go true e r h = e
      go false e r h = r (le_of_suc-le-suc h)

module _ {A : Type 0} (f : A → A → Bool) where
  pub two_at : (l : List A) (d : A) → every_two f l ≡ true → (i j : ℕ) → i < j → j < length l → f (get_or l i d) (get_or l j d) ≡ true
  unfolding every_two
  two_at [] d e i j a b = absurd (omega arith)
  two_at (x ∷ l) d e i zero a b = absurd (omega arith)
  two_at (x ∷ l) d e zero (suc j) a b = every_at (f x) l d (and_l (every (f x) l) _ e) j (le_of_suc-le-suc b)
  two_at (x ∷ l) d e (suc i) (suc j) a b = two_at l d (and_r (every (f x) l) _ e) i j (le_of_suc-le-suc a) (le_of_suc-le-suc b)

pub list_is : (a b : List ℕ) → same_list a b ≡ true → a ≡ b
unfolding same_list
list_is [] [] e = refl
list_is [] (y ∷ b) e = clash e refl
list_is (x ∷ a) [] e = clash e refl
list_is (x ∷ a) (y ∷ b) e = ap₂ ◌∷◌ (eqb-true x y (and_l (eqb x y) _ e)) (list_is a b (and_r (eqb x y) _ e))

pub list_same : (a : List ℕ) → same_list a a ≡ true
unfolding same_list
list_same [] = refl
list_same (x ∷ a) = rw (eq-eqb x x refl) (list_same a)
