-- Tests over a list in which one element has gone, one has changed or one is new; and how many pass a test.
use Prim.Native.Nat.{ℕ, zero, suc, ◌+◌, ◌≤◌, ◌<◌, suc-le-suc}
use native.Mathlib.Omega.{arith}
use mathlib.Core.Path.{◌≡◌, refl, sym, ◌∙◌}
use mathlib.Core.Logic.{◌≢◌}
use mathlib.Core.Bool.{Bool, true, false, not, cond, ◌&&◌, ◌||◌}
use mathlib.Core.List.{List, [], ◌∷◌, ◌++◌}
use lib.ListN.{length, get_or, set}
use lib.Dec.{eqb}
use borrow.Author.Tests.{eqb-true, eqb-false, ne_eqb}
use Rattle.lists.specs.Lists.{every, every_two, any, how_many, without, with_new}
use Rattle.lists.proofs.Bools.{clash, and_l, and_r, and_i, or_l, or_r}

module _ {A : Type 0} (f : A → Bool) where
  pub every_all : (l : List A) (d : A) → ((j : ℕ) → j < length l → f (get_or l j d) ≡ true) → every f l ≡ true
  unfolding every
  every_all [] d h = refl
  every_all (x ∷ l) d h = and_i (h 0 (omega arith)) (every_all l d (λ j b. h (suc j) (suc-le-suc b)))

  -- one has gone
  pub every_gone : (l : List A) (g : ℕ) (d : A) → ((j : ℕ) → j < length l → j ≢ g → f (get_or l j d) ≡ true) → every f (without g l) ≡ true
  unfolding every without
  every_gone [] g d h = refl
  every_gone (x ∷ l) zero d h = every_all l d (λ j b. h (suc j) (suc-le-suc b) (omega arith))
  every_gone (x ∷ l) (suc g) d h =
      and_i (h 0 (omega arith) (omega arith)) (every_gone l g d (λ j b n. h (suc j) (suc-le-suc b) (omega arith)))

  every_last : (l : List A) (x : A) → every f l ≡ true → f x ≡ true → every f (l ++ (x ∷ [])) ≡ true
  unfolding every
  every_last [] x e h = and_i h refl
  every_last (y ∷ l) x e h = and_i (and_l (f y) _ e) (every_last l x (and_r (f y) _ e) h)

  -- one is new
  pub every_new : (b : Bool) (l : List A) (x : A) → every f l ≡ true → (b ≡ true → f x ≡ true) → every f (with_new b x l) ≡ true
  every_new true l x e h = every_last l x e (h refl)
  every_new false l x e h = e

  pub any_found : (l : List A) (d : A) → any f l ≡ true → (k : ℕ) × (k < length l) × (f (get_or l k d) ≡ true)
  unfolding any
  any_found [] d e = clash e refl
  any_found (x ∷ l) d e = go (f x) refl e (any_found l d)
    where
      go : (b : Bool) → f x ≡ b → (b || any f l) ≡ true → (any f l ≡ true → (k : ℕ) × (k < length l) × (f (get_or l k d) ≡ true))
          → (k : ℕ) × (k < suc (length l)) × (f (get_or (x ∷ l) k d) ≡ true)
      go true q e r = (0, omega arith, q)
      go false q e r = let t = r e in (suc t.0, suc-le-suc t.1, t.2)

  -- some element passes: an earlier one, or the new one
  pub any_earlier : (b : Bool) (l : List A) (x : A) → any f l ≡ true → any f (with_new b x l) ≡ true
  unfolding any
  any_earlier true l x e = go l e
    where
      go : (l : List A) → any f l ≡ true → any f (l ++ (x ∷ [])) ≡ true
      go [] e = clash e refl
      go (y ∷ l) e = next (f y) e (go l)
        where
          next : (c : Bool) → (c || any f l) ≡ true → (any f l ≡ true → any f (l ++ (x ∷ [])) ≡ true) → (c || any f (l ++ (x ∷ []))) ≡ true
          next true e r = refl
          next false e r = r e
  any_earlier false l x e = e

  pub any_new : (b : Bool) (l : List A) (x : A) → b ≡ true → f x ≡ true → any f (with_new b x l) ≡ true
  unfolding any
  any_new true l x e h = go l
    where
      go : (l : List A) → any f (l ++ (x ∷ [])) ≡ true
      go [] = or_l _ h
      go (y ∷ l) = or_r (f y) (go l)
  any_new false l x e h = clash e refl

-- every two
module _ {A : Type 0} (f : A → A → Bool) where
  pub two_all : (l : List A) (d : A) → ((i j : ℕ) → i < j → j < length l → f (get_or l i d) (get_or l j d) ≡ true) → every_two f l ≡ true
  unfolding every_two
  two_all [] d h = refl
  two_all (x ∷ l) d h =
      and_i (every_all (f x) l d (λ j b. h 0 (suc j) (omega arith) (suc-le-suc b)))
      (two_all l d (λ i j a b. h (suc i) (suc j) (suc-le-suc a) (suc-le-suc b)))

  pub two_gone : (l : List A) (g : ℕ) (d : A)
      → ((i j : ℕ) → i < j → j < length l → i ≢ g → j ≢ g → f (get_or l i d) (get_or l j d) ≡ true) → every_two f (without g l) ≡ true
  unfolding every_two without
  two_gone [] g d h = refl
  two_gone (x ∷ l) zero d h = two_all l d (λ i j a b. h (suc i) (suc j) (suc-le-suc a) (suc-le-suc b) (omega arith) (omega arith))
  two_gone (x ∷ l) (suc g) d h =
      and_i (every_gone (f x) l g d (λ j b n. h 0 (suc j) (omega arith) (suc-le-suc b) (omega arith) (omega arith)))
      (two_gone l g d (λ i j a b m n. h (suc i) (suc j) (suc-le-suc a) (suc-le-suc b) (omega arith) (omega arith)))

  two_last : (l : List A) (x : A) → every_two f l ≡ true → every (λ y. f y x) l ≡ true → every_two f (l ++ (x ∷ [])) ≡ true
  unfolding every every_two
  two_last [] x e h = refl
  two_last (y ∷ l) x e h =
      and_i (every_last (f y) l x (and_l (every (f y) l) _ e) (and_l (f y x) _ h))
      (two_last l x (and_r (every (f y) l) _ e) (and_r (f y x) _ h))

  pub two_new : (b : Bool) (l : List A) (x : A) → every_two f l ≡ true → (b ≡ true → every (λ y. f y x) l ≡ true)
      → every_two f (with_new b x l) ≡ true
  two_new true l x e h = two_last l x e (h refl)
  two_new false l x e h = e

-- how many pass the test
module _ {A : Type 0} (f : A → Bool) where
  pub fewer_gone : (l : List A) (g : ℕ) → how_many f (without g l) ≤ how_many f l
  unfolding how_many without
  fewer_gone [] g = omega arith
  fewer_gone (x ∷ l) zero = omega arith
  fewer_gone (x ∷ l) (suc g) = let r = fewer_gone l g in omega arith

  pub fewer_set : (l : List A) (k : ℕ) (x d : A) → (k < length l → f x ≡ true → f (get_or l k d) ≡ true) → how_many f (set l k x) ≤ how_many f l
  unfolding how_many
  fewer_set [] k x d h = omega arith
  fewer_set (y ∷ l) zero x d h = go (f x) (f y) (h (omega arith))
    where
      go : (a b : Bool) → (a ≡ true → b ≡ true) → cond a 1 0 + how_many f l ≤ cond b 1 0 + how_many f l
      go true true g = omega arith
      go true false g = clash (g refl) refl
      go false true g = omega arith
      go false false g = omega arith
  fewer_set (y ∷ l) (suc k) x d h = let r = fewer_set l k x d (λ b. h (suc-le-suc b)) in omega arith

  how_many_last : (l : List A) (x : A) → how_many f (l ++ (x ∷ [])) ≡ how_many f l + cond (f x) 1 0
  unfolding how_many
  how_many_last [] x = omega arith
  how_many_last (y ∷ l) x = let r = how_many_last l x in omega arith

  -- a new one leaves room for itself
  pub room_new : (b : Bool) (l : List A) (x : A) (n : ℕ) → how_many f l ≤ n → (b ≡ true → f x ≡ true → how_many f l < n)
      → how_many f (with_new b x l) ≤ n
  room_new true l x n h r = let e = how_many_last l x in go (f x) (r refl) e
    where
      go : (c : Bool) → (c ≡ true → how_many f l < n) → how_many f (l ++ (x ∷ [])) ≡ how_many f l + cond c 1 0 → how_many f (l ++ (x ∷ [])) ≤ n
      go true r e = let b = r refl in omega arith
      go false r e = omega arith
  room_new false l x n h r = h

  how_many_none : (l : List A) (d : A) → ((j : ℕ) → j < length l → f (get_or l j d) ≡ true → ⊥) → how_many f l ≡ 0
  unfolding how_many
  how_many_none [] d h = refl
  how_many_none (x ∷ l) d h = go (f x) refl (how_many_none l d (λ j b. h (suc j) (suc-le-suc b)))
    where
      go : (c : Bool) → f x ≡ c → how_many f l ≡ 0 → cond c 1 0 + how_many f l ≡ 0
      go true q r = absurd (h 0 (omega arith) q)
      go false q r = omega arith

-- the pigeonhole: those that pass have keys from 1 to n, and no two the same
module _ {A : Type 0} (k : A → ℕ) (d : A) where
  abbrev but : (A → Bool) → ℕ → A → Bool
  but f v x = f x && not (eqb (k x) v)

  same_many : (f : A → Bool) (v : ℕ) (l : List A)
      → ((j : ℕ) → j < length l → f (get_or l j d) ≡ true → k (get_or l j d) ≢ v) → how_many f l ≡ how_many (but f v) l
  unfolding how_many
  same_many f v [] h = refl
  same_many f v (x ∷ l) h = go (f x) refl (same_many f v l (λ j b. h (suc j) (suc-le-suc b)))
    where
      go : (c : Bool) → f x ≡ c → how_many f l ≡ how_many (but f v) l
          → cond c 1 0 + how_many f l ≡ cond (c && not (eqb (k x) v)) 1 0 + how_many (but f v) l
      go true q r = rw (ne_eqb (k x) v (h 0 (omega arith) q), r)
      go false q r = omega arith

  one_less : (f : A → Bool) (v : ℕ) (l : List A)
      → ((i j : ℕ) → i < length l → j < length l → f (get_or l i d) ≡ true → f (get_or l j d) ≡ true → k (get_or l i d) ≡ k (get_or l j d) → i ≡ j)
      → how_many f l ≤ suc (how_many (but f v) l)
  unfolding how_many
  one_less f v [] h = omega arith
  one_less f v (x ∷ l) h =
      go (f x) refl (eqb (k x) v) refl
      (one_less f v l (λ i j a b p q e. let z : suc i ≡ suc j = h (suc i) (suc j) (suc-le-suc a) (suc-le-suc b) p q e in omega arith))
    where
      go : (c : Bool) → f x ≡ c → (e : Bool) → eqb (k x) v ≡ e → how_many f l ≤ suc (how_many (but f v) l)
          → cond c 1 0 + how_many f l ≤ suc (cond (c && not e) 1 0 + how_many (but f v) l)
      go true p true q r =
          let u =
          same_many f v l
          (λ j b t z. let w : 0 ≡ suc j = h 0 (suc j) (omega arith) (suc-le-suc b) p t (eqb-true (k x) v q ∙ sym z) in omega arith) in
          omega arith
      go true p false q r = omega arith
      go false p e q r = omega arith

  pub pigeonhole : (n : ℕ) (f : A → Bool) (l : List A)
      → ((j : ℕ) → j < length l → f (get_or l j d) ≡ true → (1 ≤ k (get_or l j d)) × (k (get_or l j d) ≤ n))
      → ((i j : ℕ) → i < length l → j < length l → f (get_or l i d) ≡ true → f (get_or l j d) ≡ true → k (get_or l i d) ≡ k (get_or l j d) → i ≡ j)
      → how_many f l ≤ n
  pigeonhole zero f l r h = let z = how_many_none f l d (λ j b t. let o = r j b t in omega arith) in omega arith
  pigeonhole (suc n) f l r h =
      let i = pigeonhole n (but f (suc n)) l
      (λ j b t. let o = r j b (and_l _ _ t) in (o.0, below (k (get_or l j d)) o.1 (and_r (f (get_or l j d)) _ t)))
      (λ i j a b p q. h i j a b (and_l _ _ p) (and_l _ _ q)) in
      let m = one_less f (suc n) l h in
      omega arith
    where
      below : (m : ℕ) → m ≤ suc n → not (eqb m (suc n)) ≡ true → m ≤ n
      below m a t = go (eqb m (suc n)) refl t
        where
          go : (b : Bool) → eqb m (suc n) ≡ b → not b ≡ true → m ≤ n
          go true e t = clash t refl
          go false e t = let z = eqb-false m (suc n) e in omega arith
