-- How many of a list pass a test, where one element is replaced, goes or is new.
use Prim.Native.Nat.{ℕ, zero, suc, ◌+◌, ◌≤◌, ◌<◌, suc-le-suc}
use native.Mathlib.Omega.{arith}
use mathlib.Core.Path.{◌≡◌, refl, ap, sym, ◌∙◌}
use mathlib.Core.Logic.{◌≢◌}
use mathlib.Core.Bool.{Bool, true, false, cond}
use mathlib.Core.List.{List, [], ◌∷◌, ◌++◌}
use lib.ListN.{length, get_or, set, get_or-eq_default}
use lib.Seq.{get_or-set_other, set_out}
use lib.Dec.{ltb}
use borrow.Author.Tests.{ltb-true, ltb-false}
use Rattle.lists.specs.Lists.{how_many, without, with_new}

-- 1 where a test holds
abbrev pub one : Bool → ℕ
one b = cond b 1 0

module _ {A : Type 0} (f : A → Bool) (d : A) where
  -- the element at k is replaced; past the end that is no change
  pub many_set : (l : List A) (k : ℕ) (x : A) → (length l ≤ k → f x ≡ f (get_or l k d))
      → how_many f (set l k x) + one (f (get_or l k d)) ≡ how_many f l + one (f x)
  unfolding how_many
  many_set [] k x h = rw (h (omega arith))
  many_set (y ∷ l) zero x h = omega arith
  many_set (y ∷ l) (suc k) x h = let r = many_set l k x (λ b. h (suc-le-suc b)) in omega arith

  many_last : (l : List A) (x : A) → how_many f (l ++ (x ∷ [])) ≡ how_many f l + one (f x)
  unfolding how_many
  many_last [] x = omega arith
  many_last (y ∷ l) x = let r = many_last l x in omega arith

  -- one is new, or none and nothing is counted
  many_new : (m : Bool) (l : List A) (x : A) → (m ≡ false → f x ≡ false) → how_many f (with_new m x l) ≡ how_many f l + one (f x)
  many_new true l x h = many_last l x
  many_new false l x h = rw (h refl) (omega arith)

  module _ (none : f d ≡ false) where
    -- the element at k goes
    many_without : (l : List A) (k : ℕ) → how_many f (without k l) + one (f (get_or l k d)) ≡ how_many f l
    unfolding how_many without
    many_without [] k = rw none
    many_without (y ∷ l) zero = omega arith
    many_without (y ∷ l) (suc k) = let r = many_without l k in omega arith

    -- what an effect does to the records: the one at k becomes x, the one at g goes, x is new if m says so
    pub many_after : (m : Bool) (l : List A) (g k : ℕ) (x : A)
        → (m ≡ true → length l ≤ k) → (m ≡ false → length l ≤ k → f x ≡ false) → (k < length l → k ≢ g)
        → how_many f (with_new m x (without g (set l k x))) + one (f (get_or l g d)) + one (f (get_or l k d)) ≡ how_many f l + one (f x)
    many_after m l g k x new old apart = go (ltb k (length l)) refl
      where
        Says : List A → Type 0
        Says t = how_many f t + one (f (get_or l g d)) + one (f (get_or l k d)) ≡ how_many f l + one (f x)

        kept : m ≡ false → k < length l → Says (without g (set l k x))
        kept e b =
            let s = many_set l k x (λ z. absurd (omega arith)) in
            let w : how_many f (without g (set l k x)) + one (f (get_or l g d)) ≡ how_many f (set l k x) =
            ap (λ y. how_many f (without g (set l k x)) + one (f y)) (sym (get_or-set_other l k g x d (λ z. apart b (sym z))))
            ∙ many_without (set l k x) g in
            omega arith

        past : length l ≤ k → Says (with_new m x (without g l))
        past b =
            let n = many_new m (without g l) x (λ e. old e b) in
            let w = many_without l g in
            let z : one (f (get_or l k d)) ≡ 0 = ap (λ y. one (f y)) (get_or-eq_default l d b) ∙ ap one none in
            omega arith

        go : (b : Bool) → ltb k (length l) ≡ b → Says (with_new m x (without g (set l k x)))
        go true e = here m refl
          where
            here : (n : Bool) → m ≡ n → Says (with_new n x (without g (set l k x)))
            here true q = let u = new q in let v = ltb-true k (length l) e in absurd (omega arith)
            here false q = kept q (ltb-true k (length l) e)
        go false e = let b = ltb-false k (length l) e in rw (set_out l k x b) (past b)
