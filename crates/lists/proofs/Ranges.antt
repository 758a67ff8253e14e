-- Chains over the positions of the first n elements, said of these elements.
use Prim.Native.Nat.{ℕ, zero, suc, ◌+◌, ◌-◌, ◌≤◌, ◌<◌}
use native.Mathlib.Omega.{arith}
use mathlib.Core.Path.{◌≡◌, refl, ap, ◌∙◌}
use mathlib.Core.Bool.{Bool, true, false, cond, not, ◌||◌}
use mathlib.Core.List.{List, [], ◌∷◌}
use lib.ListN.{length, get_or, take, drop}
use lib.Seq.{length-take-le, drop-cons, get_or-take}
use lib.Dec.{ltb}
use borrow.Author.Tests.{ltb-true, ltb-false, lt-ltb}
use Rattle.std.proofs.Common.{add-one}
use Rattle.std.specs.List.{FoldsTo, list_all, position, position_or_len, range_with_len}
use Rattle.std.specs.Option.{MatchOption, is_some, unwrap_or}
use Rattle.std.specs.declared.option.Option.{Option}
use Rattle.std.specs.declared.option.Option.TheVariants.{None, Some}
use Rattle.std.specs.declared.ops.Range.{Range}
use Rattle.std.specs.Fn.{Called}
use Rattle.std.specs.Iterator.{YieldsThen}
use Rattle.std.proofs.iter.Yields.{nat_range_steps}
use Rattle.std.proofs.lemmas.Iterator.{YieldsList-from_range}
use Rattle.std.proofs.lemmas.Iterator.Search.{all_from_yields_List, position_from_yields_List}
use denote.Param.Members.{Mut}
use Rattle.std.proofs.lemmas.List.FromFn.{length-range_with_len}
use Rattle.lists.specs.Lists.{every, every_two, any, where_is}
use Rattle.lists.proofs.Bools.{same_test}
use Rattle.lists.proofs.Loops.{ended_in}

flipped : (b : Bool) (w : ℕ) → cond (not b) (1 + w) 0 ≡ cond b 0 (suc w)
flipped true w = refl
flipped false w = omega arith

below_next : (a b : ℕ) → ltb (suc a) (suc b) ≡ ltb a b
below_next a b = same_test _ _ (λ e. let h = ltb-true _ _ e in lt-ltb _ _ (omega arith)) (λ e. let h = ltb-true _ _ e in lt-ltb _ _ (omega arith))

module _ {A : Type 0} where
  -- the first n elements from position a on: the one at a, and the rest
  pub front : (l : List A) (n a m : ℕ) (d : A) → a + suc m ≡ n → n ≤ length l → drop a (take n l) ≡ get_or l a d ∷ drop (a + 1) (take n l)
  front l n a m d e h =
      let w = length-take-le n l h in
      rw (add-one a, drop-cons (take n l) a d (omega arith)) (ap (λ x. x ∷ drop (suc a) (take n l)) (get_or-take n l a d (omega arith)))

  pub back : (l : List A) (n a : ℕ) → a + 0 ≡ n → n ≤ length l → drop a (take n l) ≡ []
  back l n a e h = let z : a ≡ n = omega arith in rw z (ended_in l n h)

  -- `all`, by a test of positions that is a test of the elements there
  module _ (f : A → Bool) (t : ℕ → Bool) (l : List A) (n : ℕ) (d : A) (h : n ≤ length l) (at : (k : ℕ) → k < n → t k ≡ f (get_or l k d)) where
    pub all_on : (a m : ℕ) → a + m ≡ n → list_all t (range_with_len a m) ≡ every f (drop a (take n l))
    unfolding every
    all_on a zero e = rw (back l n a e h)
    all_on a (suc m) e = rw (front l n a m d e h, at a (omega arith), all_on (a + 1) m (omega arith))

    where_on : (a m : ℕ) → a + m ≡ n → position_or_len t (range_with_len a m) ≡ position_or_len f (drop a (take n l))
    where_on a zero e = rw (back l n a e h)
    where_on a (suc m) e = rw (front l n a m d e h, at a (omega arith), where_on (a + 1) m (omega arith))

    -- and `position`
    pub position_on : position t (range_with_len 0 n) ≡ position f (take n l)
    position_on = rw (where_on 0 n (omega arith), length-range_with_len 0 n, length-take-le n l h)

  -- what `(a..n).all(..)` answers, whose closure tests the element at its position
  pub all_answered : {F : Type 0} {g : Mut F (ℕ × Unit {0}) Bool} {s u : Range ℕ} {h : F} (r : Bool) (f : A → Bool) (l : List A) (d : A) (a n : ℕ)
      → s ≡ record { start = a; end = n } → a ≤ n → n ≤ length l
      → (xs : List ℕ) × (o : Option ℕ) × (q : F) × YieldsThen nat_range_steps s xs o u × FoldsTo (λ p x q. Called g p (x, tt) true q) h xs q
      × MatchOption o (r ≡ true) (λ x. (r ≡ false) × ((p : F) × Called g q (x, tt) false p))
      → ((x : ℕ) (b : Bool) (q : F) → Called g h (x, tt) b q → (q ≡ h) × (b ≡ f (get_or l x d)))
      → r ≡ every f (drop a (take n l))
  all_answered {u = u} {h = h} r f l d a n e b c ran k =
      all_from_yields_List (λ x. f (get_or l x d)) u h r ran (YieldsList-from_range a n (n - a) e refl) k
      ∙ all_on f (λ x. f (get_or l x d)) l n d c (λ x y. refl) a (n - a) (omega arith)

  -- what `(0..n).position(..)` answers, whose closure tests the element at its position
  pub position_answered : {F : Type 0} {g : Mut F (ℕ × Unit {0}) Bool} {s u : Range ℕ} {h : F} (r : Option ℕ) (f : A → Bool) (t : ℕ → Bool)
      (l : List A) (d : A) (n : ℕ) → s ≡ record { start = 0; end = n } → n ≤ length l → ((k : ℕ) → k < n → t k ≡ f (get_or l k d))
      → (xs : List ℕ) × (o : Option ℕ) × (q : F) × YieldsThen nat_range_steps s xs o u × FoldsTo (λ p x q. Called g p (x, tt) false q) h xs q
      × MatchOption o (r ≡ None) (λ x. (r ≡ Some (length xs)) × ((p : F) × Called g q (x, tt) true p))
      → ((x : ℕ) (b : Bool) (q : F) → Called g h (x, tt) b q → (q ≡ h) × (b ≡ t x))
      → r ≡ position f (take n l)
  position_answered {u = u} {h = h} r f t l d n e c at ran k =
      position_from_yields_List t u h r ran (YieldsList-from_range 0 n n e (omega arith)) k ∙ position_on f t l n d c at

  -- each two, by a test of positions against the elements after them
  module _ (g : A → A → Bool) (l : List A) (n : ℕ) (d : A) (h : n ≤ length l) where
    pub two_on : (a m : ℕ) → a + m ≡ n
        → list_all (λ k. every (g (get_or l k d)) (drop (k + 1) (take n l))) (range_with_len a m) ≡ every_two g (drop a (take n l))
    unfolding every_two
    two_on a zero e = rw (back l n a e h)
    two_on a (suc m) e = rw (front l n a m d e h, two_on (a + 1) m (omega arith))

  -- ── Positions ──
  where_same : (f : A → Bool) (l : List A) → position_or_len f l ≡ where_is f l
  unfolding where_is
  where_same f [] = refl
  where_same f (x ∷ l) = rw (where_same f l) (flipped (f x) (where_is f l))

  where_few : (f : A → Bool) (l : List A) → where_is f l ≤ length l
  unfolding where_is
  where_few f [] = omega arith
  where_few f (x ∷ l) = go (f x) (where_few f l)
    where
      go : (b : Bool) → where_is f l ≤ length l → cond b 0 (suc (where_is f l)) ≤ suc (length l)
      go true e = omega arith
      go false e = omega arith

  some_below : (f : A → Bool) (l : List A) → ltb (where_is f l) (length l) ≡ any f l
  unfolding where_is any
  some_below f [] = refl
  some_below f (x ∷ l) = go (f x) (some_below f l)
    where
      go : (b : Bool) → ltb (where_is f l) (length l) ≡ any f l → ltb (cond b 0 (suc (where_is f l))) (suc (length l)) ≡ (b || any f l)
      go true e = lt-ltb _ _ (omega arith)
      go false e = below_next _ _ ∙ e

  -- `position`, said with the first that passes
  pub position_is : (f : A → Bool) (l : List A) → position f l ≡ cond (any f l) (Some (where_is f l)) None
  position_is f l = rw (where_same f l, some_below f l)

  pub some_where : (f : A → Bool) (l : List A) → is_some (position f l) ≡ any f l
  some_where f l = rw (position_is f l) (go (any f l))
    where
      go : (b : Bool) → is_some (cond b (Some (where_is f l)) None) ≡ b
      go true = refl
      go false = refl

  -- its position, or the length where none does
  pub where_or : (f : A → Bool) (l : List A) (n : ℕ) → n ≡ length l → unwrap_or (position f l) n ≡ where_is f l
  where_or f l n h = rw (where_same f l, h) (go (ltb (where_is f l) (length l)) refl)
    where
      go : (b : Bool) → ltb (where_is f l) (length l) ≡ b → unwrap_or (cond b (Some (where_is f l)) None) (length l) ≡ where_is f l
      go true e = refl
      go false e = let a = ltb-false _ _ e in let b = where_few f l in omega arith
