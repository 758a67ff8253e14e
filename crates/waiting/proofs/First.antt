-- How a search by positions finds the first.
use Prim.Native.Nat.{ℕ, suc, ◌+◌, ◌≤◌, ◌<◌, min}
use native.Mathlib.Nat.{add-zero, add-suc, suc-add, zero-add}
use native.Mathlib.Numerals.{add-one}
use native.Mathlib.Omega.{arith}
use mathlib.Core.Path.{◌≡◌, refl, sym, ap, ◌∙◌}
use mathlib.Core.Bool.{Bool, true, false, cond}
use mathlib.Core.List.{List}
use lib.ListN.{length, get_or, take, drop, drop_of_length-le}
use lib.Seq.{drop-cons}
use lib.Dec.{ltb}
use borrow.Author.Tests.{lt-ltb, le-ltb}
use Rattle.std.specs.List.{position, position_or_len}
use Rattle.std.proofs.lemmas.List.{length-take-le, take_min}
use Rattle.std.proofs.lemmas.List.Recursion.{is_position_or_len}
use Rattle.std.specs.Prelude.{is_some, unwrap_or, Some, None}
use Rattle.lists.specs.Lists.{where_is}
use Rattle.records.specs.declared.carrier.Carrier.{Carrier}
use Rattle.waiting.specs.Waiting.{waits, some_waits, first_waiting, answer_in, stopped_at, found_in}
use Rattle.waiting.proofs.Where.{where_within, where_past}

-- none before i waits: the first of the whole is i and the first of what is left
abbrev pub Passed : List Carrier → ℕ → Type 0
Passed l i = first_waiting l ≡ i + first_waiting (drop i l)

pub none_passed : (l : List Carrier) → Passed l 0
none_passed l = sym (zero-add (first_waiting l))

module _ (l : List Carrier) (i : ℕ) (d : Carrier) (b : i < length l) (p : Passed l i) where
  pub one_passed : waits (get_or l i d) ≡ false → Passed l (i + 1)
  unfolding where_is
  one_passed w =
      p ∙ rw (drop-cons l i d b, w)
      (rw (add-one i) (add-suc i (first_waiting (drop (suc i) l)) ∙ sym (suc-add i (first_waiting (drop (suc i) l)))))

  pub first_here : waits (get_or l i d) ≡ true → i ≡ first_waiting l
  unfolding where_is
  first_here w = sym (p ∙ rw (drop-cons l i d b, w) (add-zero i))

pub all_passed : (l : List Carrier) → Passed l (length l) → length l ≡ first_waiting l
unfolding where_is
all_passed l p = sym (p ∙ rw (drop_of_length-le l {i = length l} (omega arith)) (add-zero (length l)))

-- what the search says where it stopped
pub says_first : (l : List Carrier) (i : ℕ) → i ≡ first_waiting l → stopped_at i (length l) ≡ found_in l
unfolding found_in
says_first l i e = rw e

reached : (l : List Carrier) → some_waits l ≡ ltb (first_waiting l) (length l)
reached l = go (some_waits l) refl
  where
    go : (w : Bool) → some_waits l ≡ w → w ≡ ltb (first_waiting l) (length l)
    go true h = rw (lt-ltb (first_waiting l) (length l) (where_within waits l h))
    go false h = rw (where_past waits l h, le-ltb (length l) (length l) (omega arith))

pub says_some : (l : List Carrier) (i : ℕ) → i ≡ first_waiting l → cond {A = ℕ} (ltb i (length l)) 1 0 ≡ answer_in l
unfolding answer_in
says_some l i e = rw (e, reached l)

one_more : (n : ℕ) → 1 + n ≡ suc n
one_more n = omega arith

-- the library's position of the first that waits, and whether it has one
first_is : (l : List Carrier) → first_waiting l ≡ position_or_len waits l
unfolding where_is
first_is l = is_position_or_len first_waiting waits refl (λ x xs. rw (one_more (first_waiting xs))) l

split : (l : List Carrier) → position waits l ≡ cond (some_waits l) (Some (first_waiting l)) None
split l = rw (reached l, first_is l)

-- the same where the search stopped, and where it went through
pub some_found : (l : List Carrier) (k : ℕ) → k < length l → k ≡ first_waiting l → Some k ≡ position waits l
some_found l k h e = rw (sym (e ∙ first_is l), lt-ltb k (length l) h)

pub none_found : (l : List Carrier) → length l ≡ first_waiting l → None ≡ position waits l
none_found l e = let h : length l ≤ length l = omega arith in rw (sym (e ∙ first_is l), le-ltb (length l) (length l) h)

pub first_or_end : (l : List Carrier) → unwrap_or (position waits l) (length l) ≡ first_waiting l
first_or_end l = rw (split l) (go (some_waits l) refl)
  where
    go : (w : Bool) → some_waits l ≡ w → unwrap_or (cond w (Some (first_waiting l)) None) (length l) ≡ first_waiting l
    go true h = refl
    go false h = sym (where_past waits l h)

first_there : (l : List Carrier) → is_some (position waits l) ≡ some_waits l
first_there l = rw (split l) (go (some_waits l))
  where
    go : (w : Bool) → is_some (cond w (Some (first_waiting l)) None) ≡ w
    go true = refl
    go false = refl

pub says_there : (l : List Carrier) → cond {A = ℕ} (is_some (position waits l)) 1 0 ≡ answer_in l
unfolding answer_in
says_there l = rw (first_there l)

-- a search of the first n of a table of m, n the lesser of m and the count that was asked for
pub searched : (table : List Carrier) (count m n i : ℕ) → length table ≡ m → n ≡ min count m
    → i ≡ unwrap_or (position waits (take n table)) n → stopped_at i n ≡ found_in (take count table)
searched table count m n i long few stops =
    let looked : length (take n table) ≡ n = length-take-le n table (omega arith) in
    let same : take n table ≡ take count table = rw (few, ← long) (take_min count table) in
    let first : i ≡ first_waiting (take n table) =
    stops ∙ ap (unwrap_or (position waits (take n table))) (sym looked) ∙ first_or_end (take n table) in
    ap (stopped_at i) (sym looked) ∙ says_first (take n table) i first ∙ ap found_in same
