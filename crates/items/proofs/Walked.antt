-- What the code's turns cite: an item that is refused, one that is data, a list, and a list's next element.
use Prim.Native.Nat.{ℕ, zero, suc, ◌+◌}
use native.Mathlib.Omega.{arith}
use mathlib.Core.Path.{◌≡◌, refl, sym, ap}
use mathlib.Core.Bool.{Bool, true, false, ◌&&◌}
use mathlib.Core.List.{List, [], ◌∷◌}
use borrow.Author.Tests.{eq-eqb, ne_eqb}
use Rattle.lists.specs.Lists.{every}
use Rattle.items.specs.Formats.{size_of, is_number, holds_one}
use Rattle.items.specs.Tree.{Item, gathered, single}
use Rattle.items.specs.Heads.{head_at, is_list, refusal_of}
use Rattle.items.specs.Reading.{Reading, read_many, read_body, read_by, read_item, Walked, walked, walked_all}
use Rattle.items.specs.declared.head.Head.{Head}
use Rattle.items.specs.declared.head.Span.{Span}

single_gathered : (l : List (Item Span)) → every single l ≡ single (Item.list (gathered l))
unfolding single every gathered
single_gathered [] = refl
single_gathered (x ∷ l) = ap (λ (b : Bool). single x && b) (single_gathered l)

module _ (m : List ℕ) (at count : ℕ) (h : Head) (e : h ≡ head_at m at) (r : ℕ) where
  pub refused_is : (left : ℕ) → r ≡ refusal_of m at h left count → (r ≡ 0 → ⊥)
      → record { refusal = r; at = at; count = count; single = true } ≡ walked (read_item left m at count)
  unfolding read_item read_by single holds_one is_number size_of
  refused_is zero q z = rw (sym e, sym q, ne_eqb r 0 z)
  refused_is (suc left) q z = rw (sym e, sym q, ne_eqb r 0 z)

  -- an item that is no list ends after its data
  pub data_is : (left : ℕ) → r ≡ refusal_of m at h left count → r ≡ 0 → is_list h ≡ false
      → record { refusal = 0; at = h.body + h.many; count = count + 1; single = holds_one h.code h.many }
      ≡ walked (read_item left m at count)
  unfolding read_item read_by read_body single
  data_is zero q z l = rw (sym e, sym q, eq-eqb r 0 z, l)
  data_is (suc left) q z l = rw (sym e, sym q, eq-eqb r 0 z, l)

  -- a list is its items, with one list less to open
  pub list_is : (left k : ℕ) → left ≡ suc k → r ≡ refusal_of m at h left count → r ≡ 0 → is_list h ≡ true
      → walked_all (read_many (read_item k m) h.many h.body (count + 1)) ≡ walked (read_item left m at count)
  unfolding read_item read_by read_body
  list_is zero k s q z l = absurd (omega arith)
  list_is (suc left) k s q z l =
      let n : left ≡ k = omega arith in
      rw (sym e, sym q, eq-eqb r 0 z, l, n) (rw (sym (single_gathered (read_many (read_item k m) h.many h.body (count + 1)).found)))

-- what follows, with what was found before
abbrev pub joined : Bool → Walked → Walked
joined single w = record { refusal = w.refusal; at = w.at; count = w.count; single = single && w.single }

pub and_assoc : (a b c : Bool) → (a && (b && c)) ≡ ((a && b) && c)
and_assoc true b c = refl
and_assoc false b c = refl

pub and_true : (a : Bool) → a ≡ (a && true)
and_true true = refl
and_true false = refl

module _ (f : ℕ → ℕ → Reading (Item Span)) (at count : ℕ) (b : Bool) where
  refused_ends : (n : ℕ) → ((f at count).refusal ≡ 0 → ⊥)
      → record { refusal = (f at count).refusal; at = (f at count).at; count = (f at count).count; single = b }
      ≡ joined b (walked_all (read_many f (suc n) at count))
  unfolding read_many every
  refused_ends n z =
      let x = f at count in
      rw (ne_eqb x.refusal 0 z)
      (ap (λ (s : Bool). record { refusal = x.refusal; at = x.at; count = x.count; single = s }) (and_true b))

  found_goes_on : (n : ℕ) → (f at count).refusal ≡ 0
      → joined (b && single (f at count).found) (walked_all (read_many f n (f at count).at (f at count).count))
      ≡ joined b (walked_all (read_many f (suc n) at count))
  unfolding read_many every
  found_goes_on n z =
      let x = f at count in
      let r = read_many f n x.at x.count in
      rw (eq-eqb x.refusal 0 z)
      (ap (λ (s : Bool). record { refusal = r.refusal; at = r.at; count = r.count; single = s })
      (sym (and_assoc b (single x.found) (every single r.found))))

module _ (m : List ℕ) (left at count : ℕ) (b : Bool) (w : Walked) (e : w ≡ walked (read_item left m at count)) where
  -- a refused element ends the list
  pub ends : (n k : ℕ) → n ≡ suc k → (w.refusal ≡ 0 → ⊥)
      → record { refusal = w.refusal; at = w.at; count = w.count; single = b }
      ≡ joined b (walked_all (read_many (read_item left m) n at count))
  ends n k s z = rw (s, e) (refused_ends (read_item left m) at count b k (rw e at z))

  pub goes_on : (n k : ℕ) → n ≡ suc k → w.refusal ≡ 0
      → joined (b && w.single) (walked_all (read_many (read_item left m) k w.at w.count))
      ≡ joined b (walked_all (read_many (read_item left m) n at count))
  goes_on n k s z = rw (s, e) (found_goes_on (read_item left m) at count b k (rw e at z))

pub none_left : (m : List ℕ) (left at count n : ℕ) (b : Bool) → n ≡ 0
    → record { refusal = 0; at = at; count = count; single = b } ≡ joined b (walked_all (read_many (read_item left m) n at count))
unfolding read_many every
none_left m left at count zero b z = ap (λ (s : Bool). record { refusal = 0; at = at; count = count; single = s }) (and_true b)
none_left m left at count (suc n) b z = absurd (omega arith)
