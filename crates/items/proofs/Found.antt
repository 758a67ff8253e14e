-- What an accepted reading found, item by item.
use Prim.Native.Nat.{ℕ, zero, suc, ◌+◌, ◌≤◌}
use mathlib.Core.Path.{◌≡◌, refl, sym, ap, ◌∙◌}
use mathlib.Core.Bool.{Bool, true, false}
use mathlib.Core.List.{List, [], ◌∷◌}
use lib.ListN.{length}
use lib.Dec.{eqb}
use borrow.Author.Tests.{eqb-true, eqb-false}
use Rattle.items.specs.Tree.{Item, in_order, gathered, elements, code_of}
use Rattle.items.specs.Tree.Item.{leaf, list}
use Rattle.items.specs.Heads.{head_at, is_list, refusal_of}
use Rattle.items.specs.Reading.{Reading, finding, read_many, read_body, read_by, read_item, refused_at}
use Rattle.items.specs.declared.head.Head.{Head}
use Rattle.items.specs.declared.head.Span.{Span}
use Rattle.items.proofs.Refusals.{inside}

pub in_order_fact : (l : List (Item Span)) → in_order (gathered l) ≡ l
unfolding in_order gathered
in_order_fact [] = refl
in_order_fact (x ∷ l) = ap (λ r. x ∷ r) (in_order_fact l)

-- ── One after the other ──
module _ (f : ℕ → ℕ → Reading (Item Span)) (n at count : ℕ) where
  pub goes_on : eqb (f at count).refusal 0 ≡ true
      → read_many f (suc n) at count
      ≡ finding (read_many f n (f at count).at (f at count).count)
      ((f at count).found ∷ (read_many f n (f at count).at (f at count).count).found)
  unfolding read_many
  goes_on q = rw q

  stops : eqb (f at count).refusal 0 ≡ false → read_many f (suc n) at count ≡ finding (f at count) []
  unfolding read_many
  stops q = rw q

  -- the first was accepted, and so were the others, after it
  pub record Next : Type 0 where
    pub first : (f at count).refusal ≡ 0
    pub rest : (read_many f n (f at count).at (f at count).count).refusal ≡ 0
    pub whole : read_many f (suc n) at count
        ≡ finding (read_many f n (f at count).at (f at count).count)
        ((f at count).found ∷ (read_many f n (f at count).at (f at count).count).found)

  pub next : (read_many f (suc n) at count).refusal ≡ 0 → Next
  next h = go (eqb (f at count).refusal 0) refl
    where
      go : (b : Bool) → eqb (f at count).refusal 0 ≡ b → Next
      go true q = record { first = eqb-true _ 0 q; rest = rw (goes_on q) at h; whole = goes_on q }
      go false q = absurd (eqb-false _ 0 q (rw (stops q) at h))

pub many_found : (f : ℕ → ℕ → Reading (Item Span)) (n at count : ℕ) → (read_many f n at count).refusal ≡ 0
    → length (read_many f n at count).found ≡ n
unfolding read_many
many_found f zero at count h = refl
many_found f (suc n) at count h =
    let x = next f n at count h in
    rw x.whole (ap suc (many_found f n (f at count).at (f at count).count x.rest))

-- ── One item ──
-- what reads the elements of a list
abbrev pub inner : ℕ → List ℕ → ℕ → ℕ → Reading (Item Span)
inner zero m = refused_at 23
inner (suc left) m = read_item left m

module _ (m : List ℕ) (at count : ℕ) where
  pub begun : (left : ℕ) → eqb (refusal_of m at (head_at m at) left count) 0 ≡ true
      → read_item left m at count ≡ read_body (inner left m) (head_at m at) count
  unfolding read_item read_by
  begun zero q = rw q
  begun (suc left) q = rw q

  not_begun : (left : ℕ) → eqb (refusal_of m at (head_at m at) left count) 0 ≡ false
      → read_item left m at count ≡ refused_at (refusal_of m at (head_at m at) left count) at count
  unfolding read_item read_by
  not_begun zero q = rw q
  not_begun (suc left) q = rw q

  -- an item is accepted at its head, and then in its body
  pub record Begun (left : ℕ) : Type 0 where
    pub head : refusal_of m at (head_at m at) left count ≡ 0
    pub body : read_item left m at count ≡ read_body (inner left m) (head_at m at) count

  pub item_begun : (left : ℕ) → (read_item left m at count).refusal ≡ 0 → Begun left
  item_begun left h = go (eqb (refusal_of m at (head_at m at) left count) 0) refl
    where
      go : (b : Bool) → eqb (refusal_of m at (head_at m at) left count) 0 ≡ b → Begun left
      go true q = record { head = eqb-true _ 0 q; body = begun left q }
      go false q = absurd (eqb-false _ 0 q (rw (not_begun left q) at h))

-- the body of an item that is no list, and of one that is
module _ (f : ℕ → ℕ → Reading (Item Span)) (h : Head) (count : ℕ) where
  pub data_body : is_list h ≡ false
      → read_body f h count
      ≡ record { refusal = 0; at = h.body + h.many; count = count + 1; found = leaf h.code (record { at = h.body; many = h.many }) }
  unfolding read_body
  data_body l = rw l

  pub list_body : is_list h ≡ true
      → read_body f h count
      ≡ finding (read_many f h.many h.body (count + 1)) (list (gathered (read_many f h.many h.body (count + 1)).found))
  unfolding read_body
  list_body l = rw l

module _ (m : List ℕ) (left at count : ℕ) (ok : (read_item left m at count).refusal ≡ 0) where
  abbrev b : Begun m at count left
  b = item_begun m at count left ok

  pub code_found : code_of (read_item left m at count).found ≡ (head_at m at).code
  unfolding code_of
  code_found = rw b.body (go (is_list (head_at m at)) refl)
    where
      go : (t : Bool) → is_list (head_at m at) ≡ t → code_of (read_body (inner left m) (head_at m at) count).found ≡ (head_at m at).code
      go true q = rw (list_body (inner left m) (head_at m at) count q) (sym (eqb-true _ 0 q))
      go false q = rw (data_body (inner left m) (head_at m at) count q)

  -- an item that is no list: its data lie in the message
  pub record Data : Type 0 where
    pub found : (read_item left m at count).found ≡ leaf (head_at m at).code (record { at = (head_at m at).body; many = (head_at m at).many })
    pub ends : (read_item left m at count).at ≡ (head_at m at).body + (head_at m at).many
    pub begins : (read_item left m at count).count ≡ count + 1
    pub inside : (head_at m at).body + (head_at m at).many ≤ length m

  pub data_found : is_list (head_at m at) ≡ false → Data
  data_found q =
      let e : read_item left m at count ≡ _ = b.body ∙ data_body (inner left m) (head_at m at) count q in
      record {
        found = ap (λ r. r.found) e;
        ends = ap (λ r. r.at) e;
        begins = ap (λ r. r.count) e;
        inside = (inside m at (head_at m at) left count b.head).bytes q;
      }

  -- a list: its elements were accepted
  pub record Listed : Type 0 where
    pub elements : elements (read_item left m at count).found
        ≡ (read_many (inner left m) (head_at m at).many (head_at m at).body (count + 1)).found
    pub accepted : (read_many (inner left m) (head_at m at).many (head_at m at).body (count + 1)).refusal ≡ 0

  pub list_found : is_list (head_at m at) ≡ true → Listed
  unfolding elements
  list_found q =
      let e = b.body ∙ list_body (inner left m) (head_at m at) count q in
      record {
        elements = rw e (in_order_fact _);
        accepted = rw e at ok;
      }
