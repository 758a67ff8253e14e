-- Reading what is written gives back the tree, for every tree within the limits and any choice of length bytes that fit.
use Prim.Native.Nat.{ℕ, zero, suc, ◌+◌, ◌%◌, ◌^◌, ◌≤◌, ◌<◌}
use native.Mathlib.Omega.{arith}
use native.Mathlib.Nat.{add-zero}
use mathlib.Core.Path.{◌≡◌, refl, sym, ap, ap₂, ◌∙◌}
use mathlib.Core.Bool.{Bool, true, false, not, cond, ◌&&◌}
use mathlib.Core.List.{List, [], ◌++◌, append_assoc}
use lib.ListN.{length, drop, length-append}
use lib.Seq.{take_at, drop_at, drop-drop}
use lib.Dec.{eqb, leb, ltb}
use borrow.Author.Tests.{ltb-true, le-ltb, lt-leb, ne_eqb, eq-eqb}
use Rattle.lists.proofs.Bools.{clash, and_l, and_r, not_true}
use Rattle.items.specs.Formats.{LIST, size_of, uneven}
use Rattle.items.specs.Tree.{Item, Items, ◌then◌, in_order, gathered}
use Rattle.items.specs.Tree.Item.{leaf, list}
use Rattle.items.specs.Tree.Items.{none}
use Rattle.items.specs.Heads.{lowest, refusal_of}
use Rattle.items.specs.Reading.{Reading, read_many, read_body, read_item, read_message}
use Rattle.items.specs.Written.{heading, Choice, Fits, shortest, count_of, count_in, text, text_in, within, within_all, data_of, data_in}
use Rattle.items.specs.declared.head.Head.{Head}
use Rattle.items.specs.declared.head.Span.{Span}
use Rattle.items.proofs.Found.{goes_on, inner, begun, data_body, list_body}
use Rattle.items.proofs.Spelt.{length_in_bytes, what_follows, room, head_is}

-- none of the five applies
pub none_refused : {a b c d e : Bool} → a ≡ false → b ≡ false → c ≡ false → d ≡ false → e ≡ false → lowest a b c d e ≡ 0
unfolding lowest
none_refused p q r s t = rw (p, q, r, s, t)

-- of a text so long, from a position on, an item was read, or all of some items
pub record Back (x : Item (List ℕ)) (m : List ℕ) (at count size : ℕ) (r : Reading (Item Span)) : Type 0 where
  pub accepted : r.refusal ≡ 0
  pub ends : r.at ≡ at + size
  pub begins : r.count ≡ count + count_of x
  pub tree : data_of r.found m ≡ x

pub record AllBack (xs : Items (List ℕ)) (m : List ℕ) (at count size : ℕ) (r : Reading (List (Item Span))) : Type 0 where
  pub accepted : r.refusal ≡ 0
  pub ends : r.at ≡ at + size
  pub begins : r.count ≡ count + count_in xs
  pub trees : data_in (gathered r.found) m ≡ xs

module _ (m : List ℕ) (at code k n left count : ℕ) (rest : List ℕ) (e : drop at m ≡ heading code k n ++ rest) (l : k ≤ 3) (p : 1 ≤ k)
    (f : n < 256 ^ k)
    (known : eqb (size_of code) 0 ≡ false) (even : uneven n (size_of code) ≡ false) (few : count < 128) where
  abbrev h : Head
  h = record { code = code; lengths = k; body = at + 1 + k; many = n }

  accepted : (not (eqb code LIST) && ltb (length m) (at + 1 + k + n)) ≡ false → (eqb code LIST && eqb left 0) ≡ false
      → read_item left m at count ≡ read_body (inner left m) h count
  unfolding refusal_of
  accepted c d =
      let r = room m at code k n rest e l f in
      let q = head_is m at code k n rest e l f in
      let z : eqb k 0 ≡ false = ne_eqb k 0 (λ o. omega arith) in
      let a : leb (length m) at ≡ false = lt-leb (length m) at (omega arith) in
      let b : ltb (length m) (at + 1 + k) ≡ false = le-ltb (length m) (at + 1 + k) (omega arith) in
      let g : leb 128 count ≡ false = lt-leb 128 count few in
      let o : refusal_of m at h left count ≡ 0 = none_refused (rw (a, b) c) known (rw z even) d g in
      begun m at count left (rw q (eq-eqb _ 0 o)) ∙ rw q

list_known : eqb (size_of LIST) 0 ≡ false
unfolding size_of
list_known = refl

list_even : (n : ℕ) → uneven n (size_of LIST) ≡ false
unfolding uneven size_of
list_even n = let z : n % 1 ≡ 0 = omega arith in rw z

text_long : (code k n : ℕ) (l : List ℕ) → length (heading code k n ++ l) ≡ 1 + k + length l
text_long code k n l = simp (length-append, length_in_bytes k n) (omega arith)

module _ (choice : Choice) (fits : Fits choice) (m : List ℕ) where
  -- data
  leaf_back : (code : ℕ) (bytes : List ℕ) (left at count : ℕ) (post : List ℕ) → drop at m ≡ text (leaf code bytes) choice count ++ post
      → within (leaf code bytes) left ≡ true → count < 128
      → Back (leaf code bytes) m at count (length (text (leaf code bytes) choice count)) (read_item left m at count)
  unfolding text within count_of data_of
  leaf_back code bytes left at count post e w few =
      let n = length bytes in
      let k = choice count n in
      let w₁ = not (eqb code LIST) in
      let w₂ = not (eqb (size_of code) 0) in
      let w₃ = not (uneven n (size_of code)) in
      let t₃ = and_l (w₁ && w₂ && w₃) _ w in
      let t₂ = and_l (w₁ && w₂) _ t₃ in
      let no = not_true (eqb code LIST) (and_l w₁ _ t₂) in
      let known = not_true (eqb (size_of code) 0) (and_r w₁ _ t₂) in
      let even = not_true (uneven n (size_of code)) (and_r (w₁ && w₂) _ t₃) in
      let fit = fits count n (ltb-true n (2 ^ 24) (and_r (w₁ && w₂ && w₃) _ w)) in
      let d : drop at m ≡ heading code k n ++ (bytes ++ post) = e ∙ append_assoc (heading code k n) bytes post in
      let r = room m at code k n (bytes ++ post) d fit.1 fit.2 in
      let b : length (bytes ++ post) ≡ n + length post = length-append bytes post in
      let c : ltb (length m) (at + 1 + k + n) ≡ false = le-ltb (length m) (at + 1 + k + n) (omega arith) in
      let g = accepted m at code k n left count (bytes ++ post) d fit.1 fit.0 fit.2 known even few (rw (no, c)) (rw no) in
      rw (g ∙ data_body (inner left m) (record { code = code; lengths = k; body = at + 1 + k; many = n }) count no)
      (record {
        accepted = refl;
        ends = let z = text_long code k n bytes in omega arith;
        begins = refl;
        tree = ap (leaf code) (rw (what_follows m at code k n (bytes ++ post) d fit.1 fit.2) (take_at bytes post n refl));
      })

  -- a list, where its elements are read back
  list_back : (xs : Items (List ℕ)) (left at count : ℕ) (post : List ℕ) → drop at m ≡ text (list xs) choice count ++ post
      → length (in_order xs) < 2 ^ 24 → count < 128
      → ((from : ℕ) → drop from m ≡ text_in xs choice (count + 1) ++ post
      → AllBack xs m from (count + 1) (length (text_in xs choice (count + 1)))
      (read_many (read_item left m) (length (in_order xs)) from (count + 1)))
      → Back (list xs) m at count (length (text (list xs) choice count)) (read_item (suc left) m at count)
  unfolding text count_of data_of
  list_back xs left at count post e s few all =
      let n = length (in_order xs) in
      let k = choice count n in
      let t = text_in xs choice (count + 1) in
      let fit = fits count n s in
      let d : drop at m ≡ heading LIST k n ++ (t ++ post) = e ∙ append_assoc (heading LIST k n) t post in
      let z : eqb (suc left) 0 ≡ false = ne_eqb (suc left) 0 (λ q. omega arith) in
      let g = accepted m at LIST k n (suc left) count (t ++ post) d fit.1 fit.0 fit.2 list_known (list_even n) few refl z in
      let a = all (at + 1 + k) (what_follows m at LIST k n (t ++ post) d fit.1 fit.2) in
      rw (g ∙ list_body (inner (suc left) m) (record { code = LIST; lengths = k; body = at + 1 + k; many = n }) count refl)
      (record {
        accepted = a.accepted;
        ends = let q = text_long LIST k n t in let r = a.ends in omega arith;
        begins = let r = a.begins in omega arith;
        tree = ap list a.trees;
      })

  -- one more element
  more_back : (x : Item (List ℕ)) (xs : Items (List ℕ)) (left n at count size rest : ℕ)
      → Back x m at count size (read_item left m at count)
      → AllBack xs m (at + size) (count + count_of x) rest (read_many (read_item left m) n (at + size) (count + count_of x))
      → AllBack (x then xs) m at count (size + rest) (read_many (read_item left m) (suc n) at count)
  unfolding count_in data_in gathered
  more_back x xs left n at count size rest b a =
      let f = read_item left m in
      let c : AllBack xs m (at + size) (count + count_of x) rest (read_many f n (f at count).at (f at count).count) = rw
      (b.ends, b.begins) a in
      rw (goes_on f n at count (eq-eqb _ 0 b.accepted))
      (record {
        accepted = c.accepted;
        ends = let r = c.ends in omega arith;
        begins = let r = c.begins in omega arith;
        trees = ap₂ ◌then◌ b.tree c.trees;
      })

  no_more_back : (left at count : ℕ) → AllBack none m at count 0 (read_many (read_item left m) 0 at count)
  unfolding read_many count_in data_in gathered
  no_more_back left at count = record { accepted = refl; ends = sym (add-zero at); begins = sym (add-zero count); trees = refl }

  mutual
    unfolding text text_in within within_all count_of count_in in_order

    pub item_back : (x : Item (List ℕ)) (left at count : ℕ) (post : List ℕ) → drop at m ≡ text x choice count ++ post
        → within x left ≡ true → count + count_of x ≤ 128 → Back x m at count (length (text x choice count)) (read_item left m at count)
    item_back (leaf code bytes) left at count post e w few = leaf_back code bytes left at count post e w (omega arith)
    item_back (list xs) zero at count post e w few = clash w refl
    item_back (list xs) (suc left) at count post e w few =
        let s = ltb (length (in_order xs)) (2 ^ 24) in
        list_back xs left at count post e (ltb-true (length (in_order xs)) (2 ^ 24) (and_l s _ w)) (omega arith)
        (λ from d. items_back xs left from (count + 1) post d (and_r s _ w) (omega arith))

    pub items_back : (xs : Items (List ℕ)) (left at count : ℕ) (post : List ℕ) → drop at m ≡ text_in xs choice count ++ post
        → within_all xs left ≡ true → count + count_in xs ≤ 128
        → AllBack xs m at count (length (text_in xs choice count)) (read_many (read_item left m) (length (in_order xs)) at count)
    items_back none left at count post e w few = no_more_back left at count
    items_back (x then xs) left at count post e w few =
        let t = text x choice count in
        let u = text_in xs choice (count + count_of x) in
        let d : drop at m ≡ t ++ (u ++ post) = e ∙ append_assoc t u post in
        let g : drop (at + length t) m ≡ u ++ post =
        sym (drop-drop (length t) at m) ∙ ap (drop (length t)) d ∙ drop_at t (u ++ post) (length t) refl in
        rw (length-append t u)
        (more_back x xs left (length (in_order xs)) at count (length t) (length u)
        (item_back x left at count (u ++ post) d (and_l (within x left) _ w) (omega arith))
        (items_back xs left (at + length t) (count + count_of x) post g (and_r (within x left) _ w) (omega arith)))

-- ── A message: all of its bytes, all of its items, and its tree, whatever follows it ──
pub read_back : (choice : Choice) → Fits choice → (x : Item (List ℕ)) → within x 6 ≡ true → count_of x ≤ 128 → (post : List ℕ)
    → Back x (text x choice 0 ++ post) 0 0 (length (text x choice 0)) (read_message (text x choice 0 ++ post))
read_back choice fits x w few post = item_back choice fits (text x choice 0 ++ post) x 6 0 0 post refl w (omega arith)

-- different trees have different texts, under any choice of length bytes
pub one_tree : (c d : Choice) → Fits c → Fits d → (x y : Item (List ℕ)) → within x 6 ≡ true → within y 6 ≡ true → count_of x ≤ 128
    → count_of y ≤ 128
    → text x c 0 ≡ text y d 0 → x ≡ y
one_tree c d f g x y v w i j e =
    let a = (read_back c f x v i []).tree in
    let b = (read_back d g y w j []).tree in
    sym a ∙ rw e b

pub shortest_fits : Fits shortest
unfolding shortest
shortest_fits begun n h = go (ltb n (2 ^ 8)) (ltb n (2 ^ 16)) refl refl
  where
    go : (a b : Bool) → ltb n (2 ^ 8) ≡ a → ltb n (2 ^ 16) ≡ b
        → (1 ≤ cond a 1 (cond b 2 3)) × (cond a 1 (cond b 2 3) ≤ 3) × (n < 256 ^ cond a 1 (cond b 2 3))
    go true b p q = (omega arith, omega arith, ltb-true n (2 ^ 8) p)
    go false true p q = (omega arith, omega arith, ltb-true n (2 ^ 16) q)
    go false false p q = (omega arith, omega arith, h)

pub shortest_texts_differ : (x y : Item (List ℕ)) → within x 6 ≡ true → within y 6 ≡ true → count_of x ≤ 128 → count_of y ≤ 128
    → text x shortest 0 ≡ text y shortest 0 → x ≡ y
shortest_texts_differ = one_tree shortest shortest shortest_fits shortest_fits
