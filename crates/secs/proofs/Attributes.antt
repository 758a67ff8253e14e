-- The attributes of an accepted message: every one a pair, and a first one SlotMap.
use Prim.Native.Nat.{ℕ, zero, suc, ◌+◌}
use native.Mathlib.Omega.{arith}
use mathlib.Core.Path.{◌≡◌, refl, sym, ◌∙◌}
use mathlib.Core.Bool.{true, false, ◌&&◌}
use mathlib.Core.List.{List, [], ◌∷◌, map}
use lib.Dec.{eqb}
use borrow.Author.Tests.{eqb-true, ne_eqb}
use Rattle.lists.specs.Lists.{every, same_list}
use Rattle.lists.proofs.Bools.{and_l, and_r}
use Rattle.items.specs.Formats.{LIST, ASCII}
use Rattle.items.specs.Tree.{Item, elements, span_of}
use Rattle.items.specs.Heads.{head_at}
use Rattle.items.specs.Reading.{Reading, read_many, read_item, read_message}
use Rattle.items.specs.declared.head.Head.{Head}
use Rattle.items.specs.declared.head.Span.{Span}
use Rattle.items.proofs.Found.{Listed, next, code_found, data_found, list_found}
use Rattle.secs.specs.Texts.{SlotMap}
use Rattle.secs.specs.Shape.{part, is_list_of, is_text, is_u1, is_pair, attributes, has_map, map_of, is_map, byte_of}
use Rattle.secs.specs.InPlace.{code_at, each_at, name_at, value_at, has_map_at, is_map_at, codes_at}
use Rattle.secs.proofs.Placed.{and_under, other_code, list_of_is, each_is, named_is, codes_is}
use Rattle.secs.proofs.Five.{port', pairs', Five, five, Kinds, no_more}

module _ (m : List ℕ) where
  -- the head of the list of attributes; the first of them, its name and its value
  abbrev pub list' : Head
  list' = head_at m (port' m).at

  abbrev pub pair' : Reading (Item Span)
  pair' = read_item 4 m list'.body ((port' m).count + 1)

  abbrev pub key' : Reading (Item Span)
  key' = read_item 3 m (head_at m list'.body).body ((port' m).count + 1 + 1)

  abbrev pub value' : Reading (Item Span)
  value' = read_item 3 m key'.at key'.count

  pub record Pair : Type 0 where
    pub pair : part 0 (pairs' m).found ≡ pair'.found
    pub parts : elements pair'.found ≡ key'.found ∷ value'.found ∷ []
    pub key : key'.refusal ≡ 0
    pub text : eqb (code_at m (head_at m list'.body).body) LIST ≡ false
    pub value : value'.refusal ≡ 0

  -- a pair that was accepted
  pair_parts : pair'.refusal ≡ 0 → is_pair pair'.found ≡ true → part 0 (pairs' m).found ≡ pair'.found → Pair
  unfolding is_pair
  pair_parts ok t e =
      let at = list'.body in
      let count = (port' m).count + 1 in
      let two = list_of_is m 4 at count ok 2 ∙ and_l (is_list_of 2 pair'.found) _ t in
      let c = eqb (head_at m at).code LIST in
      let n : (head_at m at).many ≡ 2 = eqb-true _ 2 (and_r c _ two) in
      let l = list_found m 4 at count ok (and_l c _ two) in
      let f = read_item 3 m in
      let a = next f 1 (head_at m at).body (count + 1) (rw n at l.accepted) in
      let b = next f 0 key'.at key'.count a.rest in
      let p : elements pair'.found ≡ key'.found ∷ value'.found ∷ [] =
      l.elements ∙ rw n (rw (a.whole, b.whole, no_more f value'.at value'.count)) in
      let d : is_text key'.found ≡ true = rw p at (and_r (is_list_of 2 pair'.found) _ t) in
      record {
        pair = e;
        parts = p;
        key = a.first;
        text = other_code (code_at m (head_at m at).body) ASCII (rw (code_found m 3 (head_at m at).body (count + 1) a.first) at d) refl;
        value = b.first;
      }

module _ (m : List ℕ) (ok : (read_message m).refusal ≡ 0) (k : Kinds m) where
  abbrev f : Five m
  f = five m ok k.five

  -- every attribute is a pair
  pub pairs_is : each_at m true 4 (list' m).many (list' m).body ((port' m).count + 1) ≡ every is_pair (elements (attributes
      (read_message m).found))
  pairs_is =
      let l = list_found m 5 (port' m).at (port' m).count f.pairs k.pairs in
      rw (f.parts, l.elements) (each_is m true 3 (list' m).many (list' m).body ((port' m).count + 1) l.accepted)

  pub first_pair : (n : ℕ) → (list' m).many ≡ suc n → every is_pair (elements (attributes (read_message m).found)) ≡ true → Pair m
  unfolding every
  first_pair n e t =
      let l = list_found m 5 (port' m).at (port' m).count f.pairs k.pairs in
      let a = next (read_item 4 m) n (list' m).body ((port' m).count + 1) (rw e at l.accepted) in
      let p : elements (pairs' m).found ≡ (pair' m).found ∷ (read_many (read_item 4 m) n (pair' m).at (pair' m).count).found =
      l.elements ∙ rw e (rw a.whole) in
      let s : (is_pair (pair' m).found && every is_pair (read_many (read_item 4 m) n (pair' m).at (pair' m).count).found) ≡ true = rw
      (f.parts, p) at t in
      pair_parts m a.first (and_l (is_pair (pair' m).found) _ s) (rw p)

  -- a first attribute named SlotMap
  pub has_map_is : every is_pair (elements (attributes (read_message m).found)) ≡ true
      → has_map_at m (port' m).at ≡ has_map m (read_message m).found
  unfolding has_map_at has_map name_at elements span_of same_list read_many
  has_map_is t = go (list' m).many refl
    where
      go : (n : ℕ) → (list' m).many ≡ n → has_map_at m (port' m).at ≡ has_map m (read_message m).found
      go zero e =
          let l = list_found m 5 (port' m).at (port' m).count f.pairs k.pairs in
          rw (f.parts, l.elements, e)
      go (suc n) e =
          let p = first_pair n e t in
          let z : eqb (suc n) 0 ≡ false = ne_eqb (suc n) 0 (λ q. omega arith) in
          rw (f.parts, p.pair, p.parts, e, z)
          (named_is m 3 (head_at m (list' m).body).body ((port' m).count + 1 + 1) p.key p.text SlotMap)

  value_at_is : Pair m → value_at m (port' m).at ≡ (key' m).at
  unfolding value_at name_at
  value_at_is p = sym (data_found m 3 (head_at m (list' m).body).body ((port' m).count + 1 + 1) p.key p.text).ends

  value_list : (p : Pair m) → is_list_of 25 (value' m).found ≡ true → Listed m 3 (key' m).at (key' m).count p.value
  value_list p t =
      let two = list_of_is m 3 (key' m).at (key' m).count p.value 25 ∙ t in
      list_found m 3 (key' m).at (key' m).count p.value (and_l (eqb (head_at m (key' m).at).code LIST) _ two)

  value_many : (p : Pair m) → is_list_of 25 (value' m).found ≡ true → (head_at m (key' m).at).many ≡ 25
  value_many p t =
      let two = list_of_is m 3 (key' m).at (key' m).count p.value 25 ∙ t in
      eqb-true _ 25 (and_r (eqb (head_at m (key' m).at).code LIST) _ two)

  -- which is a list of 25 U1
  pub map_is : Pair m → is_map_at m (value_at m (port' m).at) ((port' m).count + 4) ≡ is_map (map_of (read_message m).found)
  unfolding is_map_at is_map
  map_is p =
      let c = (data_found m 3 (head_at m (list' m).body).body ((port' m).count + 1 + 1) p.key p.text).begins in
      let n : (port' m).count + 4 ≡ (key' m).count + 1 = omega arith in
      rw (f.parts, p.pair, p.parts, value_at_is p, n)
      (and_under (list_of_is m 3 (key' m).at (key' m).count p.value 25)
      (λ t.
      let l = value_list p t in
      rw (l.elements, ← (value_many p t))
      (each_is m false 1 (head_at m (key' m).at).many (head_at m (key' m).at).body ((key' m).count + 1) l.accepted)))

  -- its codes
  pub codes_are : Pair m → is_map (map_of (read_message m).found) ≡ true
      → codes_at m 25 (head_at m (value_at m (port' m).at)).body ≡ map (byte_of m) (elements (map_of (read_message m).found))
  unfolding is_map
  codes_are p t =
      let v = (value' m).found in
      let s : (is_list_of 25 v && every is_u1 (elements v)) ≡ true = rw (f.parts, p.pair, p.parts) at t in
      let two = list_of_is m 3 (key' m).at (key' m).count p.value 25 ∙ and_l (is_list_of 25 v) _ s in
      let l = value_list p (and_l (is_list_of 25 v) _ s) in
      let h = head_at m (key' m).at in
      let n : h.many ≡ 25 = eqb-true _ 25 (and_r (eqb h.code LIST) _ two) in
      rw (f.parts, p.pair, p.parts, value_at_is p, l.elements, ← n)
      (codes_is m 2 h.many h.body ((key' m).count + 1) l.accepted (rw l.elements at (and_r (is_list_of 25 v) _ s)))
