-- The five parts of an accepted message: each begins where the one before it ends.
use Prim.Native.Nat.{ℕ}
use mathlib.Core.Path.{◌≡◌, refl, sym, ◌∙◌}
use mathlib.Core.Bool.{Bool, true, false, ◌&&◌}
use mathlib.Core.List.{List, [], ◌∷◌}
use lib.Dec.{eqb}
use borrow.Author.Tests.{eqb-true}
use Rattle.lists.proofs.Bools.{clash, and_l, and_r}
use Rattle.items.specs.Formats.{LIST, ASCII, U1, is_unsigned}
use Rattle.items.specs.Tree.{Item, elements}
use Rattle.items.specs.Heads.{head_at}
use Rattle.items.specs.Reading.{Reading, read_many, read_item, read_message}
use Rattle.items.specs.declared.head.Span.{Span}
use Rattle.items.proofs.Found.{next, code_found, list_found}
use Rattle.secs.specs.Texts.{Bind, CarrierNotification, ProceedWithCarrier, CancelCarrier, row_of}
use Rattle.secs.specs.Shape.{is_list_of, has_parts, row_in}
use Rattle.secs.specs.InPlace.{code_at, parts_at, kinds_at, row_at}
use Rattle.secs.proofs.Placed.{list_of_is, other_code, named_is}

module _ (m : List ℕ) where
  abbrev pub id' : Reading (Item Span)
  id' = read_item 5 m (head_at m 0).body 1

  abbrev pub action' : Reading (Item Span)
  action' = read_item 5 m id'.at id'.count

  abbrev pub name' : Reading (Item Span)
  name' = read_item 5 m action'.at action'.count

  abbrev pub port' : Reading (Item Span)
  port' = read_item 5 m name'.at name'.count

  abbrev pub pairs' : Reading (Item Span)
  pairs' = read_item 5 m port'.at port'.count

  abbrev pub is_five : Bool
  is_five = eqb (head_at m 0).code LIST && eqb (head_at m 0).many 5

  pub record Five : Type 0 where
    pub parts : elements (read_message m).found ≡ id'.found ∷ action'.found ∷ name'.found ∷ port'.found ∷ pairs'.found ∷ []
    pub id : id'.refusal ≡ 0
    pub action : action'.refusal ≡ 0
    pub name : name'.refusal ≡ 0
    pub port : port'.refusal ≡ 0
    pub pairs : pairs'.refusal ≡ 0

pub no_more : (f : ℕ → ℕ → Reading (Item Span)) (at count : ℕ) → (read_many f 0 at count).found ≡ []
unfolding read_many
no_more f at count = refl

module _ (m : List ℕ) (ok : (read_message m).refusal ≡ 0) where
  pub five : is_five m ≡ true → Five m
  five t =
      let f = read_item 5 m in
      let l = list_found m 6 0 0 ok (and_l (eqb (head_at m 0).code LIST) _ t) in
      let e : (head_at m 0).many ≡ 5 = eqb-true _ 5 (and_r (eqb (head_at m 0).code LIST) _ t) in
      let i = next f 4 (head_at m 0).body 1 (rw e at l.accepted) in
      let a = next f 3 (id' m).at (id' m).count i.rest in
      let n = next f 2 (action' m).at (action' m).count a.rest in
      let p = next f 1 (name' m).at (name' m).count n.rest in
      let s = next f 0 (port' m).at (port' m).count p.rest in
      record {
        parts =
            l.elements ∙ rw e (rw (i.whole, a.whole, n.whole, p.whole, s.whole, no_more f (pairs' m).at (pairs' m).count));
        id = i.first;
        action = a.first;
        name = n.first;
        port = p.first;
        pairs = s.first;
      }

  pub kinds_is : kinds_at m (parts_at m) ≡ has_parts (read_message m).found
  unfolding kinds_at parts_at has_parts
  kinds_is = go (is_five m) refl (list_of_is m 6 0 0 ok 5)
    where
      go : (b : Bool) → is_five m ≡ b → is_five m ≡ is_list_of 5 (read_message m).found
          → kinds_at m (parts_at m) ≡ has_parts (read_message m).found
      go true t q =
          let f = five t in
          let c : is_list_of 5 (read_message m).found ≡ true = sym q ∙ t in
          rw (t, c, f.parts)
          (rw (
            code_found m 5 (head_at m 0).body 1 f.id,
            code_found m 5 (id' m).at (id' m).count f.action,
            code_found m 5 (action' m).at (action' m).count f.name,
            code_found m 5 (name' m).at (name' m).count f.port,
            code_found m 5 (port' m).at (port' m).count f.pairs,
          ))
      go false t q = let c : is_list_of 5 (read_message m).found ≡ false = sym q ∙ t in rw (t, c)

-- ── Where the parts are of the right kinds ──
all_six : (a b c d e f : Bool) → (a && b && c && d && e && f) ≡ true
    → (a ≡ true) × (b ≡ true) × (c ≡ true) × (d ≡ true) × (e ≡ true) × (f ≡ true)
all_six true true true true true true q = (refl, refl, refl, refl, refl, refl)
all_six true true true true true false q = clash q refl
all_six true true true true false f q = clash q refl
all_six true true true false e f q = clash q refl
all_six true true false d e f q = clash q refl
all_six true false c d e f q = clash q refl
all_six false b c d e f q = clash q refl

module _ (m : List ℕ) where
  pub record Kinds : Type 0 where
    pub five : is_five m ≡ true
    pub action : eqb (code_at m (id' m).at) LIST ≡ false
    pub name : eqb (code_at m (action' m).at) LIST ≡ false
    pub port : eqb (code_at m (name' m).at) LIST ≡ false
    pub pairs : eqb (code_at m (port' m).at) LIST ≡ true

  pub kinds : kinds_at m (parts_at m) ≡ true → Kinds
  unfolding kinds_at parts_at
  kinds t =
      let s = all_six (is_five m) (is_unsigned (code_at m (head_at m 0).body)) (eqb (code_at m (id' m).at) ASCII)
      (eqb (code_at m (action' m).at) ASCII) (eqb (code_at m (name' m).at) U1) (eqb (code_at m (port' m).at) LIST) t in
      record {
        five = s.0;
        action = other_code (code_at m (id' m).at) ASCII s.2 refl;
        name = other_code (code_at m (action' m).at) ASCII s.3 refl;
        port = other_code (code_at m (name' m).at) U1 s.4 refl;
        pairs = s.5;
      }

module _ (m : List ℕ) (ok : (read_message m).refusal ≡ 0) (k : Kinds m) where
  abbrev f : Five m
  f = five m ok k.five

  pub row_is : row_at m (parts_at m).action ≡ row_in m (read_message m).found
  unfolding row_at row_of parts_at
  row_is =
      let n = named_is m 5 (id' m).at (id' m).count f.action k.action in
      rw (f.parts, n Bind, n CarrierNotification, n ProceedWithCarrier, n CancelCarrier)
