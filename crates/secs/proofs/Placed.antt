-- In a message whose items were accepted, what stands at a position is what stands in the tree.
use Prim.Native.Nat.{ℕ, zero, suc, ◌+◌}
use mathlib.Core.Path.{◌≡◌, refl, sym, ap, ap₂, ◌∙◌}
use mathlib.Core.Bool.{Bool, true, false, ◌&&◌}
use mathlib.Core.List.{List, ◌∷◌, map}
use lib.ListN.{length, get_or}
use lib.Dec.{eqb}
use borrow.Author.Tests.{eqb-true, le-leb}
use Rattle.lists.specs.Lists.{every, same_list}
use Rattle.lists.proofs.Bools.{clash, and_l, and_r}
use Rattle.items.specs.Formats.{LIST, ASCII, U1}
use Rattle.items.specs.Tree.{Item, elements, span_of, nothing}
use Rattle.items.specs.Heads.{head_at}
use Rattle.items.specs.Reading.{read_many, read_item}
use Rattle.items.specs.declared.head.Span.{Span}
use Rattle.items.proofs.Found.{next, many_found, code_found, data_found, list_found}
use Rattle.secs.specs.Shape.{is_list_of, is_u1, is_pair, text_of, byte_of}
use Rattle.secs.specs.InPlace.{pair_at, fits_at, each_at, named_at, codes_at}

-- the second of two tests is looked at where the first holds
pub and_under : {a a' b b' : Bool} → a ≡ a' → (a' ≡ true → b ≡ b') → (a && b) ≡ (a' && b')
and_under {a = true} {a' = true} e f = f refl
and_under {a = true} {a' = false} e f = clash refl e
and_under {a = false} {a' = true} e f = clash e refl
and_under {a = false} {a' = false} e f = refl

pub other_code : (c k : ℕ) → eqb c k ≡ true → eqb k LIST ≡ false → eqb c LIST ≡ false
other_code c k e f = rw (eqb-true c k e) f

-- ── A list: how many elements it has, and the first of them ──
module _ (m : List ℕ) (left at count : ℕ) (ok : (read_item left m at count).refusal ≡ 0) where
  abbrev x : Item Span
  x = (read_item left m at count).found

  pub list_of_is : (n : ℕ) → (eqb (head_at m at).code LIST && eqb (head_at m at).many n) ≡ is_list_of n x
  list_of_is n =
      let c = code_found m left at count ok in
      and_under (ap (λ k. eqb k LIST) (sym c))
      (λ t. let l = list_found m left at count ok (rw c at t) in ap (λ k. eqb k n) (sym (ap length l.elements ∙ many_found _ _ _ _
      l.accepted)))

pub record First (m : List ℕ) (k at count : ℕ) (l : List (Item Span)) : Type 0 where
  pub found : get_or l 0 nothing ≡ (read_item k m at count).found
  pub accepted : (read_item k m at count).refusal ≡ 0

pub first : (m : List ℕ) (k n at count : ℕ) → (read_many (read_item k m) (suc n) at count).refusal ≡ 0
    → First m k at count (read_many (read_item k m) (suc n) at count).found
first m k n at count ok = let x = next (read_item k m) n at count ok in record { found = rw x.whole; accepted = x.first }

pub first_of : (m : List ℕ) (k at count : ℕ) → (read_item (suc k) m at count).refusal ≡ 0 → eqb (head_at m at).code LIST ≡ true
    → (n : ℕ) → (head_at m at).many ≡ suc n → First m k (head_at m at).body (count + 1) (elements (read_item (suc k) m at count).found)
first_of m k at count ok t n e =
    let l = list_found m (suc k) at count ok t in
    rw (l.elements, e) (first m k n (head_at m at).body (count + 1) (rw e at l.accepted))

-- ── A pair, or a U1 ──
pair_is : (m : List ℕ) (k at count : ℕ) → (read_item (suc k) m at count).refusal ≡ 0
    → pair_at m at ≡ is_pair (read_item (suc k) m at count).found
unfolding pair_at is_pair
pair_is m k at count ok =
    let two = list_of_is m (suc k) at count ok 2 in
    and_under two
    (λ t.
    let l = eqb (head_at m at).code LIST in
    let f = first_of m k at count ok (and_l l _ (two ∙ t)) 1 (eqb-true _ 2 (and_r l _ (two ∙ t))) in
    rw f.found (ap (λ c. eqb c ASCII) (sym (code_found m k (head_at m at).body (count + 1) f.accepted))))

abbrev pub fitting : Bool → Item Span → Bool
fitting true = is_pair
fitting false = is_u1

fits_is : (m : List ℕ) (pairs : Bool) (k at count : ℕ) → (read_item (suc k) m at count).refusal ≡ 0
    → fits_at m pairs at ≡ fitting pairs (read_item (suc k) m at count).found
unfolding fits_at
fits_is m true k at count ok = pair_is m k at count ok
fits_is m false k at count ok = ap (λ c. eqb c U1) (sym (code_found m (suc k) at count ok))

pub each_is : (m : List ℕ) (pairs : Bool) (k n at count : ℕ) → (read_many (read_item (suc k) m) n at count).refusal ≡ 0
    → each_at m pairs (suc k) n at count ≡ every (fitting pairs) (read_many (read_item (suc k) m) n at count).found
unfolding each_at read_many every
each_is m pairs k zero at count ok = refl
each_is m pairs k (suc n) at count ok =
    let x = next (read_item (suc k) m) n at count ok in
    rw x.whole
    (ap₂ ◌&&◌ (fits_is m pairs k at count x.first)
    (each_is m pairs k n (read_item (suc k) m at count).at (read_item (suc k) m at count).count x.rest))

-- ── An item that is no list: its text, its byte ──
module _ (m : List ℕ) (left at count : ℕ) (ok : (read_item left m at count).refusal ≡ 0) (no : eqb (head_at m at).code LIST ≡ false) where
  pub span_is : span_of (read_item left m at count).found ≡ record { at = (head_at m at).body; many = (head_at m at).many }
  unfolding span_of
  span_is = ap span_of (data_found m left at count ok no).found

  pub named_is : (text : List ℕ) → named_at m at text ≡ same_list (text_of m (read_item left m at count).found) text
  unfolding named_at
  named_is text = rw (span_is, le-leb _ _ (data_found m left at count ok no).inside)

-- ── 25 codes ──
pub codes_is : (m : List ℕ) (k n at count : ℕ) → (read_many (read_item k m) n at count).refusal ≡ 0
    → every is_u1 (read_many (read_item k m) n at count).found ≡ true
    → codes_at m n at ≡ map (byte_of m) (read_many (read_item k m) n at count).found
unfolding codes_at read_many every
codes_is m k zero at count ok u = refl
codes_is m k (suc n) at count ok u =
    let x = next (read_item k m) n at count ok in
    let y = read_item k m at count in
    let w : (is_u1 y.found && every is_u1 (read_many (read_item k m) n y.at y.count).found) ≡ true = rw x.whole at u in
    let c : eqb (head_at m at).code U1 ≡ true = rw (code_found m k at count x.first) at (and_l (is_u1 y.found) _ w) in
    let no = other_code (head_at m at).code U1 c refl in
    rw (x.whole, span_is m k at count x.first no, ← (data_found m k at count x.first no).ends)
    (ap (λ l. get_or m (head_at m at).body 0 ∷ l) (codes_is m k n y.at y.count x.rest (and_r (is_u1 y.found) _ w)))
