-- An accepted text stays the same tree whatever follows it, and when nothing does: what is read depends on its own bytes alone.
use Prim.Native.Nat.{ℕ, zero, suc, ◌+◌, ◌*◌, ◌/◌, ◌%◌, ◌≤◌, ◌<◌}
use native.Mathlib.Omega.{arith}
use mathlib.Core.Path.{◌≡◌, refl, sym, ap, ap₂, ◌∙◌}
use mathlib.Core.Bool.{Bool, true, false, not, ◌&&◌}
use mathlib.Core.List.{List, ◌++◌}
use lib.ListN.{length, get_or, take, length-append, get_or-append}
use lib.Seq.{length-take-le, get_or-take}
use lib.Dec.{leb, ltb}
use borrow.Author.Tests.{eq-eqb, le-ltb, lt-leb}
use Rattle.lists.proofs.Bools.{clash}
use Rattle.items.specs.Tree.{Item}
use Rattle.items.specs.Heads.{number_at, head_at, is_list, refusal_of}
use Rattle.items.specs.Reading.{Reading, read_many, read_body, read_item, read_message}
use Rattle.items.specs.declared.head.Head.{Head}
use Rattle.items.specs.declared.head.Span.{Span}
use Rattle.items.proofs.Refusals.{Inside, accepts, inside, has_depth}
use Rattle.items.proofs.Found.{Begun, next, inner, begun, item_begun, data_body, list_body}
use Rattle.items.proofs.ReadBack.{none_refused}

-- ── A reading goes onward, and stays in the message ──
head_of : (m : List ℕ) (at : ℕ) → at < length m
    → head_at m at
    ≡ record {
      code = get_or m at 0 / 4;
      lengths = get_or m at 0 % 4;
      body = at + 1 + get_or m at 0 % 4;
      many = number_at m (at + 1) (get_or m at 0 % 4);
    }
unfolding head_at
head_of m at l = rw (lt-leb (length m) at l)

abbrev Onward : List ℕ → (ℕ → ℕ → Reading (Item Span)) → Type 0
Onward m f = (at count : ℕ) → (f at count).refusal ≡ 0 → (at ≤ (f at count).at) × ((f at count).at ≤ length m)

many_on : (m : List ℕ) (f : ℕ → ℕ → Reading (Item Span)) → Onward m f → (n at count : ℕ) → at ≤ length m
    → (read_many f n at count).refusal ≡ 0
    → (at ≤ (read_many f n at count).at) × ((read_many f n at count).at ≤ length m)
unfolding read_many
many_on m f on zero at count l ok = (omega arith, l)
many_on m f on (suc n) at count l ok =
    let x = next f n at count ok in
    let a = on at count x.first in
    let b = many_on m f on n (f at count).at (f at count).count a.1 x.rest in
    let e = ap (λ (r : Reading (List (Item Span))). r.at) x.whole in
    (omega arith, omega arith)

-- of an item that was begun: its head lies before its end
pub record Runs (m : List ℕ) (at : ℕ) (r : Reading (Item Span)) : Type 0 where
  pub head : (head_at m at).body ≤ r.at
  pub from : at + 1 + (head_at m at).lengths ≡ (head_at m at).body
  pub ends : r.at ≤ length m

runs_by : (left : ℕ) (m : List ℕ) (at count : ℕ) → (1 ≤ left → Onward m (inner left m)) → (read_item left m at count).refusal ≡ 0
    → Runs m at (read_item left m at count)
runs_by left m at count on ok = go (is_list h) refl
  where
    h : Head
    h = head_at m at

    b : Begun m at count left
    b = item_begun m at count left ok

    i : Inside m at h left count
    i = inside m at h left count b.head

    f : at + 1 + h.lengths ≡ h.body
    f = rw (head_of m at i.format)

    go : (t : Bool) → is_list h ≡ t → Runs m at (read_item left m at count)
    go false q =
        rw (b.body ∙ data_body (inner left m) h count q) (record { head = omega arith; from = f; ends = i.bytes q })
    go true q =
        let e = b.body ∙ list_body (inner left m) h count q in
        let o = many_on m (inner left m) (on (has_depth m at h left count _ refl b.head q)) h.many h.body (count + 1)
        i.lengths (rw e at ok) in
        rw e (record { head = o.0; from = f; ends = o.1 })

onward : (left : ℕ) (m : List ℕ) → ((at count : ℕ) → (read_item left m at count).refusal ≡ 0 → Runs m at (read_item left m at count))
    → Onward m (read_item left m)
onward left m runs at count ok = let r = runs at count ok in (omega arith, r.ends)

pub item_on : (left : ℕ) (m : List ℕ) (at count : ℕ) → (read_item left m at count).refusal ≡ 0 → Runs m at (read_item left m at count)
item_on zero m at count ok = runs_by zero m at count (λ h. absurd (omega arith)) ok
item_on (suc left) m at count ok = runs_by (suc left) m at count (λ h. onward left m (item_on left m)) ok

-- ── Two messages that agree up to a place ──
module _ (m m' : List ℕ) (e : ℕ) (same : (i : ℕ) → i < e → get_or m' i 0 ≡ get_or m i 0) (long : e ≤ length m') where
  number_same : (at k : ℕ) → at + k ≤ e → number_at m' at k ≡ number_at m at k
  unfolding number_at
  number_same at zero l = refl
  number_same at (suc k) l =
      ap₂ (λ (x y : ℕ). x * 256 + y) (number_same at k (omega arith)) (same (at + k) (omega arith))

  head_same : (at : ℕ) → at < length m → (head_at m at).body ≤ e → head_at m' at ≡ head_at m at
  head_same at i l =
      let p = head_of m at i in
      let b : at + 1 + get_or m at 0 % 4 ≤ e = rw p at l in
      let k : at < length m' = omega arith in
      head_of m' at k ∙ rw (same at (omega arith), number_same (at + 1) (get_or m at 0 % 4) b) (sym p)

  refusal_same : (at left count : ℕ) → refusal_of m at (head_at m at) left count ≡ 0 → (head_at m at).body ≤ e
      → (is_list (head_at m at) ≡ false → (head_at m at).body + (head_at m at).many ≤ e) → refusal_of m' at (head_at m at) left count ≡ 0
  unfolding refusal_of
  refusal_same at left count z l d =
      let h = head_at m at in
      let a = accepts m at h left count z in
      let f : at + 1 + h.lengths ≡ h.body = rw (head_of m at (inside m at h left count z).format) in
      let p : leb (length m') at ≡ false = lt-leb (length m') at (omega arith) in
      let q : ltb (length m') h.body ≡ false = le-ltb (length m') h.body (omega arith) in
      none_refused (rw (p, q) (go (is_list h) refl)) a.known a.even a.shallow a.few
    where
      go : (t : Bool) → is_list (head_at m at) ≡ t
          → (not (is_list (head_at m at)) && ltb (length m') ((head_at m at).body + (head_at m at).many)) ≡ false
      go true q = rw q
      go false q = let k = d q in rw (q, le-ltb (length m') ((head_at m at).body + (head_at m at).many) (omega arith))

  abbrev Same : ℕ → Type 0
  Same left = (at count : ℕ) → (read_item left m at count).refusal ≡ 0 → (read_item left m at count).at ≤ e
      → read_item left m' at count ≡ read_item left m at count

  many_same : (left : ℕ) → Same left → (n at count : ℕ) → at ≤ length m → (read_many (read_item left m) n at count).refusal ≡ 0
      → (read_many (read_item left m) n at count).at ≤ e
      → read_many (read_item left m') n at count ≡ read_many (read_item left m) n at count
  unfolding read_many
  many_same left s zero at count l ok b = refl
  many_same left s (suc n) at count l ok b =
      let f = read_item left m in
      let g = read_item left m' in
      let x = next f n at count ok in
      let r = item_on left m at count x.first in
      let o = many_on m f (onward left m (item_on left m)) n (f at count).at (f at count).count r.ends x.rest in
      let w = ap (λ (r : Reading (List (Item Span))). r.at) x.whole in
      let c : (read_many f n (f at count).at (f at count).count).at ≤ e = omega arith in
      let y : g at count ≡ f at count = s at count x.first (omega arith) in
      let q = many_same left s n (f at count).at (f at count).count r.ends x.rest c in
      rw (y, q)

  body_same : (left at count : ℕ) → (1 ≤ left → (n from : ℕ) → from ≤ length m → (read_many (inner left m) n from (count + 1)).refusal ≡ 0
      → (read_many (inner left m) n from (count + 1)).at ≤ e → read_many (inner left m') n from (count + 1) ≡ read_many (inner left m) n from
      (count + 1))
      → (read_item left m at count).refusal ≡ 0 → (read_item left m at count).at ≤ e → read_item left m' at count ≡ read_item left m at count
  body_same left at count s ok l = go (is_list h) refl
    where
      h : Head
      h = head_at m at

      b : Begun m at count left
      b = item_begun m at count left ok

      i : Inside m at h left count
      i = inside m at h left count b.head

      r : Runs m at (read_item left m at count)
      r = item_on left m at count ok

      there : (is_list h ≡ false → h.body + h.many ≤ e) → read_item left m' at count ≡ read_body (inner left m') h count
      there d =
          let k : h.body ≤ e = omega (arith, r.head) in
          let y = head_same at i.format k in
          let z = refusal_same at left count b.head k d in
          begun m' at count left (rw y (eq-eqb _ 0 z)) ∙ rw y

      go : (t : Bool) → is_list h ≡ t → read_item left m' at count ≡ read_item left m at count
      go false q =
          let d = data_body (inner left m) h count q in
          let k : h.body + h.many ≤ e = rw (b.body ∙ d) at l in
          there (λ n. k) ∙ data_body (inner left m') h count q ∙ sym (b.body ∙ d)
      go true q =
          let d = list_body (inner left m) h count q in
          let n = has_depth m at h left count _ refl b.head q in
          let y = s n h.many h.body i.lengths (rw (b.body ∙ d) at ok) (rw (b.body ∙ d) at l) in
          there (λ n. clash q n) ∙ list_body (inner left m') h count q ∙ rw y (sym (b.body ∙ d))

  pub item_same : (left : ℕ) → Same left
  item_same zero at count ok l = body_same zero at count (λ h. absurd (omega arith)) ok l
  item_same (suc left) at count ok l = body_same (suc left) at count (λ h n from. many_same left (item_same left) n from (count + 1)) ok l

pub accepted_stays : (m rest : List ℕ) → (read_message m).refusal ≡ 0 → read_message (take (read_message m).at m ++ rest) ≡ read_message m
accepted_stays m rest ok =
    let l = (item_on 6 m 0 0 ok).ends in
    let n = length-take-le e m l in
    let a = length-append (take e m) rest in
    item_same m (take e m ++ rest) e same (omega arith) 6 0 0 ok (omega arith)
  where
    e : ℕ
    e = (read_message m).at

    same : (i : ℕ) → i < e → get_or (take e m ++ rest) i 0 ≡ get_or m i 0
    same i h =
        let n = length-take-le e m (item_on 6 m 0 0 ok).ends in
        get_or-append (take e m) rest 0 i (omega arith) ∙ get_or-take e m i 0 h
