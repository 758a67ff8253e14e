-- What the check gives for every text: it passes exactly the texts that are a name of document 01 and then blanks, 32 bytes at most, and
-- gives that name.
use Prim.Native.Nat.{ℕ, zero, suc, ◌+◌, ◌≤◌}
use native.Mathlib.Omega.{arith}
use mathlib.Core.Path.{◌≡◌, refl, ap, sym, ◌∙◌}
use mathlib.Core.Bool.{Bool, true, false, not, cond, ◌&&◌, ◌||◌}
use mathlib.Core.List.{List, [], ◌∷◌, ◌++◌}
use lib.ListN.{length, take, replicate, length-append, length-replicate}
use lib.Seq.{take-length}
use lib.Dec.{eqb, leb, ltb}
use borrow.Author.Tests.{leb-true, leb-false, ne_eqb, le-leb, le-ltb, lt-ltb}
use Rattle.lists.specs.Lists.{every, any, between}
use Rattle.lists.proofs.Bools.{clash, and_l, and_r, not_false}
use Rattle.records.specs.Names.{graphic, is_name}
use Rattle.names.specs.Check.{is_blank, remains, refused, shortened}
use Rattle.names.proofs.Remains.{remains_front, remains_padded, no_blank_remains}

-- ── A text passes where a name of document 01 remains of at most 32 bytes ──
pub graphic_not_blank : (b : ℕ) → graphic b ≡ true → is_blank b ≡ false
graphic_not_blank b e = let h = leb-true 0x21 b (and_l (leb 0x21 b) _ e) in ne_eqb b 0x20 (λ z. omega arith)

pub no_blanks : (l : List ℕ) → every graphic l ≡ true → any is_blank l ≡ false
unfolding every any
no_blanks [] e = refl
no_blanks (b ∷ l) e = rw (graphic_not_blank b (and_l (graphic b) _ e)) (no_blanks l (and_r (graphic b) _ e))

pub above : (m n : ℕ) → ltb m n ≡ not (leb n m)
above m n = go (leb n m) refl
  where
    go : (w : Bool) → leb n m ≡ w → ltb m n ≡ not w
    go true e = le-ltb m n (leb-true n m e)
    go false e = lt-ltb m n (leb-false n m e)

-- 1 to 16 bytes are not none, and not more than 16
pub in_range_fact : (n : ℕ) → (eqb n 0 || ltb 16 n) ≡ not (between 1 n 16)
in_range_fact zero = refl
in_range_fact (suc n) = rw (ne_eqb (suc n) 0 (λ z. omega arith), le-leb 1 (suc n) (omega arith)) (above 16 (suc n))

-- of the five grounds, a blank elsewhere is a byte that no name has
four : (l b z s g : Bool) → (g ≡ true → b ≡ false) → (l || b || z || s || not g) ≡ (l || ((z || s) || not g))
four true b z s g f = refl
four false false z s g f = refl
four false true z s true f = clash refl (f refl)
four false true true s false f = refl
four false true false true false f = refl
four false true false false false f = refl

pub one_not : (a b : Bool) → (not a || not b) ≡ not (a && b)
one_not true b = refl
one_not false b = refl

pub refused_is : (text : List ℕ) → refused text ≡ not (leb (length text) 32 && is_name (remains text))
unfolding refused is_name
refused_is text =
    let r = remains text in
    let g = every graphic r in
    let n = length r in
    let k = length text in
    let name = between 1 n 16 && g in
    four (ltb 32 k) (any is_blank r) (eqb n 0) (ltb 16 n) g (no_blanks r)
    ∙ ap (λ b. ltb 32 k || (b || not g)) (in_range_fact n)
    ∙ ap (λ b. ltb 32 k || b) (one_not (between 1 n 16) g)
    ∙ ap (λ b. b || not name) (above 32 k)
    ∙ one_not (leb k 32) name

-- ── What it gives ──
-- a text that isn't refused: what remains is a name (and the text is that name and then blanks: `text_is`)
pub passed_name : (text : List ℕ) → refused text ≡ false → is_name (remains text) ≡ true
passed_name text e = and_r (leb (length text) 32) _ (not_false _ (sym (refused_is text) ∙ e))

-- blanks after a text of any kind leave the verdict, as long as there are no more than 32 bytes
pub refused_padded : (text : List ℕ) (n : ℕ) → length text + n ≤ 32 → refused (text ++ replicate n 0x20) ≡ refused text
refused_padded text n f =
    let k = length-replicate {A = ℕ} n 0x20 in
    let l = length-append text (replicate n 0x20) in
    let b : length (text ++ replicate n 0x20) ≤ 32 = omega arith in
    let c : length text ≤ 32 = omega arith in
    refused_is (text ++ replicate n 0x20) ∙ rw (remains_padded text n, le-leb _ 32 b, refused_is text, le-leb _ 32 c)

module _ (name : List ℕ) (h : is_name name ≡ true) where
  name_plain : remains name ≡ name
  unfolding is_name
  name_plain = no_blank_remains name (no_blanks name (and_r (between 1 (length name) 16) _ h))

  name_good : refused name ≡ false
  unfolding is_name
  name_good =
      let l = leb-true (length name) 16 (and_r (leb 1 (length name)) _ (and_l (between 1 (length name) 16) _ h)) in
      refused_is name ∙ rw (name_plain, h, le-leb (length name) 32 (omega arith))

  -- a name and then blanks, 32 bytes at most: it isn't refused, and what remains is the name
  pub name_passes : (n : ℕ) → length name + n ≤ 32 → refused (name ++ replicate n 0x20) ≡ false
  name_passes n f = refused_padded name n f ∙ name_good

  pub name_remains : (n : ℕ) → remains (name ++ replicate n 0x20) ≡ name
  name_remains n = remains_padded name n ∙ name_plain

  -- a name that isn't padded stays as it is
  pub name_stays : shortened name ≡ name
  unfolding shortened
  name_stays = rw (name_good, name_plain)

-- what rows see is a name of document 01 exactly where the text passes
pub seen_name : (text : List ℕ) → is_name (shortened text) ≡ not (refused text)
unfolding shortened
seen_name text = go (refused text) refl
  where
    no_name : refused text ≡ true → (b : Bool) → is_name text ≡ b → b ≡ false
    no_name e true h = clash e (name_good text h)
    no_name e false h = refl

    go : (w : Bool) → refused text ≡ w → is_name (cond w text (remains text)) ≡ not w
    go true e = no_name e (is_name text) refl
    go false e = passed_name text e

-- a text that is refused stays as it is; one that isn't is the same with blanks after it
pub refused_stays : (text : List ℕ) → refused text ≡ true → shortened text ≡ text
unfolding shortened
refused_stays text e = rw e

pub shortened_padded : (text : List ℕ) (n : ℕ) → length text + n ≤ 32 → refused text ≡ false
    → shortened (text ++ replicate n 0x20) ≡ shortened text
unfolding shortened
shortened_padded text n f e = rw (refused_padded text n f, e, remains_padded text n)

-- ── Rows see the front of the text ──
pub seen_front : (text : List ℕ) → take (length (shortened text)) text ≡ shortened text
unfolding shortened
seen_front text = go (refused text)
  where
    go : (w : Bool) → take (length (cond w text (remains text))) text ≡ cond w text (remains text)
    go true = take-length text
    go false = remains_front text
