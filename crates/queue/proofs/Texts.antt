-- The text of a name that stands in sixteen bytes is the name.
use Prim.Native.Nat.{ℕ, suc, ◌≤◌}
use native.Mathlib.Omega.{arith}
use mathlib.Core.Path.{◌≡◌, refl, ap, ap₂, sym}
use mathlib.Core.Bool.{Bool, true, false, cond, ◌&&◌, ◌||◌}
use mathlib.Core.List.{List, [], ◌∷◌}
use lib.ListN.{length}
use lib.Dec.{eqb}
use borrow.Author.Tests.{eqb-true, leb-true, le-leb}
use Rattle.lists.specs.Lists.{every, fill}
use Rattle.lists.proofs.Bools.{clash, and_l, and_r, and_i, or_other, not_true}
use Rattle.records.specs.declared.name.Name.{Name}
use Rattle.records.specs.Names.{graphic, is_name, in_bytes, head_or0, zero_ended, holds_name}
use Rattle.queue.specs.Rows.{until_zero, text_of}

-- a byte of sixteen, and those after it
module _ (b : ℕ) (l : List ℕ) (e : zero_ended (b ∷ l) ≡ true) where
  first : ((eqb b 0 && eqb (head_or0 l) 0) || graphic b) ≡ true
  unfolding zero_ended
  first = and_l _ _ e

  rest : zero_ended l ≡ true
  unfolding zero_ended
  rest = and_r ((eqb b 0 && eqb (head_or0 l) 0) || graphic b) _ e

  -- zero is followed by zero, and any other byte is graphic
  then_zero : eqb b 0 ≡ true → head_or0 l ≡ 0
  then_zero z = go (eqb (head_or0 l) 0) refl
    where
      go : (w : Bool) → eqb (head_or0 l) 0 ≡ w → head_or0 l ≡ 0
      go true q = eqb-true (head_or0 l) 0 q
      go false q =
          let g : graphic b ≡ true = or_other (eqb b 0 && eqb (head_or0 l) 0) (graphic b) first (rw (z, q)) in
          let a = leb-true 0x21 b (and_l _ _ g) in
          let o = eqb-true b 0 z in
          absurd (omega arith)

  is_graphic : eqb b 0 ≡ false → graphic b ≡ true
  is_graphic z = or_other (eqb b 0 && eqb (head_or0 l) 0) (graphic b) first (rw z)

all_zero : (l : List ℕ) → zero_ended l ≡ true → head_or0 l ≡ 0 → fill (length l) 0 [] ≡ l
unfolding fill head_or0
all_zero [] e z = refl
all_zero (b ∷ l) e z =
    let t : eqb b 0 ≡ true = rw z in
    ap₂ ◌∷◌ (sym z) (all_zero l (rest b l e) (then_zero b l e t))

refilled : (l : List ℕ) → zero_ended l ≡ true → fill (length l) 0 (until_zero l) ≡ l
unfolding fill until_zero
refilled [] e = refl
refilled (b ∷ l) e = go (eqb b 0) refl (refilled l (rest b l e))
  where
    go : (w : Bool) → eqb b 0 ≡ w → fill (length l) 0 (until_zero l) ≡ l
        → fill (suc (length l)) 0 (cond w [] (b ∷ until_zero l)) ≡ b ∷ l
    go true z r = ap₂ ◌∷◌ (sym (eqb-true b 0 z)) (all_zero l (rest b l e) (then_zero b l e z))
    go false z r = ap (λ t. b ∷ t) r

graphic_text : (l : List ℕ) → zero_ended l ≡ true → every graphic (until_zero l) ≡ true
unfolding every until_zero
graphic_text [] e = refl
graphic_text (b ∷ l) e = go (eqb b 0) refl (graphic_text l (rest b l e))
  where
    go : (w : Bool) → eqb b 0 ≡ w → every graphic (until_zero l) ≡ true → every graphic (cond w [] (b ∷ until_zero l)) ≡ true
    go true z r = refl
    go false z r = and_i (is_graphic b l e z) r

no_longer : (l : List ℕ) → length (until_zero l) ≤ length l
unfolding until_zero
no_longer [] = omega arith
no_longer (b ∷ l) = go (eqb b 0) (no_longer l)
  where
    go : (w : Bool) → length (until_zero l) ≤ length l → length (cond w [] (b ∷ until_zero l)) ≤ suc (length l)
    go true r = omega arith
    go false r = omega arith

some_byte : (l : List ℕ) → eqb (head_or0 l) 0 ≡ false → 1 ≤ length (until_zero l)
unfolding head_or0 until_zero
some_byte [] e = clash refl e
some_byte (b ∷ l) e = rw e (omega arith)

module _ (n : Name) (h : holds_name n ≡ true) (w : length n.bytes ≡ 16) where
  ended : zero_ended n.bytes ≡ true
  unfolding holds_name
  ended = and_l _ _ h

  pub text_in_bytes : in_bytes (text_of n) ≡ n
  unfolding in_bytes
  text_in_bytes = rw (← w) (rw (refilled n.bytes ended))

  pub text_is_name : is_name (text_of n) ≡ true
  unfolding is_name holds_name
  text_is_name =
      let a = some_byte n.bytes (not_true _ (and_r (zero_ended n.bytes) _ h)) in
      let b = no_longer n.bytes in
      and_i (and_i (le-leb 1 _ a) (le-leb (length (text_of n)) 16 (omega arith))) (graphic_text n.bytes ended)
