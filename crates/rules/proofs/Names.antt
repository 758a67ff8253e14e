-- Laws of names.
use mathlib.Core.Path.{◌≡◌, refl, sym}
use mathlib.Core.Bool.{Bool, true, false}
use mathlib.Core.List.{List, [], ◌∷◌}
use Prim.Native.Nat.{ℕ}
use lib.Dec.{eqb}
use borrow.Author.Tests.{eqb-true, eqb-false, eq-eqb, ne_eqb}
use Rattle.lists.specs.Lists.{same_list}
use Rattle.lists.proofs.Tests.{list_is, list_same}
use Rattle.records.specs.declared.name.Name.{Name}
use Rattle.records.specs.Names.{same_name}

pub name_is : (a b : Name) → same_name a b ≡ true → a ≡ b
unfolding same_name
name_is a b e = rw (list_is a.bytes b.bytes e)

pub name_same : (a b : Name) → a ≡ b → same_name a b ≡ true
unfolding same_name
name_same a b e = rw e (list_same b.bytes)

eqb_sym : (x y : ℕ) → eqb x y ≡ eqb y x
eqb_sym x y = go (eqb x y) refl
  where
    go : (b : Bool) → eqb x y ≡ b → b ≡ eqb y x
    go true e = sym (eq-eqb y x (sym (eqb-true x y e)))
    go false e = sym (ne_eqb y x (λ d. eqb-false x y e (sym d)))

list_sym : (a b : List ℕ) → same_list a b ≡ same_list b a
unfolding same_list
list_sym [] [] = refl
list_sym [] (y ∷ b) = refl
list_sym (x ∷ a) [] = refl
list_sym (x ∷ a) (y ∷ b) = rw (eqb_sym x y, list_sym a b)

pub name_sym : (a b : Name) → same_name a b ≡ same_name b a
unfolding same_name
name_sym a b = list_sym a.bytes b.bytes
