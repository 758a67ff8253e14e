-- An item is a list of items, or a format code with data.
use Rattle.std.specs.Prelude.{ℕ, Bool, true, ◌&&◌, List, [], ◌∷◌, take, drop}
use Rattle.items.specs.Formats.{LIST, holds_one}
use Rattle.items.specs.declared.head.Span.{Span}

mutual
  pub data Item (A : Type 0) : Type 0 where
    leaf : ℕ → A → Item A
    list : Items A → Item A

  pub data Items (A : Type 0) : Type 0 where
    none : Items A
    ◌then◌ : Item A → Items A → Items A

infixr 50 ◌then◌
module _ {A : Type 0} where
  -- the items in a list, one after the other
  unfoldable pub in_order : Items A → List (Item A)
  in_order none = []
  in_order (x then xs) = x ∷ in_order xs

  unfoldable pub gathered : List (Item A) → Items A
  gathered [] = none
  gathered (x ∷ l) = x then gathered l

  unfoldable pub elements : Item A → List (Item A)
  elements (leaf code a) = []
  elements (list xs) = in_order xs

  unfoldable pub code_of : Item A → ℕ
  code_of (leaf code a) = code
  code_of (list xs) = LIST

-- where an item's data stands, and the bytes that stand there; a list has none of its own
abbrev pub nowhere : Span
nowhere = record { at = 0; many = 0 }

unfoldable pub span_of : Item Span → Span
span_of (leaf code s) = s
span_of (list xs) = nowhere

abbrev pub bytes_at : List ℕ → Span → List ℕ
bytes_at m s = take s.many (drop s.at m)

-- no item
abbrev pub nothing : Item Span
nothing = leaf 0o77 nowhere

-- every number and boolean item holds one value
unfoldable mutual
  pub single : Item Span → Bool
  single (leaf code s) = holds_one code s.many
  single (list xs) = single_in xs

  pub single_in : Items Span → Bool
  single_in none = true
  single_in (x then xs) = single x && single_in xs
