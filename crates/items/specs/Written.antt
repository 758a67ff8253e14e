-- The text of an item with its data, so that readings can be held against it: any choice of 1 to 3 length bytes that fit.
use Rattle.std.specs.Prelude.{ℕ, zero, suc, ◌+◌, ◌*◌, ◌/◌, ◌%◌, ◌^◌, ◌≤◌, ◌<◌, Bool, true, false, not, cond, ◌&&◌, List, [], ◌∷◌, ◌++◌, length, eqb, ltb}
use Rattle.items.specs.Formats.{LIST, size_of, uneven}
use Rattle.items.specs.Tree.{Item, Items, ◌then◌, in_order, bytes_at}
use Rattle.items.specs.Tree.Item.{leaf, list}
use Rattle.items.specs.Tree.Items.{none}
use Rattle.items.specs.declared.head.Span.{Span}

-- a number in so many bytes, high byte first
unfoldable pub in_bytes : ℕ → ℕ → List ℕ
in_bytes zero n = []
in_bytes (suc k) n = in_bytes k (n / 256) ++ (n % 256 ∷ [])

-- format byte and length bytes
abbrev pub heading : ℕ → ℕ → ℕ → List ℕ
heading code lengths many = (code * 4 + lengths) ∷ in_bytes lengths many

-- How many length bytes an item has: by how many items have begun before it, and by its length.
abbrev pub Choice : Type 0
Choice = ℕ → ℕ → ℕ

abbrev pub Fits : Choice → Type 0
Fits choice = (begun n : ℕ) → n < 2 ^ 24 → (1 ≤ choice begun n) × (choice begun n ≤ 3) × (n < 256 ^ choice begun n)

-- as few as fit
unfoldable pub shortest : Choice
shortest begun n = cond (ltb n (2 ^ 8)) 1 (cond (ltb n (2 ^ 16)) 2 3)

-- how many items there are, a list and its elements
unfoldable mutual
  pub count_of : Item (List ℕ) → ℕ
  count_of (leaf code bytes) = 1
  count_of (list xs) = 1 + count_in xs

  pub count_in : Items (List ℕ) → ℕ
  count_in none = 0
  count_in (x then xs) = count_of x + count_in xs

unfoldable mutual
  pub text : Item (List ℕ) → Choice → ℕ → List ℕ
  text (leaf code bytes) choice begun = heading code (choice begun (length bytes)) (length bytes) ++ bytes
  text (list xs) choice begun =
      heading LIST (choice begun (length (in_order xs))) (length (in_order xs)) ++ text_in xs choice (begun + 1)

  pub text_in : Items (List ℕ) → Choice → ℕ → List ℕ
  text_in none choice begun = []
  text_in (x then xs) choice begun = text x choice begun ++ text_in xs choice (begun + count_of x)

-- within the limits, where so many lists may be opened one in another: known formats, whole elements, lengths of three bytes
unfoldable mutual
  pub within : Item (List ℕ) → ℕ → Bool
  within (leaf code bytes) left =
      not (eqb code LIST)
      && not (eqb (size_of code) 0)
      && not (uneven (length bytes) (size_of code))
      && ltb (length bytes) (2 ^ 24)
  within (list xs) zero = false
  within (list xs) (suc left) = ltb (length (in_order xs)) (2 ^ 24) && within_all xs left

  pub within_all : Items (List ℕ) → ℕ → Bool
  within_all none left = true
  within_all (x then xs) left = within x left && within_all xs left

-- a tree with the data of a message
unfoldable mutual
  pub data_of : Item Span → List ℕ → Item (List ℕ)
  data_of (leaf code s) m = leaf code (bytes_at m s)
  data_of (list xs) m = list (data_in xs m)

  pub data_in : Items Span → List ℕ → Items (List ℕ)
  data_in none m = none
  data_in (x then xs) m = data_of x m then data_in xs m
