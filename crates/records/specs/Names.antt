-- A name is 1 to 16 bytes, each 0x21 to 0x7E.
use Rattle.std.specs.Prelude.{ℕ, Bool, true, not, ◌&&◌, ◌||◌, List, [], ◌∷◌, length, replicate, eqb}
use Rattle.lists.specs.Lists.{between, every, fill, same_list}
use Rattle.records.specs.declared.name.Name.{Name}

abbrev pub graphic : ℕ → Bool
graphic b = between 0x21 b 0x7E

-- a text of any length is a name
unfoldable pub is_name : List ℕ → Bool
is_name l = between 1 (length l) 16 && every graphic l

-- In a record a name stands in sixteen bytes, with zeros after it.
unfoldable pub in_bytes : List ℕ → Name
in_bytes l = record { bytes = fill 16 0 l }

abbrev pub no_name : Name
no_name = record { bytes = replicate 16 0 }

unfoldable pub same_name : Name → Name → Bool
same_name a b = same_list a.bytes b.bytes

unfoldable pub head_or0 : List ℕ → ℕ
head_or0 [] = 0
head_or0 (b ∷ l) = b

-- each byte is graphic, or a zero that only zeros follow
unfoldable pub zero_ended : List ℕ → Bool
zero_ended [] = true
zero_ended (b ∷ l) = ((eqb b 0 && eqb (head_or0 l) 0) || graphic b) && zero_ended l

-- sixteen bytes hold a name
unfoldable pub holds_name : Name → Bool
holds_name n = zero_ended n.bytes && not (eqb (head_or0 n.bytes) 0)
