-- A slot map is 25 codes, each 0 to 5.
use Rattle.std.specs.Prelude.{ℕ, Bool, ◌&&◌, List, length, eqb, leb}
use Rattle.lists.specs.Lists.{every, fill}

abbrev pub is_code : ℕ → Bool
is_code a = leb a 5

-- codes of any length are a slot map
unfoldable pub is_map : List ℕ → Bool
is_map l = eqb (length l) 25 && every is_code l

-- the first 25 codes, with zeros after fewer
unfoldable pub in_map : List ℕ → List ℕ
in_map l = fill 25 0 l
