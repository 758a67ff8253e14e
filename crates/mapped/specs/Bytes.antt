-- The tool in two blocks of 1,891 bytes: document 01's tool, and what requests add.
use Rattle.std.specs.Prelude.{ℕ, ◌&&◌, List, [], get_or, eqb}
use Rattle.image.specs.Image.{tool_from}
use Rattle.follow.specs.Follow.{entries_from}
use Rattle.maps.specs.declared.codes.Codes.{Codes}
use Rattle.maps.specs.Expected.{is_expected, no_map, equals}
use Rattle.maps.specs.State.{MappedTool}

-- Bytes 0 to 899 of the second block are the expected maps, 25 a record, in record order.
abbrev pub maps_from : List ℕ → List (List ℕ)
maps_from m = entries_from m 0 25

-- the second block
abbrev pub own_in : List (List ℕ) → List ℕ
own_in m = get_or m 1 []

abbrev pub mapped_in : List (List ℕ) → MappedTool
mapped_in m = record { base = tool_from (get_or m 0 []); maps = maps_from (own_in m) }

-- what is looked at of the codes: whether they equal the map kept at k only in SlotMap
unfoldable pub codes_at : ℕ → List (List ℕ) → ℕ → List ℕ → List ℕ → Codes
codes_at number maps k map codes = record { fine = is_expected codes; equal = eqb number 20 && equals (get_or maps k no_map) map }
