-- S3F17: a list of five, being data id, action, carrier name, port, and a list of attribute pairs.
use Rattle.std.specs.Prelude.{ℕ, Bool, not, ◌&&◌, ◌||◌, List, length, get_or, eqb}
use Rattle.lists.specs.Lists.{every, same_list}
use Rattle.items.specs.Formats.{LIST, ASCII, U1, is_unsigned}
use Rattle.items.specs.Tree.{Item, elements, code_of, span_of, bytes_at, nothing, single}
use Rattle.items.specs.declared.head.Span.{Span}
use Rattle.secs.specs.Texts.{SlotMap, row_of}

-- a part of a list, from 0; no item past its end
abbrev pub part : ℕ → Item Span → Item Span
part k x = get_or (elements x) k nothing

abbrev pub is_list : Item Span → Bool
is_list x = eqb (code_of x) LIST

abbrev pub is_list_of : ℕ → Item Span → Bool
is_list_of n x = is_list x && eqb (length (elements x)) n

abbrev pub is_text : Item Span → Bool
is_text x = eqb (code_of x) ASCII

abbrev pub is_u1 : Item Span → Bool
is_u1 x = eqb (code_of x) U1

abbrev pub text_of : List ℕ → Item Span → List ℕ
text_of m x = bytes_at m (span_of x)

-- a U1 that holds one value is one byte
abbrev pub byte_of : List ℕ → Item Span → ℕ
byte_of m x = get_or m (span_of x).at 0

-- ── The five parts ──
abbrev pub data_id : Item Span → Item Span
data_id x = part 0 x

abbrev pub action : Item Span → Item Span
action x = part 1 x

abbrev pub carrier_name : Item Span → Item Span
carrier_name x = part 2 x

abbrev pub port : Item Span → Item Span
port x = part 3 x

abbrev pub attributes : Item Span → Item Span
attributes x = part 4 x

unfoldable pub has_parts : Item Span → Bool
has_parts x =
    is_list_of 5 x
    && is_unsigned (code_of (data_id x))
    && is_text (action x)
    && is_text (carrier_name x)
    && is_u1 (port x)
    && is_list (attributes x)

-- an attribute is a pair: a name, and a value that is any item
unfoldable pub is_pair : Item Span → Bool
is_pair x = is_list_of 2 x && is_text (part 0 x)

-- ── A first attribute SlotMap must be a list of 25 U1 ──
abbrev pub first_attribute : Item Span → Item Span
first_attribute x = part 0 (attributes x)

unfoldable pub has_map : List ℕ → Item Span → Bool
has_map m x = same_list (text_of m (part 0 (first_attribute x))) SlotMap

abbrev pub map_of : Item Span → Item Span
map_of x = part 1 (first_attribute x)

unfoldable pub is_map : Item Span → Bool
is_map x = is_list_of 25 x && every is_u1 (elements x)

abbrev pub row_in : List ℕ → Item Span → ℕ
row_in m x = row_of (text_of m (action x))

-- the whole message; a number or boolean item holds one value, wherever it stands
unfoldable pub in_shape : List ℕ → Item Span → Bool
in_shape m x =
    has_parts x
    && every is_pair (elements (attributes x))
    && (not (has_map m x) || is_map (map_of x))
    && single x
    && not (eqb (row_in m x) 0)
