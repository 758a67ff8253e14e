-- The same, found by position: the code keeps no tree. Each part begins where the one before it ends.
use Rattle.std.specs.Prelude.{ℕ, zero, suc, ◌+◌, Bool, true, false, not, cond, ◌&&◌, ◌||◌, List, [], ◌∷◌, Some, None, length, get_or, eqb, leb}
use Rattle.lists.specs.Lists.{same_list}
use Rattle.maps.specs.Expected.{carries}
use Rattle.items.specs.Formats.{LIST, ASCII, U1, is_unsigned}
use Rattle.items.specs.Tree.{bytes_at}
use Rattle.items.specs.Heads.{head_at}
use Rattle.items.specs.Reading.{read_item}
use Rattle.secs.specs.Texts.{Bind, CarrierNotification, ProceedWithCarrier, CancelCarrier, SlotMap}
use Rattle.secs.specs.declared.text.Action.{Action}
use Rattle.secs.specs.Actions.{row_of_action}
use Rattle.secs.specs.declared.parts.Parts.{Parts}
use Rattle.secs.specs.declared.request.Request.{Request}

unfoldable pub parts_at : List ℕ → Parts
parts_at m =
    let h = head_at m 0 in
    let id = read_item 5 m h.body 1 in
    let action = read_item 5 m id.at id.count in
    let name = read_item 5 m action.at action.count in
    let port = read_item 5 m name.at name.count in
    record {
      five = eqb h.code LIST && eqb h.many 5;
      id = h.body;
      action = id.at;
      name = action.at;
      port = name.at;
      pairs = port.at;
      count = port.count;
    }

abbrev pub code_at : List ℕ → ℕ → ℕ
code_at m at = (head_at m at).code

unfoldable pub kinds_at : List ℕ → Parts → Bool
kinds_at m p =
    p.five
    && is_unsigned (code_at m p.id)
    && eqb (code_at m p.action) ASCII
    && eqb (code_at m p.name) ASCII
    && eqb (code_at m p.port) U1
    && eqb (code_at m p.pairs) LIST

unfoldable pub pair_at : List ℕ → ℕ → Bool
pair_at m at = eqb (head_at m at).code LIST && eqb (head_at m at).many 2 && eqb (code_at m (head_at m at).body) ASCII

-- a pair stands there, or a U1
unfoldable pub fits_at : List ℕ → Bool → ℕ → Bool
fits_at m pairs at = cond pairs (pair_at m at) (eqb (code_at m at) U1)

-- as many, one after the other
unfoldable pub each_at : List ℕ → Bool → ℕ → ℕ → ℕ → ℕ → Bool
each_at m pairs left zero at count = true
each_at m pairs left (suc n) at count =
    fits_at m pairs at && each_at m pairs left n (read_item left m at count).at (read_item left m at count).count

-- the text that stands there
unfoldable pub named_at : List ℕ → ℕ → List ℕ → Bool
named_at m at text =
    leb ((head_at m at).body + (head_at m at).many) (length m)
    && same_list (bytes_at m (record { at = (head_at m at).body; many = (head_at m at).many })) text

unfoldable pub row_at : List ℕ → ℕ → ℕ
row_at m at =
    cond (named_at m at Bind) 1
    (cond (named_at m at CarrierNotification) 3
    (cond (named_at m at ProceedWithCarrier) 5 (cond (named_at m at CancelCarrier) 6 0)))

-- where the name of the first attribute stands, and its value
unfoldable pub name_at : List ℕ → ℕ → ℕ
name_at m pairs = (head_at m (head_at m pairs).body).body

unfoldable pub value_at : List ℕ → ℕ → ℕ
value_at m pairs = (head_at m (name_at m pairs)).body + (head_at m (name_at m pairs)).many

unfoldable pub has_map_at : List ℕ → ℕ → Bool
has_map_at m pairs = not (eqb (head_at m pairs).many 0) && named_at m (name_at m pairs) SlotMap

-- a list of 25 U1, where so many items have begun before its elements
unfoldable pub is_map_at : List ℕ → ℕ → ℕ → Bool
is_map_at m at count =
    eqb (head_at m at).code LIST && eqb (head_at m at).many 25 && each_at m false 2 25 (head_at m at).body count

unfoldable pub shape_at : List ℕ → Parts → Bool
shape_at m p =
    kinds_at m p
    && each_at m true 4 (head_at m p.pairs).many (head_at m p.pairs).body (p.count + 1)
    && (not (has_map_at m p.pairs) || is_map_at m (value_at m p.pairs) (p.count + 4))

-- the bytes of as many U1, one after the other
unfoldable pub codes_at : List ℕ → ℕ → ℕ → List ℕ
codes_at m zero at = []
codes_at m (suc n) at = get_or m (head_at m at).body 0 ∷ codes_at m n ((head_at m at).body + (head_at m at).many)

-- what the tool gets, of a message in the shape
unfoldable pub taken_at : List ℕ → Parts → Action → Request
taken_at m p action =
    let mapped = carries (row_of_action action) && has_map_at m p.pairs in
    record {
      action = action;
      port = cond (eqb (row_of_action action) 3) 0 (get_or m (head_at m p.port).body 0);
      name = record { at = (head_at m p.name).body; many = (head_at m p.name).many };
      codes = cond mapped (Some (codes_at m 25 (head_at m (value_at m p.pairs)).body)) None;
    }
