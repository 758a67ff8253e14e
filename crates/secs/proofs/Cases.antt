-- The cases are what the table says.
use mathlib.Core.Path.{◌≡◌, refl}
use mathlib.Core.Bool.{true}
use Rattle.lists.specs.Lists.{every, same_list}
use Rattle.maps.specs.Expected.{carries}
use Rattle.items.specs.Formats.{size_of, is_number, holds_one, uneven}
use Rattle.items.specs.Tree.{in_order, gathered, elements, code_of, span_of, single}
use Rattle.items.specs.Heads.{number_at, head_at, lowest, refusal_of}
use Rattle.items.specs.Reading.{read_many, read_body, read_by, read_item}
use Rattle.secs.specs.Texts.{row_of}
use Rattle.secs.specs.Shape.{has_parts, is_pair, has_map, is_map, in_shape}
use Rattle.secs.specs.Request.{refusal_in, port_in, codes_in, request_in}
use Rattle.secs.specs.Cases.{cases, shown, u1s, attributes}

pub all_shown : every shown cases ≡ true
unfolding every same_list carries size_of is_number holds_one uneven in_order gathered elements code_of span_of single number_at head_at lowest
    refusal_of read_many read_body read_by read_item row_of has_parts is_pair has_map is_map in_shape refusal_in port_in codes_in request_in shown u1s
    attributes
all_shown = refl
