-- The edges of every range are what the table says.
use mathlib.Core.Path.{◌≡◌, refl}
use mathlib.Core.Bool.{true}
use Rattle.lists.specs.Lists.{every, any, how_many, where_is, without, fill, same_list}
use Rattle.records.specs.Names.{is_name, in_bytes, same_name}
use Rattle.records.specs.Maps.{is_map, in_map}
use Rattle.rules.specs.State.{port_of, record_of, set_up}
use Rattle.rules.specs.Seen.{narrow, name_stands, tie_stands, how_many_expected, spot_taken, some_open, see}
use Rattle.rules.specs.Row.{lower, lowest, enact, placed, unknown_pod, found_or_new}
use Rattle.rules.specs.Booking.{meant, meant_port, meant_stands, one_pair}
use Rattle.rules.specs.Verdict.{takes_unknown_pod, can_proceed, can_cancel, cancel_at, cancel_port, failed}
use Rattle.rules.specs.Reading.{elsewhere, matching, displaced}
use Rattle.rules.specs.Rows.{row_of}
use Rattle.rules.specs.Outcome.{answer_in, state_after}
use Rattle.rules.specs.Run.{run}
use Rattle.rules.specs.Reachable.{smooth}
use Rattle.rules.specs.Pairs.{answered}
use Rattle.rules.specs.Edges.{stands, edges, starts, set_ups}

pub record EachEdge : Type 0 where
  pub inputs : every stands edges ≡ true
  pub set_up : every starts set_ups ≡ true

pub each_edge : EachEdge
unfolding every any how_many where_is without fill same_list is_name in_bytes same_name is_map in_map port_of record_of set_up narrow name_stands
    tie_stands how_many_expected spot_taken some_open see lower lowest enact placed unknown_pod found_or_new meant meant_port meant_stands one_pair
    takes_unknown_pod can_proceed can_cancel cancel_at cancel_port failed elsewhere matching displaced row_of answer_in state_after run smooth
    answered stands starts
each_edge = record { inputs = refl; set_up = refl }
