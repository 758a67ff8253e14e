-- The run through every row is what the definitions give.
use mathlib.Core.Path.{◌≡◌, refl}
use Rattle.lists.specs.Lists.{every, any, how_many, where_is, without, fill, same_list}
use Rattle.records.specs.Names.{is_name, in_bytes, same_name}
use Rattle.records.specs.Maps.{is_map, in_map}
use Rattle.rules.specs.State.{port_of, record_of}
use Rattle.rules.specs.Seen.{narrow, name_stands, tie_stands, how_many_expected, spot_taken, some_open, see}
use Rattle.rules.specs.Row.{lower, lowest, enact, placed, unknown_pod, found_or_new}
use Rattle.rules.specs.Booking.{meant, meant_port, meant_stands, one_pair}
use Rattle.rules.specs.Verdict.{takes_unknown_pod, can_proceed, can_cancel, cancel_at, cancel_port, failed}
use Rattle.rules.specs.Reading.{elsewhere, matching, displaced}
use Rattle.rules.specs.Rows.{row_of}
use Rattle.rules.specs.Reports.{report_if, tie_number, by_port, each, by_carrier, differences}
use Rattle.rules.specs.Outcome.{answer_in, state_after}
use Rattle.rules.specs.Run.{inputs, run, table}
use Rattle.rules.specs.EveryRow.{set_up_so, every_row, ended}

pub every_row_fact : table set_up_so (inputs every_row) ≡ every_row
unfolding every any how_many where_is without fill same_list is_name in_bytes same_name is_map in_map
    port_of record_of narrow name_stands tie_stands how_many_expected spot_taken some_open see lower lowest enact placed unknown_pod found_or_new
    takes_unknown_pod can_proceed can_cancel cancel_at cancel_port failed elsewhere matching displaced meant meant_port meant_stands one_pair
    row_of report_if tie_number by_port each by_carrier differences answer_in state_after table
every_row_fact = refl

pub every_row_ends : run set_up_so (inputs every_row) ≡ ended
unfolding every any how_many where_is without fill same_list is_name in_bytes same_name is_map in_map
    port_of record_of narrow name_stands tie_stands how_many_expected spot_taken some_open see lower lowest enact placed unknown_pod found_or_new
    takes_unknown_pod can_proceed can_cancel cancel_at cancel_port failed elsewhere matching displaced meant meant_port meant_stands one_pair
    row_of answer_in state_after run
every_row_ends = refl
