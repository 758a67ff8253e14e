-- The twelve rows are what the definitions give.
use mathlib.Core.Path.{◌≡◌, refl}
use Rattle.lists.specs.Lists.{every, any, how_many, where_is, without, fill, same_list}
use Rattle.records.specs.Names.{is_name, in_bytes, same_name}
use Rattle.records.specs.Maps.{is_map, in_map}
use Rattle.rules.specs.State.{port_of, record_of}
use Rattle.rules.specs.Seen.{narrow, name_stands, tie_stands, how_many_expected, spot_taken, some_open, see}
use Rattle.rules.specs.Row.{lower, lowest, enact, placed, unknown_pod, found_or_new}
use Rattle.rules.specs.Verdict.{takes_unknown_pod, can_proceed, can_cancel, cancel_at, cancel_port, failed}
use Rattle.rules.specs.Reading.{elsewhere, matching, displaced}
use Rattle.rules.specs.Rows.{row_of}
use Rattle.rules.specs.Reports.{report_if, tie_number, by_port, each, by_carrier, differences}
use Rattle.rules.specs.Outcome.{answer_in, state_after}
use Rattle.rules.specs.Run.{inputs, table}
use Rattle.rules.specs.TwelveRows.{two_ports, twelve}

pub twelve_rows : table two_ports (inputs twelve) ≡ twelve
unfolding every any how_many where_is without fill same_list is_name in_bytes same_name is_map in_map
    port_of record_of narrow name_stands tie_stands how_many_expected spot_taken some_open see lower lowest enact placed unknown_pod found_or_new
    takes_unknown_pod can_proceed can_cancel cancel_at cancel_port failed elsewhere matching displaced
    row_of report_if tie_number by_port each by_carrier differences answer_in state_after table
twelve_rows = refl
