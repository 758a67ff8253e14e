-- The runs give what they are there to show, and each pair of row and answer that the request changes or adds is among them.
use mathlib.Core.Path.{◌≡◌, refl}
use mathlib.Core.Bool.{true}
use mathlib.Core.List.{map}
use Rattle.lists.specs.Lists.{every, any, how_many, where_is, without, fill, same_list}
use Rattle.records.specs.Names.{is_name, in_bytes, same_name}
use Rattle.records.specs.Maps.{is_map, in_map}
use Rattle.rules.specs.State.{port_of, record_of}
use Rattle.rules.specs.Seen.{narrow, name_stands, tie_stands, how_many_expected, spot_taken, some_open, see}
use Rattle.rules.specs.Row as row
use Rattle.rules.specs.Row.{lower, lowest, placed, unknown_pod, found_or_new}
use Rattle.rules.specs.Verdict.{takes_unknown_pod, can_proceed, can_cancel, cancel_at, cancel_port, failed}
use Rattle.rules.specs.Reading.{elsewhere, matching, displaced}
use Rattle.rules.specs.Rows as base
use Rattle.rules.specs.Reports.{report_if, tie_number, by_port, each, by_carrier, differences}
use Rattle.follow.specs.Follow.{followed}
use Rattle.maps.specs.Expected.{is_expected, equals, carries, new_map}
use Rattle.maps.specs.Rows as maps-rows
use Rattle.maps.specs.Outcome as maps
use Rattle.maps.specs.Projection as maps-runs
use Rattle.queue.specs.Requests.{carrier_of, may_leave, only}
use Rattle.queue.specs.Rows.{until_zero, row_of}
use Rattle.queue.specs.Outcome.{answers_in, answer_in, state_after}
use Rattle.queue.specs.Cases.{Line, Result, smooth, after, result_of, cases}
use Rattle.queue.specs.Reachable.{allowed, shown_by}

abbrev said_of : Line → Result
said_of l = l.said

abbrev given_of : Line → Result
given_of l = result_of l.asked

pub all_shown : map given_of cases ≡ map said_of cases
unfolding every any how_many where_is without fill same_list is_name in_bytes same_name is_map in_map
    port_of record_of narrow name_stands tie_stands how_many_expected spot_taken some_open see lower lowest row.enact placed unknown_pod found_or_new
    takes_unknown_pod can_proceed can_cancel cancel_at cancel_port failed elsewhere matching displaced base.row_of
    report_if tie_number by_port each by_carrier differences followed is_expected equals carries new_map
    maps-rows.codes_in maps-rows.row_of maps.answer_in maps.state_after maps-runs.reached
    carrier_of may_leave only until_zero row_of answers_in answer_in state_after smooth after result_of
all_shown = refl

pub all_allowed : every (shown_by cases) allowed ≡ true
unfolding every any shown_by
all_allowed = refl
