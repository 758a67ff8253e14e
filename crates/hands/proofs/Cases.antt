-- The runs give what they are there to show, and each pair of row and answer that the request changes or adds is among them.
use mathlib.Core.Path.{◌≡◌, refl}
use mathlib.Core.Bool.{true}
use mathlib.Core.List.{map}
use Rattle.lists.specs.Lists.{every, any, how_many, where_is, without, fill, same_list}
use Rattle.records.specs.Names.{is_name, in_bytes, same_name}
use Rattle.records.specs.Maps.{is_map, in_map}
use Rattle.rules.specs.State.{port_of, record_of}
use Rattle.rules.specs.Seen.{narrow, name_stands, tie_stands, how_many_expected, spot_taken, some_open, see}
use Rattle.rules.specs.Row as row
use Rattle.rules.specs.Row.{lower, lowest, placed, unknown_pod, found_or_new}
use Rattle.rules.specs.Verdict.{takes_unknown_pod, can_proceed, can_cancel, cancel_at, cancel_port, failed}
use Rattle.rules.specs.Reading.{elsewhere, matching, displaced}
use Rattle.rules.specs.Rows as base
use Rattle.rules.specs.Reports.{report_if, tie_number, by_port, each, by_carrier, differences}
use Rattle.follow.specs.Follow.{followed}
use Rattle.maps.specs.Expected.{is_expected, equals, carries, new_map}
use Rattle.maps.specs.Rows as maps-rows
use Rattle.maps.specs.Outcome as maps
use Rattle.maps.specs.Projection as maps-runs
use Rattle.queue.specs.Requests.{carrier_of, may_leave, only}
use Rattle.queue.specs.Rows as queue-rows
use Rattle.queue.specs.Outcome as queue
use Rattle.prediction.specs.Model.{next, passed, last_of}
use Rattle.prediction.specs.Predictions.{is_soon, is_late}
use Rattle.prediction.specs.State.{first_prediction}
use Rattle.prediction.specs.Sound.{is_ready}
use Rattle.prediction.specs.Outcome as prediction
use Rattle.prediction.specs.Outcome.{says_of, grounds_of, all_along, all_told, written, own_facts, all_facts, below_in}
use Rattle.wafers.specs.Outcome as wafers
use Rattle.hands.specs.Alarms.{settled}
use Rattle.hands.specs.State.{alarm_of}
use Rattle.hands.specs.Rows.{row_of}
use Rattle.hands.specs.Outcome.{answer_below, reports_below, answer_in, all_settled, alarms_told, state_after, reports_in}
use Rattle.hands.specs.Cases.{Line, Result, smooth, after, result_of, cases}
use Rattle.hands.specs.Reachable.{allowed, shown_by}

abbrev said_of : Line → Result
said_of l = l.said

abbrev given_of : Line → Result
given_of l = result_of l.asked

pub all_cases : map given_of cases ≡ map said_of cases
unfolding every any how_many where_is without fill same_list is_name in_bytes same_name is_map in_map
    port_of record_of narrow name_stands tie_stands how_many_expected spot_taken some_open see lower lowest row.enact placed unknown_pod found_or_new
    takes_unknown_pod can_proceed can_cancel cancel_at cancel_port failed elsewhere matching displaced base.row_of
    report_if tie_number by_port each by_carrier differences followed is_expected equals carries new_map
    maps-rows.codes_in maps-rows.row_of maps.answer_in maps.state_after maps-runs.reached
    carrier_of may_leave only queue-rows.until_zero queue-rows.row_of queue.answers_in queue.answer_in queue.state_after queue.goes_in queue.made_in
    next passed last_of is_soon is_late first_prediction is_ready says_of grounds_of prediction.answer_in prediction.told all_along all_told written
    own_facts all_facts below_in prediction.state_after prediction.reports_in prediction.reached
    wafers.answer_in wafers.stands_for wafers.state_after wafers.told_of wafers.reached
    settled alarm_of row_of answer_below reports_below answer_in all_settled alarms_told state_after reports_in smooth after result_of
all_cases = refl

-- every allowed pair of row and answer is given by some run
pub all_allowed : every (shown_by cases) allowed ≡ true
unfolding every any shown_by
all_allowed = refl
