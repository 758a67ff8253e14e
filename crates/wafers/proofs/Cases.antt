-- The runs of input 35 give what they are there to show.
use mathlib.Core.Path.{◌≡◌, refl}
use mathlib.Core.Bool.{true}
use mathlib.Core.List.{map}
use lib.Ieee.{of_bits}
use Rattle.lists.specs.Lists.{every, any, how_many, where_is, without, fill, same_list}
use Rattle.records.specs.Names.{is_name, in_bytes, same_name}
use Rattle.records.specs.Maps.{is_map, in_map}
use Rattle.rules.specs.State.{port_of, record_of}
use Rattle.rules.specs.Seen.{narrow, name_stands, tie_stands, how_many_expected, spot_taken, some_open, see}
use Rattle.rules.specs.Row as row
use Rattle.rules.specs.Row.{lower, lowest, placed, unknown_pod, found_or_new}
use Rattle.rules.specs.Verdict.{takes_unknown_pod, can_proceed, can_cancel, cancel_at, cancel_port, failed}
use Rattle.rules.specs.Reading.{elsewhere, matching, displaced}
use Rattle.rules.specs.Rows as base
use Rattle.rules.specs.Reports.{report_if, tie_number, by_port, each, by_carrier, differences}
use Rattle.follow.specs.Follow.{followed}
use Rattle.maps.specs.Expected.{is_expected, equals, carries, new_map}
use Rattle.maps.specs.Rows as maps-rows
use Rattle.maps.specs.Outcome as maps
use Rattle.maps.specs.Projection as maps-runs
use Rattle.queue.specs.Requests.{carrier_of, may_leave, only}
use Rattle.queue.specs.Rows.{until_zero, row_of}
use Rattle.queue.specs.Outcome as queue
use Rattle.prediction.specs.Model.{next, passed, last_of}
use Rattle.prediction.specs.Predictions.{is_soon, is_late}
use Rattle.prediction.specs.State.{first_prediction}
use Rattle.prediction.specs.Sound.{is_ready}
use Rattle.prediction.specs.Outcome as outcome
use Rattle.prediction.specs.Outcome.{says_of, grounds_of, answer_in, all_along, all_told, written, own_facts, all_facts, below_in, state_after, reports_in}
use Rattle.prediction.specs.Cases.{Result, smooth, after}
use Rattle.ticks.specs.Times.{ticks, timely}
use Rattle.ticks.specs.Wafers as wafers
use Rattle.wafers.specs.Outcome as ours
use Rattle.wafers.specs.Reachable.{allowed, shown_by}
use Rattle.wafers.specs.Cases.{Line, result_of, conditions}

abbrev said_of : Line → Result
said_of l = l.said

abbrev given_of : Line → Result
given_of l = result_of l.asked

pub all_cases : map given_of conditions ≡ map said_of conditions
unfolding every any how_many where_is without fill same_list is_name in_bytes same_name is_map in_map
    port_of record_of narrow name_stands tie_stands how_many_expected spot_taken some_open see lower lowest row.enact placed unknown_pod found_or_new
    takes_unknown_pod can_proceed can_cancel cancel_at cancel_port failed elsewhere matching displaced base.row_of
    report_if tie_number by_port each by_carrier differences followed is_expected equals carries new_map
    maps-rows.codes_in maps-rows.row_of maps.answer_in maps.state_after maps-runs.reached
    carrier_of may_leave only until_zero row_of queue.answers_in queue.answer_in queue.state_after queue.goes_in queue.made_in
    next passed last_of is_soon is_late first_prediction is_ready says_of grounds_of answer_in outcome.told all_along all_told written own_facts all_facts
    below_in state_after reports_in outcome.reached smooth after of_bits ticks timely wafers.wafers_in wafers.total_of wafers.rounded_up wafers.fits wafers.good
    wafers.wafers_from ours.good ours.answer_in ours.stands_for ours.told_of result_of
all_cases = refl

-- every allowed answer is given by some run
pub all_allowed : every (shown_by conditions) allowed ≡ true
unfolding every any shown_by
all_allowed = refl
