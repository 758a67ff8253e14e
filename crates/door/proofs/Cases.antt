-- The runs show what they are there for.
use mathlib.Core.Path.{◌≡◌, refl}
use mathlib.Core.Bool.{true, ◌&&◌}
use Rattle.lists.specs.Lists.{every, any, how_many, where_is, without, fill, same_list}
use Rattle.records.specs.Names.{is_name, in_bytes, same_name}
use Rattle.records.specs.Maps.{is_map, in_map}
use Rattle.rules.specs.State.{port_of, record_of}
use Rattle.rules.specs.Seen.{narrow, name_stands, tie_stands, how_many_expected, spot_taken, some_open, see}
use Rattle.rules.specs.Row.{lower, lowest, enact, placed, unknown_pod, found_or_new}
use Rattle.rules.specs.Booking.{meant, meant_port, meant_stands, one_pair}
use Rattle.rules.specs.Verdict.{takes_unknown_pod, can_proceed}
use Rattle.rules.specs.Reading.{elsewhere, matching, displaced}
use Rattle.rules.specs.Rows as base
use Rattle.rules.specs.Named.{name_missing}
use Rattle.follow.specs.Follow.{followed}
use Rattle.names.specs.Check.{remains, refused, shortened}
use Rattle.maps.specs.Expected.{is_expected, equals, carries, new_map}
use Rattle.maps.specs.Rows as maps-rows
use Rattle.maps.specs.Outcome as maps
use Rattle.maps.specs.Projection as maps-runs
use Rattle.queue.specs.Requests.{carrier_of, may_leave, only}
use Rattle.queue.specs.Rows.{until_zero, row_of}
use Rattle.queue.specs.Outcome as queue
use Rattle.prediction.specs.Model.{next, passed, last_of}
use Rattle.prediction.specs.Predictions.{is_soon, is_late}
use Rattle.prediction.specs.State.{first_prediction}
use Rattle.prediction.specs.Sound.{is_ready}
use Rattle.prediction.specs.Outcome as prediction
use Rattle.prediction.specs.Outcome.{says_of, grounds_of, all_along, written, own_facts, all_facts, below_in, state_after}
use Rattle.ticks.specs.Wafers as ticks
use Rattle.wafers.specs.Outcome.{good, answer_in}
use Rattle.prediction.specs.Cases.{smooth, after}
use Rattle.door.specs.Door.{may_pad, may_pad_run}
use Rattle.door.specs.Cases.{holds, cases, timed_cases, queue_cases, pads_hold, paddings}

pub all_cases : (every (holds 0) cases && every (holds 0) timed_cases && every (holds 1) queue_cases) ≡ true
unfolding every any how_many where_is without fill same_list is_name in_bytes same_name is_map in_map port_of record_of narrow name_stands tie_stands
    how_many_expected spot_taken some_open see lower lowest enact placed unknown_pod found_or_new takes_unknown_pod can_proceed meant meant_port meant_stands one_pair elsewhere
    matching displaced base.row_of followed remains refused shortened is_expected equals carries new_map maps-rows.codes_in maps-rows.row_of
    maps.answer_in maps.state_after maps-runs.reached carrier_of may_leave only until_zero row_of queue.answers_in queue.answer_in
    queue.state_after queue.goes_in queue.made_in next passed last_of is_soon is_late first_prediction is_ready says_of grounds_of prediction.answer_in answer_in good ticks.wafers_from ticks.wafers_in ticks.total_of
    ticks.rounded_up ticks.fits ticks.good all_along written
    own_facts all_facts below_in state_after smooth after holds
all_cases = refl

-- and some runs may be padded, others not
pub all_pads : every pads_hold paddings ≡ true
unfolding every name_missing may_pad may_pad_run pads_hold
all_pads = refl
