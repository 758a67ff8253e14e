-- Each condition of a row is shown by a pair, and none is left out.
use mathlib.Core.Path.{◌≡◌, refl}
use mathlib.Core.Bool.{true}
use Rattle.lists.specs.Lists.{every, every_two, any, how_many, where_is, without, fill, same_list}
use Rattle.records.specs.Names.{is_name, in_bytes, same_name, head_or0, zero_ended, holds_name}
use Rattle.records.specs.Maps.{is_map, in_map}
use Rattle.rules.specs.State.{port_of, record_of, set_up}
use Rattle.rules.specs.Sound.{port_in_range, spot_in_range, status_in_range, carrier_in_range, in_range, other_name, tie_kept, tie_held}
use Rattle.rules.specs.Sound.{ties_agree, place_agrees, other_spot, few_expected, port_agrees, open_agrees, sound}
use Rattle.rules.specs.Seen.{narrow, name_stands, tie_stands, how_many_expected, spot_taken, some_open, see}
use Rattle.rules.specs.Row.{lower, lowest, enact, placed, unknown_pod, found_or_new}
use Rattle.rules.specs.Booking.{meant, meant_port, meant_stands, one_pair}
use Rattle.rules.specs.Verdict.{takes_unknown_pod, can_proceed, can_cancel, cancel_at, cancel_port, failed}
use Rattle.rules.specs.Reading.{elsewhere, matching, displaced}
use Rattle.rules.specs.Rows.{row_of}
use Rattle.rules.specs.Outcome.{answer_in, state_after}
use Rattle.rules.specs.Run.{run}
use Rattle.rules.specs.Reachable.{smooth}
use Rattle.rules.specs.Conditions.{asks}
use Rattle.rules.specs.Pairs.{differing, others, answered, shows, shown_of, all_below, complete}
use Rattle.rules.specs.EveryPair.{pairs, all_rows}

pub pairs_show : every shows pairs ≡ true
unfolding every every_two any how_many where_is without fill same_list is_name in_bytes same_name head_or0 zero_ended holds_name is_map in_map
    port_in_range spot_in_range status_in_range carrier_in_range in_range other_name tie_kept tie_held ties_agree place_agrees other_spot few_expected
    port_agrees open_agrees sound port_of record_of set_up narrow name_stands tie_stands how_many_expected spot_taken some_open see lower lowest enact
    placed unknown_pod found_or_new meant meant_port meant_stands one_pair takes_unknown_pod can_proceed can_cancel cancel_at cancel_port failed
    elsewhere matching displaced row_of answer_in state_after run smooth asks differing others answered shows
pairs_show = refl

-- no condition of any row is left out
pub pairs_complete : every (complete pairs) all_rows ≡ true
unfolding every any asks shown_of all_below complete
pairs_complete = refl
