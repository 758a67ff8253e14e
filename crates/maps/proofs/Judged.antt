-- The runs show what they are there for.
use mathlib.Core.Path.{◌≡◌, refl}
use mathlib.Core.Bool.{true}
use Rattle.lists.specs.Lists.{every, every_two, any, how_many, where_is, without, fill, same_list}
use Rattle.records.specs.Names.{is_name, in_bytes, same_name, head_or0, zero_ended, holds_name}
use Rattle.records.specs.Maps.{is_map, in_map}
use Rattle.rules.specs.State.{port_of, record_of}
use Rattle.rules.specs.Sound as base_sound
use Rattle.rules.specs.Sound.{port_in_range, spot_in_range, status_in_range, carrier_in_range, in_range, other_name, tie_kept, tie_held, ties_agree}
use Rattle.rules.specs.Sound.{place_agrees, other_spot, few_expected, port_agrees, open_agrees}
use Rattle.rules.specs.Seen.{narrow, name_stands, tie_stands, how_many_expected, spot_taken, some_open, see}
use Rattle.rules.specs.Row.{lower, lowest, enact, placed, unknown_pod, found_or_new}
use Rattle.rules.specs.Verdict.{takes_unknown_pod, can_proceed}
use Rattle.rules.specs.Reading.{elsewhere, matching, displaced}
use Rattle.rules.specs.Rows as base
use Rattle.rules.specs.Reports.{report_if, tie_number, by_port, each, by_carrier, differences}
use Rattle.follow.specs.Follow.{followed}
use Rattle.maps.specs.Expected.{is_expected, equals, carries, new_map}
use Rattle.maps.specs.Sound.{sound}
use Rattle.maps.specs.Rows.{codes_in, row_of}
use Rattle.maps.specs.Outcome.{answer_in, state_after}
use Rattle.maps.specs.Judged.{cases, smooth, after, ends, shown, unverified, equal_there, reported_there}

pub all_shown : every shown cases ≡ true
unfolding every any how_many where_is without fill same_list is_name in_bytes same_name is_map in_map
    port_of record_of narrow name_stands tie_stands how_many_expected spot_taken some_open see lower lowest enact placed unknown_pod found_or_new
    takes_unknown_pod can_proceed elsewhere matching displaced base.row_of followed
    is_expected equals carries new_map codes_in row_of answer_in state_after smooth after ends shown
all_shown = refl

-- an equal map is OK whatever the ID, and reported once
pub record AtOnce : Type 0 where
  pub is_sound : sound unverified ≡ true
  pub becomes_ok : ends unverified equal_there ≡ true
  pub reported : differences unverified.base (state_after unverified equal_there.input).base ≡ reported_there

pub at_once : AtOnce
unfolding every every_two any how_many where_is without fill same_list is_name in_bytes same_name head_or0 zero_ended holds_name is_map in_map
    port_in_range spot_in_range status_in_range carrier_in_range in_range other_name tie_kept tie_held ties_agree place_agrees other_spot few_expected
    port_agrees open_agrees base_sound.sound sound port_of record_of narrow name_stands tie_stands how_many_expected spot_taken some_open see
    lower lowest enact base.row_of followed report_if tie_number by_port each by_carrier differences
    is_expected equals carries new_map codes_in row_of answer_in state_after ends
at_once = record { is_sound = refl; becomes_ok = refl; reported = refl }
