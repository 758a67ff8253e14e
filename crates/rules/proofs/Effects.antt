-- The definitions change what the table of effects says, report it so, and change nothing else.
use mathlib.Core.Path.{◌≡◌, refl}
use mathlib.Core.Bool.{true}
use mathlib.Core.List.{map}
use Rattle.lists.specs.Lists.{every, every_two, any, how_many, where_is, without, fill, same_list}
use Rattle.records.specs.Names.{is_name, in_bytes, same_name, head_or0, zero_ended, holds_name}
use Rattle.records.specs.Maps.{is_map, in_map}
use Rattle.rules.specs.State.{port_of, record_of}
use Rattle.rules.specs.Sound.{port_in_range, spot_in_range, status_in_range, carrier_in_range, in_range, other_name, tie_kept, tie_held}
use Rattle.rules.specs.Sound.{ties_agree, place_agrees, other_spot, few_expected, port_agrees, open_agrees, sound}
use Rattle.rules.specs.Seen.{narrow, name_stands, tie_stands, how_many_expected, spot_taken, some_open, see}
use Rattle.rules.specs.Row.{lower, lowest, enact, placed, unknown_pod, found_or_new}
use Rattle.rules.specs.Booking.{meant, meant_port, meant_stands, one_pair}
use Rattle.rules.specs.Verdict.{takes_unknown_pod, can_proceed, can_cancel, cancel_at, cancel_port, failed}
use Rattle.rules.specs.Reading.{elsewhere, matching, displaced}
use Rattle.rules.specs.Rows.{row_of}
use Rattle.rules.specs.Reports.{report_if, tie_number, by_port, each, by_carrier, differences}
use Rattle.rules.specs.Outcome.{answer_in, state_after}
use Rattle.rules.specs.Effects.{remade, happens, booking, verdict, buffer, service, transfer, reading, opening, changes}

pub effects_happen : every happens changes ≡ true
unfolding every every_two any how_many where_is without fill same_list is_name in_bytes same_name head_or0 zero_ended holds_name is_map in_map
    port_in_range spot_in_range status_in_range carrier_in_range in_range other_name tie_kept tie_held ties_agree place_agrees other_spot few_expected
    port_agrees open_agrees sound port_of record_of narrow name_stands tie_stands how_many_expected spot_taken some_open see lower lowest enact
    placed unknown_pod found_or_new meant meant_port meant_stands one_pair takes_unknown_pod can_proceed can_cancel cancel_at cancel_port failed
    elsewhere matching displaced row_of report_if tie_number by_port each by_carrier differences answer_in state_after happens
effects_happen = refl

pub record Effects : Type 0 where
  pub booking_is : map remade booking ≡ booking
  pub verdict_is : map remade verdict ≡ verdict
  pub buffer_is : map remade buffer ≡ buffer
  pub service_is : map remade service ≡ service
  pub transfer_is : map remade transfer ≡ transfer
  pub reading_is : map remade reading ≡ reading
  pub opening_is : map remade opening ≡ opening

pub effects_are : Effects
unfolding every every_two any how_many where_is without fill same_list is_name in_bytes same_name head_or0 zero_ended holds_name is_map in_map
    port_in_range spot_in_range status_in_range carrier_in_range in_range other_name tie_kept tie_held ties_agree place_agrees other_spot few_expected
    port_agrees open_agrees sound port_of record_of narrow name_stands tie_stands how_many_expected spot_taken some_open see lower lowest enact
    placed unknown_pod found_or_new meant meant_port meant_stands one_pair takes_unknown_pod can_proceed can_cancel cancel_at cancel_port failed
    elsewhere matching displaced row_of report_if tie_number by_port each by_carrier differences answer_in state_after
effects_are = record {
  booking_is = refl;
  verdict_is = refl;
  buffer_is = refl;
  service_is = refl;
  transfer_is = refl;
  reading_is = refl;
  opening_is = refl;
}
