-- The cases are what the table says.
use mathlib.Core.Path.{◌≡◌, refl}
use mathlib.Core.Bool.{true}
use Rattle.lists.specs.Lists.{every, every_two, any, how_many, where_is, without, fill, same_list}
use Rattle.records.specs.Names.{is_name, in_bytes, same_name, head_or0, zero_ended, holds_name}
use Rattle.records.specs.Maps.{is_map, in_map}
use Rattle.rules.specs.State.{port_of, record_of, in_tool, set_up}
use Rattle.rules.specs.Sound.{port_in_range, spot_in_range, status_in_range, carrier_in_range, in_range, other_name, tie_kept, tie_held}
use Rattle.rules.specs.Sound.{ties_agree, place_agrees, other_spot, few_expected, port_agrees, open_agrees, sound}
use Rattle.rules.specs.Sound.{zero_port, zero_carrier, unused_zero, sound_tool}
use Rattle.rules.specs.Seen.{narrow, name_stands, tie_stands, how_many_expected, spot_taken, some_open, see}
use Rattle.rules.specs.Row.{lower, lowest, enact, placed, unknown_pod, found_or_new}
use Rattle.rules.specs.Verdict.{takes_unknown_pod, can_proceed, can_cancel, cancel_at, cancel_port, failed}
use Rattle.rules.specs.Reading.{elsewhere, matching, displaced}
use Rattle.rules.specs.Rows.{row_of}
use Rattle.rules.specs.Reports.{listed, report_if, tie_number, by_port, each, by_carrier, differences}
use Rattle.rules.specs.Outcome.{answer_in, state_after, outcome_in, outcome}
use Rattle.logs.specs.Layout.{read_head, input_size, input_in, report_size, reports_size, answer_size, entry_size, shown_in}
use Rattle.logs.specs.Written.{text_of, subject_of, report, reports, shown, input, entries}
use Rattle.logs.specs.Judging.{shows, judging, judge}
use Rattle.logs.specs.Cases.{cases, holds, repeated}

pub all_cases : every holds cases ≡ true
unfolding every every_two any how_many where_is without fill same_list is_name in_bytes same_name head_or0 zero_ended holds_name is_map in_map
    port_of record_of in_tool set_up port_in_range spot_in_range status_in_range carrier_in_range in_range other_name tie_kept tie_held ties_agree
    place_agrees other_spot few_expected port_agrees open_agrees sound zero_port zero_carrier unused_zero sound_tool
    narrow name_stands tie_stands how_many_expected spot_taken some_open see lower lowest enact placed unknown_pod found_or_new
    takes_unknown_pod can_proceed can_cancel cancel_at cancel_port failed elsewhere matching displaced
    row_of listed report_if tie_number by_port each by_carrier differences answer_in state_after outcome_in outcome
    read_head input_size input_in report_size reports_size answer_size entry_size shown_in text_of subject_of report reports shown input entries
    shows judging judge holds repeated
all_cases = refl
