-- A release comes after the slot map: AB's only ProceedWithCarrier, for its ID, releases nothing; a second one does.
use mathlib.Core.Path.{◌≡◌, refl}
use mathlib.Core.Bool.{true, false}
use mathlib.Core.List.{List, ◌∷◌, []}
use lib.ListN.{replicate}
use Rattle.lists.specs.Lists.{every, any, how_many, where_is, without, fill, same_list}
use Rattle.records.specs.Names.{is_name, in_bytes, same_name}
use Rattle.records.specs.Maps.{is_map, in_map}
use Rattle.records.specs.Carriers.{in_access}
use Rattle.rules.specs.State.{start, port_of, record_of}
use Rattle.rules.specs.Seen.{Input, input_of, narrow, name_stands, tie_stands, how_many_expected, spot_taken, some_open, see}
use Rattle.rules.specs.Row.{lower, lowest, enact, placed, unknown_pod, found_or_new}
use Rattle.rules.specs.Verdict.{takes_unknown_pod, can_proceed}
use Rattle.rules.specs.Reading.{elsewhere, matching, displaced}
use Rattle.rules.specs.Rows.{row_of}
use Rattle.rules.specs.Outcome.{answer_in, state_after}
use Rattle.rules.specs.History.{reached, is_live, events, history, done, announced_there, verifies, verified, was_mapped, released}
use Rattle.rules.proofs.Afresh.{AB, input, ab, after, its}

-- One port, no buffer. The latest input stands first: an unannounced AB is loaded and read, and the host says yes to its ID.
abbrev pub said : List Input
said = input 5 0 AB ∷ input 16 1 AB ∷ input 14 1 [] ∷ input 13 1 [] ∷ []

-- it is opened, and its slot map is reported
abbrev pub mapped : List Input
mapped = input_of 20 0 0 AB (replicate 25 3) ∷ input 19 0 AB ∷ said

-- the host says yes again
abbrev pub said_again : List Input
said_again = input 5 0 AB ∷ mapped

abbrev pub access : Input
access = input 21 0 AB

pub record ReleasesAfterMap : Type 0 where
  pub verified_first : verified ab (history ab (events (start 1 0) mapped)) ≡ true
  pub map_reported : was_mapped ab (history ab (events (start 1 0) mapped)) ≡ true
  pub not_released : released ab (history ab (events (start 1 0) mapped)) ≡ false
  pub access_refused : answer_in (after mapped) access ≡ 7
  pub released_then : released ab (history ab (events (start 1 0) said_again)) ≡ true
  pub access_accepted : answer_in (after said_again) access ≡ 0
  pub in_access_then : in_access (its (access ∷ said_again)) ≡ true

pub releases_after_map : ReleasesAfterMap
unfolding every any how_many where_is without fill same_list is_name in_bytes same_name is_map in_map
    port_of record_of narrow name_stands tie_stands how_many_expected spot_taken some_open see lower lowest enact placed unknown_pod found_or_new
    takes_unknown_pod can_proceed elsewhere matching displaced
    row_of answer_in state_after reached events is_live history done announced_there verifies verified was_mapped released
releases_after_map = record {
  verified_first = refl;
  map_reported = refl;
  not_released = refl;
  access_refused = refl;
  released_then = refl;
  access_accepted = refl;
  in_access_then = refl;
}
