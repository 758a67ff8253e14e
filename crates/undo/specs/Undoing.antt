-- Request P10: pairs of inputs, in the whole machine.
use Rattle.std.specs.Prelude.{◌≡◌, Bool, true, not, ◌&&◌}
use Rattle.rules.specs.declared.row.Seen.{Seen}
use Rattle.rules.specs.Seen.{see}
use Rattle.rules.specs.Undoing.{Pair, is_pair, same_port, same_carrier, always, binding, announcing, reserving, releasing, loading}
use Rattle.rules.specs.Undoing.{changing_access, taking_out, opening_door}
use Rattle.wafers.specs.Outcome.{Brought}
use Rattle.hands.specs.State.{Handled, base_of}
use Rattle.hands.specs.Sound.{sound}
use Rattle.hands.specs.Rows.{manual, in_auto}
use Rattle.hands.specs.Outcome.{answer_in, state_after}

-- no start by hand in AUTO: document 01 knows no such start, and here it raises the alarm
unfoldable pub no_violation : Seen → Bool
no_violation x = not (manual x && in_auto x)

-- UnloadStart(port, by whom) and UnloadFail(port)
abbrev pub unloading : Pair
unloading = record { row = 24; undoing = 26; alike = same_port; when = no_violation }

-- CarrierOut(name, port), which is queued, and CancelCarrierOut(name)
abbrev pub queueing : Pair
queueing = record { row = 7; undoing = 29; alike = same_carrier; when = always }

-- After i, j is accepted, and the whole state is the one before i: records in their order, maps, queue, times, predictions and alarms.
pub record TakenBack (s : Handled) (i j : Brought) : Type 0 where
  pub accepted : answer_in (state_after s i) j ≡ 0
  pub back : state_after (state_after s i) j ≡ s

-- from any sound state, where i is accepted
abbrev pub Undoes : Pair → Type 0
Undoes p = (s : Handled) (i j : Brought) → sound s ≡ true → is_pair p i.timed.input j.timed.input ≡ true
    → p.when (see (base_of s) i.timed.input) ≡ true → answer_in s i ≡ 0 → TakenBack s i j

-- What a planner may count on.
pub record Planner : Type 0 where
  -- bookings
  pub bound : Undoes binding
  pub announced : Undoes announcing
  pub reserved : Undoes reserving
  pub released : Undoes releasing
  pub queued : Undoes queueing
  -- movements, modes and doors
  pub unloads : Undoes unloading
  pub loads : Undoes loading
  pub changes_access : Undoes changing_access
  pub taken_out : Undoes taking_out
  pub opened : Undoes opening_door
