-- Pairs of rows: an input, and another after it that takes it back. Planners back out of bookings with them.
use Rattle.std.specs.Prelude.{ℕ, ◌+◌, ◌≡◌, Bool, true, not, ◌&&◌, eqb}
use Rattle.lists.specs.Lists.{same_list}
use Rattle.records.specs.Ports.{reserved, ready_to_load}
use Rattle.rules.specs.declared.row.Seen.{Seen}
use Rattle.rules.specs.State.{State}
use Rattle.rules.specs.Sound.{sound}
use Rattle.rules.specs.Seen.{Input, see}
use Rattle.rules.specs.Service.{other_access, goes_out}
use Rattle.rules.specs.Outcome.{answer_in, state_after}

-- A row, the row that undoes it, what both of them name, and the condition, by what the first one sees. Whatever else is sent with them
-- plays no part.
pub record Pair : Type 0 where
  pub row : ℕ
  pub undoing : ℕ
  pub alike : Input → Input → Bool
  pub when : Seen → Bool

-- i is the row, and j undoes it: of the same port, of the same carrier
unfoldable pub is_pair : Pair → Input → Input → Bool
is_pair p i j = eqb i.number p.row && eqb j.number p.undoing && p.alike i j

unfoldable pub same_port : Input → Input → Bool
same_port i j = eqb i.port j.port

unfoldable pub same_carrier : Input → Input → Bool
same_carrier i j = same_list i.name j.name

unfoldable pub same_both : Input → Input → Bool
same_both i j = same_port i j && same_carrier i j

-- no condition
unfoldable pub always : Seen → Bool
always x = true

-- ── Bookings ──
-- Bind(port, name) and CancelBind of the same pair
abbrev pub binding : Pair
binding = record { row = 1; undoing = 2; alike = same_both; when = always }

-- CarrierNotification(name) and CancelCarrierNotification(name)
abbrev pub announcing : Pair
announcing = record { row = 3; undoing = 4; alike = same_carrier; when = always }

-- ReserveAtPort(port) and CancelReservationAtPort(port)
abbrev pub reserving : Pair
reserving = record { row = 11; undoing = 12; alike = same_port; when = always }

-- CancelReservationAtPort(port) and ReserveAtPort(port), at a port READY TO LOAD
unfoldable pub is_ready_to_load : Seen → Bool
is_ready_to_load x = ready_to_load x.here

abbrev pub releasing : Pair
releasing = record { row = 12; undoing = 11; alike = same_port; when = is_ready_to_load }

-- ── Movements ──
-- UnloadStart(port) and UnloadFail(port)
abbrev pub unloading : Pair
unloading = record { row = 24; undoing = 26; alike = same_port; when = always }

-- LoadStart(port) and LoadFail(port), where the port isn't reserved: the reservation ends with the load
unfoldable pub not_reserved : Seen → Bool
not_reserved x = not (reserved x.here)

abbrev pub loading : Pair
loading = record { row = 13; undoing = 15; alike = same_port; when = not_reserved }

-- ── Modes ──
-- ChangeAccess(port, value) and then the other value, where it was in the other mode
unfoldable pub other_value : Input → Input → Bool
other_value i j = same_port i j && eqb (i.value + j.value) 1

abbrev pub changing_access : Pair
changing_access = record { row = 9; undoing = 9; alike = other_value; when = other_access }

-- ChangeServiceStatus(port, 0 out) and then (port, 1 in), where it was in
unfoldable pub then_in : Input → Input → Bool
then_in i j = same_port i j && eqb j.value 1

abbrev pub taking_out : Pair
taking_out = record { row = 10; undoing = 10; alike = then_in; when = goes_out }

-- ── The door of a carrier ──
-- Open(name) and Close(name)
abbrev pub opening_door : Pair
opening_door = record { row = 19; undoing = 23; alike = same_carrier; when = always }

-- ── What a pair promises, in document 01 ──
-- After i, j is accepted, and the state is the one before i.
pub record TakenBack (s : State) (i j : Input) : Type 0 where
  pub accepted : answer_in (state_after s i) j ≡ 0
  pub back : state_after (state_after s i) j ≡ s

-- from any sound state, where i is accepted
abbrev pub Undoes : Pair → Type 0
Undoes p = (s : State) (i j : Input) → sound s ≡ true → is_pair p i j ≡ true → p.when (see s i) ≡ true → answer_in s i ≡ 0 → TakenBack s i j
