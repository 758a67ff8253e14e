-- What an operator may count on: a port's alarm, and the pod that is held there, read off what was sent and answered.
use Rattle.std.specs.Prelude.{ℕ, ◌≤◌, ◌≡◌, ◌≢◌, Bool, true, false, not, ◌&&◌, ◌||◌, List, [], ◌∷◌, eqb}
use Rattle.records.specs.Ports.{ready_to_load, loading, has_pod}
use Rattle.records.specs.Carriers.{at_port}
use Rattle.rules.specs.State.{State, port_of, record_of}
use Rattle.rules.specs.Seen.{Input, narrow}
use Rattle.rules.specs.Promise.{Live}
use Rattle.wafers.specs.Outcome.{Brought}
use Rattle.hands.specs.Alarms.{is_on, is_held}
use Rattle.hands.specs.State.{Handled, base_of, alarm_of, start}
use Rattle.hands.specs.Outcome.{answer_in, state_after, reached}

-- A step of a run: the input, its answer, and document 01's part of the states before and after it, which has no alarms.
pub record Step : Type 0 where
  pub before : State
  pub input : Input
  pub answer : ℕ
  pub after : State

abbrev pub step_of : Handled → Brought → Step
step_of s i = record { before = base_of s; input = i.timed.input; answer = answer_in s i; after = base_of (state_after s i) }

-- those of a run, the latest first
unfoldable pub steps : Handled → List Brought → List Step
steps s [] = []
steps s (i ∷ earlier) = step_of (reached s earlier) i ∷ steps s earlier

abbrev pub is_accepted : Step → Bool
is_accepted e = eqb e.answer 0

-- row n at port p, accepted
abbrev pub done_at : ℕ → ℕ → Step → Bool
done_at n p e = is_accepted e && eqb (narrow e.input.port) p && eqb e.input.number n

-- the second number: 0 by hand
abbrev pub by_hand : Step → Bool
by_hand e = eqb (narrow e.input.value) 0

-- the port was in AUTO
abbrev pub was_auto : ℕ → Step → Bool
was_auto p e = eqb (port_of e.before p).access 1

-- A manual LoadStart (13) or UnloadStart (24) in AUTO raises the alarm.
unfoldable pub raises : ℕ → Step → Bool
raises p e = (done_at 13 p e || done_at 24 p e) && by_hand e && was_auto p e

-- Continue (36) and LoadFail (15) end it; a pod that was held is held no longer.
unfoldable pub frees : ℕ → Step → Bool
frees p e = done_at 36 p e || done_at 15 p e

-- So does whatever leaves the port READY TO LOAD.
unfoldable pub ends : ℕ → Step → Bool
ends p e = frees p e || (is_accepted e && ready_to_load (port_of e.after p))

-- The alarm of port p is on.
unfoldable pub alarm_read : ℕ → List Step → Bool
alarm_read p [] = false
alarm_read p (e ∷ earlier) = not (ends p e) && (raises p e || alarm_read p earlier)

-- A pod is held at port p: from an accepted LoadDone (14) with the alarm on until Continue or LoadFail.
unfoldable pub held_read : ℕ → List Step → Bool
held_read p [] = false
held_read p (e ∷ earlier) = not (frees p e) && ((done_at 14 p e && alarm_read p earlier) || held_read p earlier)

-- While a pod is held at port p: the port is still loading, its alarm is on, and it has no pod yet.
pub record Waits (s : Handled) (p : ℕ) : Type 0 where
  pub held : is_held (alarm_of s p) ≡ true
  pub still_loading : loading (port_of (base_of s) p) ≡ true
  pub alarm_on : is_on (alarm_of s p) ≡ true
  pub no_pod : has_pod (port_of (base_of s) p) ≡ false

-- What holds after any finite run from a valid set-up, refused inputs included, whatever the times.
pub record Assured (P B setting timeout : ℕ) (run : List Brought) : Type 0 where
  -- a port's alarm is on, and a pod is held there, exactly if the run says so
  pub alarm : (p : ℕ) → 1 ≤ p → p ≤ P
      → is_on (alarm_of (reached (start P B setting timeout) run) p) ≡ alarm_read p (steps (start P B setting timeout) run)
  pub held : (p : ℕ) → 1 ≤ p → p ≤ P
      → is_held (alarm_of (reached (start P B setting timeout) run) p) ≡ held_read p (steps (start P B setting timeout) run)
  -- no carrier is at a port where a pod is held, so that nothing is verified, opened or moved from it
  pub nobody : (p : ℕ) → is_held (alarm_of (reached (start P B setting timeout) run) p) ≡ true
      → (k : ℕ) → Live (base_of (reached (start P B setting timeout) run)) k
      → at_port (record_of (base_of (reached (start P B setting timeout) run)) k) ≡ true
      → (record_of (base_of (reached (start P B setting timeout) run)) k).port ≢ p
