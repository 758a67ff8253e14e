-- Pods in, pods out, of the whole machine: counted from a run's inputs and answers alone.
use Rattle.std.specs.Prelude.{ℕ, ◌+◌, ◌-◌, ◌≡◌, Bool, false, not, cond, ◌&&◌, List, [], ◌∷◌, eqb}
use Rattle.lists.specs.Lists.{how_many}
use Rattle.rules.specs.State.{port_of}
use Rattle.rules.specs.Seen.{narrow}
use Rattle.tally.specs.Count.{Entry, accepted, went_out, pods_here}
use Rattle.wafers.specs.Outcome.{Brought}
use Rattle.hands.specs.Alarms.{is_held}
use Rattle.hands.specs.State.{Handled, base_of, alarm_of, start}
use Rattle.hands.specs.Outcome.{answer_in, state_after, reached}

-- the log of a run, the latest first
unfoldable pub entries : Handled → List Brought → List Entry
entries s [] = []
entries s (i ∷ earlier) = record { input = i.timed.input; answer = answer_in (reached s earlier) i } ∷ entries s earlier

-- the port that an input names
abbrev pub port_in : Entry → ℕ
port_in e = narrow e.input.port

-- row n at port p, accepted
abbrev pub done_at : ℕ → ℕ → Entry → Bool
done_at n p e = accepted n e && eqb (port_in e) p

-- The access mode of port p, 0 MANUAL or 1 AUTO: what the latest ChangeAccess (9) there set; MANUAL at set-up.
unfoldable pub mode_of : ℕ → List Entry → ℕ
mode_of p [] = 0
mode_of p (e ∷ earlier) = cond (done_at 9 p e) (narrow e.input.value) (mode_of p earlier)

-- a start by hand: the second number is 0
abbrev pub by_hand : Entry → Bool
by_hand e = eqb (narrow e.input.value) 0

-- The latest LoadStart (13) at port p was by hand, and the port was in AUTO.
unfoldable pub violating : ℕ → List Entry → Bool
violating p [] = false
violating p (e ∷ earlier) = cond (done_at 13 p e) (by_hand e && eqb (mode_of p earlier) 1) (violating p earlier)

-- LoadDone (14), without those that were held
unfoldable pub loaded : List Entry → ℕ
loaded [] = 0
loaded (e ∷ earlier) = cond (accepted 14 e && not (violating (port_in e) earlier)) 1 0 + loaded earlier

-- Continue (36)
unfoldable pub continued : List Entry → ℕ
continued log = how_many (accepted 36) log

abbrev pub came_in : List Entry → ℕ
came_in log = loaded log + continued log

-- ── What holds after any finite run from a valid set-up, refused inputs included, whatever the times ──
-- the pods at ports and the carriers in the buffer are those that came in and didn't go out, which is UnloadDone (25)
pub record Counted (P B setting timeout : ℕ) (run : List Brought) : Type 0 where
  pub all : came_in (entries (start P B setting timeout) run)
      ≡ went_out (entries (start P B setting timeout) run) + pods_here (base_of (reached (start P B setting timeout) run))
  pub less : came_in (entries (start P B setting timeout) run) - went_out (entries (start P B setting timeout) run)
      ≡ pods_here (base_of (reached (start P B setting timeout) run))

-- the log tells each port's access mode, and whether a LoadDone that is accepted next is held
pub record Told (P B setting timeout : ℕ) (run : List Brought) : Type 0 where
  pub mode : (p : ℕ) → (port_of (base_of (reached (start P B setting timeout) run)) p).access ≡ mode_of p (entries (start P B setting timeout) run)
  pub held : (i : Brought) → answer_in (reached (start P B setting timeout) run) i ≡ 0 → i.timed.input.number ≡ 14
      → is_held (alarm_of (state_after (reached (start P B setting timeout) run) i) (narrow i.timed.input.port))
      ≡ violating (narrow i.timed.input.port) (entries (start P B setting timeout) run)
