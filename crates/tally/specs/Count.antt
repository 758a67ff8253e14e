-- Pods in, pods out: what a run's inputs and answers say, and what is there.
use Rattle.std.specs.Prelude.{ℕ, ◌+◌, ◌-◌, ◌≡◌, Bool, ◌&&◌, List, [], ◌∷◌, eqb}
use Rattle.lists.specs.Lists.{how_many}
use Rattle.records.specs.Ports.{has_pod}
use Rattle.records.specs.Carriers.{in_buffer}
use Rattle.rules.specs.State.{State, start}
use Rattle.rules.specs.Seen.{Input}
use Rattle.rules.specs.Outcome.{answer_in}
use Rattle.rules.specs.History.{reached}

-- ── The run ──
-- What logistics sees of a run: an input, and the answer that it got.
pub record Entry : Type 0 where
  pub input : Input
  pub answer : ℕ

-- the log of a run, the latest first
unfoldable pub entries : State → List Input → List Entry
entries s [] = []
entries s (i ∷ earlier) = record { input = i; answer = answer_in (reached s earlier) i } ∷ entries s earlier

-- row n, accepted
abbrev pub accepted : ℕ → Entry → Bool
accepted n e = eqb e.answer 0 && eqb e.input.number n

-- LoadDone (14) brings a pod, and UnloadDone (25) takes one away.
unfoldable pub came_in : List Entry → ℕ
came_in log = how_many (accepted 14) log

unfoldable pub went_out : List Entry → ℕ
went_out log = how_many (accepted 25) log

-- ── The state ──
unfoldable pub pods_at_ports : State → ℕ
pods_at_ports s = how_many has_pod s.ports

unfoldable pub stored : State → ℕ
stored s = how_many in_buffer s.carriers

-- pods at ports, and carriers in the buffer
abbrev pub pods_here : State → ℕ
pods_here s = pods_at_ports s + stored s

-- What holds after any finite run from a valid set-up, of a tool of P ports and B places: the pods that are here came in and
-- didn't go out.
pub record Counted (P B : ℕ) (run : List Input) : Type 0 where
  pub all : came_in (entries (start P B) run) ≡ went_out (entries (start P B) run) + pods_here (reached (start P B) run)
  pub less : came_in (entries (start P B) run) - went_out (entries (start P B) run) ≡ pods_here (reached (start P B) run)
