-- What happened to a carrier: read off the run's inputs and answers.
use Rattle.std.specs.Prelude.{ℕ, Bool, false, cond, ◌&&◌, ◌||◌, List, [], ◌∷◌, eqb}
use Rattle.lists.specs.Lists.{any}
use Rattle.records.specs.declared.name.Name.{Name}
use Rattle.records.specs.Names.{no_name, in_bytes, same_name}
use Rattle.rules.specs.declared.tool.Tool.{Tool}
use Rattle.rules.specs.State.{State, port_of}
use Rattle.rules.specs.Seen.{Input, is_named}
use Rattle.rules.specs.Outcome.{answer_in, state_after, outcome}

-- In this file and in the promise a run's inputs stand the latest first. The state that a run has reached:
unfoldable pub reached : State → List Input → State
reached s [] = s
reached s (i ∷ earlier) = state_after (reached s earlier) i

-- and the tool that the step has returned
unfoldable pub reached_tool : Tool → List Input → Tool
reached_tool t [] = t
reached_tool t (i ∷ earlier) = (outcome (reached_tool t earlier) i).tool

-- An input, the state that it met, and the answer that it got.
pub record Event : Type 0 where
  pub before : State
  pub input : Input
  pub answer : ℕ

-- what happened in a run
unfoldable pub events : State → List Input → List Event
events s [] = []
events s (i ∷ earlier) =
    record { before = reached s earlier; input = i; answer = answer_in (reached s earlier) i } ∷ events s earlier

-- the name has a record
unfoldable pub is_live : State → Name → Bool
is_live s n = any (is_named n) s.carriers

-- The history of a name, the latest first: what came since its record was made, and the input that made it.
unfoldable pub history : Name → List Event → List Event
history n [] = []
history n (e ∷ earlier) = e ∷ cond (is_live e.before n) (history n earlier) []

-- an input of this number, with this name, that was accepted
unfoldable pub done : ℕ → Name → Event → Bool
done k n e = eqb e.input.number k && eqb e.answer 0 && same_name (in_bytes e.input.name) n

-- the tie of the port that an input names, before it
abbrev pub tie_read : Event → Name
tie_read e = (port_of e.before e.input.port).tie

-- the name was announced, and the port that was read at had no tie, or was tied to this name
unfoldable pub announced_there : Name → Event → Bool
announced_there n e = is_live e.before n && (same_name (tie_read e) no_name || same_name (tie_read e) n)

-- a matching read of its announced name, or an accepted ProceedWithCarrier
unfoldable pub verifies : Name → Event → Bool
verifies n e = (done 16 n e && announced_there n e) || done 5 n e

unfoldable pub verified : Name → List Event → Bool
verified n h = any (verifies n) h

-- an accepted CancelCarrier
unfoldable pub was_cancelled : Name → List Event → Bool
was_cancelled n h = any (done 6 n) h

-- its slot map was reported
unfoldable pub was_mapped : Name → List Event → Bool
was_mapped n h = any (done 20 n) h

-- an accepted ProceedWithCarrier after its slot map was reported
unfoldable pub released : Name → List Event → Bool
released n [] = false
released n (e ∷ h) = (done 5 n e && was_mapped n h) || released n h
