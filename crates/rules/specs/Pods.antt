-- What brings a pod to a port and takes it away: read off the run's inputs and answers.
use Rattle.std.specs.Prelude.{ℕ, Bool, false, not, ◌&&◌, ◌||◌, List, [], ◌∷◌, eqb}
use Rattle.rules.specs.History.{Event}

-- CarrierOut and LoadDone bring a pod to the port that they name
abbrev pub brings_pod : ℕ → Bool
brings_pod n = eqb n 7 || eqb n 14

-- MoveIn and UnloadDone take it from there
abbrev pub takes_pod : ℕ → Bool
takes_pod n = eqb n 18 || eqb n 25

-- an input of such a number, at port p, that was accepted
unfoldable pub done_at : (ℕ → Bool) → ℕ → Event → Bool
done_at such p e = such e.input.number && eqb e.answer 0 && eqb e.input.port p

-- The latest input that brought a pod to port p or took one from there brought one.
unfoldable pub pod_brought : ℕ → List Event → Bool
pod_brought p [] = false
pod_brought p (e ∷ earlier) = done_at brings_pod p e || (not (done_at takes_pod p e) && pod_brought p earlier)
