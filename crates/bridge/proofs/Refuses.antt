-- What a refused message leaves, whether the reader refused it or the tool.
use Prim.Native.Nat.{ℕ}
use mathlib.Core.Path.{refl}
use mathlib.Core.Bool.{Bool, true, false, cond}
use mathlib.Core.List.{List, []}
use lib.Dec.{eqb}
use Rattle.prediction.specs.State.{timed}
use Rattle.wafers.specs.Outcome.{brought}
use Rattle.secs.specs.Request.{request_in}
use Rattle.tool.specs.Whole.{Whole, refused}
use Rattle.tool.proofs.Refuses.{Refuses, refuses}
use Rattle.door.specs.Door.{shown, outcome}
use Rattle.bridge.specs.Bridge.{bridged}

pub message_refuses : (t : Whole) (m : List ℕ) → Refuses t (bridged t m)
unfolding bridged outcome
message_refuses t m = go (eqb (request_in m).refusal 0)
  where
    go : (w : Bool) → Refuses t (cond w (outcome t (brought (timed (request_in m).input 0 0) [])) (refused t (request_in m).refusal))
    go true n = refuses t (shown (brought (timed (request_in m).input 0 0) [])) n
    go false n = (refl, refl)
