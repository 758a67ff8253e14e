-- The host bridge: what a message gives, read and then stepped.
use Rattle.std.specs.Prelude.{ℕ, cond, List, [], eqb}
use Rattle.prediction.specs.State.{timed}
use Rattle.wafers.specs.Outcome.{brought}
use Rattle.secs.specs.Request.{request_in}
use Rattle.tool.specs.Whole.{Whole, Outcome, refused}
use Rattle.door.specs.Door.{outcome}

-- A message brings no clock, no time and no wafers. The reader's refusal, 20 to 26, as any refusal leaves the tool and the reports; else what the input gives.
unfoldable pub bridged : Whole → List ℕ → Outcome
bridged t message =
    cond (eqb (request_in message).refusal 0) (outcome t (brought (timed (request_in message).input 0 0) [])) (refused t (request_in message).refusal)

-- The count of items begun comes back in both cases.
abbrev pub items_in : List ℕ → ℕ
items_in message = (request_in message).count
