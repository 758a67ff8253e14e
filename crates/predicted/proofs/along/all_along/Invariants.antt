-- The first k have moved along; what is still to be told gives the same.
-- what each asks, and where all of them are in the end
use Prim.Native.Nat.{ℕ, ◌≤◌}
use mathlib.Core.Path.{◌≡◌}
use mathlib.Core.Bool.{Bool}
use mathlib.Core.List.{List, []}
use lib.ListN.{get_or, drop}
use Rattle.lists.specs.Lists.{fill}
use Rattle.records.specs.declared.carrier.Carrier.{Carrier}
use Rattle.rules.specs.Held.{Held}
use Rattle.image.specs.Image.{tool_from, reports_from}
use Rattle.parts.specs.Told.{note_all}
use Rattle.follow.specs.Follow.{KeptOutside}
use Rattle.mapped.specs.Bytes.{own_in}
use Rattle.prediction.specs.declared.prediction.Prediction.{Prediction}
use Rattle.prediction.specs.declared.prediction.Times.{Times}
use Rattle.prediction.specs.declared.prediction.Facts.{Facts}
use Rattle.prediction.specs.Predictions.{no_prediction}
use Rattle.prediction.specs.Outcome.{all_along, all_told}
use Rattle.times.specs.Bytes.{predictions_from}
use Rattle.predicted.specs.Bytes.{base_in, used_in, facts_in}
use Rattle.predicted.proofs.Turns.{first_of}
use Rattle.predicted.proofs.along.all_along.Given as goal

abbrev asks : List (List ℕ) → Bool → Times → Carrier → Prediction → Facts
asks m timed t = facts_in timed t (base_in m)

abbrev ended : List (List ℕ) → Bool → Times → List Prediction
ended m timed t = all_along (asks m timed t) (base_in m).carriers (used_in m)

abbrev pub invariant-loop-k : goal.invariant-loop-k
invariant-loop-k l =
    (l.n ≡ (tool_from (get_or l.initial.m 0 [])).count) × (l.k ≤ l.n) × Held (tool_from (get_or l.initial.m 0 [])) × (get_or l.m 0 [] ≡ get_or l.initial.m 0 [])
    × (predictions_from (own_in l.m) ≡ fill 36 no_prediction (first_of l.k (ended l.initial.m l.timed l.t) (used_in l.initial.m)))
    × (note_all (reports_from l.o) (all_told (asks l.initial.m l.timed l.t) (drop l.k (base_in l.initial.m).carriers) (drop l.k (used_in l.initial.m)))
    ≡ note_all (reports_from l.initial.o) (all_told (asks l.initial.m l.timed l.t) (base_in l.initial.m).carriers (used_in l.initial.m)))
    × KeptOutside 1201 1597 (own_in l.initial.m) (own_in l.m)
