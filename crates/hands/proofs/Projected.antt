-- Cut down to its inputs below, a run of this layer is a run of P8's that reaches the same state.
use mathlib.Core.Path.{◌≡◌, refl, ap, ◌∙◌}
use mathlib.Core.Bool.{Bool, true, false, cond}
use mathlib.Core.List.{List, [], ◌∷◌, ◌++◌}
use lib.Dec.{eqb}
use Rattle.prediction.specs.State.{Predicted}
use Rattle.wafers.specs.Outcome as wafers
use Rattle.wafers.specs.Outcome.{Brought}
use Rattle.hands.specs.State.{Handled}
use Rattle.hands.specs.Outcome.{row_in, answer_in, enact, state_after, reached}
use Rattle.hands.specs.Projection.{stands_for, cut_down}

nothing_yet : (s : Predicted) → wafers.reached s [] ≡ s
unfolding wafers.reached
nothing_yet s = refl

reached_append : (s : Predicted) (later earlier : List Brought) → wafers.reached s (later ++ earlier) ≡ wafers.reached (wafers.reached s earlier) later
unfolding wafers.reached
reached_append s [] earlier = refl
reached_append s (i ∷ later) earlier = ap (λ u. wafers.state_after u i) (reached_append s later earlier)

pub stands_for_fact : (s : Handled) (i : Brought) → wafers.reached s.predicted (stands_for s i) ≡ (state_after s i).predicted
unfolding stands_for state_after
stands_for_fact s i = go (eqb (answer_in s i) 0)
  where
    go : (w : Bool) → wafers.reached s.predicted (cond w (row_in s i).stands []) ≡ (cond w (enact s i) s).predicted
    go true = refl
    go false = nothing_yet s.predicted

-- every run, from any state
pub below : (s : Handled) (run : List Brought) → wafers.reached s.predicted (cut_down s run) ≡ (reached s run).predicted
unfolding cut_down reached
below s [] = nothing_yet s.predicted
below s (i ∷ earlier) =
    reached_append s.predicted (stands_for (reached s earlier) i) (cut_down s earlier)
    ∙ ap (λ u. wafers.reached u (stands_for (reached s earlier) i)) (below s earlier)
    ∙ stands_for_fact (reached s earlier) i

-- a refused input leaves everything
pub refused_leaves : (s : Handled) (i : Brought) → eqb (answer_in s i) 0 ≡ false → state_after s i ≡ s
unfolding state_after
refused_leaves s i e = rw e
