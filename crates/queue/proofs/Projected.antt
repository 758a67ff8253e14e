-- Cut down to its inputs below, a run of this layer is a run of P1's layer that reaches the same state, and so one of document 01.
use Prim.Native.Nat.{ℕ, ◌≤◌}
use mathlib.Core.Path.{◌≡◌, refl, ap, ◌∙◌}
use mathlib.Core.Bool.{Bool, true, false, cond}
use mathlib.Core.List.{List, [], ◌∷◌, ◌++◌}
use lib.Dec.{eqb}
use Rattle.rules.specs.State as base
use Rattle.rules.specs.Seen.{Input}
use Rattle.rules.specs.History as base-history
use Rattle.maps.specs.State as maps-state
use Rattle.maps.specs.State.{Mapped}
use Rattle.maps.specs.Outcome as maps
use Rattle.maps.specs.Projection as maps-runs
use Rattle.maps.proofs.Projected as maps-proofs
use Rattle.queue.specs.State.{Queued, base_of, start}
use Rattle.queue.specs.Outcome.{row_in, answer_in, enact, state_after}
use Rattle.queue.specs.Projection.{reached, stands_for, cut_down}

nothing_yet : (s : Mapped) → maps-runs.reached s [] ≡ s
unfolding maps-runs.reached
nothing_yet s = refl

pub reached_append : (s : Mapped) (later earlier : List Input)
    → maps-runs.reached s (later ++ earlier) ≡ maps-runs.reached (maps-runs.reached s earlier) later
unfolding maps-runs.reached
reached_append s [] earlier = refl
reached_append s (i ∷ later) earlier = ap (λ u. maps.state_after u i) (reached_append s later earlier)

pub stands_for_fact : (s : Queued) (i : Input) → maps-runs.reached s.mapped (stands_for s i) ≡ (state_after s i).mapped
unfolding stands_for state_after
stands_for_fact s i = go (eqb (answer_in s i) 0)
  where
    go : (w : Bool) → maps-runs.reached s.mapped (cond w (row_in s i).stands []) ≡ (cond w (enact (row_in s i) s) s).mapped
    go true = refl
    go false = nothing_yet s.mapped

-- every run, from any state
pub below : (s : Queued) (run : List Input) → maps-runs.reached s.mapped (cut_down s run) ≡ (reached s run).mapped
unfolding cut_down reached
below s [] = nothing_yet s.mapped
below s (i ∷ earlier) =
    reached_append s.mapped (stands_for (reached s earlier) i) (cut_down s earlier)
    ∙ ap (λ u. maps-runs.reached u (stands_for (reached s earlier) i)) (below s earlier)
    ∙ stands_for_fact (reached s earlier) i

-- and of document 01, from set-up
pub projected : (P B : ℕ) → 1 ≤ P → P ≤ 4 → B ≤ 16 → (run : List Input)
    → base-history.reached (base.start P B) (maps-runs.cut_down (maps-state.start P B) (cut_down (start P B) run))
    ≡ base_of (reached (start P B) run)
projected P B a b c run =
    maps-proofs.projected P B a b c (cut_down (start P B) run) ∙ ap (λ (s : Mapped). s.base) (below (start P B) run)
