-- What every input of P1's layer keeps, every input below keeps.
use mathlib.Core.Path.{◌≡◌, refl, ap, sym, subst, ◌∙◌}
use mathlib.Core.Bool.{Bool, true, false, cond}
use mathlib.Core.List.{List, [], ◌∷◌}
use lib.ListN.{length, length-set}
use lib.Dec.{eqb}
use Rattle.rules.specs.Seen.{Input}
use Rattle.rules.specs.Row as row
use Rattle.maps.specs.Expected.{new_map}
use Rattle.maps.specs.State.{Mapped}
use Rattle.maps.specs.Outcome as maps
use Rattle.maps.specs.Projection as maps-runs
use Rattle.queue.specs.State.{Queued}
use Rattle.queue.specs.Projection as queue-runs
use Rattle.queue.proofs.Projected as queue-below
use Rattle.prediction.specs.State.{Predicted, base_of}
use Rattle.prediction.specs.Projection as prediction-runs
use Rattle.prediction.proofs.Projected as prediction-below
use Rattle.wafers.specs.Outcome as wafers
use Rattle.wafers.specs.Outcome.{Brought}
use Rattle.wafers.specs.Projection as wafers-runs
use Rattle.wafers.proofs.Projected as wafers-below

-- the run of P1's layer that a run of P8's stands for
abbrev pub lowered : Predicted → List Brought → List Input
lowered s run = queue-runs.cut_down s.queued (prediction-runs.cut_down (wafers-runs.cut_down run))

pub below : (s : Predicted) (run : List Brought)
    → maps-runs.reached s.queued.mapped (lowered s run) ≡ (wafers.reached s run).queued.mapped
below s run =
    queue-below.below s.queued (prediction-runs.cut_down (wafers-runs.cut_down run))
    ∙ ap (λ (q : Queued). q.mapped) (prediction-below.below s (wafers-runs.cut_down run))
    ∙ ap (λ (p : Predicted). p.queued.mapped) (sym (wafers-below.below s run))

module _ (Q : Mapped → Type 0) (step : (m : Mapped) (i : Input) → Q m → Q (maps.state_after m i)) where
  along : (m : Mapped) (run : List Input) → Q m → Q (maps-runs.reached m run)
  unfolding maps-runs.reached
  along m [] q = q
  along m (i ∷ earlier) q = step _ i (along m earlier q)

  pub kept_below : (s : Predicted) (run : List Brought) → Q s.queued.mapped → Q (wafers.reached s run).queued.mapped
  kept_below s run q = subst Q (below s run) (along s.queued.mapped (lowered s run) q)

-- as many ports as before
ports_step : (m : Mapped) (i : Input) → length (maps.state_after m i).base.ports ≡ length m.base.ports
unfolding maps.state_after row.enact
ports_step m i = go (eqb (maps.answer_in m i) 0)
  where
    go : (w : Bool) → length (cond w (maps.enact (maps.row_in m i).effect (new_map i.number i.codes) m) m).base.ports ≡ length m.base.ports
    go true = length-set m.base.ports _ _
    go false = refl

pub ports_stay : (s : Predicted) (run : List Brought) → length (base_of (wafers.reached s run)).ports ≡ length (base_of s).ports
ports_stay s run = kept_below (λ m. length m.base.ports ≡ length (base_of s).ports) (λ m i e. ports_step m i ∙ e) s run refl
