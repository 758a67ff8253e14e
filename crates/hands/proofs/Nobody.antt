-- After every run nobody is at a port where a pod is held.
use Prim.Native.Nat.{ℕ, ◌≤◌}
use mathlib.Core.Path.{◌≡◌, ap, sym, subst, ◌∙◌}
use mathlib.Core.Logic.{◌≢◌}
use mathlib.Core.Bool.{true}
use mathlib.Core.List.{List, [], ◌∷◌}
use Rattle.lists.proofs.Bools.{clash, and_l}
use Rattle.records.specs.Ports.{has_pod}
use Rattle.records.specs.Carriers.{at_port}
use Rattle.rules.specs.State as base
use Rattle.rules.specs.State.{State, spot_of, port_of, record_of}
use Rattle.rules.specs.Seen.{Input}
use Rattle.rules.specs.History as base-history
use Rattle.rules.specs.Promise.{Live}
use Rattle.rules.proofs.Granted.{granted}
use Rattle.maps.specs.State as maps-state
use Rattle.maps.specs.Projection as maps-runs
use Rattle.maps.proofs.SoundRuns as maps-proofs
use Rattle.queue.specs.State as queue-state
use Rattle.queue.specs.Projection as queue-runs
use Rattle.queue.proofs.Projected as queue-below
use Rattle.prediction.specs.State as prediction-state
use Rattle.prediction.specs.Projection as prediction-runs
use Rattle.prediction.proofs.Projected as prediction-below
use Rattle.wafers.specs.Outcome.{Brought}
use Rattle.wafers.specs.Projection as wafers-runs
use Rattle.wafers.proofs.Projected as wafers-below
use Rattle.hands.specs.Alarms.{is_held}
use Rattle.hands.specs.State.{Handled, base_of, alarm_of, start}
use Rattle.hands.specs.Outcome.{reached}
use Rattle.hands.specs.Projection.{cut_down}
use Rattle.hands.proofs.Projected.{below}
use Rattle.hands.proofs.AlarmAfter.{none_yet, counted}
use Rattle.hands.proofs.Held.{Steady, steady_after, no_pod_fact}

-- where a carrier is at a port there is a pod
abbrev Pods : State → Type 0
Pods s = (k : ℕ) → Live s k → at_port (record_of s k) ≡ true → has_pod (port_of s (record_of s k).port) ≡ true

module _ (P B setting timeout : ℕ) (lo : 1 ≤ P) (hi : P ≤ 4) (few : B ≤ 16) where
  abbrev begin : Handled
  begin = start P B setting timeout

  -- the run of P5's layer
  abbrev queued : List Brought → List Input
  queued run = prediction-runs.cut_down (wafers-runs.cut_down (cut_down begin run))

  -- and of document 01, which reaches the same state
  pub projected : (run : List Brought)
      → base-history.reached (base.start P B) (maps-runs.cut_down (maps-state.start P B) (queue-runs.cut_down (queue-state.start P B) (queued run)))
      ≡ base_of (reached begin run)
  projected run =
      queue-below.projected P B lo hi few (queued run)
      ∙ ap queue-state.base_of (prediction-below.below begin.predicted (wafers-runs.cut_down (cut_down begin run)))
      ∙ ap prediction-state.base_of (sym (wafers-below.below begin.predicted (cut_down begin run)) ∙ below begin run)

  pods : (run : List Brought) → Pods (base_of (reached begin run))
  pods run = subst Pods (projected run) (λ k l z. and_l _ _ (((granted P B lo hi few _).coherent k l).pod_there z))

  pub steady : (run : List Brought) → Steady (reached begin run)
  unfolding reached alarm_of
  steady [] = record {
    sounds = maps-proofs.sound_start P B lo hi few;
    each = (counted P B setting timeout []).each;
    loads = λ p h. clash h (ap is_held (none_yet P (spot_of p)));
  }
  steady (i ∷ earlier) = steady_after (reached begin earlier) i (steady earlier)

  pub held_nobody : (run : List Brought) (p : ℕ) → is_held (alarm_of (reached begin run) p) ≡ true
      → (k : ℕ) → Live (base_of (reached begin run)) k → at_port (record_of (base_of (reached begin run)) k) ≡ true
      → (record_of (base_of (reached begin run)) k).port ≢ p
  held_nobody run p h k l z e =
      clash (ap (λ q. has_pod (port_of (base_of (reached begin run)) q)) (sym e) ∙ pods run k l z) (no_pod_fact (reached begin run) (steady run) p h)
