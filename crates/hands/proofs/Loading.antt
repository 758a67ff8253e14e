-- What an input leaves of a port that is loading, layer by layer.
use Prim.Native.Nat.{ℕ}
use native.Mathlib.Omega.{arith}
use native.Mathlib.Decide.{ℕ_discrete}
use mathlib.Core.Path.{◌≡◌, refl, sym, subst}
use mathlib.Core.Logic.{◌≢◌}
use mathlib.Core.Bool.{Bool, true, false, cond, ◌&&◌}
use mathlib.Core.List.{List, [], ◌∷◌}
use lib.Dec.{eqb}
use Rattle.lists.specs.Lists.{any}
use Rattle.lists.proofs.Bools.{cond_ind}
use Rattle.records.specs.Ports.{loading}
use Rattle.rules.specs.declared.row.Seen.{Seen}
use Rattle.rules.specs.declared.row.Effect.{Effect}
use Rattle.rules.specs.State.{port_of}
use Rattle.rules.specs.Seen.{Input, narrow, see}
use Rattle.rules.specs.Row as row
use Rattle.rules.specs.Rows as base
use Rattle.rules.proofs.Keep.{port_after, other_port_after}
use Rattle.maps.specs.State.{Mapped}
use Rattle.maps.specs.Sound as maps-sound
use Rattle.maps.specs.Rows.{codes_in}
use Rattle.maps.specs.Outcome as maps
use Rattle.maps.specs.Projection as maps-runs
use Rattle.maps.proofs.Amended.{effect_is, accepted_there}
use Rattle.maps.proofs.SoundRuns as maps-proofs
use Rattle.queue.specs.State as queue-state
use Rattle.queue.specs.State.{Queued}
use Rattle.queue.specs.Requests.{started_to}
use Rattle.queue.specs.Outcome as queue
use Rattle.queue.proofs.Walk as queue-walk
use Rattle.queue.proofs.Below.{base_facts, state_below, apt_below}
use Rattle.prediction.specs.State.{Predicted, Timed}
use Rattle.prediction.specs.Outcome as prediction
use Rattle.prediction.specs.Outcome.{is_timed}
use Rattle.prediction.proofs.Projected.{timed_leaves, plain_moves}
use Rattle.wafers.specs.Outcome as wafers
use Rattle.wafers.specs.Outcome.{Brought, is_wafers}
use Rattle.hands.proofs.Moving.{stays_loading}

-- neither LoadDone nor LoadFail at port p
pub record Spares (p : ℕ) (i : Input) : Type 0 where
  pub done : i.number ≡ 14 → narrow i.port ≢ p
  pub fails : i.number ≡ 15 → narrow i.port ≢ p

module _ (p : ℕ) where
  -- a state of P1's layer that is sound, with the port p loading
  pub record Loads (m : Mapped) : Type 0 where
    pub sounds : maps-sound.sound m ≡ true
    pub loads : loading (port_of m.base p) ≡ true

  -- ── P1's layer ──
  module _ (m : Mapped) (i : Input) (k : Loads m) (spares : Spares p i) where
    abbrev x : Seen
    x = see m.base i

    abbrev e : Effect
    e = (maps.row_in m i).effect

    accepted_loads : eqb (maps.answer_in m i) 0 ≡ true → loading (port_of (maps.state_after m i).base p) ≡ true
    unfolding see
    accepted_loads a = rw (state_below m i k.sounds a) (go (ℕ_discrete p e.port))
      where
        Left : Effect → Type 0
        Left e = e.port ≡ p → loading e.becomes ≡ true

        left : Left (base.row_of i.number x).effect
        left = stays_loading m.base i (base_facts m k.sounds) p k.loads i.number (accepted_there m i a) spares.done spares.fails

        becomes : Left e
        becomes =
            subst Left (sym (effect_is i.number x (codes_in m i)))
            (cond_ind Left (eqb i.number 20 && (codes_in m i).equal) (λ _. left) (λ _. left))

        go : Dec (p ≡ e.port) → loading (port_of (row.enact e m.base) p) ≡ true
        go (yes z) = rw (z, port_after m.base (base_facts m k.sounds) e (apt_below m i k.sounds a)) (becomes (sym z))
        go (no n) = rw (other_port_after m.base (base_facts m k.sounds) e (apt_below m i k.sounds a) p n) k.loads

    refused_leaves : eqb (maps.answer_in m i) 0 ≡ false → maps.state_after m i ≡ m
    unfolding maps.state_after
    refused_leaves r = rw r

    pub mapped_loads : Loads (maps.state_after m i)
    mapped_loads = record { sounds = maps-proofs.sound_after m i k.sounds; loads = go (eqb (maps.answer_in m i) 0) refl }
      where
        go : (w : Bool) → eqb (maps.answer_in m i) 0 ≡ w → loading (port_of (maps.state_after m i).base p) ≡ true
        go true a = accepted_loads a
        go false r = rw (refused_leaves r) k.loads

  -- ── P5's layer: OutDone stands for two inputs below, some rows for another or for none ──
  module _ (q : Queued) (i : Input) (k : Loads q.mapped) (spares : Spares p i) where
    abbrev Passes : List Input → Type 0
    Passes l = Loads (maps-runs.reached q.mapped l)

    none_passes : Passes []
    unfolding maps-runs.reached
    none_passes = k

    one_passes : (j : Input) → Spares p j → Passes (j ∷ [])
    unfolding maps-runs.reached
    one_passes j sp = mapped_loads q.mapped j k sp

    two_pass : (j h : Input) → Spares p j → Spares p h → Passes (j ∷ h ∷ [])
    unfolding maps-runs.reached
    two_pass j h a b = mapped_loads _ j (mapped_loads q.mapped h k b) a

    -- an input of another number
    other : (j : Input) → j.number ≢ 14 → j.number ≢ 15 → Spares p j
    other j a b = record { done = λ z. absurd (a z); fails = λ z. absurd (b z) }

    rows_pass : Passes (queue.row_in q i).stands
    rows_pass =
        queue-walk.walk (λ r. Passes r.stands) i.number (queue-state.base_of q) q.queue (see (queue-state.base_of q) i) i (record {
          cancel_carrier = λ _. one_passes i spares;
          carrier_out = λ _. none_passes;
          cancel_reservation_at_port = λ _. one_passes i spares;
          load_start = λ _. one_passes i spares;
          open_row = λ _. one_passes i spares;
          out_start = λ _. one_passes _ (other _ (λ o. omega arith) (λ o. omega arith));
          out_done = λ _.
              cond_ind Passes (any (started_to (see (queue-state.base_of q) i).port) q.queue)
              (λ _. two_pass _ _ (other _ (λ o. omega arith) (λ o. omega arith)) (other _ (λ o. omega arith) (λ o. omega arith)))
              (λ _. none_passes);
          cancel_carrier_out = λ _. none_passes;
          cancel_all_carrier_out = λ _. none_passes;
          other = λ _. one_passes i spares;
        })

    pub queued_loads : Loads (queue.state_after q i).mapped
    unfolding queue.state_after
    queued_loads = go (eqb (queue.answer_in q i) 0)
      where
        go : (w : Bool) → Loads (cond w (queue.enact (queue.row_in q i) q) q).mapped
        go true = rows_pass
        go false = k

  -- ── P7's layer: an input that brings a clock leaves what is below ──
  predicted_loads : (s : Predicted) (i : Timed) → Loads s.queued.mapped → Spares p i.input → Loads (prediction.state_after s i).queued.mapped
  predicted_loads s i k spares = go (is_timed i.input.number) refl
    where
      go : (w : Bool) → is_timed i.input.number ≡ w → Loads (prediction.state_after s i).queued.mapped
      go true t = rw (timed_leaves s i t) k
      go false t = rw (plain_moves s i t) (queued_loads s.queued i.input k spares)

  -- ── P8's layer ──
  pub below_loads : (s : Predicted) (i : Brought) → Loads s.queued.mapped → Spares p i.timed.input
      → Loads (wafers.reached s (i ∷ [])).queued.mapped
  unfolding wafers.reached wafers.state_after wafers.stands_for prediction.reached
  below_loads s i k spares = go (is_wafers i) (wafers.fits i && wafers.good i)
    where
      tp : Timed
      tp = wafers.with_tp i (wafers.tp_of i)

      go : (w g : Bool) → Loads (prediction.reached s (cond w (cond g (tp ∷ []) []) (i.timed ∷ []))).queued.mapped
      go true true = predicted_loads s tp k (record { done = λ z. absurd (omega arith); fails = λ z. absurd (omega arith) })
      go true false = k
      go false g = predicted_loads s i.timed k spares
