-- At most one port changes.
use Prim.Native.Nat.{ℕ, zero, suc}
use mathlib.Core.Path.{◌≡◌, refl, ap, sym, subst, ◌∙◌}
use mathlib.Core.Bool.{Bool, true, false, cond}
use mathlib.Core.List.{List, [], ◌∷◌}
use lib.ListN.{get_or, set}
use lib.Dec.{eqb}
use Rattle.lists.specs.Lists.{any}
use Rattle.records.specs.declared.port.Port.{Port}
use Rattle.records.specs.Ports.{no_port}
use Rattle.rules.specs.State.{spot_of}
use Rattle.rules.specs.Seen.{Input, narrow, see}
use Rattle.rules.specs.Row as row
use Rattle.rules.specs.Rows as base
use Rattle.rules.specs.Inputs.{CarrierOut, CancelReservationAtPort}
use Rattle.maps.specs.Expected.{new_map}
use Rattle.maps.specs.State.{Mapped}
use Rattle.maps.specs.Rows as maps-rows
use Rattle.maps.specs.Outcome as maps
use Rattle.maps.specs.Projection as maps-runs
use Rattle.queue.specs.declared.request.Request.{Request}
use Rattle.queue.specs.Requests.{no_request, started_to, started_stands}
use Rattle.queue.specs.State.{Queued, base_of}
use Rattle.queue.specs.Rows.{Row, text_of, comes_out}
use Rattle.queue.specs.Outcome as queue
use Rattle.queue.proofs.Walk.{walk}
use Rattle.prediction.specs.State as prediction-state
use Rattle.prediction.specs.State.{Predicted, Timed}
use Rattle.prediction.specs.Outcome as prediction
use Rattle.prediction.proofs.Projected.{timed_leaves, plain_moves}
use Rattle.wafers.specs.Outcome as wafers
use Rattle.wafers.specs.Outcome.{Brought, is_wafers}
use Rattle.wafers.proofs.Projected.{stands}

module _ {A : Type 0} where
  pub set_own : (l : List A) (k : ℕ) (d : A) → set l k (get_or l k d) ≡ l
  set_own [] k d = refl
  set_own (x ∷ l) zero d = refl
  set_own (x ∷ l) (suc k) d = ap (λ r. x ∷ r) (set_own l k d)

  set_twice : (l : List A) (k : ℕ) (x y : A) → set (set l k x) k y ≡ set l k y
  set_twice [] k x y = refl
  set_twice (z ∷ l) zero x y = refl
  set_twice (z ∷ l) (suc k) x y = ap (λ r. z ∷ r) (set_twice l k x y)

-- the ports after are those before, but for the one at k
pub record At (k : ℕ) (before after : List Port) : Type 0 where
  pub becomes : Port
  pub is : after ≡ set before k becomes

-- somewhere
pub record One (before after : List Port) : Type 0 where
  pub at : ℕ
  pub moved : At at before after

pub still_at : (k : ℕ) (l : List Port) → At k l l
still_at k l = record { becomes = get_or l k no_port; is = sym (set_own l k no_port) }

pub still : (l : List Port) → One l l
still l = record { at = 0; moved = still_at 0 l }

at_twice : {k : ℕ} {a b c : List Port} → At k a b → At k b c → At k a c
at_twice {k} {a} x y = record { becomes = y.becomes; is = y.is ∙ ap (λ l. set l k y.becomes) x.is ∙ set_twice a k x.becomes y.becomes }

-- ── P1's layer: the port of the effect ──
at_maps : (m : Mapped) (i : Input) → At (spot_of (maps.row_in m i).effect.port) m.base.ports (maps.state_after m i).base.ports
unfolding maps.state_after row.enact
at_maps m i = go (eqb (maps.answer_in m i) 0)
  where
    k : ℕ
    k = spot_of (maps.row_in m i).effect.port

    go : (w : Bool) → At k m.base.ports (cond w (maps.enact (maps.row_in m i).effect (new_map i.number i.codes) m) m).base.ports
    go true = record { becomes = (maps.row_in m i).effect.becomes; is = refl }
    go false = still_at k m.base.ports

one_maps : (m : Mapped) (i : Input) → One m.base.ports (maps.state_after m i).base.ports
one_maps m i = record { at = spot_of (maps.row_in m i).effect.port; moved = at_maps m i }

-- CarrierOut and CancelReservationAtPort change the port that they name
module _ (m : Mapped) (port : ℕ) where
  out_at : (name : List ℕ) → At (spot_of (narrow port)) m.base.ports (maps.state_after m (CarrierOut name port)).base.ports
  unfolding maps-rows.row_of base.row_of see
  out_at name = at_maps m (CarrierOut name port)

  cancel_at : At (spot_of (narrow port)) m.base.ports (maps.state_after m (CancelReservationAtPort port)).base.ports
  unfolding maps-rows.row_of base.row_of see
  cancel_at = at_maps m (CancelReservationAtPort port)

-- ── P5's layer ──
module _ (s : Queued) (i : Input) where
  abbrev Goes : Row → Type 0
  Goes r = One (base_of s).ports (maps-runs.reached s.mapped r.stands).base.ports

  itself : One (base_of s).ports (maps-runs.reached s.mapped (i ∷ [])).base.ports
  unfolding maps-runs.reached
  itself = one_maps s.mapped i

  another : (j : Input) → One (base_of s).ports (maps-runs.reached s.mapped (j ∷ [])).base.ports
  unfolding maps-runs.reached
  another j = one_maps s.mapped j

  nothing : One (base_of s).ports (maps-runs.reached s.mapped []).base.ports
  unfolding maps-runs.reached
  nothing = still (base_of s).ports

  out : (w : Bool) (r : Request) → One (base_of s).ports (maps-runs.reached s.mapped (cond w (comes_out r i) [])).base.ports
  unfolding maps-runs.reached
  out true r = record {
    at = spot_of (narrow i.port);
    moved = at_twice (cancel_at s.mapped i.port) (out_at (maps.state_after s.mapped (CancelReservationAtPort i.port)) i.port (text_of r.name));
  }
  out false r = still (base_of s).ports

  goes : Goes (queue.row_in s i)
  goes = walk Goes i.number (base_of s) s.queue (see (base_of s) i) i (record {
    cancel_carrier = λ _. itself;
    carrier_out = λ _. nothing;
    cancel_reservation_at_port = λ _. itself;
    load_start = λ _. itself;
    open_row = λ _. itself;
    out_start = λ _. another _;
    out_done = λ _. out (any (started_to (see (base_of s) i).port) s.queue) (get_or s.queue (started_stands (see (base_of s) i).port s.queue) no_request);
    cancel_carrier_out = λ _. nothing;
    cancel_all_carrier_out = λ _. nothing;
    other = λ _. itself;
  })

  pub one_queue : One (base_of s).ports (base_of (queue.state_after s i)).ports
  unfolding queue.state_after
  one_queue = go (eqb (queue.answer_in s i) 0)
    where
      go : (w : Bool) → One (base_of s).ports (base_of (cond w (queue.enact (queue.row_in s i) s) s)).ports
      go true = goes
      go false = still (base_of s).ports

  -- a row that stands for itself, with its port given
  pub at_queue : (queue.row_in s i).stands ≡ i ∷ [] → (maps.row_in s.mapped i).effect.port ≡ narrow i.port
      → At (spot_of (narrow i.port)) (base_of s).ports (base_of (queue.state_after s i)).ports
  unfolding queue.state_after maps-runs.reached
  at_queue e f = go (eqb (queue.answer_in s i) 0)
    where
      passed : At (spot_of (narrow i.port)) (base_of s).ports (maps-runs.reached s.mapped (i ∷ [])).base.ports
      passed = subst (λ p. At (spot_of p) (base_of s).ports (maps.state_after s.mapped i).base.ports) f (at_maps s.mapped i)

      go : (w : Bool) → At (spot_of (narrow i.port)) (base_of s).ports (base_of (cond w (queue.enact (queue.row_in s i) s) s)).ports
      go true = rw e passed
      go false = still_at (spot_of (narrow i.port)) (base_of s).ports

-- ── P7's and P8's layers ──
one_timed : (s : Predicted) (i : Timed) → One (prediction-state.base_of s).ports (prediction-state.base_of (prediction.state_after s i)).ports
one_timed s i = go (prediction.is_timed i.input.number) refl
  where
    go : (w : Bool) → prediction.is_timed i.input.number ≡ w → One (prediction-state.base_of s).ports (prediction-state.base_of (prediction.state_after s i)).ports
    go true t =
        subst (λ (q : Queued). One (prediction-state.base_of s).ports (base_of q).ports) (sym (timed_leaves s i t)) (still (prediction-state.base_of s).ports)
    go false t =
        subst (λ (q : Queued). One (prediction-state.base_of s).ports (base_of q).ports) (sym (plain_moves s i t)) (one_queue s.queued i.input)

pub one_wafers : (s : Predicted) (i : Brought) → One (prediction-state.base_of s).ports (prediction-state.base_of (wafers.state_after s i)).ports
unfolding wafers.state_after prediction.reached
one_wafers s i =
    stands i (λ l. One (prediction-state.base_of s).ports (prediction-state.base_of (prediction.reached s l)).ports) (still (prediction-state.base_of s).ports)
    (λ x _. one_timed s x)

-- LoadStart, LoadDone and UnloadStart change the port that they name
module _ (s : Predicted) (i : Brought) (n : ℕ) (e : i.timed.input.number ≡ n) (plain : eqb n 35 ≡ false) (early : prediction.is_timed n ≡ false)
    (itself-there : (queue.row_in s.queued i.timed.input).stands ≡ i.timed.input ∷ [])
    (there : (maps.row_in s.queued.mapped i.timed.input).effect.port ≡ narrow i.timed.input.port) where
  pub at_wafers : At (spot_of (narrow i.timed.input.port)) (prediction-state.base_of s).ports (prediction-state.base_of (wafers.state_after s i)).ports
  unfolding wafers.state_after wafers.stands_for prediction.reached
  at_wafers =
      let w : is_wafers i ≡ false = ap (λ n. eqb n 35) e ∙ plain in
      rw w
      (subst (λ (q : Queued). At (spot_of (narrow i.timed.input.port)) (prediction-state.base_of s).ports (base_of q).ports)
      (sym (plain_moves s i.timed (ap prediction.is_timed e ∙ early))) (at_queue s.queued i.timed.input itself-there there))
