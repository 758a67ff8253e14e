-- Whoever comes to be overdue stands at the one port that became READY TO UNLOAD.
use Prim.Native.Nat.{ℕ, ◌≤◌, ◌<◌}
use native.Mathlib.Omega.{arith}
use native.Mathlib.Decide.{ℕ_discrete}
use mathlib.Core.Path.{◌≡◌, refl, ap, sym, ◌∙◌}
use mathlib.Core.Logic.{◌≢◌}
use mathlib.Core.Bool.{Bool, true, false, ◌&&◌, ◌||◌}
use mathlib.Core.List.{List}
use lib.ListN.{length, get_or}
use lib.Dec.{eqb}
use borrow.Author.Tests.{eqb-true, eqb-false}
use Rattle.lists.proofs.Bools.{clash, and_l, and_r, or_other, not_true}
use Rattle.records.specs.declared.name.Name.{Name}
use Rattle.records.specs.declared.port.Port.{Port}
use Rattle.records.specs.declared.carrier.Carrier.{Carrier}
use Rattle.records.specs.Names.{no_name, holds_name}
use Rattle.records.specs.Ports.{ready_to_unload}
use Rattle.records.specs.Carriers.{at_port}
use Rattle.rules.specs.declared.row.Effect.{Effect}
use Rattle.rules.specs.State.{State, port_of, record_of}
use Rattle.rules.specs.Row as row
use Rattle.rules.proofs.SoundParts.{Facts}
use Rattle.rules.proofs.Keep.{other_port_after}
use Rattle.follow.specs.Follow.{followed}
use Rattle.queue.proofs.Free.{nobody}
use Rattle.prediction.specs.declared.prediction.Prediction.{Prediction}
use Rattle.prediction.specs.Model.{waiting_for_carrier, predicted, aborted}
use Rattle.prediction.specs.Predictions.{no_prediction}
use Rattle.prediction.specs.State.{is_fixed, first_prediction}
use Rattle.prediction.specs.Sound.{in_range, is_ready, left_at_port, not_overdue, fits}
use Rattle.prediction.proofs.Effects.{Changes}
use Rattle.prediction.proofs.Pairs.{Pairs, Fit, as_long, pairs_all, pairs_set, pairs_without, pairs_new, pairs_at}
use Rattle.nine.proofs.Few.{is_overdue}

-- a carrier whose port is READY TO UNLOAD, with a prediction that is still to be completed
abbrev pub overdue_in : State → Carrier → Prediction → Bool
overdue_in s c p = is_overdue (is_ready s c) p.state

abbrev pending : Prediction → Bool
pending p = eqb p.state predicted || eqb p.state aborted

-- ── A state by itself ──
module _ (s : State) (f : Facts s) (k : ℕ) (l : k < length s.carriers) where
  somebody : (record_of s k).name ≢ no_name
  somebody z = clash (f.records k l).named (ap holds_name z ∙ nobody)

  -- a port with a carrier's name is the carrier's
  tied_there : (p : ℕ) → 1 ≤ p → (port_of s p).tie ≡ (record_of s k).name → (record_of s k).port ≡ p
  tied_there p a e =
      let t = f.held p a (λ z. somebody (sym e ∙ z)) in
      let n = f.kept t.0 t.1 (λ z. let o = t.2 in omega arith) in
      let m : t.0 ≡ k = f.names t.0 k t.1 l (sym n ∙ ap (λ q. (port_of s q).tie) t.2 ∙ e) in
      ap (λ j. (record_of s j).port) (sym m) ∙ t.2

  at_tied : at_port (record_of s k) ≡ true → 1 ≤ (record_of s k).port
  at_tied e = (f.records k l).stands.at_tied (eqb-true _ 1 e)

  tie_is : at_port (record_of s k) ≡ true → (port_of s (record_of s k).port).tie ≡ (record_of s k).name
  tie_is e = f.kept k l (λ z. let o = at_tied e in omega arith)

  -- who waits to be completed is at a port, and the port isn't READY TO UNLOAD
  module _ (p : Prediction) (h : fits s (record_of s k) p ≡ true) (e : pending p ≡ true) where
    not_waiting : eqb p.state waiting_for_carrier ≡ false
    not_waiting = go (eqb p.state waiting_for_carrier) refl
      where
        go : (w : Bool) → eqb p.state waiting_for_carrier ≡ w → w ≡ false
        go true z = clash e (ap (λ n. eqb n predicted || eqb n aborted) (eqb-true p.state waiting_for_carrier z))
        go false z = refl

    pending_at : at_port (record_of s k) ≡ true
    unfolding fits left_at_port
    pending_at = or_other _ _ (and_r (in_range p) _ (and_l _ _ h)) not_waiting

    pending_not_ready : ready_to_unload (port_of s (record_of s k).port) ≡ false
    unfolding fits not_overdue is_ready
    pending_not_ready =
        let o = and_r (in_range p && left_at_port (record_of s k) p) (not_overdue s (record_of s k) p) h in
        rw (e, pending_at) at (not_true (pending p && is_ready s (record_of s k)) o)

-- ── Who had a prediction before ──
module _ (s : State) (ps : List Prediction) (fixed : is_fixed s ≡ true) (h : Pairs (Fit s) s.carriers ps) where
  -- where a carrier stood, with the prediction that it has
  record Was (c : Carrier) (p : Prediction) : Type 0 where
    at : ℕ
    live : at < length s.carriers
    named : (record_of s at).name ≡ c.name
    same : get_or ps at no_prediction ≡ p

  abbrev Old : Carrier → Prediction → Type 0
  Old c p = pending p ≡ true → Was c p

  old_before : Pairs Old s.carriers ps
  unfolding record_of
  old_before = pairs_all s.carriers ps (as_long h) (λ k l _. record { at = k; live = l; named = refl; same = refl })

  new_not_pending : pending (first_prediction s) ≡ false
  unfolding first_prediction
  new_not_pending = rw fixed

  old_after : (t : State) (goes : ℕ) (made : Bool) → Changes s t goes made
      → Pairs Old t.carriers (followed goes made (first_prediction s) ps)
  unfolding row.enact followed record_of
  old_after t goes made ch =
      let e = ch.effect in
      rw (ch.leads, ch.goes_so, ch.made_so)
      (pairs_new e.made e.next (first_prediction s)
      (pairs_without e.goes (pairs_set e.changes e.next old_before
      (λ b p o z. let w = o z in record { at = w.at; live = w.live; named = w.named ∙ sym (ch.apt.named b); same = w.same })))
      (λ m z. clash z new_not_pending))

-- ── Before and after an effect ──
-- a port that became READY TO UNLOAD, and the carrier that it is tied to
pub record FreedAt (s t : State) (p : ℕ) (n : Name) : Type 0 where
  pub tie : (port_of t p).tie ≡ n
  pub ready : (port_of t p).transfer ≡ 2
  pub before : (port_of s p).transfer ≢ 2

module _ (s t : State) (f : Facts s) (g : Facts t) (goes : ℕ) (made : Bool) (ch : Changes s t goes made) where
  abbrev e : Effect
  e = ch.effect

  same_port : (p : ℕ) → p ≢ e.port → port_of t p ≡ port_of s p
  same_port p n = ap (λ u. port_of u p) ch.leads ∙ other_port_after s f e ch.apt p n

  -- whoever stands at a port before and after stands at the same one
  stays_there : (j k : ℕ) → j < length s.carriers → k < length t.carriers → (record_of s j).name ≡ (record_of t k).name
      → at_port (record_of s j) ≡ true → at_port (record_of t k) ≡ true → (record_of s j).port ≡ (record_of t k).port
  stays_there j k a b n u v = go (ℕ_discrete (record_of s j).port e.port) (ℕ_discrete (record_of t k).port e.port)
    where
      go : Dec ((record_of s j).port ≡ e.port) → Dec ((record_of t k).port ≡ e.port) → (record_of s j).port ≡ (record_of t k).port
      go (no d) _ =
          sym (tied_there t g k b (record_of s j).port (at_tied s f j a u)
          (ap (λ (q : Port). q.tie) (same_port (record_of s j).port d) ∙ tie_is s f j a u ∙ n))
      go (yes z) (yes y) = z ∙ sym y
      go (yes z) (no d) =
          tied_there s f j a (record_of t k).port (at_tied t g k b v)
          (ap (λ (q : Port). q.tie) (sym (same_port (record_of t k).port d)) ∙ tie_is t g k b v ∙ sym n)

  module _ (ps : List Prediction) (fixed : is_fixed s ≡ true) (h : Pairs (Fit s) s.carriers ps) where
    abbrev first : List Prediction
    first = followed goes made (first_prediction s) ps

    pub freed : (k : ℕ) → k < length t.carriers → overdue_in t (record_of t k) (get_or first k no_prediction) ≡ true
        → FreedAt s t e.port (record_of t k).name
    unfolding record_of is_ready
    freed k l o = go (ℕ_discrete (record_of t k).port e.port)
      where
        p : Prediction
        p = get_or first k no_prediction

        is_pending : pending p ≡ true
        is_pending = and_l (pending p) _ o

        at_port_fact : at_port (record_of t k) ≡ true
        at_port_fact = and_l _ _ (and_r (pending p) _ o)

        ready_then : ready_to_unload (port_of t (record_of t k).port) ≡ true
        ready_then = and_r (at_port (record_of t k)) _ (and_r (pending p) _ o)

        was : Was s ps fixed h (record_of t k) p
        was = pairs_at (old_after s ps fixed h t goes made ch) k l is_pending

        fit : fits s (record_of s was.at) p ≡ true
        fit = rw (fixed, was.same) at (pairs_at h was.at was.live)

        port_is : (record_of s was.at).port ≡ (record_of t k).port
        port_is = stays_there was.at k was.live l was.named (pending_at s f was.at was.live p fit is_pending) at_port_fact

        not_before : ready_to_unload (port_of s (record_of t k).port) ≡ false
        not_before = rw port_is at (pending_not_ready s f was.at was.live p fit is_pending)

        go : Dec ((record_of t k).port ≡ e.port) → FreedAt s t e.port (record_of t k).name
        go (no d) = clash (ap ready_to_unload (sym (same_port (record_of t k).port d)) ∙ ready_then) not_before
        go (yes z) = record {
          tie = ap (λ p. (port_of t p).tie) (sym z) ∙ tie_is t g k l at_port_fact;
          ready = eqb-true _ 2 (rw z at ready_then);
          before = eqb-false _ 2 (rw z at not_before);
        }
