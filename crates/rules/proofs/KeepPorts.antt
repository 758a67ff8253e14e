-- The rows that change only a port, or a port and a record that goes: 2, 4, 9 to 15 and 24 to 26.
use Prim.Native.Nat.{ℕ, ◌≤◌, ◌<◌}
use native.Mathlib.Omega.{arith}
use mathlib.Core.Path.{◌≡◌, refl, ap, sym, ◌∙◌}
use mathlib.Core.Logic.{◌≢◌, ◌⊎◌, inl, inr}
use mathlib.Core.Bool.{Bool, true, false, not, cond, ◌&&◌, ◌||◌}
use lib.ListN.{length}
use lib.Dec.{eqb}
use borrow.Author.Tests.{eqb-true, eqb-false, leb-true, lt-ltb}
use Rattle.lists.proofs.Bools.{and_l, and_r, or_other, not_true, not_false}
use Rattle.records.specs.declared.port.Port.{Port}
use Rattle.records.specs.Ports.{ready_to_load, unbound}
use Rattle.records.specs.Fields.{with_transfer, with_access, with_reserved}
use Rattle.records.specs.Carriers.{expected, untied}
use Rattle.rules.specs.declared.row.Seen.{Seen}
use Rattle.rules.specs.State.{State, port_of, record_of}
use Rattle.rules.specs.Seen.{Input, see}
use Rattle.rules.specs.Row.{on_port, on_port_and_gone}
use Rattle.rules.specs.Booking.{meant, meant_port, meant_stands, one_pair, cancel_bind, cancel_carrier_notification}
use Rattle.rules.specs.Service.{goes_out, comes_in, change_access, change_service_status, reserve_at_port, cancel_reservation_at_port}
use Rattle.rules.specs.Transfer.{load_start, load_done, load_fail, unload_start, unload_done, unload_fail}
use Rattle.rules.proofs.SoundParts.{PortFits, Facts}
use Rattle.rules.proofs.Orderly.{ties_differ_fact}
use Rattle.rules.proofs.Keep.{Calm, Keeps}
use Rattle.rules.proofs.KeepShapes.{Good, calm_keeps, freed_keeps, gone_keeps}
use Rattle.rules.proofs.KeepFits.{no_tie, marked_fits, moved_fits, emptied_fits, moving_calm, unblocked_calm}
use Rattle.rules.proofs.KeepSeen.{given_range, found_live, held_live, held_tied, held_there, only_held}

module _ (s : State) (i : Input) (f : Facts s) where
  abbrev x : Seen
  x = see s i

  -- ── Rows 9 to 12 ──
  -- the access mode and the reservation are marks, which nothing else depends on
  marks_keep : {a r : ℕ} → a ≤ 1 → r ≤ 1
      → Keeps s (on_port (length s.carriers) x.port (with_access a (with_reserved r (port_of s x.port))))
  marks_keep a r =
      let h = f.ports x.port in
      calm_keeps s f x.port _ (marked_fits _ h a r h.tie h.tag) (record { tie = refl; quiet = λ a b. (a, b) })

  pub change_access_keeps : Good s (change_access x)
  unfolding see
  change_access_keeps k _ = marks_keep (leb-true _ _ k.1.0) (f.ports x.port).reserved

  pub reserve_at_port_keeps : Good s (reserve_at_port x)
  unfolding see
  reserve_at_port_keeps _ _ = marks_keep (f.ports x.port).access (omega arith)

  pub cancel_reservation_at_port_keeps : Good s (cancel_reservation_at_port x)
  unfolding see
  cancel_reservation_at_port_keeps _ _ = marks_keep (f.ports x.port).access (omega arith)

  -- the transfer state stays, or passes between OUT OF SERVICE and READY TO LOAD
  abbrev Served : ℕ → Type 0
  Served v = (v ≡ x.here.transfer) ⊎ ((v ≤ 1) × (x.here.transfer ≤ 1))

  served : (v : ℕ) → (goes_out x && not (ready_to_load x.here)) ≡ false
      → v ≡ cond (goes_out x) 0 (cond (comes_in x) 1 x.here.transfer) → Served v
  served v k e = go (goes_out x) refl (comes_in x) refl e
    where
      go : (o : Bool) → goes_out x ≡ o → (c : Bool) → comes_in x ≡ c → v ≡ cond o 0 (cond c 1 x.here.transfer) → Served v
      go true p c q z =
          let r = eqb-true x.here.transfer 1 (not_false (ready_to_load x.here) (rw p at k)) in
          inr (omega arith, omega arith)
      go false p true q z = let r = eqb-true x.here.transfer 0 (and_l _ _ q) in inr (omega arith, omega arith)
      go false p false q z = inl z

  served_fits : (v : ℕ) → PortFits x.here → Served v → PortFits (with_transfer v x.here)
  served_fits v h (inl z) = rw z h
  served_fits v h (inr z) =
      moved_fits _ h (omega arith) h.movement h.pod (λ n. let t = h.moving n in absurd (omega arith)) (λ _. h.low z.1) h.load

  served_calm : (v : ℕ) → Served v → Calm x.here (with_transfer v x.here)
  served_calm v (inl z) = record { tie = refl; quiet = λ a b. (a, ap (λ t. eqb t 3) z ∙ b) }
  served_calm v (inr z) = unblocked_calm refl (λ t. omega arith)

  pub change_service_status_keeps : Good s (change_service_status x)
  unfolding see
  change_service_status_keeps k _ =
      let v = served _ k.1.1.1.0 refl in
      calm_keeps s f x.port _ (served_fits _ (f.ports x.port) v) (served_calm _ v)

  -- ── Rows 13 to 15 and 24 to 26 ──
  pub load_start_keeps : Good s (load_start x)
  unfolding see
  load_start_keeps k _ =
      let h = f.ports x.port in
      let r = eqb-true x.here.transfer 1 k.1.0 in
      calm_keeps s f x.port _
      (marked_fits _
      (moved_fits _ h (omega arith) (omega arith) h.pod (λ _. refl) (λ b. absurd (omega arith)) (λ _. h.low (omega arith)))
      h.access (omega arith) h.tie h.tag)
      (unblocked_calm refl (λ z. omega arith))

  pub load_done_keeps : Good s (load_done x)
  unfolding see
  load_done_keeps k _ =
      let h = f.ports x.port in
      let r = eqb-true x.here.movement 1 k.1.0 in
      let t = h.moving (λ z. omega arith) in
      calm_keeps s f x.port _
      (marked_fits _
      (moved_fits _ h h.transfer (omega arith) (omega arith) (λ n. absurd (n refl))
      (λ b. absurd (omega arith)) (λ z. absurd (omega arith)))
      h.access h.reserved h.tie (omega arith))
      (moving_calm refl (λ z. omega arith))

  pub load_fail_keeps : Good s (load_fail x)
  unfolding see
  load_fail_keeps k _ =
      let h = f.ports x.port in
      let r = eqb-true x.here.movement 1 k.1.0 in
      calm_keeps s f x.port _
      (moved_fits _ h (omega arith) (omega arith) h.pod (λ n. absurd (n refl)) (λ _. h.load r) (λ z. absurd (omega arith)))
      (moving_calm refl (λ z. omega arith))

  pub unload_start_keeps : Good s (unload_start x)
  unfolding see
  unload_start_keeps k _ =
      let h = f.ports x.port in
      let r = eqb-true x.here.transfer 2 k.1.0 in
      calm_keeps s f x.port _
      (moved_fits _ h (omega arith) (omega arith) h.pod (λ _. refl) (λ b. absurd (omega arith)) (λ z. absurd (omega arith)))
      (unblocked_calm refl (λ z. omega arith))

  pub unload_done_keeps : Good s (unload_done x)
  unfolding see
  unload_done_keeps k _ =
      let r = given_range s i f k.0 in
      freed_keeps s f x.port _ x.holds (emptied_fits _ (f.ports x.port)) refl (only_held s i f r.0)
      (λ b _. held_tied s i f (lt-ltb x.holds (length s.carriers) b))

  pub unload_fail_keeps : Good s (unload_fail x)
  unfolding see
  unload_fail_keeps k _ =
      let h = f.ports x.port in
      let r = eqb-true x.here.movement 2 k.1.0 in
      calm_keeps s f x.port _
      (moved_fits _ h (omega arith) (omega arith) h.pod (λ n. absurd (n refl)) (λ b. absurd (omega arith)) (λ z. absurd (omega arith)))
      (moving_calm refl (λ z. omega arith))

  -- ── Rows 2 and 4 ──
  unbind : (n : ℕ) → n ≡ length s.carriers → (q : Port) (k : ℕ) → k < length s.carriers → (record_of s k).port ≢ 0
      → q ≡ port_of s (record_of s k).port → Keeps s (on_port_and_gone n (record_of s k).port (unbound q) k)
  unbind n m q k b d e =
      let h = f.ports (record_of s k).port in
      rw (m, e)
      (freed_keeps s f (record_of s k).port _ k (marked_fits _ h h.access (omega arith) (no_tie _) h.tag) refl
      (λ j l n z. n (ties_differ_fact s f j k l b (λ y. d (sym z ∙ y)) z)) (λ _ _. refl))

  pub cancel_bind_keeps : Good s (cancel_bind x)
  unfolding see meant meant_port meant_stands one_pair
  cancel_bind_keeps k _ =
      let n : not (untied (meant x)) ≡ true = let o = k.1.1.1.1.0 in search (and_l, and_r) depth 5 in
      go x.blank refl k.1.1.1.0 (eqb-false (meant x).port 0 (not_true _ n))
    where
      go : (w : Bool) → x.blank ≡ w → (x.blank || x.known) ≡ true → (cond w x.held x.found).port ≢ 0
          → Keeps s (on_port_and_gone x.count (cond w x.held x.found).port (unbound (cond w x.here x.home))
          (cond w x.holds x.stands))
      go true e k n =
          let t = held_there s i f n in
          unbind x.count refl x.here x.holds (held_live s i f t) n (ap (port_of s) (sym (held_tied s i f t)))
      go false e k n = unbind x.count refl x.home x.stands (found_live s i f (or_other x.blank x.known k e)) n refl

  pub cancel_carrier_notification_keeps : Good s (cancel_carrier_notification x)
  unfolding see
  cancel_carrier_notification_keeps k _ =
      gone_keeps s f x.stands (eqb-true _ 0 (and_r (expected x.found) _ k.1.1.0))
