-- What each row that accepts does to the count.
use Prim.Native.Nat.{ℕ, ◌≤◌}
use native.Mathlib.Omega.{arith}
use mathlib.Core.Path.{◌≡◌, refl, ap, sym, ◌∙◌}
use mathlib.Core.Bool.{Bool, true, false, not, cond}
use lib.Dec.{eqb}
use borrow.Author.Tests.{eqb-true, eq-eqb, ne_eqb}
use Rattle.lists.proofs.Bools.{clash, and_l, and_r, or_l, or_r, or_false_l, not_true}
use Rattle.records.specs.declared.port.Port.{Port}
use Rattle.records.specs.declared.carrier.Carrier.{Carrier}
use Rattle.records.specs.Ports.{no_port, has_pod, ready_to_load, ready_to_unload, to_unload}
use Rattle.records.specs.Carriers.{no_carrier, expected, at_port, in_buffer, untied, placed_at}
use Rattle.records.specs.Fields.{with_transfer, with_opened, with_id}
use Rattle.rules.specs.declared.row.Seen.{Seen}
use Rattle.rules.specs.declared.row.Effect.{Effect}
use Rattle.rules.specs.State.{State, port_of, record_of}
use Rattle.rules.specs.Seen.{Input, see}
use Rattle.rules.specs.Row.{judge, on_port, on_record, on_both, placed}
use Rattle.rules.specs.Booking.{meant, one_pair, cancel_bind}
use Rattle.rules.specs.Verdict.{proceed_with_carrier, cancel_at, cancel_port, failed, cancel_carrier}
use Rattle.rules.specs.Buffer.{carrier_out, carrier_in, move_in}
use Rattle.rules.specs.Service.{goes_out, comes_in}
use Rattle.rules.specs.Transfer.{load_done, unload_done}
use Rattle.rules.specs.Reading.{elsewhere, displaced, id_read, id_read_failed}
use Rattle.rules.specs.Opening.{leaves_port, close_row}
use Rattle.rules.specs.Rows.{row_of}
use Rattle.rules.specs.Promise.{Live}
use Rattle.rules.specs.Granted.{outbound}
use Rattle.rules.proofs.Accepts.{Clear, walk_accepting, never}
use Rattle.rules.proofs.SoundParts.{Facts}
use Rattle.rules.proofs.UnknownPod.{Pod, pod_there}
use Rattle.rules.proofs.KeepSeen.{given_range, here_fits, found_live, placed_known}
use Rattle.rules.proofs.KeepVerdict.{proceeding, cancelling}
use Rattle.tally.proofs.Weighs.{Weighs}
use Rattle.tally.proofs.Sees.{zero_port_fact, meant_port_fact, meant_record, nobody, not_placed, held_away}

-- where a carrier is at a port there is a pod
abbrev pub Pods : State → Type 0
Pods s = (k : ℕ) → Live s k → at_port (record_of s k) ≡ true → has_pod (port_of s (record_of s k).port) ≡ true

-- a port that is READY TO UNLOAD or unloading has a pod
abbrev pub Full : State → Type 0
Full s = (p : ℕ) → outbound (port_of s p) ≡ true → has_pod (port_of s p) ≡ true

module _ (s : State) (i : Input) (f : Facts s) (pods : Pods s) (full : Full s) where
  abbrev x : Seen
  x = see s i

  -- the port keeps its pod or keeps having none, nobody in the buffer goes, and what changes is in the buffer as before
  steady : {n : ℕ} {e : Effect} → eqb n 25 ≡ false → eqb n 14 ≡ false → has_pod e.becomes ≡ has_pod (port_of s e.port)
      → in_buffer (record_of s e.goes) ≡ false → in_buffer e.next ≡ in_buffer (record_of s e.changes)
      → (outbound e.becomes ≡ true → has_pod e.becomes ≡ true) → Weighs s n e
  steady a b p g c o = record { even = rw (a, b, p, g, c) (omega arith); full = o }

  none_out : {X : Type 0} → outbound no_port ≡ true → X
  none_out z = clash z refl

  no_pod_fact : has_pod no_port ≡ has_pod (port_of s 0)
  no_pod_fact = ap has_pod (sym (zero_port_fact s i f))

  here_full : outbound x.here ≡ true → has_pod x.here ≡ true
  unfolding see
  here_full = full x.port

  -- only the port given changes, and not its pod
  on_port_fact : (n : ℕ) {q : Port} → eqb n 25 ≡ false → eqb n 14 ≡ false → has_pod q ≡ has_pod x.here
      → (outbound q ≡ true → has_pod x.here ≡ true) → Weighs s n (on_port x.count x.port q)
  unfolding see
  on_port_fact n a b p o = steady a b p (nobody s i f) (sym (nobody s i f)) (λ z. p ∙ o z)

  -- ── 2: the port of the carrier that is meant, and an expected carrier goes ──
  cancel_bind_fact : Clear (cancel_bind x).grounds → Weighs s 2 (cancel_bind x).effect
  unfolding one_pair
  cancel_bind_fact k =
      let c = k.1.1.1.1.0 in
      let t : not (untied (meant x)) ≡ true = search (and_l, and_r) depth 5 in
      let e : expected (meant x) ≡ true = search (and_l, and_r) depth 5 in
      let u = not_true _ t in
      let m = meant_port_fact s i f (λ z. clash (eq-eqb (meant x).port 0 z) u) in
      let z = eqb-true (meant x).place 0 e in
      steady refl refl (ap has_pod m) (ap in_buffer (meant_record s i f) ∙ ne_eqb (meant x).place 2 (λ y. omega arith))
      (sym (nobody s i f)) (λ o. ap has_pod m ∙ full (meant x).port (ap outbound (sym m) ∙ o))

  -- ── 5 and 6: the host says yes or no ──
  proceed_with_carrier_fact : Clear (proceed_with_carrier x).grounds → Weighs s 5 (proceed_with_carrier x).effect
  unfolding see
  proceed_with_carrier_fact k = go (placed x) refl
    where
      go : (w : Bool) → placed x ≡ w → Weighs s 5 (proceeding s i f w (not x.known))
      go true p = steady refl refl no_pod_fact (nobody s i f) refl none_out
      go false p = steady refl refl refl (nobody s i f) (sym (not_placed s i f p)) here_full

  cancel_carrier_fact : Clear (cancel_carrier x).grounds → Weighs s 6 (cancel_carrier x).effect
  unfolding see cancel_at cancel_port failed
  cancel_carrier_fact k = go (placed x) refl (at_port x.found) refl (eqb (cancel_at x) 0) refl (pod_there x k.1.1.0 k.1.1.1.0)
    where
      kept : (w : Bool) → placed x ≡ w → (v z : Bool)
          → in_buffer (cancelling s i f w v z (not x.known)).next ≡ in_buffer x.found
      kept true p v z = refl
      kept false p v z = sym (not_placed s i f p)

      go : (w : Bool) → placed x ≡ w → (v : Bool) → at_port x.found ≡ v
          → (z : Bool) → eqb (cond w (cond v x.found.port 0) x.port) 0 ≡ z → (placed x ≡ false → Pod x)
          → Weighs s 6 (cancelling s i f w v z (not x.known))
      go w p v l true y d =
          steady refl refl (no_pod_fact ∙ ap (λ j. has_pod (port_of s j)) (sym (eqb-true _ 0 y))) (nobody s i f) (kept w p v true) none_out
      go true p true l false y d =
          steady refl refl refl (nobody s i f) (kept true p true false) (λ _. pods x.stands (found_live s i f (placed_known s i f p)) l)
      go true p false l false y d = clash {b = eqb 0 0} refl y
      go false p v l false y d = steady refl refl refl (nobody s i f) (kept false p v false) (λ _. (d p).present)

  -- ── 7 and 18: a carrier passes between the buffer and a port ──
  carrier_out_fact : Clear (carrier_out x).grounds → Weighs s 7 (carrier_out x).effect
  unfolding see
  carrier_out_fact k =
      let c = k.1.1.1.1.0 in
      let b : in_buffer x.found ≡ true = search (and_l, and_r) depth 4 in
      let t : ready_to_load x.here ≡ true = search (and_l, and_r) depth 4 in
      let z = eqb-true x.here.transfer 1 t in
      let p = ne_eqb x.here.pod 1 ((here_fits s i f).low (omega arith)) in
      record { even = rw (b, p, nobody s i f); full = λ _. refl }

  move_in_fact : Clear (move_in x).grounds → Weighs s 18 (move_in x).effect
  unfolding see
  move_in_fact k =
      let c = k.1.1.0 in
      let p : has_pod x.here ≡ true = search (and_l, and_r) depth 4 in
      let h = held_away s i f (given_range s i f k.0).0 in
      record { even = rw (p, h, nobody s i f); full = λ z. clash z refl }

  -- ── 8 and 23: a carrier's own port ──
  carrier_in_fact : Clear (carrier_in x).grounds → Weighs s 8 (carrier_in x).effect
  unfolding see
  carrier_in_fact k =
      let c = k.1.1.0 in
      let t : ready_to_unload x.home ≡ true = search (and_l, and_r) depth 4 in
      steady refl refl refl (nobody s i f) refl (λ _. full x.found.port (or_l _ t))

  close : Clear (close_row x).grounds → Weighs s 23 (close_row x).effect
  unfolding see
  close k = go (leaves_port x) refl
    where
      go : (w : Bool) → leaves_port x ≡ w
          → Weighs s 23 (on_both x.count (cond w x.found.port 0) (cond w (to_unload x.home) no_port) x.stands (with_opened 0 x.found))
      go true e = steady refl refl refl (nobody s i f) refl (λ _. pods x.stands (found_live s i f k.1.0) (and_l _ _ e))
      go false e = steady refl refl no_pod_fact (nobody s i f) refl none_out

  -- ── 10: a port that goes out of service or comes in is no more outbound than it was ──
  served : (v : Bool) (w : Bool) → outbound (with_transfer (cond v 0 (cond w 1 x.here.transfer)) x.here) ≡ true → outbound x.here ≡ true
  served true w z = or_r (ready_to_unload x.here) z
  served false true z = or_r (ready_to_unload x.here) z
  served false false z = z

  -- ── 14 and 25: a pod comes, and one goes ──
  load_done_fact : Clear (load_done x).grounds → Weighs s 14 (load_done x).effect
  unfolding see
  load_done_fact k =
      let p = ne_eqb x.here.pod 1 ((here_fits s i f).load (eqb-true x.here.movement 1 k.1.0)) in
      record { even = rw (p, nobody s i f); full = λ _. refl }

  unload_done_fact : Clear (unload_done x).grounds → Weighs s 25 (unload_done x).effect
  unfolding see
  unload_done_fact k =
      let p = full x.port (or_r (ready_to_unload x.here) k.1.0) in
      let h = held_away s i f (given_range s i f k.0).0 in
      record { even = rw (p, h, nobody s i f); full = λ z. clash z refl }

  -- ── 16 and 17: a tag is read, or can't be ──
  displaced_away : 1 ≤ x.port → in_buffer (record_of s (displaced x)) ≡ false
  unfolding see displaced
  displaced_away a = go (eqb x.holds x.stands)
    where
      go : (w : Bool) → in_buffer (record_of s (cond w x.count x.holds)) ≡ false
      go true = nobody s i f
      go false = held_away s i f a

  id_read_fact : Clear (id_read x).grounds → Weighs s 16 (id_read x).effect
  unfolding see elsewhere
  id_read_fact k =
      steady refl refl refl (displaced_away (given_range s i f k.0).0)
      (sym (not_placed s i f (or_false_l (placed x) _ k.1.1.0))) here_full

  id_read_failed_fact : Clear (id_read_failed x).grounds → Weighs s 17 (id_read_failed x).effect
  unfolding see
  id_read_failed_fact k =
      steady refl refl refl (nobody s i f) (none x.tied ∙ sym (held_away s i f (given_range s i f k.0).0)) here_full
    where
      none : (w : Bool) → in_buffer (cond w (with_id 2 (placed_at x.port x.held)) no_carrier) ≡ false
      none true = refl
      none false = refl

  -- ── All ──
  in_place : (n k : ℕ) {c : Carrier} → eqb n 25 ≡ false → eqb n 14 ≡ false → c.place ≡ (record_of s k).place → Weighs s n (on_record x.count k c)
  in_place n k a b e = steady a b no_pod_fact (nobody s i f) (ap (λ p. eqb p 2) e) none_out

  pub rows_weigh : (n : ℕ) → judge (row_of n x).grounds ≡ 0 → Weighs s n (row_of n x).effect
  unfolding see
  rows_weigh = walk_accepting (Weighs s) x (record {
    bind = λ _. steady refl refl refl (nobody s i f) (sym (nobody s i f)) here_full;
    cancel_bind = cancel_bind_fact;
    carrier_notification = λ _. steady refl refl no_pod_fact (nobody s i f) (sym (nobody s i f)) none_out;
    cancel_carrier_notification = λ k.
        let z = eqb-true x.found.place 0 (and_l _ _ k.1.1.0) in
        steady refl refl no_pod_fact (ne_eqb x.found.place 2 (λ y. omega arith)) (sym (nobody s i f)) none_out;
    proceed_with_carrier = proceed_with_carrier_fact;
    cancel_carrier = cancel_carrier_fact;
    carrier_out = carrier_out_fact;
    carrier_in = carrier_in_fact;
    change_access = λ _. on_port_fact 9 refl refl refl here_full;
    change_service_status = λ _. on_port_fact 10 refl refl refl (λ z. here_full (served (goes_out x) (comes_in x) z));
    reserve_at_port = λ _. on_port_fact 11 refl refl refl here_full;
    cancel_reservation_at_port = λ _. on_port_fact 12 refl refl refl here_full;
    load_start = λ _. on_port_fact 13 refl refl refl (λ z. clash z refl);
    load_done = load_done_fact;
    load_fail = λ _. on_port_fact 15 refl refl refl (λ z. clash z refl);
    id_read = id_read_fact;
    id_read_failed = id_read_failed_fact;
    move_in = move_in_fact;
    open_row = λ _. in_place 19 x.stands refl refl refl;
    slot_map = λ _. in_place 20 x.stands refl refl refl;
    access_start = λ _. in_place 21 x.stands refl refl refl;
    access_end = λ _. in_place 22 x.stands refl refl refl;
    close_row = close;
    unload_start = λ k. on_port_fact 24 refl refl refl (λ _. here_full (or_l _ k.1.0));
    unload_done = unload_done_fact;
    unload_fail = λ k. on_port_fact 26 refl refl refl (λ _. here_full (or_r (ready_to_unload x.here) k.1.0));
    none = λ _. never;
  })
