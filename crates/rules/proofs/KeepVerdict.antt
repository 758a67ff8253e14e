-- The rows by which the host says yes or no: 5 and 6.
use Prim.Native.Nat.{ℕ, ◌≤◌}
use native.Mathlib.Omega.{arith}
use mathlib.Core.Path.{◌≡◌, refl}
use mathlib.Core.Bool.{Bool, true, false, not, cond, ◌&&◌, ◌||◌}
use lib.Dec.{eqb}
use borrow.Author.Tests.{eqb-true, eqb-false}
use Rattle.lists.proofs.Bools.{clash, and_r, or_r, or_other, not_true}
use Rattle.records.specs.declared.name.Name.{Name}
use Rattle.records.specs.declared.port.Port.{Port}
use Rattle.records.specs.declared.carrier.Carrier.{Carrier}
use Rattle.records.specs.Names.{no_name, same_name, holds_name}
use Rattle.records.specs.Ports.{no_port, idle, ready_to_unload, to_unload}
use Rattle.records.specs.Carriers.{at_port, in_access, id_waits, slot_waits, placed_at, proceeded, judged_no, cancelled_by}
use Rattle.records.specs.Fields.{tied_to, with_id}
use Rattle.rules.specs.declared.row.Seen.{Seen}
use Rattle.rules.specs.declared.row.Effect.{Effect}
use Rattle.rules.specs.State.{State}
use Rattle.rules.specs.Seen.{Input, see}
use Rattle.rules.specs.Row.{other_port, placed, found_or_new}
use Rattle.rules.specs.Verdict.{proceed_with_carrier, can_cancel, cancel_at, cancel_port, failed, cancel_carrier}
use Rattle.rules.proofs.UnknownPod.{Pod, pod_there, found_untied}
use Rattle.rules.proofs.Apt.{Apt}
use Rattle.rules.proofs.SoundParts.{PortFits, Fits, Facts}
use Rattle.rules.proofs.Keep.{Keeps}
use Rattle.rules.proofs.KeepShapes.{Good, record_keeps, both_keeps}
use Rattle.rules.proofs.KeepSeen.{given_range, here_fits, home_fits, name_fits, found_live, found_fits}
use Rattle.rules.proofs.KeepSeen.{nobody_tied, either_fits, either_named, either_shut, placed_known}
use Rattle.rules.proofs.KeepFits.{marked_fits, flags_fit, states_fit}
use Rattle.rules.proofs.KeepRecords.{unload_fits, statuses_keep, shut}
use Rattle.rules.proofs.KeepArrivals.{placed_fits, coming_keeps}

tied_fits : (q : Port) {n : Name} → holds_name n ≡ true → PortFits q → PortFits (tied_to n q)
tied_fits q {n} g h = marked_fits q h h.access h.reserved (or_r (same_name n no_name) g) h.tag

-- a status that stays, or is set
set_or_kept : (w : Bool) (v u : ℕ) → (1 ≤ v) × (v ≤ 4) → (1 ≤ u) × (u ≤ 4) → (1 ≤ cond w v u) × (cond w v u ≤ 4)
set_or_kept true v u a b = a
set_or_kept false v u a b = b

judged_fits : (P B : ℕ) (c : Carrier) → Fits P B c → Fits P B (judged_no c)
judged_fits P B c h =
    states_fit h h.map (set_or_kept (id_waits c) 4 c.id (omega arith, omega arith) h.id)
    (set_or_kept (not (id_waits c) && slot_waits c) 4 c.slot (omega arith, omega arith) h.slot) h.accessing

cancelled_fits : (P B : ℕ) (b : Bool) (c : Carrier) → Fits P B c → Fits P B (cancelled_by b c)
cancelled_fits P B b c h = flags_fit h (omega arith) (omega arith) (came b)
  where
    came : (w : Bool) → cond w c.cameout 0 ≤ 1
    came true = h.cameout
    came false = omega arith

module _ (s : State) (i : Input) (f : Facts s) where
  abbrev x : Seen
  x = see s i

  -- ── Row 5 ──
  abbrev pub proceeding : Bool → Bool → Effect
  proceeding w m = record {
    port = cond w 0 x.port;
    becomes = cond w no_port (tied_to x.name x.here);
    goes = x.count;
    changes = x.stands;
    next = cond w (proceeded x.found) (with_id 3 (placed_at x.port (found_or_new x)));
    made = m;
  }

  pub proceed_with_carrier_keeps : Good s (proceed_with_carrier x)
  unfolding see
  proceed_with_carrier_keeps k a =
      go (placed x) refl (not x.known) refl k.0 (pod_there x k.1.1.0 k.1.1.1.0) (found_untied x k.1.1.1.0) a
    where
      go : (w : Bool) → placed x ≡ w → (m : Bool) → not x.known ≡ m → x.named ≡ true → (placed x ≡ false → Pod x)
          → (placed x ≡ false → x.known ≡ true → x.found.port ≡ 0) → Apt s (proceeding w m) → Keeps s (proceeding w m)
      go true p true q n d t a = clash (placed_known s i f p) (not_true x.known q)
      go true p false q n d t a =
          let u = placed_known s i f p in
          let h = found_fits s i f u in
          let w = id_waits x.found in
          statuses_keep s i f u h.map (set_or_kept w 3 _ (omega arith, omega arith) h.id)
          (set_or_kept w _ 3 h.slot (omega arith, omega arith)) h.accessing a
      go false p m q n d t a =
          let o = d p in
          let r = given_range s i f o.port in
          coming_keeps s i f (tied_to x.name x.here) x.count (with_id 3 (placed_at x.port (found_or_new x))) m q a o.port
          (tied_fits x.here (name_fits s i f n) (here_fits s i f)) refl
          (placed_fits _ _ 3 x.port _ (omega arith, omega arith) r.0 r.1 (either_fits s i f n)) (either_named s i f) refl refl
          (either_shut s i f p)
          (λ j z. nobody_tied s i f o.free r.0 j z.live) (λ u n. absurd (n (t p u))) (λ b. absurd (omega arith))

  -- ── Row 6 ──
  abbrev port_of_fact : Bool → Bool → Port
  port_of_fact w v = cond w (cond v x.home no_port) (tied_to x.name x.here)

  abbrev pub cancelling : Bool → Bool → Bool → Bool → Effect
  cancelling w v z m = record {
    port = cond w (cond v x.found.port 0) x.port;
    becomes = cond z no_port (to_unload (port_of_fact w v));
    goes = x.count;
    changes = x.stands;
    next = cancelled_by (ready_to_unload (port_of_fact w v)) (cond w (judged_no x.found) (with_id 4 (placed_at x.port (found_or_new x))));
    made = m;
  }

  idle_home : (not (placed x) || can_cancel x x.found x.home) ≡ true → placed x ≡ true → at_port x.found ≡ true
      → idle x.home ≡ true
  unfolding can_cancel
  idle_home e p a =
      let c = or_other (not (placed x)) (can_cancel x x.found x.home) e (rw p) in
      or_other (not (at_port x.found)) _ (and_r (not (other_port x x.found) && not (in_access x.found)) _ c) (rw a)

  pub cancel_carrier_keeps : Good s (cancel_carrier x)
  unfolding see cancel_at cancel_port failed
  cancel_carrier_keeps k a =
      go (placed x) refl (at_port x.found) refl (eqb (cancel_at x) 0) refl (not x.known) refl k.0
      (pod_there x k.1.1.0 k.1.1.1.0)
      (found_untied x k.1.1.1.0) (idle_home k.1.1.1.1.0) a
    where
      go : (w : Bool) → placed x ≡ w → (v : Bool) → at_port x.found ≡ v
          → (z : Bool) → eqb (cond w (cond v x.found.port 0) x.port) 0 ≡ z
          → (m : Bool) → not x.known ≡ m → x.named ≡ true → (placed x ≡ false → Pod x)
          → (placed x ≡ false → x.known ≡ true → x.found.port ≡ 0)
          → (placed x ≡ true → at_port x.found ≡ true → idle x.home ≡ true)
          → Apt s (cancelling w v z m) → Keeps s (cancelling w v z m)
      go true p v c z y true q n d t l a = clash {b = x.known} (placed_known s i f p) (not_true x.known q)
      go true p true c true y false q n d t l a =
          let h = (found_fits s i f (placed_known s i f p)).stands.at_tied (eqb-true x.found.place 1 c) in
          let o = eqb-true x.found.port 0 y in
          absurd (omega arith)
      go true p true c false y false q n d t l a =
          let u = placed_known s i f p in
          both_keeps s f x.found.port (to_unload x.home) x.stands (cancelled_by (ready_to_unload x.home) (judged_no x.found)) a
          (found_live s i f u) (eqb-false x.found.port 0 y) refl (unload_fits x.home (l p c) (home_fits s i f)) refl
          (cancelled_fits _ _ (ready_to_unload x.home) _ (judged_fits _ _ x.found (found_fits s i f u)))
          (record { name = refl; place = refl; spot = refl; port = refl }) (λ o. shut o)
      go true p false c false y false q n d t l a = clash {b = eqb 0 0} refl y
      go true p false c true y false q n d t l a =
          let u = placed_known s i f p in
          record_keeps s f x.stands (cancelled_by (ready_to_unload no_port) (judged_no x.found)) a (found_live s i f u)
          (cancelled_fits _ _ (ready_to_unload no_port) _ (judged_fits _ _ x.found (found_fits s i f u)))
          (record { name = refl; place = refl; spot = refl; port = refl }) (λ o. shut o)
      go false p v c true y m q n d t l a =
          let r = given_range s i f (d p).port in
          let o = eqb-true x.port 0 y in
          absurd (omega arith)
      go false p v c false y m q n d t l a =
          let o = d p in
          let r = given_range s i f o.port in
          coming_keeps s i f (to_unload (tied_to x.name x.here)) x.count
          (cancelled_by (ready_to_unload (tied_to x.name x.here)) (with_id 4 (placed_at x.port (found_or_new x)))) m q a o.port
          (unload_fits (tied_to x.name x.here) o.still (tied_fits x.here (name_fits s i f n) (here_fits s i f))) refl
          (cancelled_fits _ _ (ready_to_unload (tied_to x.name x.here)) _
          (placed_fits _ _ 4 x.port (found_or_new x) (omega arith, omega arith) r.0 r.1 (either_fits s i f n)))
          (either_named s i f) refl refl
          (λ o. shut o) (λ j z. nobody_tied s i f o.free r.0 j z.live) (λ u n. absurd (n (t p u))) (λ b. absurd (omega arith))
