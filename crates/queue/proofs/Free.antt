-- A port that is untied, reserved and READY TO LOAD stays so, whatever is accepted but CancelReservationAtPort and LoadStart there.
use Prim.Native.Nat.{ℕ, ◌<◌}
use native.Mathlib.Omega.{arith}
use mathlib.Core.Path.{◌≡◌, refl, ap, sym, ◌∙◌}
use mathlib.Core.Logic.{◌≢◌}
use mathlib.Core.Bool.{Bool, true, false, cond, ◌&&◌, ◌||◌}
use lib.ListN.{length, get_or-eq_default}
use lib.Dec.{eqb}
use borrow.Author.Tests.{eqb-true, eq-eqb}
use Rattle.lists.specs.Lists.{same_list}
use Rattle.lists.proofs.Bools.{clash, and_l, and_r, or_other, or_false_l}
use Rattle.records.specs.declared.port.Port.{Port}
use Rattle.records.specs.Names.{no_name, same_name, head_or0, zero_ended, holds_name}
use Rattle.records.specs.Ports.{no_port, reserved, has_pod}
use Rattle.records.specs.Fields.{with_transfer, with_access}
use Rattle.records.specs.Carriers.{no_carrier, at_port}
use Rattle.rules.specs.declared.row.Seen.{Seen}
use Rattle.rules.specs.declared.row.Effect.{Effect}
use Rattle.rules.specs.State.{State, port_of, record_of}
use Rattle.rules.specs.Seen.{Input, see}
use Rattle.rules.specs.Row.{judge, reserved_or_tied, placed}
use Rattle.rules.specs.Booking.{meant, cancel_bind}
use Rattle.rules.specs.Verdict.{cancel_at, proceed_with_carrier, cancel_carrier}
use Rattle.rules.specs.Service.{goes_out, comes_in, change_service_status}
use Rattle.rules.specs.Opening.{leaves_port, close_row}
use Rattle.rules.specs.Rows.{row_of}
use Rattle.rules.proofs.Names.{name_is}
use Rattle.rules.proofs.Accepts.{Clear, walk_accepting, never}
use Rattle.rules.proofs.UnknownPod.{pod_there}
use Rattle.rules.proofs.SoundParts.{Facts}
use Rattle.rules.proofs.KeepSeen.{found_live, held_live, held_there, placed_known}
use Rattle.queue.specs.Sound.{kept_free}

pub record Free (q : Port) : Type 0 where
  pub tie : q.tie ≡ no_name
  pub reserved : q.reserved ≡ 1
  pub ready : q.transfer ≡ 1

pub free_is : (q : Port) → kept_free q ≡ true → Free q
unfolding kept_free
free_is q e = record {
  tie = name_is _ _ (and_l _ _ (and_l _ _ e));
  reserved = eqb-true _ 1 (and_r (same_name q.tie no_name) _ (and_l _ _ e));
  ready = eqb-true _ 1 (and_r (same_name q.tie no_name && reserved q) _ e);
}

no_port_not_free : kept_free no_port ≡ false
unfolding kept_free same_name same_list
no_port_not_free = refl

pub nobody : holds_name no_name ≡ false
unfolding holds_name zero_ended head_or0
nobody = refl

-- a port that the tool hasn't is none
pub none_zero : (s : State) → Facts s → port_of s 0 ≡ no_port
unfolding port_of
none_zero s f = get_or-eq_default s.ports no_port f.few_ports

-- and no record stands after the last one
pub nobody_last : (s : State) → record_of s (length s.carriers) ≡ no_carrier
unfolding record_of
nobody_last s = get_or-eq_default s.carriers no_carrier (omega arith)

module _ (s : State) (i : Input) (f : Facts s) (p : ℕ) (k : kept_free (port_of s p) ≡ true) where
  abbrev x : Seen
  x = see s i

  free : Free (port_of s p)
  free = free_is (port_of s p) k

  -- What an effect of row n makes of the port p.
  abbrev Leaves : ℕ → Effect → Type 0
  Leaves n e = (n ≡ 12 → x.port ≢ p) → (n ≡ 13 → x.port ≢ p) → e.port ≡ p → kept_free e.becomes ≡ true

  not_zero : 0 ≢ p
  not_zero z = clash (ap (λ p. kept_free (port_of s p)) z ∙ k) (ap kept_free (none_zero s f) ∙ no_port_not_free)

  -- no record is tied to it
  pub nobody_there : (j : ℕ) → j < length s.carriers → (record_of s j).port ≢ p
  nobody_there j b z =
      clash (f.records j b).named
      (ap holds_name (sym (f.kept j b (λ o. not_zero (sym o ∙ z))) ∙ ap (λ p. (port_of s p).tie) z ∙ free.tie) ∙ nobody)

  module _ (z : x.port ≡ p) where
    here_is : port_of s p ≡ x.here
    unfolding see
    here_is = ap (port_of s) (sym z)

    here_free : Free x.here
    here_free = rw here_is at free

    here_kept : kept_free x.here ≡ true
    here_kept = rw here_is at k

    -- it is reserved, READY TO LOAD, has no pod and no movement
    reserved_here : {X : Type 0} → reserved_or_tied x ≡ false → X
    reserved_here e = clash (eq-eqb _ 1 here_free.reserved) (or_false_l (reserved x.here) _ e)

    transfers : {X : Type 0} (v : ℕ) → 1 ≢ v → eqb x.here.transfer v ≡ true → X
    transfers v n e = absurd (n (sym here_free.ready ∙ eqb-true _ v e))

    no_pod_fact : {X : Type 0} → has_pod x.here ≡ true → X
    no_pod_fact e =
        let t = here_free.ready in
        absurd ((f.ports p).low (rw here_is (omega arith)) (rw here_is (eqb-true _ 1 e)))

    no_movement : {X : Type 0} (v : ℕ) → 0 ≢ v → eqb x.here.movement v ≡ true → X
    no_movement v n e =
        let m = eqb-true x.here.movement v e in
        let t : x.here.transfer ≡ 3 = rw here_is at ((f.ports p).moving (rw here_is (λ o. n (sym o ∙ m)))) in
        let r = here_free.ready in
        absurd (omega arith)

  -- ── Row by row ──
  found_there : {X : Type 0} → x.known ≡ true → x.found.port ≡ p → X
  unfolding see
  found_there u z = absurd (nobody_there x.stands (found_live s i f u) z)

  no_port_fact : {X : Type 0} → 0 ≡ p → X
  no_port_fact z = absurd (not_zero z)

  -- rows 5 and 6, where the carrier isn't placed
  unknown_there : {X : Type 0} → Clear (proceed_with_carrier x).grounds → placed x ≡ false → x.port ≡ p → X
  unknown_there c n z = no_pod_fact z (pod_there x c.1.1.0 c.1.1.1.0 n).present

  proceed : (w : Bool) → placed x ≡ w → Clear (proceed_with_carrier x).grounds → {X : Type 0} → cond w 0 x.port ≡ p → X
  proceed true e c z = no_port_fact z
  proceed false e c z = unknown_there c e z

  cancel : (w : Bool) → placed x ≡ w → (a : Bool) → at_port x.found ≡ a → Clear (cancel_carrier x).grounds
      → {X : Type 0} → cond w (cond a x.found.port 0) x.port ≡ p → X
  cancel true e true o c z = found_there (placed_known s i f e) z
  cancel true e false o c z = no_port_fact z
  cancel false e a o c z = no_pod_fact z (pod_there x c.1.1.0 c.1.1.1.0 e).present

  cancel_bind_fact : Clear (cancel_bind x).grounds → {X : Type 0} → (meant x).port ≡ p → X
  unfolding see meant
  cancel_bind_fact c {X} z = go x.blank refl c.1.1.1.0 z
    where
      go : (w : Bool) → x.blank ≡ w → (x.blank || x.known) ≡ true → (cond w x.held x.found).port ≡ p → X
      go true e u z = absurd (nobody_there x.holds (held_live s i f (held_there s i f (λ o. not_zero (sym o ∙ z)))) z)
      go false e u z = found_there (or_other x.blank x.known u e) z

  close : (w : Bool) → leaves_port x ≡ w → Clear (close_row x).grounds → {X : Type 0} → cond w x.found.port 0 ≡ p → X
  close true e c z = found_there c.1.0 z
  close false e c z = no_port_fact z

  access : x.port ≡ p → (v : ℕ) → kept_free (with_access v x.here) ≡ true
  unfolding kept_free
  access z v = here_kept z

  service : Clear (change_service_status x).grounds → x.port ≡ p
      → kept_free (with_transfer (cond (goes_out x) 0 (cond (comes_in x) 1 x.here.transfer)) x.here) ≡ true
  unfolding kept_free
  service c z =
      rw (stays_in (goes_out x) c.1.1.0, serves) (here_kept z)
    where
      stays_in : (w : Bool) → (w && reserved_or_tied x) ≡ false → w ≡ false
      stays_in true e = reserved_here z e
      stays_in false e = refl

      serves : comes_in x ≡ false
      serves = rw (here_free z).ready

  pub leaves : (n : ℕ) → judge (row_of n x).grounds ≡ 0 → Leaves n (row_of n x).effect
  unfolding cancel_at
  leaves = walk_accepting Leaves x (record {
    bind = λ c _ _ z. reserved_here z c.1.1.1.0;
    cancel_bind = λ c _ _. cancel_bind_fact c;
    carrier_notification = λ _ _ _. no_port_fact;
    cancel_carrier_notification = λ _ _ _. no_port_fact;
    proceed_with_carrier = λ c _ _. proceed (placed x) refl c;
    cancel_carrier = λ c _ _. cancel (placed x) refl (at_port x.found) refl c;
    carrier_out = λ c _ _ z. reserved_here z c.1.1.1.0;
    carrier_in = λ c _ _. found_there c.1.0;
    change_access = λ _ _ _ z. access z x.value;
    change_service_status = λ c _ _. service c;
    reserve_at_port = λ c _ _ z. reserved_here z c.1.0;
    cancel_reservation_at_port = λ _ n _ z. absurd (n refl z);
    load_start = λ _ _ n z. absurd (n refl z);
    load_done = λ c _ _ z. no_movement z 1 (λ o. omega arith) c.1.0;
    load_fail = λ c _ _ z. no_movement z 1 (λ o. omega arith) c.1.0;
    id_read = λ c _ _ z. no_pod_fact z (and_l _ _ (and_l _ _ c.1.1.1.0));
    id_read_failed = λ c _ _ z. no_pod_fact z (and_l _ _ (and_l _ _ c.1.0));
    move_in = λ c _ _ z. no_pod_fact z (and_l _ _ (and_l _ _ c.1.1.0));
    open_row = λ _ _ _. no_port_fact;
    slot_map = λ _ _ _. no_port_fact;
    access_start = λ _ _ _. no_port_fact;
    access_end = λ _ _ _. no_port_fact;
    close_row = λ c _ _. close (leaves_port x) refl c;
    unload_start = λ c _ _ z. transfers z 2 (λ o. omega arith) c.1.0;
    unload_done = λ c _ _ z. no_movement z 2 (λ o. omega arith) c.1.0;
    unload_fail = λ c _ _ z. no_movement z 2 (λ o. omega arith) c.1.0;
    none = λ _. never;
  })
