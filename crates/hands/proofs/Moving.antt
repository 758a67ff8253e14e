-- A port that is loading stays so, whatever is accepted but LoadDone and LoadFail there.
use Prim.Native.Nat.{ℕ}
use native.Mathlib.Omega.{arith}
use mathlib.Core.Path.{◌≡◌, refl, ap, sym, ◌∙◌}
use mathlib.Core.Logic.{◌≢◌}
use mathlib.Core.Bool.{Bool, true, false, cond}
use lib.Dec.{eqb}
use borrow.Author.Tests.{eqb-true, ne_eqb}
use Rattle.lists.proofs.Bools.{clash, and_l, and_r}
use Rattle.records.specs.Ports.{no_port, has_pod, loading, to_unload}
use Rattle.records.specs.Carriers.{at_port}
use Rattle.records.specs.Fields.{tied_to}
use Rattle.rules.specs.declared.row.Seen.{Seen}
use Rattle.rules.specs.declared.row.Effect.{Effect}
use Rattle.rules.specs.State.{State, port_of}
use Rattle.rules.specs.Seen.{Input, see}
use Rattle.rules.specs.Row.{judge, placed}
use Rattle.rules.specs.Booking.{meant, meant_port}
use Rattle.rules.specs.Verdict.{cancel_at, cancel_port}
use Rattle.rules.specs.Opening.{leaves_port}
use Rattle.rules.specs.Rows.{row_of}
use Rattle.rules.proofs.Accepts.{walk_accepting, never}
use Rattle.rules.proofs.SoundParts.{Facts}
use Rattle.rules.proofs.KeepSeen.{held_there, held_tied}
use Rattle.queue.proofs.Free.{none_zero}

module _ (s : State) (i : Input) (f : Facts s) (p : ℕ) (l : loading (port_of s p) ≡ true) where
  abbrev x : Seen
  x = see s i

  -- What an effect of row n makes of the port p.
  abbrev Stays : ℕ → Effect → Type 0
  Stays n e = (n ≡ 14 → x.port ≢ p) → (n ≡ 15 → x.port ≢ p) → e.port ≡ p → loading e.becomes ≡ true

  not_zero : 0 ≢ p
  not_zero z = clash (ap (λ q. loading (port_of s q)) z ∙ l) (ap loading (none_zero s f))

  no_port_fact : {X : Type 0} → 0 ≡ p → X
  no_port_fact z = absurd (not_zero z)

  -- the port given, and that of the carrier named
  here : x.port ≡ p → loading x.here ≡ true
  unfolding see
  here z = ap (λ q. loading (port_of s q)) z ∙ l

  home : x.found.port ≡ p → loading x.home ≡ true
  unfolding see
  home z = ap (λ q. loading (port_of s q)) z ∙ l

  -- it has no other movement, and is BLOCKED
  moves_not : {X : Type 0} (v : ℕ) → 1 ≢ v → x.port ≡ p → eqb x.here.movement v ≡ true → X
  moves_not v n z e = absurd (n (sym (eqb-true _ 1 (here z)) ∙ eqb-true _ v e))

  is_blocked : x.port ≡ p → x.here.transfer ≡ 3
  unfolding see
  is_blocked z = let m = eqb-true x.here.movement 1 (here z) in (f.ports x.port).moving (λ o. omega arith)

  -- ── Row by row ──
  meant_loading : (meant x).port ≡ p → loading (meant_port x) ≡ true
  unfolding see meant meant_port
  meant_loading = go x.blank
    where
      go : (w : Bool) → (cond w x.held x.found).port ≡ p → loading (cond w x.here x.home) ≡ true
      go true z = here (sym (held_tied s i f (held_there s i f (λ o. not_zero (sym o ∙ z)))) ∙ z)
      go false z = home z

  proceed : (w : Bool) → cond w 0 x.port ≡ p → loading (cond w no_port (tied_to x.name x.here)) ≡ true
  proceed true z = no_port_fact z
  proceed false z = here z

  cancel : cancel_at x ≡ p → loading (cond (eqb (cancel_at x) 0) no_port (to_unload (cancel_port x))) ≡ true
  unfolding cancel_at cancel_port
  cancel z = rw (ne_eqb (cancel_at x) 0 (λ o. not_zero (sym o ∙ z))) (go (placed x) (at_port x.found) z)
    where
      go : (w a : Bool) → cond w (cond a x.found.port 0) x.port ≡ p
          → loading (cond w (cond a x.home no_port) (tied_to x.name x.here)) ≡ true
      go true true z = home z
      go true false z = no_port_fact z
      go false a z = here z

  close : (w : Bool) → cond w x.found.port 0 ≡ p → loading (cond w (to_unload x.home) no_port) ≡ true
  close true z = home z
  close false z = no_port_fact z

  unload : {X : Type 0} → x.port ≡ p → eqb x.here.transfer 2 ≡ true → X
  unload z e = let t = is_blocked z in let u = eqb-true x.here.transfer 2 e in absurd (omega arith)

  pub stays_loading : (n : ℕ) → judge (row_of n x).grounds ≡ 0 → Stays n (row_of n x).effect
  stays_loading = walk_accepting Stays x (record {
    bind = λ _ _ _. here;
    cancel_bind = λ _ _ _. meant_loading;
    carrier_notification = λ _ _ _. no_port_fact;
    cancel_carrier_notification = λ _ _ _. no_port_fact;
    proceed_with_carrier = λ _ _ _. proceed (placed x);
    cancel_carrier = λ _ _ _. cancel;
    carrier_out = λ _ _ _. here;
    carrier_in = λ _ _ _. home;
    change_access = λ _ _ _. here;
    change_service_status = λ _ _ _. here;
    reserve_at_port = λ _ _ _. here;
    cancel_reservation_at_port = λ _ _ _. here;
    load_start = λ _ _ _ _. refl;
    load_done = λ _ n _ z. absurd (n refl z);
    load_fail = λ _ _ n z. absurd (n refl z);
    id_read = λ _ _ _. here;
    id_read_failed = λ _ _ _. here;
    move_in = λ c _ _ z. moves_not 0 (λ o. omega arith) z (and_r (has_pod x.here) _ (and_l _ _ c.1.1.0));
    open_row = λ _ _ _. no_port_fact;
    slot_map = λ _ _ _. no_port_fact;
    access_start = λ _ _ _. no_port_fact;
    access_end = λ _ _ _. no_port_fact;
    close_row = λ _ _ _. close (leaves_port x);
    unload_start = λ c _ _ z. unload z c.1.0;
    unload_done = λ c _ _ z. moves_not 2 (λ o. omega arith) z c.1.0;
    unload_fail = λ c _ _ z. moves_not 2 (λ o. omega arith) z c.1.0;
    none = λ _. never;
  })
