-- What each row that accepts makes of a port's access mode, and of its load.
use Prim.Native.Nat.{ℕ}
use mathlib.Core.Path.{◌≡◌, refl, ap, sym, subst, ◌∙◌}
use mathlib.Core.Bool.{Bool, true, false, not, cond, ◌||◌}
use lib.Dec.{eqb}
use borrow.Author.Tests.{eqb-true, eq-eqb}
use Rattle.lists.proofs.Bools.{clash, and_l, and_r, not_true}
use Rattle.records.specs.declared.port.Port.{Port}
use Rattle.records.specs.Ports.{no_port, idle, loading, to_unload, unbound}
use Rattle.records.specs.Carriers.{at_port, untied}
use Rattle.records.specs.Fields.{tied_to}
use Rattle.rules.specs.declared.row.Seen.{Seen}
use Rattle.rules.specs.State.{State, port_of}
use Rattle.rules.specs.Seen.{Input, see}
use Rattle.rules.specs.Row.{judge, placed}
use Rattle.rules.specs.Booking.{meant, meant_port, one_pair, cancel_bind}
use Rattle.rules.specs.Verdict.{cancel_at, cancel_port}
use Rattle.rules.specs.Buffer.{move_in}
use Rattle.rules.specs.Opening.{leaves_port}
use Rattle.rules.specs.Rows.{row_of}
use Rattle.rules.proofs.Accepts.{Clear, walk_accepting, never}
use Rattle.rules.proofs.SoundParts.{Facts}
use Rattle.tally.proofs.Sees.{zero_port_fact, meant_port_fact}
use Rattle.counted.proofs.Gathered.{turns_load}

module _ (s : State) (i : Input) (f : Facts s) where
  abbrev x : Seen
  x = see s i

  -- ChangeAccess sets the mode of the port that it names; these four say whether it is loading; every other row leaves both.
  pub record Turns (n p : ℕ) (q : Port) : Type 0 where
    pub here : (eqb n 9 || turns_load n) ≡ true → p ≡ x.port
    pub access : q.access ≡ cond (eqb n 9) x.value (port_of s p).access
    pub load : loading q ≡ cond (turns_load n) (eqb n 13) (loading (port_of s p))

  abbrev Leaves : ℕ → ℕ → Port → Type 0
  Leaves n p q = eqb n 9 ≡ false → turns_load n ≡ false → Turns n p q

  same : {n p : ℕ} {q : Port} → q.access ≡ (port_of s p).access → loading q ≡ loading (port_of s p) → Leaves n p q
  same a l u v = record { here = λ z. clash z (rw (u, v)); access = rw u a; load = rw v l }

  at_none : {n : ℕ} → Leaves n 0 no_port
  at_none {n} = same (ap (λ (q : Port). q.access) (sym (zero_port_fact s i f))) (ap loading (sym (zero_port_fact s i f)))

  -- ── Row by row ──
  cancel_bind_fact : Clear (cancel_bind x).grounds → Turns 2 (meant x).port (unbound (meant_port x))
  unfolding one_pair
  cancel_bind_fact k =
      let c = k.1.1.1.1.0 in
      let t : not (untied (meant x)) ≡ true = search (and_l, and_r) depth 5 in
      let m = meant_port_fact s i f (λ z. clash (eq-eqb (meant x).port 0 z) (not_true _ t)) in
      same (ap (λ (q : Port). q.access) m) (ap loading m) refl refl

  proceed : (w : Bool) → Turns 5 (cond w 0 x.port) (cond w no_port (tied_to x.name x.here))
  unfolding see
  proceed true = at_none refl refl
  proceed false = same refl refl refl refl

  cancel : Turns 6 (cancel_at x) (cond (eqb (cancel_at x) 0) no_port (to_unload (cancel_port x)))
  unfolding see cancel_at cancel_port
  cancel = go (placed x) (at_port x.found) (eqb (cancel_at x) 0) refl
    where
      go : (w a z : Bool) → eqb (cond w (cond a x.found.port 0) x.port) 0 ≡ z
          → Turns 6 (cond w (cond a x.found.port 0) x.port)
          (cond z no_port (to_unload (cond w (cond a x.home no_port) (tied_to x.name x.here))))
      go w a true z = subst (λ p. Turns 6 p no_port) (sym (eqb-true _ 0 z)) (at_none refl refl)
      go true true false z = same refl refl refl refl
      go true false false z = clash {b = eqb 0 0} refl z
      go false a false z = same refl refl refl refl

  close : (w : Bool) → Turns 23 (cond w x.found.port 0) (cond w (to_unload x.home) no_port)
  unfolding see
  close true = same refl refl refl refl
  close false = at_none refl refl

  -- a port with another movement isn't loading
  other_movement : (v : ℕ) → eqb v 1 ≡ false → eqb x.here.movement v ≡ true → false ≡ loading x.here
  other_movement v d e = sym (ap (λ m. eqb m 1) (eqb-true x.here.movement v e) ∙ d)

  move_in_fact : Clear (move_in x).grounds → idle x.here ≡ true
  move_in_fact k = let c = k.1.1.0 in search (and_l, and_r) depth 4

  -- the port given
  at_port_fact : (n : ℕ) {q : Port} → q.access ≡ x.here.access → loading q ≡ loading x.here → Leaves n x.port q
  unfolding see
  at_port_fact n a l = same a l

  pub rows_turn : (n : ℕ) → judge (row_of n x).grounds ≡ 0 → Turns n (row_of n x).effect.port (row_of n x).effect.becomes
  unfolding see
  rows_turn = walk_accepting (λ n e. Turns n e.port e.becomes) x (record {
    bind = λ _. at_port_fact 1 refl refl refl refl;
    cancel_bind = cancel_bind_fact;
    carrier_notification = λ _. at_none refl refl;
    cancel_carrier_notification = λ _. at_none refl refl;
    proceed_with_carrier = λ _. proceed (placed x);
    cancel_carrier = λ _. cancel;
    carrier_out = λ _. at_port_fact 7 refl refl refl refl;
    carrier_in = λ _. same refl refl refl refl;
    change_access = λ _. record { here = λ _. refl; access = refl; load = refl };
    change_service_status = λ _. at_port_fact 10 refl refl refl refl;
    reserve_at_port = λ _. at_port_fact 11 refl refl refl refl;
    cancel_reservation_at_port = λ _. at_port_fact 12 refl refl refl refl;
    load_start = λ _. record { here = λ _. refl; access = refl; load = refl };
    load_done = λ _. record { here = λ _. refl; access = refl; load = refl };
    load_fail = λ _. record { here = λ _. refl; access = refl; load = refl };
    id_read = λ _. at_port_fact 16 refl refl refl refl;
    id_read_failed = λ _. at_port_fact 17 refl refl refl refl;
    move_in = λ k. at_port_fact 18 refl (other_movement 0 refl (move_in_fact k)) refl refl;
    open_row = λ _. at_none refl refl;
    slot_map = λ _. at_none refl refl;
    access_start = λ _. at_none refl refl;
    access_end = λ _. at_none refl refl;
    close_row = λ _. close (leaves_port x);
    unload_start = λ _. record { here = λ _. refl; access = refl; load = refl };
    unload_done = λ k. at_port_fact 25 refl (other_movement 2 refl k.1.0) refl refl;
    unload_fail = λ k. at_port_fact 26 refl (other_movement 2 refl k.1.0) refl refl;
    none = λ _. never;
  })
