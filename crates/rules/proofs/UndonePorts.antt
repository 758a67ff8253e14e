-- Pairs of rows that change only a port.
use Prim.Native.Nat.{ℕ, ◌+◌, ◌-◌, ◌≤◌, ◌<◌}
use native.Mathlib.Omega.{arith}
use mathlib.Core.Path.{◌≡◌, refl, ap, ap₂, sym, ◌∙◌}
use mathlib.Core.Bool.{Bool, true, false, not}
use lib.ListN.{length, set, length-set}
use lib.Seq.{set_out, set-set, set-get_or, get_or-set_same}
use lib.Dec.{eqb}
use borrow.Author.Tests.{eqb-true, eqb-false, leb-true, ne_eqb, le-leb, lt-ltb}
use Rattle.lists.proofs.Bools.{and_l, and_r, or_false_l, or_false_r, not_true, not_false}
use Rattle.lists.proofs.Tables.{without_out}
use Rattle.records.specs.declared.port.Port.{Port}
use Rattle.records.specs.Ports.{no_port, ready_to_load, reserved, idle, start_load, not_loaded, start_unload}
use Rattle.records.specs.Carriers.{no_carrier}
use Rattle.records.specs.Fields.{with_transfer, with_access, with_reserved, with_movement}
use Rattle.rules.specs.declared.row.Seen.{Seen}
use Rattle.rules.specs.State.{State, spot_of, port_of}
use Rattle.rules.specs.Sound.{sound}
use Rattle.rules.specs.Seen.{Input, narrow, tie_stands, see}
use Rattle.rules.specs.Row.{enact, on_port, is_choice, reserved_or_tied}
use Rattle.rules.specs.Service.{other_access, goes_out}
use Rattle.rules.specs.Rows.{row_of}
use Rattle.rules.specs.Outcome.{answer_in, state_after}
use Rattle.rules.specs.Undoing.{same_port, is_ready_to_load, not_reserved, other_value, then_in}
use Rattle.rules.specs.Undoing.{reserving, releasing, unloading, loading, changing_access, taking_out, TakenBack, Undoes}
use Rattle.rules.proofs.Accepts.{Clear}
use Rattle.rules.proofs.SoundParts.{PortFits, facts}
use Rattle.rules.proofs.KeepSeen.{given_range, here_fits}
use Rattle.rules.proofs.Undone.{and_none, paired, grounds_clear, state_is, taken_back}

-- the state with another port at p
abbrev pub with_port_at : State → ℕ → Port → State
with_port_at s p q = record { ports = set s.ports (spot_of p) q; carriers = s.carriers; places = s.places }

pub port_enacted : (s : State) (p : ℕ) (q : Port) → enact (on_port (length s.carriers) p q) s ≡ with_port_at s p q
unfolding enact
port_enacted s p q =
    rw (set_out s.carriers (length s.carriers) no_carrier (omega arith), without_out s.carriers (length s.carriers) (omega arith))

pub port_state : (s : State) (i : Input) (n : ℕ) → i.number ≡ n → answer_in s i ≡ 0
    → (q : Port) → (row_of n (see s i)).effect ≡ on_port (see s i).count (see s i).port q → state_after s i ≡ with_port_at s (see s i).port q
unfolding see
port_state s i n is a q e = state_is s i n is a ∙ ap (λ w. enact w s) e ∙ port_enacted s (see s i).port q

-- what the second row sees, at the same port
pub record Again (x y : Seen) (q : Port) (v : ℕ) : Type 0 where
  pub port : y.port ≡ x.port
  pub isport : y.isport ≡ true
  pub here : y.here ≡ q
  pub tied : y.tied ≡ x.tied
  pub value : y.value ≡ v

-- a port of the tool stands within the list
pub spot_within : (p n : ℕ) → 1 ≤ p → p ≤ n → spot_of p < n
spot_within p n a b = let e : spot_of p ≡ p - 1 = rw (ne_eqb p 0 (λ z. omega arith)) in omega arith

module _ (s : State) (h : sound s ≡ true) (i j : Input) (same : i.port ≡ j.port) (p : (see s i).isport ≡ true) where
  again : (q : Port) → Again (see s i) (see (with_port_at s (see s i).port q) j) q (narrow j.value)
  unfolding see port_of tie_stands
  again q =
      let r = given_range s i (facts s h) p in
      rw (sym same) (record {
        port = refl;
        isport = rw (length-set s.ports (spot_of (narrow i.port)) q) p;
        here = get_or-set_same s.ports (spot_of (narrow i.port)) q no_port (spot_within _ _ r.0 r.1);
        tied = refl;
        value = refl;
      })

  -- the first row makes q of the port, and the second makes of it what it was
  pub port_undone : (n m : ℕ) → i.number ≡ n → j.number ≡ m → answer_in s i ≡ 0
      → (q : Port) → (row_of n (see s i)).effect ≡ on_port (see s i).count (see s i).port q
      → ((y : Seen) → Again (see s i) y q (narrow j.value)
      → Clear (row_of m y).grounds × ((row_of m y).effect ≡ on_port y.count y.port (see s i).here))
      → TakenBack s i j
  unfolding see port_of
  port_undone n m is js a q e f =
      let t = with_port_at s (see s i).port q in
      let g = f (see t j) (again q) in
      taken_back s t i j m js (port_state s i n is a q e) g.0
      (ap (λ w. enact w t) g.1 ∙ port_enacted t (see t j).port (see s i).here
      ∙ ap (λ p. with_port_at t p (see s i).here) (again q).port
      ∙ ap (λ l. record { ports = l; carriers = s.carriers; places = s.places })
      (set-set s.ports (spot_of (see s i).port) q (see s i).here ∙ set-get_or s.ports (spot_of (see s i).port) no_port))

-- ── What acceptance says of the port ──
pub not_one : (n : ℕ) → n ≤ 1 → eqb n 1 ≡ false → n ≡ 0
not_one n b e = let d = eqb-false n 1 e in omega arith

-- only a BLOCKED port moves
pub still : (q : Port) → PortFits q → q.transfer ≤ 2 → q.movement ≡ 0
still q f b = go (eqb q.movement 0) refl
  where
    go : (w : Bool) → eqb q.movement 0 ≡ w → q.movement ≡ 0
    go true e = eqb-true _ 0 e
    go false e = let z = f.moving (eqb-false _ 0 e) in absurd (omega arith)

-- a port of the tool, idle, in a transfer state
pub record Ready (v : ℕ) (x : Seen) : Type 0 where
  pub isport : x.isport ≡ true
  pub transfer : x.here.transfer ≡ v
  pub movement : x.here.movement ≡ 0

pub is_ready_fact : (v : ℕ) (x : Seen) → v ≤ 2 → PortFits x.here → x.isport ≡ true → eqb x.here.transfer v ≡ true → Ready v x
is_ready_fact v x b f p e =
    let t = eqb-true x.here.transfer v e in
    record { isport = p; transfer = t; movement = still x.here f (omega arith) }

-- READY TO LOAD, neither reserved nor tied
pub record Free (x : Seen) : Type 0 where
  pub ready : Ready 1 x
  pub reserved : x.here.reserved ≡ 0
  pub tied : x.tied ≡ false

pub is_free : (x : Seen) → PortFits x.here → x.isport ≡ true → reserved_or_tied x ≡ false → ready_to_load x.here ≡ true → Free x
is_free x f p r l = record {
  ready = is_ready_fact 1 x (omega arith) f p l;
  reserved = not_one x.here.reserved f.reserved (or_false_l _ _ r);
  tied = or_false_r (reserved x.here) _ r;
}

-- the other access mode: idle, not reserved, and the mode is the one that isn't asked for
pub record OtherMode (x : Seen) : Type 0 where
  pub isport : x.isport ≡ true
  pub mode : x.here.access + x.value ≡ 1
  pub reserved : reserved x.here ≡ false
  pub idle : idle x.here ≡ true

module _ (s : State) (h : sound s ≡ true) (i : Input) (a : answer_in s i ≡ 0) where
  pub reserve_found : i.number ≡ 11 → Free (see s i)
  unfolding row_of
  reserve_found n = let c = grounds_clear s i 11 n a in is_free (see s i) (here_fits s i (facts s h)) c.0 c.1.0 c.1.1.0

  pub service_found : i.number ≡ 10 → goes_out (see s i) ≡ true → Free (see s i)
  unfolding row_of
  service_found n w =
      let c = grounds_clear s i 10 n a in
      is_free (see s i) (here_fits s i (facts s h)) c.0 (rw w at c.1.1.0) (not_false _ (rw w at c.1.1.1.0))

  pub load_found : i.number ≡ 13 → Ready 1 (see s i)
  unfolding row_of
  load_found n = let c = grounds_clear s i 13 n a in is_ready_fact 1 (see s i) (omega arith) (here_fits s i (facts s h)) c.0 c.1.0

  pub unload_found : i.number ≡ 24 → Ready 2 (see s i)
  unfolding row_of
  unload_found n = let c = grounds_clear s i 24 n a in is_ready_fact 2 (see s i) (omega arith) (here_fits s i (facts s h)) c.0 c.1.0

  pub access_found : i.number ≡ 9 → other_access (see s i) ≡ true → OtherMode (see s i)
  unfolding row_of
  access_found n w =
      let c = grounds_clear s i 9 n a in
      let b = (here_fits s i (facts s h)).access in
      let v = leb-true (see s i).value 1 c.1.0 in
      let d = eqb-false (see s i).here.access (see s i).value (not_true _ w) in
      record { isport = c.0; mode = omega arith; reserved = rw w at c.1.1.0; idle = not_false _ (rw w at c.1.1.1.0) }

-- ── ReserveAtPort and CancelReservationAtPort ──
pub reserving_undone : Undoes reserving
unfolding row_of same_port
reserving_undone s i j h p w a =
    let r = paired reserving i j p in
    let x = see s i in
    let g = reserve_found s h i a r.row in
    port_undone s h i j (eqb-true _ _ r.alike) g.ready.isport 11 12 r.row r.undoing a (with_reserved 1 x.here) refl
    (λ y o. rw o.here (
      (o.isport, (o.tied ∙ g.tied, (refl, tt))),
      ap (λ v. on_port y.count y.port (with_reserved v x.here)) (sym g.reserved),
    ))

-- ── CancelReservationAtPort and ReserveAtPort ──
pub releasing_undone : Undoes releasing
unfolding row_of same_port is_ready_to_load
releasing_undone s i j h p w a =
    let r = paired releasing i j p in
    let x = see s i in
    let c = grounds_clear s i 12 r.row a in
    port_undone s h i j (eqb-true _ _ r.alike) c.0 12 11 r.row r.undoing a (with_reserved 0 x.here) refl
    (λ y o. rw (o.here, o.tied ∙ c.1.0) (
      (o.isport, (refl, (w, tt))),
      ap (λ v. on_port y.count y.port (with_reserved v x.here)) (sym (eqb-true x.here.reserved 1 c.1.1.0)),
    ))

-- ── UnloadStart and UnloadFail ──
pub unloading_undone : Undoes unloading
unfolding row_of same_port
unloading_undone s i j h p w a =
    let r = paired unloading i j p in
    let x = see s i in
    let g = unload_found s h i a r.row in
    port_undone s h i j (eqb-true _ _ r.alike) g.isport 24 26 r.row r.undoing a (start_unload x.here) refl
    (λ y o. rw o.here (
      (o.isport, (refl, tt)),
      ap₂ (λ t m. on_port y.count y.port (with_movement m (with_transfer t x.here))) (sym g.transfer) (sym g.movement),
    ))

-- ── LoadStart and LoadFail ──
pub loading_undone : Undoes loading
unfolding row_of same_port not_reserved
loading_undone s i j h p w a =
    let r = paired loading i j p in
    let x = see s i in
    let g = load_found s h i a r.row in
    let z = not_one x.here.reserved (here_fits s i (facts s h)).reserved (not_true _ w) in
    port_undone s h i j (eqb-true _ _ r.alike) g.isport 13 15 r.row r.undoing a (start_load x.here) refl
    (λ y o. rw o.here (
      (o.isport, (refl, tt)),
      ap (λ v. on_port y.count y.port (not_loaded (with_reserved v x.here))) (sym z)
          ∙ ap₂ (λ t m. on_port y.count y.port (with_movement m (with_transfer t x.here))) (sym g.transfer) (sym g.movement),
    ))

-- ── ChangeAccess, to one mode and to the other ──
pub changing_access_undone : Undoes changing_access
unfolding row_of other_value same_port see narrow
changing_access_undone s i j h p w a =
    let r = paired changing_access i j p in
    let x = see s i in
    let g = access_found s h i a r.row w in
    let v = eqb-true (i.value + j.value) 1 (and_r (eqb i.port j.port) _ r.alike) in
    let u : narrow j.value ≡ x.here.access = other_narrow i.value j.value v g.mode in
    port_undone s h i j (eqb-true _ _ (and_l _ _ r.alike)) g.isport 9 9 r.row r.undoing a (with_access x.value x.here) refl
    (λ y o.
    let c : is_choice y ≡ true = rw (o.value ∙ u) (le-leb _ 1 (here_fits s i (facts s h)).access) in
    let f : reserved y.here ≡ false = rw o.here g.reserved in
    let m : not (idle y.here) ≡ false = rw (o.here, g.idle) in (
      (o.isport, (c, (and_none (other_access y) f, (and_none (other_access y) m, tt)))),
      ap₂ (λ v q. on_port y.count y.port (with_access v q)) (o.value ∙ u) o.here,
    ))
  where
    other_narrow : (m n : ℕ) {q : ℕ} → m + n ≡ 1 → q + narrow m ≡ 1 → narrow n ≡ q
    other_narrow m n {q} e d =
        let z : q + m ≡ 1 = rw (lt-ltb m 255 (omega arith)) at d in
        rw (lt-ltb n 255 (omega arith)) (omega arith)

-- ── ChangeServiceStatus, out and in ──
pub taking_out_undone : Undoes taking_out
unfolding row_of then_in same_port narrow
taking_out_undone s i j h p w a =
    let r = paired taking_out i j p in
    let x = see s i in
    let g = service_found s h i a r.row w in
    let v = eqb-true j.value 1 (and_r (eqb i.port j.port) _ r.alike) in
    port_undone s h i j (eqb-true _ _ (and_l _ _ r.alike)) g.ready.isport 10 10 r.row r.undoing a (with_transfer 0 x.here)
    (rw w)
    (λ y o. let n : y.value ≡ 1 = o.value ∙ ap narrow v in
    rw (o.here, n) (
      (o.isport, (refl, (refl, (refl, tt)))),
      ap (λ v. on_port y.count y.port (with_transfer v x.here)) (sym g.ready.transfer),
    ))
