-- The rows that change a record where it stands: 8 and 19 to 23.
use Prim.Native.Nat.{ℕ, ◌≤◌}
use native.Mathlib.Omega.{arith}
use mathlib.Core.Path.{◌≡◌, refl}
use mathlib.Core.Logic.{◌≢◌}
use mathlib.Core.Bool.{Bool, true, false, cond, ◌&&◌}
use mathlib.Core.List.{List}
use lib.Dec.{eqb}
use borrow.Author.Tests.{eqb-true, ne_eqb}
use Rattle.lists.specs.Lists.{every}
use Rattle.lists.proofs.Bools.{clash, and_l, and_r, or_other}
use Rattle.records.specs.declared.port.Port.{Port}
use Rattle.records.specs.declared.carrier.Carrier.{Carrier}
use Rattle.records.specs.Maps.{is_code}
use Rattle.records.specs.Ports.{no_port, idle, blocked, to_blocked, to_unload}
use Rattle.records.specs.Carriers.{at_port, in_buffer, is_open, taken_back}
use Rattle.records.specs.Fields.{with_opened, with_codes, with_id, with_slot, with_accessing}
use Rattle.rules.specs.declared.row.Seen.{Seen}
use Rattle.rules.specs.State.{State}
use Rattle.rules.specs.Seen.{Input, see}
use Rattle.rules.specs.Row.{on_record, on_both}
use Rattle.rules.specs.Buffer.{can_go_back, carrier_in}
use Rattle.rules.specs.Opening.{can_open, open_row, slot_map, access_start, access_end, leaves_port, close_row}
use Rattle.rules.proofs.Apt.{Apt}
use Rattle.rules.proofs.SoundParts.{PortFits, Fits, Facts}
use Rattle.rules.proofs.Keep.{Keeps}
use Rattle.rules.proofs.KeepShapes.{Good, record_keeps, both_keeps}
use Rattle.rules.proofs.KeepFits.{moved_fits, flags_fit, states_fit}
use Rattle.rules.proofs.KeepSeen.{found_live, found_fits, home_fits, map_fits}

-- a record that is opened or closed
opened_fits : (P B v : ℕ) (c : Carrier) → v ≤ 1 → Fits P B c → Fits P B (with_opened v c)
opened_fits P B v c b h = flags_fit h b h.cancelled h.cameout

-- READY TO UNLOAD, where nothing moves
pub unload_fits : (q : Port) → idle q ≡ true → PortFits q → PortFits (to_unload q)
unload_fits q i h =
    let m = eqb-true q.movement 0 i in
    moved_fits q h (omega arith) h.movement h.pod (λ n. absurd (n m)) (λ b. absurd (omega arith)) h.load

pub shut : {X : Type 0} → eqb 0 1 ≡ true → X
shut e = clash e refl

module _ (s : State) (i : Input) (f : Facts s) where
  abbrev x : Seen
  x = see s i

  pub open_keeps : Good s (open_row x)
  unfolding see
  open_keeps k a =
      let u = found_fits s i f k.1.0 in
      record_keeps s f x.stands (with_opened 1 x.found) a (found_live s i f k.1.0) (opened_fits _ _ 1 _ (omega arith) u)
      (record { name = refl; place = refl; spot = refl; port = refl }) (λ _ n. at n k.1.1.0)
    where
      at : x.found.place ≢ 2 → can_open x ≡ true → (x.found.place ≡ 1) × (idle x.home ≡ true) × (blocked x.home ≡ true)
      at n t =
          let o : (eqb x.places 0 && at_port x.found && idle x.home && blocked x.home) ≡ true =
          or_other (in_buffer x.found) _ (search (and_l, and_r) depth 3) (ne_eqb x.found.place 2 n) in
          (eqb-true _ 1 (search (and_l, and_r) depth 5), search (and_l, and_r) depth 5, search (and_l, and_r) depth 5)

  -- the statuses and the map of the record named change, and nothing else
  pub statuses_keep : {m : List ℕ} {v t a : ℕ} → x.known ≡ true
      → every is_code m ≡ true → (1 ≤ v) × (v ≤ 4) → (1 ≤ t) × (t ≤ 4) → (1 ≤ a) × (a ≤ 4)
      → Apt s (on_record x.count x.stands (with_codes m (with_id v (with_slot t (with_accessing a x.found)))))
      → Keeps s (on_record x.count x.stands (with_codes m (with_id v (with_slot t (with_accessing a x.found)))))
  unfolding see
  statuses_keep u m v t a p =
      let b = found_live s i f u in
      record_keeps s f x.stands _ p b (states_fit (found_fits s i f u) m v t a)
      (record { name = refl; place = refl; spot = refl; port = refl }) (f.shown x.stands b)

  pub slot_map_keeps : Good s (slot_map x)
  slot_map_keeps k a =
      let h = found_fits s i f k.1.1.0 in
      statuses_keep k.1.1.0 (map_fits s i f k.1.0) h.id (omega arith, omega arith) h.accessing a

  pub access_start_keeps : Good s (access_start x)
  access_start_keeps k a =
      let h = found_fits s i f k.1.0 in
      statuses_keep k.1.0 h.map h.id h.slot (omega arith, omega arith) a

  pub access_end_keeps : Good s (access_end x)
  access_end_keeps k a =
      let h = found_fits s i f k.1.1.0 in
      statuses_keep k.1.1.0 h.map h.id h.slot (ended (eqb x.value 0)) a
    where
      ended : (w : Bool) → (1 ≤ cond w 3 4) × (cond w 3 4 ≤ 4)
      ended true = (omega arith, omega arith)
      ended false = (omega arith, omega arith)

  pub close_keeps : Good s (close_row x)
  unfolding see
  close_keeps k a = go (leaves_port x) refl k.1.0 (and_l _ _ k.1.1.0) a
    where
      go : (w : Bool) → leaves_port x ≡ w → x.known ≡ true → is_open x.found ≡ true
          → Apt s (on_both x.count (cond w x.found.port 0) (cond w (to_unload x.home) no_port) x.stands (with_opened 0 x.found))
          → Keeps s (on_both x.count (cond w x.found.port 0) (cond w (to_unload x.home) no_port)
          x.stands (with_opened 0 x.found))
      go true q u o a =
          let b = found_live s i f u in
          let p = eqb-true x.found.place 1 (and_l _ _ q) in
          let r = f.shown x.stands b o (λ z. let y : x.found.place ≡ 2 = z in omega arith) in
          let t = (found_fits s i f u).stands.at_tied p in
          both_keeps s f x.found.port (to_unload x.home) x.stands (with_opened 0 x.found) a b
          (λ z. let y : x.found.port ≡ 0 = z in omega arith) refl
          (unload_fits x.home r.1 (home_fits s i f)) refl (opened_fits _ _ 0 _ (omega arith) (found_fits s i f u))
          (record { name = refl; place = refl; spot = refl; port = refl }) (λ z. shut z)
      go false q u o a =
          record_keeps s f x.stands (with_opened 0 x.found) a (found_live s i f u)
          (opened_fits _ _ 0 _ (omega arith) (found_fits s i f u))
          (record { name = refl; place = refl; spot = refl; port = refl }) (λ z. shut z)

  pub carrier_in_keeps : Good s (carrier_in x)
  unfolding see
  carrier_in_keeps k a =
      let b = found_live s i f k.1.0 in
      let h = found_fits s i f k.1.0 in
      let q = home_fits s i f in
      let g : can_go_back x ≡ true = k.1.1.0 in
      let p = h.stands.at_tied (eqb-true x.found.place 1 (and_l _ _ (and_l _ _ g))) in
      let u = eqb-true x.home.transfer 2 (and_r (at_port x.found) _ (and_l _ _ g)) in
      both_keeps s f x.found.port (to_blocked x.home) x.stands (taken_back x.found) a b
      (λ z. let y : x.found.port ≡ 0 = z in omega arith) refl
      (moved_fits _ q (omega arith) q.movement q.pod (λ _. refl) (λ b. absurd (omega arith)) q.load)
      refl (flags_fit h h.opened h.cancelled (omega arith))
      (record { name = refl; place = refl; spot = refl; port = refl })
      (λ o n. let r = eqb-true x.home.transfer 3 (f.shown x.stands b o n).2 in absurd (omega arith))
