-- The rows that make a record, or move one to a port or from it: 1, 3, 7, 16, 17 and 18.
use Prim.Native.Nat.{ℕ, ◌≤◌, ◌<◌}
use native.Mathlib.Omega.{arith}
use native.Mathlib.Decide.{ℕ_discrete}
use mathlib.Core.Path.{◌≡◌, refl, ap, sym, ◌∙◌}
use mathlib.Core.Logic.{◌≢◌, ◌⊎◌, inl, inr}
use mathlib.Core.Bool.{Bool, true, false, not, cond, ◌&&◌}
use lib.ListN.{length}
use lib.Dec.{eqb, leb}
use borrow.Author.Tests.{eqb-true, leb-true, lt-ltb, ne_eqb}
use Rattle.lists.proofs.Bools.{clash, and_l, and_r, or_r, or_false_l, or_false_r, not_true, not_false}
use Rattle.records.specs.declared.port.Port.{Port}
use Rattle.records.specs.declared.carrier.Carrier.{Carrier}
use Rattle.records.specs.Names.{no_name, same_name}
use Rattle.records.specs.Ports.{reserved, idle, blocked, tag_read, tag_not_read, emptied}
use Rattle.records.specs.Carriers.{no_carrier, new_carrier, in_buffer, untied, is_open, in_access, placed_at, moved_in}
use Rattle.records.specs.Fields.{with_id}
use Rattle.rules.specs.declared.row.Seen.{Seen}
use Rattle.rules.specs.declared.row.Effect.{Effect}
use Rattle.rules.specs.State.{State, port_of, record_of}
use Rattle.rules.specs.Seen.{Input, see}
use Rattle.rules.specs.Row.{on_both, other_port, placed}
use Rattle.rules.specs.Booking.{bind, carrier_notification}
use Rattle.rules.specs.Buffer.{can_come_out, carrier_out, move_in}
use Rattle.rules.specs.Reading.{elsewhere, matching, displaced, id_read, id_read_failed}
use Rattle.rules.proofs.Apt.{Apt}
use Rattle.rules.proofs.SoundParts.{PortFits, Stands, Fits, Facts}
use Rattle.rules.proofs.Keep.{Stays, Keeps}
use Rattle.rules.proofs.KeepShapes.{Good, arrives_keeps, calm_keeps, leaves_keeps, announced_keeps}
use Rattle.rules.proofs.KeepSeen.{new_fits, given_range, here_fits, name_fits, found_live, found_fits}
use Rattle.rules.proofs.KeepSeen.{found_named, held_live, held_tied, held_placed, holds_none, nobody_tied}
use Rattle.rules.proofs.KeepSeen.{only_held, has_room, spot_free, either_fits, either_named, either_shut}
use Rattle.rules.proofs.KeepFits.{marked_fits, moved_fits, emptied_fits, stands_fits, flags_fit, states_fit}
use Rattle.rules.proofs.KeepRecords.{shut}

-- at a port
at_stands : (P B p : ℕ) → 1 ≤ p → p ≤ P → Stands P B 1 0 p
at_stands P B p a b = record {
  place_range = omega arith;
  port_range = b;
  in_spot = λ z. absurd (omega arith);
  in_free = λ z. absurd (omega arith);
  no_spot = λ _. refl;
  at_tied = λ _. a;
}

pub placed_fits : (P B v p : ℕ) (c : Carrier) → (1 ≤ v) × (v ≤ 4) → 1 ≤ p → p ≤ P → Fits P B c → Fits P B (with_id v (placed_at p c))
placed_fits P B v p c r a b h = states_fit (stands_fits h (at_stands P B p a b)) h.map r h.slot h.accessing

module _ (s : State) (i : Input) (f : Facts s) where
  abbrev x : Seen
  x = see s i

  -- the name's record, or a new one, comes to stand at the port given
  abbrev pub coming : Port → ℕ → Carrier → Bool → Effect
  coming q g c m = record { port = x.port; becomes = q; goes = g; changes = x.stands; next = c; made = m }

  pub coming_keeps : (q : Port) (g : ℕ) (c : Carrier) (m : Bool) → not x.known ≡ m → Apt s (coming q g c m)
      → x.isport ≡ true → PortFits q → q.tie ≡ x.name
      → Fits (length s.ports) s.places c → c.name ≡ x.name → c.place ≡ 1 → c.port ≡ x.port → (is_open c ≡ true → ⊥)
      → ((j : ℕ) → Stays s (coming q g c m) j → (record_of s j).port ≢ x.port)
      → (x.known ≡ true → x.found.port ≢ 0 → x.found.port ≡ x.port)
      → (g < length s.carriers → (record_of s g).port ≡ x.port)
      → Keeps s (coming q g c m)
  unfolding see
  coming_keeps q g c m u a r w t h n z p o d v k = arrives_keeps s f _ a (record {
    follows = comes m u;
    port = w;
    fits = h;
    tied = p;
    named = t ∙ sym n;
    shown = λ y. absurd (o y);
    spot = λ n. absurd (n (h.stands.no_spot (λ y. omega arith)));
    alone = d;
    moved = λ b. v (lt-ltb x.stands (length s.carriers) b);
    awaits = λ _ y. absurd (not_expected y);
    gone = λ b _. k b;
    room = λ _ y. absurd (not_expected y);
  })
    where
      comes : (m : Bool) → not x.known ≡ m → (m ≡ true) ⊎ (x.stands < length s.carriers)
      comes true e = inl refl
      comes false e = inr (found_live s i f (not_false x.known e))

      not_expected : eqb c.place 0 ≡ true → ⊥
      not_expected y = let e = eqb-true c.place 0 y in omega arith

  pub bind_keeps : Good s (bind x)
  unfolding see
  bind_keeps k a =
      let r = given_range s i f k.0 in
      let h = f.ports x.port in
      let n = name_fits s i f k.1.0 in
      arrives_keeps s f _ a (record {
        follows = inl refl;
        port = marked_fits _ h h.access (omega arith) (or_r (same_name x.name no_name) n) h.tag;
        fits = new_fits _ _ x.name x.port n r.1;
        tied = refl;
        named = refl;
        shown = λ z. shut z;
        spot = λ n. absurd (n refl);
        alone = λ j t. nobody_tied s i f (or_false_r (reserved x.here) x.tied k.1.1.1.0) r.0 j t.live;
        moved = λ b. absurd (omega arith);
        awaits = λ b. absurd (omega arith);
        gone = λ b. absurd (omega arith);
        room = λ _ _. has_room s i f k.1.1.1.1.1.0;
      })

  pub carrier_notification_keeps : Good s (carrier_notification x)
  unfolding see
  carrier_notification_keeps k a =
      announced_keeps s f (new_carrier x.name 0) (new_fits _ _ x.name 0 (name_fits s i f k.0) (omega arith)) refl refl refl
      (has_room s i f k.1.1.0)

  pub carrier_out_keeps : Good s (carrier_out x)
  unfolding see
  carrier_out_keeps k a =
      let r = given_range s i f k.1.0 in
      let q = f.ports x.port in
      let h = found_fits s i f k.1.1.0 in
      let o : can_come_out x ≡ true = k.1.1.1.1.0 in
      let t = eqb-true x.here.transfer 1 (and_r (in_buffer x.found && not (is_open x.found) && not (in_access x.found)) _ o) in
      let p = eqb-true x.found.place 2 (and_l _ _ (and_l _ _ (and_l _ _ o))) in
      let u = not_true _ (and_r (in_buffer x.found) _ (and_l _ _ (and_l _ _ o))) in
      arrives_keeps s f _ a (record {
        follows = inr (found_live s i f k.1.1.0);
        port =
            marked_fits _
            (moved_fits _ q (omega arith) q.movement (omega arith) (λ n. let z = q.moving n in absurd (omega arith))
            (λ b. absurd (omega arith)) (λ m _. let z = q.moving (λ y. omega arith) in omega arith))
            q.access q.reserved (or_r (same_name x.name no_name) (name_fits s i f k.0)) (omega arith);
        fits = flags_fit (stands_fits h (at_stands _ _ x.port r.0 r.1)) h.opened h.cancelled (omega arith);
        tied = refl;
        named = sym (found_named s i f k.1.1.0);
        shown = λ z. clash z u;
        spot = λ n. absurd (n refl);
        alone = λ j t. nobody_tied s i f (or_false_r (reserved x.here) x.tied k.1.1.1.0) r.0 j t.live;
        moved = λ _ n. absurd (n (h.stands.in_free p));
        awaits = λ _ z. clash z refl;
        gone = λ b. absurd (omega arith);
        room = λ z. clash z refl;
      })

  pub move_in_keeps : Good s (move_in x)
  unfolding see
  move_in_keeps k a =
      let r = given_range s i f k.0 in
      let p = eqb-true x.held.place 1 (and_l _ _ k.1.1.1.0) in
      let t = held_placed s i f (λ z. let y : x.held.place ≡ 0 = z in omega arith) in
      let b = held_live s i f t in
      let h = f.records x.holds b in
      let l = leb-true 1 x.value (and_l _ _ k.1.0) in
      let g = leb-true x.value x.places (and_r (leb 1 x.value) _ k.1.0) in
      leaves_keeps s f x.port (emptied x.here) x.holds (moved_in x.value x.held) b (λ z. omega arith) (held_tied s i f t)
      (emptied_fits _ (f.ports x.port)) refl
      (stands_fits h (record {
        place_range = omega arith;
        port_range = omega arith;
        in_spot = λ _. (l, g);
        in_free = λ _. refl;
        no_spot = λ n. absurd (n refl);
        at_tied = λ z. absurd (omega arith);
      }))
      refl (λ j c _. other k.1.1.1.1.0 l j c)
    where
      -- who has a spot is in the buffer, and nobody there has this one
      other : x.taken ≡ false → 1 ≤ x.value → (j : ℕ) → j < length s.carriers → (record_of s j).spot ≢ x.value
      other e l j c z = go (ℕ_discrete (record_of s j).place 2)
        where
          go : Dec ((record_of s j).place ≡ 2) → ⊥
          go (yes p) = spot_free s i f e j c p z
          go (no n) = let o = (f.records j c).stands.no_spot n in omega arith

  -- a record tied to another port is refused
  tied_here : elsewhere x ≡ false → 1 ≤ x.port → x.known ≡ true → x.found.port ≢ 0 → x.found.port ≡ x.port
  unfolding see elsewhere
  tied_here e b u n = go (eqb x.port x.found.port) refl
    where
      go : (w : Bool) → eqb x.port x.found.port ≡ w → x.found.port ≡ x.port
      go true q = sym (eqb-true x.port x.found.port q)
      go false q =
          clash (rw (u, ne_eqb x.found.port 0 n, ne_eqb x.port 0 (λ z. omega arith), q) refl)
          (or_false_r (placed x) (x.known && not (untied x.found) && other_port x x.found) e)

  pub id_read_keeps : Good s (id_read x)
  unfolding see elsewhere displaced
  id_read_keeps k a =
      let r = given_range s i f k.0 in
      let n = name_fits s i f k.1.0 in
      let h = here_fits s i f in
      let u = or_false_l (placed x) _ k.1.1.0 in
      coming_keeps (tag_read x.name x.here) (displaced x) _ (not x.known) refl a k.0
      (marked_fits _ h h.access h.reserved (or_r (same_name x.name no_name) n) (omega arith)) refl
      (placed_fits _ _ _ x.port _ (status (matching x)) r.0 r.1 (either_fits s i f k.1.0)) (either_named s i f) refl refl
      (either_shut s i f u)
      (λ j t. only_held s i f r.0 j t.live (other (eqb x.holds x.stands) refl j t.here t.same))
      (tied_here k.1.1.0 r.0) (gone (eqb x.holds x.stands))
    where
      status : (w : Bool) → (1 ≤ cond w 3 2) × (cond w 3 2 ≤ 4)
      status true = (omega arith, omega arith)
      status false = (omega arith, omega arith)

      -- what stays isn't the one that held the port
      other : (w : Bool) → eqb x.holds x.stands ≡ w → (j : ℕ) → j ≢ cond w x.count x.holds → j ≢ x.stands → j ≢ x.holds
      other true q j n m z = m (z ∙ eqb-true x.holds x.stands q)
      other false q j n m z = n z

      gone : (w : Bool) → cond w x.count x.holds < length s.carriers → (record_of s (cond w x.count x.holds)).port ≡ x.port
      gone true b = absurd (omega arith)
      gone false b = held_tied s i f (lt-ltb x.holds (length s.carriers) b)

  pub id_read_failed_keeps : Good s (id_read_failed x)
  unfolding see
  id_read_failed_keeps k a = go x.tied refl (given_range s i f k.0) a
    where
      go : (w : Bool) → x.tied ≡ w → (1 ≤ x.port) × (x.port ≤ length s.ports)
          → Apt s (on_both x.count x.port (tag_not_read x.here) x.holds
          (cond w (with_id 2 (placed_at x.port x.held)) no_carrier))
          → Keeps s (on_both x.count x.port (tag_not_read x.here) x.holds
          (cond w (with_id 2 (placed_at x.port x.held)) no_carrier))
      go true t r a =
          let b = held_live s i f t in
          let h = f.records x.holds b in
          let p = held_tied s i f t in
          let q = here_fits s i f in
          arrives_keeps s f _ a (record {
            follows = inr b;
            port = marked_fits _ q q.access q.reserved q.tie (omega arith);
            fits = placed_fits _ _ 2 x.port x.held (omega arith, omega arith) r.0 r.1 h;
            tied = refl;
            named = ap (λ q. (port_of s q).tie) (sym p) ∙ f.kept x.holds b (λ z. let y : x.held.port ≡ 0 = z in omega arith);
            shown = λ o _.
                let q = f.shown x.holds b o (λ z. let y : x.held.port ≡ 0 = h.stands.in_free z in omega arith) in
                (refl, ap (λ q. idle (port_of s q)) (sym p) ∙ q.1, ap (λ q. blocked (port_of s q)) (sym p) ∙ q.2);
            spot = λ n. absurd (n refl);
            alone = λ j t. only_held s i f r.0 j t.live t.same;
            moved = λ _ _. p;
            awaits = λ _ z. clash z refl;
            gone = λ b. absurd (omega arith);
            room = λ z. clash z refl;
          })
      go false t r a =
          let q = here_fits s i f in
          rw (holds_none s i f t)
          (calm_keeps s f x.port (tag_not_read x.here) (marked_fits _ q q.access q.reserved q.tie (omega arith))
          (record { tie = refl; quiet = λ a b. (a, b) }))
