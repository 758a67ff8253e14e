-- Rows 7, 8 and 18 to 23 are lawful: moved, opened, mapped, accessed, closed.
use Prim.Native.Nat.{ℕ, ◌≤◌}
use native.Mathlib.Omega.{arith}
use mathlib.Core.Path.{◌≡◌, refl, ap, sym, ◌∙◌}
use mathlib.Core.Logic.{inl, inr}
use mathlib.Core.Bool.{Bool, true, false, not, cond, ◌&&◌}
use lib.ListN.{length, get_or-eq_default}
use lib.Dec.{eqb, ltb}
use borrow.Author.Tests.{eqb-true, ne_eqb, le-leb, ltb-true, ltb-false}
use Rattle.lists.proofs.Bools.{clash, and_l, and_r, or_other, or_false_l, not_true, not_false}
use Rattle.lists.proofs.Tests.{any_here}
use Rattle.records.specs.Ports.{no_port, idle, blocked, to_unload}
use Rattle.records.specs.Carriers.{no_carrier, is_open, in_access, in_buffer, at_port, id_ok}
use Rattle.records.specs.Carriers.{not_accessed}
use Rattle.records.specs.Fields.{with_opened}
use Rattle.rules.specs.declared.row.Seen.{Seen}
use Rattle.rules.specs.State.{State, record_of}
use Rattle.rules.specs.Seen.{Input, some_open, see}
use Rattle.rules.specs.Row.{on_both}
use Rattle.rules.specs.Buffer.{can_move_in, carrier_out, carrier_in, move_in}
use Rattle.rules.specs.Opening.{can_open, opener_in_use, open_row, slot_map, access_start, access_end, leaves_port, close_row}
use Rattle.rules.specs.Granted.{outbound}
use Rattle.rules.proofs.Accepts.{clear}
use Rattle.rules.proofs.KeepSeen.{given_range, held_placed, only_held}
use Rattle.rules.proofs.Lawful.{Turns, Lawful, away_berth, shut_by}
use Rattle.rules.proofs.LawfulShapes.{Fine, inward, turns_alike, turns_shut, Ready, facts_of}
use Rattle.rules.proofs.LawfulShapes.{found_lid, found_berth, held_lid, held_berth}
use Rattle.rules.proofs.LawfulShapes.{pod_none, pod_same, pod_moves, in_place, at_home, comes_law}

module _ {s : State} {i : Input} (r : Ready s i) where
  abbrev x : Seen
  x = see s i

  -- ── 7, 8 and 18: out of the buffer, back, and in ──
  pub carrier_out_law : Fine s i 7 (carrier_out x)
  carrier_out_law = record {
    fine = λ e.
        let k = clear (carrier_out x).grounds refl e in
        let n : not (is_open x.found) ≡ true = let t = k.1.1.1.1.0 in search (and_l, and_r) depth 4 in
        let o = not_true _ n in
        comes_law r 7 (record { marked = λ _. (refl, refl); out = λ _. refl })
        (turns_shut inl o (shut_by (λ z. clash ((found_lid r).access z) o))) refl
        (record { marked = λ _. (refl, refl); out = λ _. (refl, refl) })
        (pod_moves r 7 true _ (λ w. refl) (λ w. refl) refl k.1.0);
  }

  pub carrier_in_law : Fine s i 8 (carrier_in x)
  unfolding see
  carrier_in_law = record {
    fine = λ e.
        let k = clear (carrier_in x).grounds refl e in
        at_home r 8 k.1.0 (turns_alike inl (found_lid r) refl refl refl (found_lid r).access) refl
        (record { marked = (found_berth r).marked; out = λ z. clash z refl }) (pod_same r x.found.port _ refl);
  }

  -- an idle BLOCKED port gives nothing out, so that what moves in didn't come out
  blocked_inward : can_move_in x ≡ true → outbound x.here ≡ false
  blocked_inward c =
      let t = eqb-true x.here.transfer 3 (search (and_l, and_r) depth 4) in
      let m = eqb-true x.here.movement 0 (search (and_l, and_r) depth 4) in
      inward x.here (λ z. omega arith) (λ z. omega arith)

  pub move_in_law : Fine s i 18 (move_in x)
  unfolding see
  move_in_law = record {
    fine = λ e.
        let k = clear (move_in x).grounds refl e in
        let p = eqb-true x.held.place 1 (and_l _ _ k.1.1.1.0) in
        let u = held_placed s i (facts_of r) (λ z. omega arith) in
        record {
          steady = λ _ j t z. absurd (only_held s i (facts_of r) (given_range s i (facts_of r) k.0).0 j t.live t.same z);
          turns = record {
            lid = record { ok_id = (held_lid r).ok_id; access = (held_lid r).access; bare = λ _ z. clash z refl };
            opens = inl;
            fails = inl;
          };
          berth = away_berth refl (shut_by (λ z. clash ((held_berth r u).out z).1 (blocked_inward k.1.1.0)));
          pod = pod_moves r 18 false _ (λ w. refl) (λ w. refl) refl k.0;
        };
  }

  -- ── 19 to 23: opened, mapped, accessed, closed ──
  -- at a port a carrier is opened only where there is no buffer
  no_buffer : can_open x ≡ true → at_port x.found ≡ true → s.places ≡ 0
  unfolding see
  no_buffer t p =
      let l = eqb-true x.found.place 1 p in
      let o : (eqb x.places 0 && at_port x.found && idle x.home && blocked x.home) ≡ true =
      or_other (in_buffer x.found) _ (and_r (not (is_open x.found) && not_accessed x.found) _ t)
      (ne_eqb x.found.place 2 (λ z. omega arith)) in
      eqb-true s.places 0 (search (and_l, and_r) depth 5)

  -- with a buffer the opener is asked for, and where it isn't in use nothing is open
  asked : 1 ≤ s.places → opener_in_use x ≡ x.busy
  unfolding see
  asked l = rw (le-leb 1 s.places l)

  all_shut : opener_in_use x ≡ false → 1 ≤ s.places → (j : ℕ) → is_open (record_of s j) ≡ false
  unfolding see some_open record_of
  all_shut n l j = go (ltb j (length s.carriers)) refl
    where
      go : (w : Bool) → ltb j (length s.carriers) ≡ w → is_open (record_of s j) ≡ false
      go true q =
          shut_by (λ o. clash (any_here is_open s.carriers j no_carrier (ltb-true j (length s.carriers) q) o) (sym (asked l) ∙ n))
      go false q = ap is_open (get_or-eq_default s.carriers no_carrier (ltb-false j (length s.carriers) q))

  pub open_law : Fine s i 19 (open_row x)
  open_law = record {
    fine = λ e.
        let k = clear (open_row x).grounds refl e in
        in_place r 19 (record {
          lid = record {
            ok_id = λ _. not_false (id_ok x.found) (or_false_l _ _ (or_false_l _ _ k.1.1.1.0));
            access = λ _. refl;
            bare = λ _. no_buffer k.1.1.0;
          };
          opens = λ _. inr (all_shut k.1.1.1.1.0);
          fails = inl;
        }) refl refl refl (pod_none r);
  }

  pub slot_map_law : Fine s i 20 (slot_map x)
  slot_map_law = record {
    fine = λ e.
        in_place r 20 (turns_alike (λ z. clash z refl) (found_lid r) refl refl refl (found_lid r).access) refl refl refl (pod_none r);
  }

  pub access_start_law : Fine s i 21 (access_start x)
  access_start_law = record {
    fine = λ e.
        let k = clear (access_start x).grounds refl e in
        let o : is_open x.found ≡ true = let t = k.1.1.0 in search (and_l) depth 3 in
        in_place r 21 (turns_alike inl (found_lid r) refl refl refl (λ _. o)) refl refl refl (pod_none r);
  }

  pub access_end_law : Fine s i 22 (access_end x)
  access_end_law = record {
    fine = λ e.
        in_place r 22 (turns_alike inl (found_lid r) refl refl refl (λ z. clash z (ended (eqb x.value 0)))) refl refl refl (pod_none r);
  }
    where
      ended : (w : Bool) → eqb (cond w 3 4) 2 ≡ false
      ended true = refl
      ended false = refl

  pub close_law : Fine s i 23 (close_row x)
  unfolding see
  close_law = record {
    fine = λ e.
        let k = clear (close_row x).grounds refl e in
        let n : not (in_access x.found) ≡ true = let t = k.1.1.0 in search (and_l, and_r) depth 3 in
        go (leaves_port x) refl k.1.0 (turns_shut inl refl (not_true _ n));
  }
    where
      go : (w : Bool) → leaves_port x ≡ w → x.known ≡ true → Turns s x.found (with_opened 0 x.found)
          → Lawful s i 23 (on_both x.count (cond w x.found.port 0) (cond w (to_unload x.home) no_port)
          x.stands (with_opened 0 x.found))
      go true q u t =
          at_home r 23 u t refl (record { marked = (found_berth r).marked; out = λ _. (and_l _ _ q, refl) })
          (pod_same r x.found.port _ refl)
      go false q u t = in_place r 23 t refl refl refl (pod_none r)
