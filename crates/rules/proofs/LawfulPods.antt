-- Rows 5, 6, 16 and 17 are lawful: a pod is read and judged.
use native.Mathlib.Omega.{arith}
use mathlib.Core.Path.{◌≡◌, refl}
use mathlib.Core.Logic.{◌⊎◌, inl, inr}
use mathlib.Core.Bool.{Bool, true, false, not, cond, ◌&&◌, ◌||◌}
use lib.Dec.{eqb}
use borrow.Author.Tests.{eqb-true, eq-eqb, ne_eqb}
use Rattle.lists.proofs.Bools.{clash, and_l, and_r, or_other, or_false_l, not_true, not_false}
use Rattle.records.specs.declared.carrier.Carrier.{Carrier}
use Rattle.records.specs.Ports.{has_pod, tag_unread, tag_not_read}
use Rattle.records.specs.Carriers.{no_carrier, new_carrier, expected, is_open, at_port, came_out, id_waits, id_ok, slot_waits}
use Rattle.records.specs.Carriers.{slot_failed, in_access, placed_at}
use Rattle.records.specs.Fields.{with_id}
use Rattle.rules.specs.declared.row.Seen.{Seen}
use Rattle.rules.specs.State.{State, port_of}
use Rattle.rules.specs.Seen.{Input, see}
use Rattle.rules.specs.Row.{other_port, placed, unknown_pod, found_or_new}
use Rattle.rules.specs.Verdict.{takes_unknown_pod, proceed_with_carrier, cancel_at, cancel_port, failed, can_cancel, cancel_carrier}
use Rattle.rules.specs.Reading.{readable, elsewhere, id_read, id_read_failed}
use Rattle.rules.proofs.Accepts.{clear}
use Rattle.rules.proofs.KeepSeen.{given_range, found_fits, held_tied, held_live}
use Rattle.rules.proofs.KeepSeen.{either_shut, placed_known}
use Rattle.rules.proofs.UnknownPod.{pod_there}
use Rattle.rules.proofs.KeepVerdict.{proceeding, cancelling}
use Rattle.rules.proofs.Lawful.{Marked, Berth, Turns, Lawful, away_berth, shut_by}
use Rattle.rules.proofs.LawfulShapes.{Fine, calm, gives_out, turns_shut, Ready, facts_of}
use Rattle.rules.proofs.LawfulShapes.{found_lid, found_berth, held_lid, held_berth}
use Rattle.rules.proofs.LawfulShapes.{pod_none, pod_same, pod_here, in_place, at_home, comes_law}

module _ {s : State} {i : Input} (r : Ready s i) where
  abbrev x : Seen
  x = see s i

  -- ── 16 and 17: a tag is read, or can't be ──
  -- a carrier that isn't placed: closed, not accessed, and not come out of the buffer
  record Arriving (c : Carrier) : Type 0 where
    pub shut : is_open c ≡ false
    pub left : in_access c ≡ false
    pub inbound : came_out c ≡ false
    pub slot : slot_failed c ≡ true → (slot_failed x.found ≡ true) ⊎ (slot_waits x.found ≡ true)

  arriving : placed x ≡ false → Arriving (found_or_new x)
  unfolding placed found_or_new
  arriving n = go x.known n (either_shut s i (facts_of r) n)
    where
      go : (w : Bool) → (w && not (expected x.found)) ≡ false → (is_open (cond w x.found (new_carrier x.name 0)) ≡ true → ⊥)
          → Arriving (cond w x.found (new_carrier x.name 0))
      go true e o = record {
        shut = shut_by o;
        left = shut_by (λ z. o ((found_lid r).access z));
        inbound = shut_by (λ z.
            let p = eqb-true x.found.place 0 (not_false _ e) in
            let q = eqb-true x.found.place 1 ((found_berth r).out z).0 in
            omega arith);
        slot = inl;
      }
      go false e o = record { shut = refl; left = refl; inbound = refl; slot = λ z. clash z refl }

  read_pod : readable x.here ≡ true → has_pod x.here ≡ true
  read_pod e = search (and_l, and_r) depth 4

  pub id_read_law : Fine s i 16 (id_read x)
  unfolding elsewhere
  id_read_law = record {
    fine = λ e.
        let k = clear (id_read x).grounds refl e in
        let c = arriving (or_false_l (placed x) _ k.1.1.0) in
        let p = read_pod k.1.1.1.0 in
        comes_law r 16 (record { marked = λ _. (p, refl); out = λ z. z }) (turns_shut c.slot c.shut c.left) refl
        (record { marked = λ _. (p, refl); out = λ z. clash z c.inbound }) (pod_here r _ refl);
  }

  -- the carrier tied to a port whose tag is unread is closed, so that no failed read takes an open one's ID away
  held_shut : x.isport ≡ true → readable x.here ≡ true → x.tied ≡ true → is_open x.held ≡ true → ⊥
  unfolding see
  held_shut g e u o =
      let b = held_live s i (facts_of r) u in
      let t = held_tied s i (facts_of r) u in
      let m = (given_range s i (facts_of r) g).0 in
      let p = ((facts_of r).shown x.holds b o (λ z. let y = ((facts_of r).records x.holds b).stands.in_free z in omega arith)).0 in
      let c : tag_unread x.here ≡ true = search (and_l, and_r) depth 4 in
      clash c ((held_berth r u).marked (eq-eqb x.held.place 1 p)).1

  pub id_read_failed_law : Fine s i 17 (id_read_failed x)
  unfolding see
  id_read_failed_law = record {
    fine = λ e.
        let k = clear (id_read_failed x).grounds refl e in
        let c = follows x.tied refl k.0 k.1.0 in
        record {
          steady = λ _ _ _ _. record { marked = λ z. (z.0, refl); out = λ z. z };
          turns = c.0;
          berth = c.1;
          pod = pod_here r _ refl;
        };
  }
    where
      after : Bool → Carrier
      after w = cond w (with_id 2 (placed_at x.port x.held)) no_carrier

      follows : (w : Bool) → x.tied ≡ w → x.isport ≡ true → readable x.here ≡ true
          → Turns s x.held (after w)
          × Berth (cond (eqb (after w).port x.port) (tag_not_read x.here) (port_of s (after w).port)) (after w)
      follows true u g e = (
        turns_shut inl (shut_by (held_shut g e u)) (shut_by (λ z. held_shut g e u ((held_lid r).access z))),
        rw (eq-eqb x.port x.port refl)
            (record { marked = λ _. (read_pod e, refl); out = λ z. (refl, ((held_berth r u).out z).1) }),
      )
      follows false u g e = (turns_shut (λ z. clash z refl) refl refl, away_berth refl refl)

  -- ── 5 and 6: the host says yes or no ──
  -- a carrier that isn't placed takes an unknown pod
  unknown_here : placed x ≡ false → (x.known || unknown_pod x) ≡ true → (not x.known || placed x || takes_unknown_pod x) ≡ true
      → (x.isport ≡ true) × Marked x.here
  unknown_here n c b =
      let p = pod_there x c b n in
      let g = eqb-true x.here.tag 2 p.unreadable in
      (p.port, (p.present, ne_eqb x.here.tag 0 (λ z. omega arith)))

  pub proceed_with_carrier_law : Fine s i 5 (proceed_with_carrier x)
  proceed_with_carrier_law = record {
    fine = λ e.
        let k = clear (proceed_with_carrier x).grounds refl e in
        go (placed x) refl (λ n. (unknown_here n k.1.1.0 k.1.1.1.0).1);
  }
    where
      ok : (w : Bool) → id_ok x.found ≡ true → eqb (cond w 3 x.found.id) 3 ≡ true
      ok true z = refl
      ok false z = z

      failed_before : (w : Bool) → eqb (cond w x.found.slot 3) 4 ≡ true
          → (slot_failed x.found ≡ true) ⊎ (slot_waits x.found ≡ true)
      failed_before true z = inl z
      failed_before false z = clash z refl

      go : (w : Bool) → placed x ≡ w → (placed x ≡ false → Marked x.here)
          → Lawful s i 5 (proceeding s i (facts_of r) w (not x.known))
      go true p d = in_place r 5 (record {
        lid = record {
          ok_id = λ z. ok (id_waits x.found) ((found_lid r).ok_id z);
          access = (found_lid r).access;
          bare = (found_lid r).bare;
        };
        opens = inl;
        fails = failed_before (id_waits x.found);
      }) refl refl refl (pod_none r)
      go false p d =
          let c = arriving p in
          comes_law r 5 (calm refl refl refl refl) (turns_shut c.slot c.shut c.left) refl
          (record { marked = λ _. d p; out = λ z. clash z c.inbound }) (pod_here r _ refl)

  not_accessed : (not (placed x) || can_cancel x x.found x.home) ≡ true → placed x ≡ true → in_access x.found ≡ false
  unfolding can_cancel
  not_accessed e p =
      let c = or_other (not (placed x)) (can_cancel x x.found x.home) e (rw p) in
      not_true _ (and_r (not (other_port x x.found)) _ (and_l _ _ c))

  pub cancel_carrier_law : Fine s i 6 (cancel_carrier x)
  unfolding see cancel_at cancel_port failed
  cancel_carrier_law = record {
    fine = λ e.
        let k = clear (cancel_carrier x).grounds refl e in
        go (placed x) refl (at_port x.found) refl (eqb (cancel_at x) 0) refl (not_accessed k.1.1.1.1.0)
        (λ n. unknown_here n k.1.1.0 k.1.1.1.0);
  }
    where
      failed_by : (w : Bool) → (not (id_waits x.found) && slot_waits x.found) ≡ w → eqb (cond w 4 x.found.slot) 4 ≡ true
          → (slot_failed x.found ≡ true) ⊎ (slot_waits x.found ≡ true)
      failed_by true q z = inr (and_r (not (id_waits x.found)) _ q)
      failed_by false q z = inl z

      go : (w : Bool) → placed x ≡ w → (v : Bool) → at_port x.found ≡ v
          → (z : Bool) → eqb (cond w (cond v x.found.port 0) x.port) 0 ≡ z
          → (placed x ≡ true → in_access x.found ≡ false) → (placed x ≡ false → (x.isport ≡ true) × Marked x.here)
          → Lawful s i 6 (cancelling s i (facts_of r) w v z (not x.known))
      go true p true l true y n d =
          let t = (found_fits s i (facts_of r) (placed_known s i (facts_of r) p)).stands.at_tied (eqb-true x.found.place 1 l) in
          let o = eqb-true x.found.port 0 y in
          absurd (omega arith)
      go true p true l false y n d =
          at_home r 6 (placed_known s i (facts_of r) p) (turns_shut (failed_by _ refl) refl (n p)) refl
          (record { marked = (found_berth r).marked; out = λ _. (l, refl) }) (pod_same r x.found.port _ refl)
      go true p false l true y n d = record {
        steady = λ z. absurd (z refl);
        turns = turns_shut (failed_by _ refl) refl (n p);
        berth = away_berth l refl;
        pod = pod_none r;
      }
      go true p false l false y n d = clash {b = eqb 0 0} refl y
      go false p v l true y n d =
          let t = (given_range s i (facts_of r) (d p).0).0 in
          let o = eqb-true x.port 0 y in
          absurd (omega arith)
      go false p v l false y n d =
          let c = arriving p in
          comes_law r 6 (gives_out refl refl refl) (turns_shut c.slot refl c.left) refl
          (record { marked = λ _. (d p).1; out = λ _. (refl, refl) }) (pod_here r _ refl)
