-- The shapes that effects have, and what each has left to show to be lawful.
use Prim.Native.Nat.{ℕ, ◌≤◌, ◌<◌}
use native.Mathlib.Omega.{arith}
use native.Mathlib.Decide.{ℕ_discrete}
use mathlib.Core.Path.{◌≡◌, refl, ap, sym, subst, ◌∙◌}
use mathlib.Core.Logic.{◌≢◌, ◌⊎◌, inl}
use mathlib.Core.Bool.{Bool, true, false, cond}
use lib.ListN.{length, get_or-eq_default}
use lib.Dec.{eqb}
use borrow.Author.Tests.{eqb-true, eq-eqb, ne_eqb}
use Rattle.lists.proofs.Bools.{clash}
use Rattle.records.specs.declared.port.Port.{Port}
use Rattle.records.specs.declared.carrier.Carrier.{Carrier}
use Rattle.records.specs.Ports.{no_port, has_pod, ready_to_load}
use Rattle.records.specs.Carriers.{is_open, slot_waits, slot_failed, in_access}
use Rattle.rules.specs.declared.row.Seen.{Seen}
use Rattle.rules.specs.State.{State, port_of, record_of}
use Rattle.rules.specs.Sound.{sound}
use Rattle.rules.specs.Seen.{Input, see}
use Rattle.rules.specs.Row.{Row, judge, on_port, on_port_and_gone}
use Rattle.rules.specs.Outcome.{answer_in}
use Rattle.rules.specs.Granted.{outbound}
use Rattle.rules.proofs.SoundParts.{Facts, facts}
use Rattle.rules.proofs.Orderly.{ties_differ_fact}
use Rattle.rules.proofs.KeepSeen.{found_live, held_tied, here_fits}
use Rattle.rules.proofs.Matching.{port_sent}
use Rattle.rules.proofs.Lawful.{Lid, Berth, AllKept, Steady, Turns, pod_after, Lawful, away_berth}

-- ── Ports ──
module _ {q r : Port} (pod : r.pod ≡ q.pod) (tag : r.tag ≡ q.tag) where
  -- pod and tag stay as they are, and so do transfer and movement
  pub calm : r.transfer ≡ q.transfer → r.movement ≡ q.movement → Steady q r
  calm t m = record { marked = λ z. rw (pod, tag) z; out = λ z. rw (t, m) z }

  -- the port gives out after it
  pub gives_out : outbound r ≡ true → Steady q r
  gives_out o = record { marked = λ z. rw (pod, tag) z; out = λ _. o }

  -- it didn't give out, so that nothing there came out of the buffer
  pub takes_in : outbound q ≡ false → Steady q r
  takes_in o = record { marked = λ z. rw (pod, tag) z; out = λ z. clash z o }

-- neither READY TO UNLOAD nor unloading
pub inward : (q : Port) → q.transfer ≢ 2 → q.movement ≢ 2 → outbound q ≡ false
inward q t m = rw (ne_eqb q.transfer 2 t, ne_eqb q.movement 2 m)

-- ── Records ──
module _ {s : State} {c after : Carrier} (slot : slot_failed after ≡ true → (slot_failed c ≡ true) ⊎ (slot_waits c ≡ true)) where
  -- as open, as verified and as placed as it was; accessed only if it is open
  pub turns_alike : Lid s.places c → after.opened ≡ c.opened → after.id ≡ c.id → after.place ≡ c.place
      → (in_access after ≡ true → is_open c ≡ true) → Turns s c after
  turns_alike l o d p g = record {
    lid = record { ok_id = λ z. rw d (l.ok_id (rw (← o) z)); access = λ z. rw o (g z); bare = λ z y. l.bare (rw (← o) z) (rw (← p) y) };
    opens = λ z. inl (rw (← o) z);
    fails = slot;
  }

  -- closed
  pub turns_shut : is_open after ≡ false → in_access after ≡ false → Turns s c after
  turns_shut o g = record {
    lid = record { ok_id = λ z. clash z o; access = λ z. clash z g; bare = λ z. clash z o };
    opens = λ z. clash z o;
    fails = slot;
  }

-- where a row accepts, as the input of number n
pub record Fine (s : State) (i : Input) (n : ℕ) (r : Row) : Type 0 where
  pub fine : judge r.grounds ≡ 0 → Lawful s i n r.effect

-- an accepted input, and a sound state in which all is kept
pub record Ready (s : State) (i : Input) : Type 0 where
  pub sounds : sound s ≡ true
  pub accepted : eqb (answer_in s i) 0 ≡ true
  pub kept : AllKept s

module _ {s : State} {i : Input} (r : Ready s i) where
  abbrev x : Seen
  x = see s i

  pub facts_of : Facts s
  facts_of = facts s r.sounds

  -- ── What is kept of what a row sees ──
  pub found_lid : Lid s.places x.found
  unfolding see
  found_lid = (r.kept.each x.stands).lid

  pub found_berth : Berth x.home x.found
  unfolding see
  found_berth = (r.kept.each x.stands).berth

  pub held_lid : Lid s.places x.held
  unfolding see
  held_lid = (r.kept.each x.holds).lid

  pub held_berth : x.tied ≡ true → Berth x.here x.held
  unfolding see
  held_berth u = subst (λ p. Berth (port_of s p) x.held) (held_tied s i facts_of u) (r.kept.each x.holds).berth

  -- out of service, READY TO LOAD or loading, a port gives nothing out
  pub low_inward : x.here.transfer ≤ 1 → outbound x.here ≡ false
  low_inward b = inward x.here (λ z. omega arith) (λ z. let m = (here_fits s i facts_of).moving (λ y. omega arith) in omega arith)

  pub ready_inward : ready_to_load x.here ≡ true → outbound x.here ≡ false
  ready_inward b = let t = eqb-true x.here.transfer 1 b in low_inward (omega arith)

  pub load_inward : x.here.movement ≡ 1 → outbound x.here ≡ false
  load_inward b = let m = (here_fits s i facts_of).moving (λ y. omega arith) in inward x.here (λ z. omega arith) (λ z. omega arith)

  -- ── Pods ──
  -- whether a pod is at a port, where port p changes into q
  abbrev pub Pods : ℕ → ℕ → Port → Type 0
  Pods n p q =
      (j : ℕ) → has_pod (cond (eqb j p) q (port_of s j)) ≡ pod_after n (eqb (answer_in s i) 0) (eqb i.port j) (has_pod (port_of s j))

  -- no port changes
  none_then : (p : ℕ) → cond (eqb p 0) no_port (port_of s p) ≡ port_of s p
  unfolding port_of
  none_then p = go (eqb p 0) refl
    where
      go : (w : Bool) → eqb p 0 ≡ w → cond w no_port (port_of s p) ≡ port_of s p
      go true e = let z = facts_of.few_ports in rw (eqb-true p 0 e) (sym (get_or-eq_default s.ports no_port z))
      go false e = refl

  pub pod_none : (p : ℕ) → has_pod (cond (eqb p 0) no_port (port_of s p)) ≡ has_pod (port_of s p)
  pod_none p = ap has_pod (none_then p)

  -- a port changes, and its pod stays
  pub pod_same : (k : ℕ) (q : Port) → has_pod q ≡ has_pod (port_of s k) → (p : ℕ)
      → has_pod (cond (eqb p k) q (port_of s p)) ≡ has_pod (port_of s p)
  pod_same k q e p = go (eqb p k) refl
    where
      go : (w : Bool) → eqb p k ≡ w → has_pod (cond w q (port_of s p)) ≡ has_pod (port_of s p)
      go true z = e ∙ ap (λ j. has_pod (port_of s j)) (sym (eqb-true p k z))
      go false z = refl

  pub pod_here : (q : Port) → has_pod q ≡ has_pod x.here → (p : ℕ) → has_pod (cond (eqb p x.port) q (port_of s p)) ≡ has_pod (port_of s p)
  unfolding see
  pod_here q e = pod_same x.port q e

  -- the input brings a pod to the port that it names, or takes it
  pub pod_moves : (n : ℕ) (v : Bool) (q : Port) → ((w : Bool) → pod_after n true true w ≡ v) → ((w : Bool) → pod_after n true false w ≡ w)
      → has_pod q ≡ v → x.isport ≡ true → Pods n x.port q
  pod_moves n v q here there e t p = rw r.accepted (go (ℕ_discrete p x.port))
    where
      sent : x.port ≡ i.port
      sent = port_sent s i r.sounds t

      go : Dec (p ≡ x.port) → has_pod (cond (eqb p x.port) q (port_of s p)) ≡ pod_after n true (eqb i.port p) (has_pod (port_of s p))
      go (yes z) = rw (eq-eqb p x.port z, eq-eqb i.port p (sym sent ∙ sym z)) (e ∙ sym (here _))
      go (no z) = rw (ne_eqb p x.port z, ne_eqb i.port p (λ y. z (sym y ∙ sym sent))) (sym (there _))

  -- ── Shapes ──
  -- a port changes, and a record may go
  pub port_law : (n p : ℕ) {q : Port} (k : ℕ)
      → (p ≢ 0 → (j : ℕ) → j < length s.carriers → j ≢ k → (record_of s j).port ≡ p → Steady (port_of s p) q) → Pods n p q
      → Lawful s i n (on_port_and_gone x.count p q k)
  port_law n p k t d = record {
    steady = λ z j u. t z j u.live u.here;
    turns = turns_shut (λ z. clash z refl) refl refl;
    berth = away_berth refl refl;
    pod = d;
  }

  -- only the port given changes
  pub at_port_fact : (n : ℕ) {q : Port} → Steady x.here q → Pods n x.port q → Lawful s i n (on_port x.count x.port q)
  unfolding see
  at_port_fact n t d = port_law n x.port x.count (λ _ _ _ _ _. t) d

  -- the named record changes, and no port
  pub in_place : (n : ℕ) {c : Carrier} {m : Bool} → Turns s x.found c → c.port ≡ x.found.port → c.place ≡ x.found.place
      → c.cameout ≡ x.found.cameout → Pods n 0 no_port
      → Lawful s i n (record { port = 0; becomes = no_port; goes = x.count; changes = x.stands; next = c; made = m })
  unfolding see
  in_place n {c} t p l m d = record {
    steady = λ z. absurd (z refl);
    turns = t;
    berth = rw (none_then c.port, p) (
        record { marked = λ z. found_berth.marked (rw (← l) z); out = λ z. let o = found_berth.out (rw (← m) z) in (rw l o.0, o.1) });
    pod = d;
  }

  -- the named record changes, and so does its port
  pub at_home : (n : ℕ) {q : Port} {c : Carrier} {m : Bool} → x.known ≡ true → Turns s x.found c → c.port ≡ x.found.port → Berth q c
      → Pods n x.found.port q
      → Lawful s i n (record { port = x.found.port; becomes = q; goes = x.count; changes = x.stands; next = c; made = m })
  unfolding see
  at_home n u t p b d = record {
    steady = λ z j w y.
        let b = found_live s i facts_of u in
        absurd (w.same (ties_differ_fact s facts_of j x.stands w.live b (λ v. z (sym y ∙ v)) y));
    turns = t;
    berth = rw (eq-eqb _ _ p) b;
    pod = d;
  }

  -- the named record, or a new one, comes to the port given
  pub comes_law : (n : ℕ) {q : Port} {g : ℕ} {c : Carrier} {m : Bool} → Steady x.here q → Turns s x.found c → c.port ≡ x.port
      → Berth q c → Pods n x.port q
      → Lawful s i n (record { port = x.port; becomes = q; goes = g; changes = x.stands; next = c; made = m })
  unfolding see
  comes_law n k t p b d = record { steady = λ _ _ _ _. k; turns = t; berth = rw (eq-eqb _ _ p) b; pod = d }
