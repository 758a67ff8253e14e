-- What soundness says, fact by fact: of each port, of each record, and of every two records.
use Prim.Native.Nat.{ℕ, zero, suc, ◌-◌, ◌≤◌, ◌<◌}
use native.Mathlib.Omega.{arith}
use mathlib.Core.Path.{◌≡◌, refl, ap, sym, ◌∙◌}
use mathlib.Core.Logic.{◌≢◌}
use mathlib.Core.Bool.{Bool, true, false, not, ◌&&◌, ◌||◌}
use lib.ListN.{length, get_or, get_or-eq_default}
use lib.Dec.{eqb, leb, ltb}
use borrow.Author.Tests.{eqb-true, eqb-false, leb-true, ltb-true, ltb-false, eq-eqb, ne_eqb, le-leb}
use Rattle.lists.specs.Lists.{every, how_many, same_list}
use Rattle.lists.proofs.Bools.{clash, and_l, and_r, or_l, or_r, or_other, not_true}
use Rattle.lists.proofs.Tests.{every_at, two_at}
use Rattle.lists.proofs.Parts.{any_found}
use Rattle.records.specs.declared.port.Port.{Port}
use Rattle.records.specs.declared.carrier.Carrier.{Carrier}
use Rattle.records.specs.Names.{no_name, same_name, holds_name}
use Rattle.records.specs.Maps.{is_code}
use Rattle.records.specs.Ports.{no_port, idle, blocked, loading}
use Rattle.records.specs.Carriers.{no_carrier, expected, at_port, in_buffer, untied, is_open}
use Rattle.rules.specs.State.{State, spot_of, port_of, record_of}
use Rattle.rules.specs.Sound.{port_in_range, spot_in_range, status_in_range, carrier_in_range, in_range, tie_kept, tie_held}
use Rattle.rules.specs.Sound.{port_tie_held, ties_agree, place_agrees, other_spot, few_expected, port_agrees, open_agrees}
use Rattle.rules.specs.Sound.{sound}
use Rattle.rules.proofs.Names.{name_is, name_same}
use Rattle.rules.proofs.SoundFacts.{distinct}

-- A port by itself: its fields are in range and agree.
pub record PortFits (q : Port) : Type 0 where
  pub transfer : q.transfer ≤ 3
  pub access : q.access ≤ 1
  pub reserved : q.reserved ≤ 1
  pub tie : (same_name q.tie no_name || holds_name q.tie) ≡ true
  pub movement : q.movement ≤ 2
  pub pod : q.pod ≤ 1
  pub tag : q.tag ≤ 2
  -- moving, it is BLOCKED; out of service, READY TO LOAD or loading, it has no pod
  pub moving : q.movement ≢ 0 → q.transfer ≡ 3
  pub low : q.transfer ≤ 1 → q.pod ≢ 1
  pub load : q.movement ≡ 1 → q.pod ≢ 1

-- Where a record stands, by its place, its spot and its port: P ports, B buffer places.
pub record Stands (P B place spot port : ℕ) : Type 0 where
  pub place_range : place ≤ 2
  pub port_range : port ≤ P
  -- in the buffer: a buffer place, and no tie; elsewhere: no buffer place
  pub in_spot : place ≡ 2 → (1 ≤ spot) × (spot ≤ B)
  pub in_free : place ≡ 2 → port ≡ 0
  pub no_spot : place ≢ 2 → spot ≡ 0
  -- at a port: a tie
  pub at_tied : place ≡ 1 → 1 ≤ port

-- A record by itself.
pub record Fits (P B : ℕ) (c : Carrier) : Type 0 where
  pub named : holds_name c.name ≡ true
  pub stands : Stands P B c.place c.spot c.port
  pub opened : c.opened ≤ 1
  pub cancelled : c.cancelled ≤ 1
  pub cameout : c.cameout ≤ 1
  pub map : every is_code c.map ≡ true
  pub id : (1 ≤ c.id) × (c.id ≤ 4)
  pub slot : (1 ≤ c.slot) × (c.slot ≤ 4)
  pub accessing : (1 ≤ c.accessing) × (c.accessing ≤ 4)

-- An open record is in the buffer or at an idle BLOCKED port.
abbrev pub Shown : Port → Carrier → Type 0
Shown q c = is_open c ≡ true → c.place ≢ 2 → (c.place ≡ 1) × (idle q ≡ true) × (blocked q ≡ true)

pub record Facts (s : State) : Type 0 where
  pub some_ports : 1 ≤ length s.ports
  pub few_ports : length s.ports ≤ 4
  pub few_places : s.places ≤ 16
  pub ports : (p : ℕ) → PortFits (port_of s p)
  pub records : (k : ℕ) → k < length s.carriers → Fits (length s.ports) s.places (record_of s k)
  pub shown : (k : ℕ) → k < length s.carriers → Shown (port_of s (record_of s k).port) (record_of s k)
  -- ties read alike from either side
  pub kept : (k : ℕ) → k < length s.carriers → (record_of s k).port ≢ 0 → (port_of s (record_of s k).port).tie ≡ (record_of s k).name
  pub held : (p : ℕ) → 1 ≤ p → (port_of s p).tie ≢ no_name → (k : ℕ) × (k < length s.carriers) × ((record_of s k).port ≡ p)
  -- names differ, and so do buffer places
  pub names : (j k : ℕ) → j < length s.carriers → k < length s.carriers → (record_of s j).name ≡ (record_of s k).name → j ≡ k
  pub spots : (j k : ℕ) → j < length s.carriers → k < length s.carriers → (record_of s j).spot ≢ 0
      → (record_of s j).spot ≡ (record_of s k).spot → j ≡ k
  pub few : how_many expected s.carriers ≤ 16

-- ── From the tests ──
implied : (a b : Bool) → (not a || b) ≡ true → a ≡ true → b ≡ true
implied true b e t = e
implied false b e t = clash t refl

port_fits_of : (q : Port) → port_in_range q ≡ true → port_agrees q ≡ true → PortFits q
unfolding port_in_range port_agrees
port_fits_of q e a = record {
  transfer = leb-true _ _ (search (and_l, and_r) depth 9);
  access = leb-true _ _ (search (and_l, and_r) depth 9);
  reserved = leb-true _ _ (search (and_l, and_r) depth 9);
  tie = search (and_l, and_r) depth 9;
  movement = leb-true _ _ (search (and_l, and_r) depth 9);
  pod = leb-true _ _ (search (and_l, and_r) depth 9);
  tag = leb-true _ _ (search (and_l, and_r) depth 9);
  moving = λ n. eqb-true _ 3 (or_other (idle q) _ (and_l _ _ a) (ne_eqb q.movement 0 n));
  low = λ b. no_pod_fact (or_l _ (le-leb q.transfer 1 b));
  load = λ e. no_pod_fact (or_r (leb q.transfer 1) (eq-eqb q.movement 1 e));
}
  where
    no_pod_fact : (leb q.transfer 1 || loading q) ≡ true → q.pod ≢ 1
    no_pod_fact t = eqb-false q.pod 1 (not_true _ (implied _ _ (and_r (idle q || blocked q) _ a) t))

-- a place that isn't the one is another
is_place : (p n : ℕ) {a b : Bool} → ((eqb p n && a) || (not (eqb p n) && b)) ≡ true → (p ≡ n → a ≡ true) × (p ≢ n → b ≡ true)
is_place p n {a} {b} e = (λ z. yes (eqb p n) (eq-eqb p n z) e, λ z. nay (eqb p n) (ne_eqb p n z) e)
  where
    yes : (w : Bool) → w ≡ true → ((w && a) || (not w && b)) ≡ true → a ≡ true
    yes true q e = go a e
      where
        go : (a : Bool) → (a || false) ≡ true → a ≡ true
        go true e = refl
        go false e = e
    yes false q e = clash q refl

    nay : (w : Bool) → w ≡ false → ((w && a) || (not w && b)) ≡ true → b ≡ true
    nay true q e = clash refl q
    nay false q e = e

range : (v : ℕ) → status_in_range v ≡ true → (1 ≤ v) × (v ≤ 4)
unfolding status_in_range
range v e = (leb-true 1 v (and_l _ _ e), leb-true v 4 (and_r (leb 1 v) _ e))

stands_of : (P B : ℕ) (c : Carrier) → leb c.place 2 ≡ true → spot_in_range B c ≡ true → leb c.port P ≡ true → place_agrees c ≡ true
    → Stands P B c.place c.spot c.port
unfolding spot_in_range place_agrees
stands_of P B c a b d e =
    let i = is_place c.place 2 b in
    record {
      place_range = leb-true _ _ a;
      port_range = leb-true _ _ d;
      in_spot = λ z. let t = i.0 z in (leb-true 1 c.spot (and_l _ _ t), leb-true c.spot B (and_r (leb 1 c.spot) _ t));
      in_free = λ z. eqb-true c.port 0 (implied (in_buffer c) _ (and_r (not (at_port c) || not (untied c)) _ e) (eq-eqb c.place 2 z));
      no_spot = λ z. eqb-true c.spot 0 (i.1 z);
      at_tied = λ z.
          let n = eqb-false c.port 0 (not_true _ (implied (at_port c) _ (and_l _ _ e) (eq-eqb c.place 1 z))) in
          omega arith;
    }

pub fits_of : (P B : ℕ) (c : Carrier) → carrier_in_range P B c ≡ true → place_agrees c ≡ true → Fits P B c
unfolding carrier_in_range
fits_of P B c e a = record {
  named = search (and_l, and_r) depth 13;
  stands = stands_of P B c (search (and_l, and_r) depth 13) (search (and_l, and_r) depth 13) (search (and_l, and_r) depth 13) a;
  opened = leb-true _ _ (search (and_l, and_r) depth 13);
  cancelled = leb-true _ _ (search (and_l, and_r) depth 13);
  cameout = leb-true _ _ (search (and_l, and_r) depth 13);
  map = search (and_l, and_r) depth 13;
  id = range _ (search (and_l, and_r) depth 13);
  slot = range _ (search (and_l, and_r) depth 13);
  accessing = range _ (search (and_l, and_r) depth 13);
}

shown_of : (q : Port) (c : Carrier) → open_agrees q c ≡ true → Shown q c
unfolding open_agrees
shown_of q c e o n =
    let t = or_other (not (is_open c) || in_buffer c) _ e (rw (o, ne_eqb c.place 2 n)) in
    (eqb-true c.place 1 (and_l _ _ (and_l _ _ t)), and_r (at_port c) _ (and_l _ _ t), and_r (at_port c && idle q) _ t)

-- ── The facts of a sound state ──
-- no port, which stands for a port that the tool hasn't, fits
pub no_port_fits : PortFits no_port
unfolding same_name same_list
no_port_fits = record {
  transfer = omega arith;
  access = omega arith;
  reserved = omega arith;
  tie = refl;
  movement = omega arith;
  pod = omega arith;
  tag = omega arith;
  moving = λ n. absurd (n refl);
  low = λ _ z. omega arith;
  load = λ _ z. omega arith;
}

module _ (s : State) (h : sound s ≡ true) where
  each_port : (k : ℕ) → PortFits (get_or s.ports k no_port)
  unfolding sound in_range
  each_port k = go (ltb k (length s.ports)) refl
    where
      go : (w : Bool) → ltb k (length s.ports) ≡ w → PortFits (get_or s.ports k no_port)
      go true e =
          let b = ltb-true k (length s.ports) e in
          port_fits_of _ (every_at port_in_range s.ports no_port (search (and_l, and_r) depth 12) k b)
          (every_at port_agrees s.ports no_port (search (and_l, and_r) depth 12) k b)
      go false e = rw (get_or-eq_default s.ports no_port (ltb-false k (length s.ports) e)) no_port_fits

  each_record : (k : ℕ) → k < length s.carriers → Fits (length s.ports) s.places (get_or s.carriers k no_carrier)
  unfolding sound in_range
  each_record k b =
      fits_of _ _ _ (every_at (carrier_in_range (length s.ports) s.places) s.carriers no_carrier (search (and_l, and_r) depth 12) k b)
      (every_at place_agrees s.carriers no_carrier (search (and_l, and_r) depth 12) k b)

  each_shown : (k : ℕ) → k < length s.carriers → Shown (port_of s (get_or s.carriers k no_carrier).port) (get_or s.carriers k no_carrier)
  unfolding sound
  each_shown k b =
      shown_of _ _ (every_at (λ c. open_agrees (port_of s c.port) c) s.carriers no_carrier (search (and_l, and_r) depth 12) k b)

  each_kept : (k : ℕ) → k < length s.carriers → (get_or s.carriers k no_carrier).port ≢ 0
      → (port_of s (get_or s.carriers k no_carrier).port).tie ≡ (get_or s.carriers k no_carrier).name
  unfolding sound ties_agree tie_kept
  each_kept k b n =
      name_is _ _ (or_other _ _
      (every_at (λ c. tie_kept (port_of s c.port) c) s.carriers no_carrier (search (and_l, and_r) depth 12) k b)
      (ne_eqb _ 0 n))

  -- a port beyond the four has no tie
  far_port : (p : ℕ) → 5 ≤ p → port_of s p ≡ no_port
  unfolding port_of sound in_range
  far_port p a =
      let e : spot_of p ≡ p - 1 = rw (ne_eqb p 0 (λ z. omega arith)) in
      let f = leb-true (length s.ports) 4 (search (and_l, and_r) depth 12) in
      get_or-eq_default s.ports no_port (omega arith)

  held_at : (p : ℕ) → port_tie_held s p ≡ true → (port_of s p).tie ≢ no_name
      → (k : ℕ) × (k < length s.carriers) × ((get_or s.carriers k no_carrier).port ≡ p)
  unfolding tie_held
  held_at p e n =
      let t = any_found (λ c. eqb c.port p) s.carriers no_carrier
      (or_other _ _ e (no_name_fact (same_name (port_of s p).tie no_name) refl)) in
      (t.0, t.1, eqb-true _ p t.2)
    where
      no_name_fact : (w : Bool) → same_name (port_of s p).tie no_name ≡ w → w ≡ false
      no_name_fact true q = absurd (n (name_is _ _ q))
      no_name_fact false q = refl

  each_held : (p : ℕ) → 1 ≤ p → (port_of s p).tie ≢ no_name → (k : ℕ) × (k < length s.carriers) × ((get_or s.carriers k no_carrier).port ≡ p)
  unfolding sound ties_agree
  each_held zero a n = absurd (omega arith)
  each_held (suc zero) a n = held_at 1 (search (and_l, and_r) depth 12) n
  each_held (suc (suc zero)) a n = held_at 2 (search (and_l, and_r) depth 12) n
  each_held (suc (suc (suc zero))) a n = held_at 3 (search (and_l, and_r) depth 12) n
  each_held (suc (suc (suc (suc zero)))) a n = held_at 4 (search (and_l, and_r) depth 12) n
  each_held (suc (suc (suc (suc (suc p))))) a n =
      absurd (n (ap (λ (q : Port). q.tie) (far_port (suc (suc (suc (suc (suc p))))) (omega arith))))

  names_apart : (j k : ℕ) → j < length s.carriers → k < length s.carriers
      → (get_or s.carriers j no_carrier).name ≡ (get_or s.carriers k no_carrier).name → j ≡ k
  names_apart j k a b e = go (eqb j k) refl
    where
      go : (w : Bool) → eqb j k ≡ w → j ≡ k
      go true q = eqb-true j k q
      go false q = clash (name_same _ _ e) (distinct s h j k a b (eqb-false j k q))

  later_spot : (j k : ℕ) → j < k → k < length s.carriers → (get_or s.carriers j no_carrier).spot ≢ 0
      → (get_or s.carriers j no_carrier).spot ≢ (get_or s.carriers k no_carrier).spot
  unfolding sound other_spot
  later_spot j k a b n =
      eqb-false _ _ (not_true _
      (or_other _ _ (two_at other_spot s.carriers no_carrier (search (and_l, and_r) depth 12) j k a b) (ne_eqb _ 0 n)))

  spots_apart : (j k : ℕ) → j < length s.carriers → k < length s.carriers → (get_or s.carriers j no_carrier).spot ≢ 0
      → (get_or s.carriers j no_carrier).spot ≡ (get_or s.carriers k no_carrier).spot → j ≡ k
  spots_apart j k a b n e = go (ltb j k) refl (ltb k j) refl
    where
      go : (w : Bool) → ltb j k ≡ w → (v : Bool) → ltb k j ≡ v → j ≡ k
      go true p v q = absurd (later_spot j k (ltb-true j k p) b n e)
      go false p true q = absurd (later_spot k j (ltb-true k j q) a (λ z. n (e ∙ z)) (sym e))
      go false p false q = let u = ltb-false j k p in let w = ltb-false k j q in omega arith

  pub facts : Facts s
  unfolding sound in_range few_expected port_of record_of
  facts = record {
    some_ports = leb-true 1 (length s.ports) (search (and_l, and_r) depth 12);
    few_ports = leb-true (length s.ports) 4 (search (and_l, and_r) depth 12);
    few_places = leb-true s.places 16 (search (and_l, and_r) depth 12);
    ports = λ p. each_port (spot_of p);
    records = each_record;
    shown = each_shown;
    kept = each_kept;
    held = each_held;
    names = names_apart;
    spots = spots_apart;
    few = leb-true _ 16 (search (and_l, and_r) depth 12);
  }
