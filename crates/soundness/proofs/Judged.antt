-- The passes together are document 01's clauses: what each shows of a record, of a port, and of ties.
use Prim.Native.Nat.{ℕ, zero, suc, ◌-◌, ◌<◌, ◌≤◌}
use native.Mathlib.Omega.{arith}
use native.Mathlib.Decide.{ℕ_discrete}
use mathlib.Core.Path.{◌≡◌, refl, ap, sym}
use mathlib.Core.Logic.{◌≢◌}
use mathlib.Core.Bool.{Bool, true, false, not, ◌&&◌, ◌||◌}
use mathlib.Core.List.{List}
use lib.ListN.{get_or-eq_default}
use lib.Dec.{eqb, leb}
use borrow.Author.Tests.{eqb-true, eqb-false, eq-eqb, ne_eqb, leb-true, le-leb}
use Rattle.lists.specs.Lists.{every, every_two, same_list}
use Rattle.lists.proofs.Bools.{clash, and_l, and_r, or_l, or_r, not_true}
use Rattle.records.specs.declared.port.Port.{Port}
use Rattle.records.specs.declared.carrier.Carrier.{Carrier}
use Rattle.records.specs.Names.{no_name, same_name, holds_name}
use Rattle.records.specs.Maps.{is_code}
use Rattle.records.specs.Ports.{no_port}
use Rattle.records.specs.Carriers.{expected, at_port, is_open, untied}
use Rattle.rules.specs.State.{State, port_of}
use Rattle.rules.specs.Sound.{port_in_range, spot_in_range, status_in_range, carrier_in_range, place_agrees, port_agrees, open_agrees}
use Rattle.image.specs.Image.{table}
use Rattle.image.proofs.Table.{length_table, getD_table}
use Rattle.image.proofs.Laid.{split}
use Rattle.passes.specs.Passes.{record_on, named_by, fields_fit, latest}
use Rattle.soundness.specs.Seats.{port_on, seat_fits, other_port, port_key, tie_fits, port_fits}
use Rattle.passes.proofs.Turns.{two_on}
use Rattle.passes.proofs.Latest.{latest_low, later_others, latest_has}

-- one record
module _ (P B : ℕ) (c : Carrier) where
  pub in_range_fact : named_by c ≡ true → fields_fit c ≡ true → seat_fits P B c ≡ true → carrier_in_range P B c ≡ true
  unfolding named_by fields_fit seat_fits carrier_in_range
  in_range_fact n f s =
      let opened : leb c.opened 1 ≡ true = search (and_l, and_r) depth 9 in
      let cancelled : leb c.cancelled 1 ≡ true = search (and_l, and_r) depth 9 in
      let cameout : leb c.cameout 1 ≡ true = search (and_l, and_r) depth 9 in
      let map : every is_code c.map ≡ true = search (and_l, and_r) depth 9 in
      let id : status_in_range c.id ≡ true = search (and_l, and_r) depth 9 in
      let slot : status_in_range c.slot ≡ true = search (and_l, and_r) depth 9 in
      let accessing : status_in_range c.accessing ≡ true = search (and_l, and_r) depth 9 in
      let place : leb c.place 2 ≡ true = search (and_l, and_r) depth 9 in
      let spot : spot_in_range B c ≡ true = search (and_l, and_r) depth 9 in
      let port : leb c.port P ≡ true = search (and_l, and_r) depth 9 in
      rw (n, opened, cancelled, cameout, map, id, slot, accessing, place, spot, port)

  pub seat_places : seat_fits P B c ≡ true → place_agrees c ≡ true
  unfolding seat_fits
  seat_places s = search (and_l, and_r) depth 6

  pub range_named : carrier_in_range P B c ≡ true → named_by c ≡ true
  unfolding named_by carrier_in_range
  range_named r = search (and_l, and_r) depth 13

  pub range_fields : P ≤ 4 → carrier_in_range P B c ≡ true → fields_fit c ≡ true
  unfolding fields_fit carrier_in_range
  range_fields b r =
      let opened : leb c.opened 1 ≡ true = search (and_l, and_r) depth 13 in
      let cancelled : leb c.cancelled 1 ≡ true = search (and_l, and_r) depth 13 in
      let cameout : leb c.cameout 1 ≡ true = search (and_l, and_r) depth 13 in
      let map : every is_code c.map ≡ true = search (and_l, and_r) depth 13 in
      let id : status_in_range c.id ≡ true = search (and_l, and_r) depth 13 in
      let slot : status_in_range c.slot ≡ true = search (and_l, and_r) depth 13 in
      let accessing : status_in_range c.accessing ≡ true = search (and_l, and_r) depth 13 in
      let port : leb c.port P ≡ true = search (and_l, and_r) depth 13 in
      let low = leb-true c.port P port in
      rw (opened, cancelled, cameout, map, id, slot, accessing, le-leb c.port 4 (omega arith))

  pub range_port : carrier_in_range P B c ≡ true → c.port ≤ P
  unfolding carrier_in_range
  range_port r = leb-true c.port P (search (and_l, and_r) depth 13)

  -- an open carrier is no expected one
  pub range_seat : (q : Port) → carrier_in_range P B c ≡ true → place_agrees c ≡ true → open_agrees q c ≡ true → seat_fits P B c ≡ true
  unfolding carrier_in_range seat_fits open_agrees
  range_seat q r p o =
      let place : leb c.place 2 ≡ true = search (and_l, and_r) depth 13 in
      let spot : spot_in_range B c ≡ true = search (and_l, and_r) depth 13 in
      let port : leb c.port P ≡ true = search (and_l, and_r) depth 13 in
      rw (place, spot, port, p) (go (eqb c.place 0) refl)
    where
      go : (b : Bool) → eqb c.place 0 ≡ b → (not (is_open c) || not b) ≡ true
      go true e =
          let z = eqb-true c.place 0 e in
          let a : eqb c.place 2 ≡ false = ne_eqb c.place 2 (λ d. omega arith) in
          let b : eqb c.place 1 ≡ false = ne_eqb c.place 1 (λ d. omega arith) in
          or_l _ (first (not (is_open c)) (rw (a, b) at o))
        where
          first : (x : Bool) → ((x || false) || false) ≡ true → x ≡ true
          first true t = refl
          first false t = t
      go false e = or_r (not (is_open c)) refl

  -- one that is tied to no port is open in the buffer only
  pub open_untied : (q : Port) → seat_fits P B c ≡ true → c.port ≡ 0 → open_agrees q c ≡ true
  unfolding seat_fits open_agrees place_agrees
  open_untied q s z =
      let place : leb c.place 2 ≡ true = search (and_l, and_r) depth 6 in
      let tied : (not (at_port c) || not (untied c)) ≡ true = search (and_l, and_r) depth 6 in
      let lid : (not (is_open c) || not (expected c)) ≡ true = search (and_l, and_r) depth 6 in
      go (leb-true c.place 2 place) (rw (eq-eqb c.port 0 z) at tied) (is_open c) refl lid
    where
      go : c.place ≤ 2 → (not (at_port c) || false) ≡ true → (b : Bool) → is_open c ≡ b → (not b || not (expected c)) ≡ true
          → open_agrees q c ≡ true
      go low t false e l = rw e
      go low t true e l =
          let x = eqb-false c.place 0 (not_true (expected c) l) in
          let y = eqb-false c.place 1 (first (at_port c) t) in
          rw (e, eq-eqb c.place 2 (omega arith))
        where
          first : (a : Bool) → (not a || false) ≡ true → a ≡ false
          first true t = sym t
          first false t = refl

-- one port
pub port_fits_fact : (q : Port) → port_in_range q ≡ true → port_agrees q ≡ true → port_fits q ≡ true
unfolding port_in_range port_fits
port_fits_fact q r a =
    let t : leb q.transfer 3 ≡ true = search (and_l, and_r) depth 9 in
    let c : leb q.access 1 ≡ true = search (and_l, and_r) depth 9 in
    let e : leb q.reserved 1 ≡ true = search (and_l, and_r) depth 9 in
    let v : leb q.movement 2 ≡ true = search (and_l, and_r) depth 9 in
    let p : leb q.pod 1 ≡ true = search (and_l, and_r) depth 9 in
    let g : leb q.tag 2 ≡ true = search (and_l, and_r) depth 9 in
    rw (t, c, e, v, p, g, a)

pub fits_range : (q : Port) → port_fits q ≡ true → (same_name q.tie no_name || holds_name q.tie) ≡ true → port_in_range q ≡ true
unfolding port_in_range port_fits
fits_range q f n =
    let t : leb q.transfer 3 ≡ true = search (and_l, and_r) depth 9 in
    let c : leb q.access 1 ≡ true = search (and_l, and_r) depth 9 in
    let e : leb q.reserved 1 ≡ true = search (and_l, and_r) depth 9 in
    let v : leb q.movement 2 ≡ true = search (and_l, and_r) depth 9 in
    let p : leb q.pod 1 ≡ true = search (and_l, and_r) depth 9 in
    let g : leb q.tag 2 ≡ true = search (and_l, and_r) depth 9 in
    rw (t, c, e, v, p, g, n)

pub fits_agrees : (q : Port) → port_fits q ≡ true → port_agrees q ≡ true
unfolding port_fits
fits_agrees q f = search (and_l, and_r) depth 3

-- the port's tie is read as bytes
pub tie_none : (m : List ℕ) (k : ℕ) → tie_fits m k 0 ≡ same_name (port_on m k).tie no_name
unfolding tie_fits every table same_name same_list
tie_none m k = refl

pub tie_some : (m : List ℕ) (k j : ℕ) → tie_fits m k (suc j)
    ≡ (same_name (port_on m k).tie (record_on m j).name && open_agrees (port_on m k) (record_on m j))
unfolding tie_fits
tie_some m k j =
    let e : suc j - 1 ≡ j = omega arith in
    rw (ne_eqb (suc j) 0 (λ d. omega arith), e)

module _ (m : List ℕ) (P B n : ℕ) where
  abbrev pub state_on : State
  state_on = record { ports = table P (port_on m); carriers = table n (record_on m); places = B }

  pub port_on_fact : (p : ℕ) → 1 ≤ p → p ≤ P → port_of state_on p ≡ port_on m (p - 1)
  unfolding port_of
  port_on_fact p a b = rw (ne_eqb p 0 (λ e. omega arith)) (getD_table P (port_on m) (p - 1) no_port (omega arith))

  pub port_off : (p : ℕ) → 1 ≤ p → P < p → port_of state_on p ≡ no_port
  unfolding port_of
  port_off p a b =
      let l = length_table P (port_on m) in
      rw (ne_eqb p 0 (λ e. omega arith)) (get_or-eq_default (table P (port_on m)) no_port (omega arith))

  -- the latest that names a port is the one that does
  pub held_by : every_two other_port (table n (record_on m)) ≡ true → (j : ℕ) → j < n → (record_on m j).port ≢ 0
      → latest (port_key m) (record_on m j).port n ≡ suc j
  unfolding other_port
  held_by e j h z = go (latest (port_key m) p n) refl
    where
      p : ℕ
      p = (record_on m j).port

      other : (i l : ℕ) → i < l → l < n → (record_on m i).port ≡ p → (record_on m l).port ≡ p → ⊥
      other i l a b x y =
          clash (two_on other_port (record_on m) n e i l a b)
          (rw (x, y, ne_eqb p 0 z, eq-eqb p p refl))

      go : (v : ℕ) → latest (port_key m) p n ≡ v → v ≡ suc j
      go zero q = absurd (later_others (port_key m) p n j (omega arith) h refl)
      go (suc i) q = ap suc (same (ℕ_discrete i j))
        where
          low : i < n
          low = let l = latest_low (port_key m) p n in omega arith

          has : (record_on m i).port ≡ p
          has = latest_has (port_key m) p n i q

          same : Dec (i ≡ j) → i ≡ j
          same (yes d) = d
          same (no d) = absurd (split i j d (λ a. other i j a h has refl) (λ a. other j i a low refl has))
