-- The passes together are document 01's clauses.
use Prim.Native.Nat.{ℕ, zero, suc, ◌-◌, ◌<◌, ◌≤◌}
use native.Mathlib.Omega.{arith}
use mathlib.Core.Path.{◌≡◌, refl, ap, sym, ◌∙◌}
use mathlib.Core.Logic.{◌≢◌}
use mathlib.Core.Bool.{Bool, true, false, not, ◌&&◌, ◌||◌}
use mathlib.Core.List.{List}
use lib.ListN.{length, drop}
use lib.Dec.{eqb, leb, ltb}
use borrow.Author.Tests.{eqb-true, eqb-false, eq-eqb, ne_eqb, le-leb, ltb-true, ltb-false}
use Rattle.lists.specs.Lists.{every, every_two, any, how_many}
use Rattle.lists.proofs.Bools.{clash, and_l, and_r, and_i, or_l, or_r, or_other}
use Rattle.lists.proofs.Tests.{any_here, any_not}
use Rattle.records.specs.declared.carrier.Carrier.{Carrier}
use Rattle.records.specs.Names.{no_name, same_name, holds_name}
use Rattle.records.specs.Carriers.{expected}
use Rattle.rules.specs.State.{State, port_of}
use Rattle.rules.specs.Sound.{port_in_range, carrier_in_range, in_range, other_name, tie_kept, tie_held, port_tie_held, ties_agree}
use Rattle.rules.specs.Sound.{place_agrees, other_spot, few_expected, port_agrees, open_agrees, sound, zero_port}
use Rattle.rules.proofs.Names.{name_is, name_same}
use Rattle.image.specs.Image.{table}
use Rattle.image.proofs.Table.{length_table, getD_table}
use Rattle.passes.specs.Passes.{record_on, named_by, fields_fit, latest}
use Rattle.soundness.specs.Seats.{port_on, seat_fits, other_port, port_key, tie_fits, port_fits}
use Rattle.passes.proofs.Turns.{every_on, every_of, two_on, two_of}
use Rattle.passes.proofs.Latest.{latest_low, later_others, latest_has}
use Rattle.soundness.proofs.Unused.{rest_on}
use Rattle.soundness.proofs.Judged.{in_range_fact, seat_places, range_named, range_fields, range_port, range_seat, open_untied}
use Rattle.soundness.proofs.Judged.{port_fits_fact, fits_range, fits_agrees, tie_none, tie_some, state_on, port_on_fact, port_off}
use Rattle.soundness.proofs.Judged.{held_by}

-- what the passes find where all is well
pub record Passed (m : List ℕ) (P B n : ℕ) : Type 0 where
  pub ports : every port_fits (table P (port_on m)) ≡ true
  pub fields : every fields_fit (table n (record_on m)) ≡ true
  pub named : every named_by (table n (record_on m)) ≡ true
  pub seats : every (seat_fits P B) (table n (record_on m)) ≡ true
  pub spots : every_two other_spot (table n (record_on m)) ≡ true
  pub alone : every_two other_port (table n (record_on m)) ≡ true
  pub few : leb (how_many expected (table n (record_on m))) 16 ≡ true
  pub ties : (p : ℕ) → 1 ≤ p → p ≤ 4 → tie_fits m (p - 1) (latest (port_key m) p n) ≡ true
  pub names : every_two other_name (table n (record_on m)) ≡ true

module _ (m : List ℕ) (P B n : ℕ) (some : 1 ≤ P) (four : P ≤ 4) (small : B ≤ 16) where
  abbrev s : State
  s = state_on m P B n

  abbrev row : ℕ → Carrier
  row = record_on m

  module _ (x : Passed m P B n) where
    ranged : (j : ℕ) → j < n → carrier_in_range P B (row j) ≡ true
    ranged j h =
        in_range_fact P B (row j) (every_on named_by row n x.named j h) (every_on fields_fit row n x.fields j h)
        (every_on (seat_fits P B) row n x.seats j h)

    -- the port that a carrier names is tied to it
    tied : (j : ℕ) → j < n → (row j).port ≢ 0
        → (same_name (port_of s (row j).port).tie (row j).name && open_agrees (port_of s (row j).port) (row j)) ≡ true
    tied j h z =
        let low = range_port P B (row j) (ranged j h) in
        rw (port_on_fact m P B n (row j).port (omega arith) low)
        (sym (tie_some m ((row j).port - 1) j) ∙ ap (tie_fits m ((row j).port - 1)) (sym (held_by m P B n x.alone j h z))
        ∙ x.ties (row j).port (omega arith) (omega arith))

    kept : (j : ℕ) → j < n → tie_kept (port_of s (row j).port) (row j) ≡ true
    unfolding tie_kept
    kept j h = go (eqb (row j).port 0) refl
      where
        go : (b : Bool) → eqb (row j).port 0 ≡ b → (b || same_name (port_of s (row j).port).tie (row j).name) ≡ true
        go true e = refl
        go false e = and_l _ _ (tied j h (eqb-false (row j).port 0 e))

    opens : (j : ℕ) → j < n → open_agrees (port_of s (row j).port) (row j) ≡ true
    opens j h = go (eqb (row j).port 0) refl
      where
        go : (b : Bool) → eqb (row j).port 0 ≡ b → open_agrees (port_of s (row j).port) (row j) ≡ true
        go true e = open_untied P B (row j) (port_of s (row j).port) (every_on (seat_fits P B) row n x.seats j h)
            (eqb-true (row j).port 0 e)
        go false e = and_r (same_name (port_of s (row j).port).tie (row j).name) _ (tied j h (eqb-false (row j).port 0 e))

    -- a tied port is named by a carrier
    holds : (p : ℕ) → 1 ≤ p → p ≤ 4 → port_tie_held s p ≡ true
    unfolding tie_held
    holds p a b = go (ltb P p) refl
      where
        named : (v : ℕ) → latest (port_key m) p n ≡ v
            → (same_name (port_on m (p - 1)).tie no_name || any (λ c. eqb c.port p) (table n row)) ≡ true
        named zero q = or_l _ (sym (tie_none m (p - 1)) ∙ ap (tie_fits m (p - 1)) (sym q) ∙ x.ties p a b)
        named (suc j) q =
            let l = latest_low (port_key m) p n in
            let t = length_table n row in
            or_r (same_name (port_on m (p - 1)).tie no_name)
            (any_here (λ c. eqb c.port p) (table n row) j (row 0) (omega arith)
            (ap (λ c. eqb c.port p) (getD_table n row j (row 0) (omega arith))
            ∙ eq-eqb (row j).port p (latest_has (port_key m) p n j q)))

        go : (b : Bool) → ltb P p ≡ b → port_tie_held s p ≡ true
        go true e = rw (port_off m P B n p a (ltb-true P p e)) (or_l _ (name_same no_name no_name refl))
        go false e = rw (port_on_fact m P B n p a (ltb-false P p e)) (named (latest (port_key m) p n) refl)

    -- its tie is a name
    port_ranged : (k : ℕ) → k < P → port_in_range (port_on m k) ≡ true
    unfolding named_by
    port_ranged k h = fits_range (port_on m k) (every_on port_fits (port_on m) P x.ports k h) (go (latest (port_key m) (suc k) n) refl)
      where
        back : suc k - 1 ≡ k
        back = omega arith

        ties : (v : ℕ) → latest (port_key m) (suc k) n ≡ v → tie_fits m k v ≡ true
        ties v q = ap (tie_fits m k) (sym q) ∙ rw back at (x.ties (suc k) (omega arith) (omega arith))

        go : (v : ℕ) → latest (port_key m) (suc k) n ≡ v → (same_name (port_on m k).tie no_name || holds_name (port_on m k).tie) ≡ true
        go zero q = or_l _ (sym (tie_none m k) ∙ ties 0 q)
        go (suc j) q =
            let l = latest_low (port_key m) (suc k) n in
            let t : (same_name (port_on m k).tie (row j).name && open_agrees (port_on m k) (row j)) ≡ true = sym (tie_some m k j)
            ∙ ties (suc j) q in
            or_r (same_name (port_on m k).tie no_name)
            (ap holds_name (name_is (port_on m k).tie (row j).name (and_l _ _ t)) ∙ every_on named_by row n x.named j (omega arith))

    pub passed_sound : sound s ≡ true
    unfolding sound in_range ties_agree few_expected
    passed_sound =
        rw (length_table P (port_on m))
        (and_i (and_i (and_i (and_i (and_i (and_i (and_i
        (and_i (and_i (and_i (and_i (le-leb 1 P some) (le-leb P 4 four)) (le-leb B 16 small))
        (every_of port_in_range (port_on m) P port_ranged)) (every_of (carrier_in_range P B) row n ranged))
        x.names)
        (and_i (every_of (λ c. tie_kept (port_of s c.port) c) row n kept)
        (and_i (and_i (and_i (holds 1 (omega arith) (omega arith)) (holds 2 (omega arith) (omega arith)))
        (holds 3 (omega arith) (omega arith))) (holds 4 (omega arith) (omega arith)))))
        (every_of place_agrees row n (λ j h. seat_places P B (row j) (every_on (seat_fits P B) row n x.seats j h))))
        x.spots)
        x.few)
        (every_of port_agrees (port_on m) P (λ k h. fits_agrees (port_on m k) (every_on port_fits (port_on m) P x.ports k h))))
        (every_of (λ c. open_agrees (port_of s c.port) c) row n opens))

  -- and back
  module _ (unused : every zero_port (drop P (table 4 (port_on m))) ≡ true) (e : sound s ≡ true) where
    ports_ranged : every port_in_range (table P (port_on m)) ≡ true
    unfolding sound in_range
    ports_ranged = search (and_l, and_r) depth 12

    ranges : every (carrier_in_range P B) (table n row) ≡ true
    unfolding sound in_range
    ranges = rw (length_table P (port_on m)) at all
      where
        all : every (carrier_in_range (length (table P (port_on m))) B) (table n row) ≡ true
        all = search (and_l, and_r) depth 12

    all_kept : every (λ c. tie_kept (port_of s c.port) c) (table n row) ≡ true
    unfolding sound ties_agree
    all_kept = search (and_l, and_r) depth 12

    all_placed : every place_agrees (table n row) ≡ true
    unfolding sound
    all_placed = search (and_l, and_r) depth 12

    all_open : every (λ c. open_agrees (port_of s c.port) c) (table n row) ≡ true
    unfolding sound
    all_open = search (and_l, and_r) depth 12

    all_agree : every port_agrees (table P (port_on m)) ≡ true
    unfolding sound
    all_agree = search (and_l, and_r) depth 12

    others : every_two other_name (table n row) ≡ true
    unfolding sound
    others = search (and_l, and_r) depth 12

    all_held : (p : ℕ) → 1 ≤ p → p ≤ 4 → port_tie_held s p ≡ true
    unfolding sound ties_agree
    all_held zero a b = absurd (omega arith)
    all_held (suc zero) a b = search (and_l, and_r) depth 12
    all_held (suc (suc zero)) a b = search (and_l, and_r) depth 12
    all_held (suc (suc (suc zero))) a b = search (and_l, and_r) depth 12
    all_held (suc (suc (suc (suc zero)))) a b = search (and_l, and_r) depth 12
    all_held (suc (suc (suc (suc (suc p))))) a b = absurd (omega arith)

    in_ports : (j : ℕ) → j < n → (row j).port ≤ P
    in_ports j h = range_port P B (row j) (every_on (carrier_in_range P B) row n ranges j h)

    -- the port that a carrier names is tied to it
    tie_same : (j : ℕ) → j < n → (row j).port ≢ 0 → (port_of s (row j).port).tie ≡ (row j).name
    unfolding tie_kept
    tie_same j h z =
        name_is (port_of s (row j).port).tie (row j).name
        (or_other _ _ (every_on (λ c. tie_kept (port_of s c.port) c) row n all_kept j h) (ne_eqb (row j).port 0 z))

    -- two that named one port would have one name
    port_alone : (i j : ℕ) → i < j → j < n → other_port (row i) (row j) ≡ true
    unfolding other_port other_name
    port_alone i j a b = go (eqb (row i).port 0) refl (eqb (row i).port (row j).port) refl
      where
        go : (c : Bool) → eqb (row i).port 0 ≡ c → (d : Bool) → eqb (row i).port (row j).port ≡ d → (c || not d) ≡ true
        go true p d q = refl
        go false p false q = refl
        go false p true q =
            let z = eqb-false (row i).port 0 p in
            let w = eqb-true (row i).port (row j).port q in
            let t : (row i).name ≡ (row j).name =
            sym (tie_same i (omega arith) z) ∙ ap (λ p. (port_of s p).tie) w ∙ tie_same j b (λ y. z (w ∙ y)) in
            clash (two_on other_name row n others i j a b) (rw (name_same (row i).name (row j).name t))

    -- a port of the tool
    tie_in : (p : ℕ) → 1 ≤ p → p ≤ P → (v : ℕ) → latest (port_key m) p n ≡ v → tie_fits m (p - 1) v ≡ true
    unfolding tie_held
    tie_in p a b zero q =
        let l = length_table n row in
        let none : any (λ c. eqb c.port p) (table n row) ≡ false =
        any_not (λ c. eqb c.port p) (table n row) (row 0)
        (λ j h. ap (λ c. eqb c.port p) (getD_table n row j (row 0) (omega arith))
        ∙ ne_eqb (row j).port p (later_others (port_key m) p n j (omega arith) (omega arith))) in
        let t : (same_name (port_on m (p - 1)).tie no_name || any (λ c. eqb c.port p) (table n row)) ≡ true =
        rw (port_on_fact m P B n p a b) at (all_held p a (omega arith)) in
        tie_none m (p - 1) ∙ last (same_name (port_on m (p - 1)).tie no_name) (rw none at t)
      where
        last : (x : Bool) → (x || false) ≡ true → x ≡ true
        last true t = refl
        last false t = t
    tie_in p a b (suc j) q =
        let low = latest_low (port_key m) p n in
        let h : (row j).port ≡ p = latest_has (port_key m) p n j q in
        let o = port_on_fact m P B n p a b in
        let c : j < n = omega arith in
        tie_some m (p - 1) j
        ∙ and_i (name_same (port_on m (p - 1)).tie (row j).name (rw (h, o) at (tie_same j c (λ z. omega arith))))
        (ap (λ q. open_agrees q (row j)) (sym (ap (port_of s) h ∙ o)) ∙ every_on (λ c. open_agrees (port_of s c.port) c) row n all_open j c)

    -- one past them is named by none, and zero
    tie_out : (p : ℕ) → P < p → p ≤ 4 → (v : ℕ) → latest (port_key m) p n ≡ v → tie_fits m (p - 1) v ≡ true
    unfolding zero_port
    tie_out p a b zero q =
        let z = rest_on zero_port (port_on m) P 4 unused (p - 1) (omega arith) (omega arith) in
        tie_none m (p - 1) ∙ search (and_l, and_r) depth 8
    tie_out p a b (suc j) q =
        let low = latest_low (port_key m) p n in
        let h : (row j).port ≡ p = latest_has (port_key m) p n j q in
        let i = in_ports j (omega arith) in
        absurd (omega arith)

    pub sound_passed : Passed m P B n
    unfolding sound few_expected
    sound_passed = record {
      ports = every_of port_fits (port_on m) P (λ k h. port_fits_fact (port_on m k) (every_on port_in_range (port_on m) P ports_ranged k h)
          (every_on port_agrees (port_on m) P all_agree k h));
      fields = every_of fields_fit row n (λ j h. range_fields P B (row j) four (every_on (carrier_in_range P B) row n ranges j h));
      named = every_of named_by row n (λ j h. range_named P B (row j) (every_on (carrier_in_range P B) row n ranges j h));
      seats =
          every_of (seat_fits P B) row n (λ j h. range_seat P B (row j) (port_of s (row j).port)
          (every_on (carrier_in_range P B) row n ranges j h)
          (every_on place_agrees row n all_placed j h) (every_on (λ c. open_agrees (port_of s c.port) c) row n all_open j h));
      spots = search (and_l, and_r) depth 12;
      alone = two_of other_port row n port_alone;
      few = search (and_l, and_r) depth 12;
      ties = λ p a b. tie p a b (ltb P p) refl;
      names = others;
    }
      where
        tie : (p : ℕ) → 1 ≤ p → p ≤ 4 → (b : Bool) → ltb P p ≡ b → tie_fits m (p - 1) (latest (port_key m) p n) ≡ true
        tie p a b true e = tie_out p (ltb-true P p e) b (latest (port_key m) p n) refl
        tie p a b false e = tie_in p a (ltb-false P p e) (latest (port_key m) p n) refl
