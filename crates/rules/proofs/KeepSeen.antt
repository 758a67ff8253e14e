-- What a row sees of a sound state.
use Prim.Native.Nat.{ℕ, zero, suc, ◌≤◌, ◌<◌}
use native.Mathlib.Omega.{arith}
use mathlib.Core.Path.{◌≡◌, refl, ap, sym, ◌∙◌}
use mathlib.Core.Logic.{◌≢◌}
use mathlib.Core.Bool.{Bool, true, false, not, cond, ◌&&◌}
use mathlib.Core.List.{List, [], ◌∷◌}
use lib.ListN.{length, get_or-eq_default}
use lib.Dec.{eqb, leb}
use borrow.Author.Tests.{eqb-true, leb-true, leb-false, ltb-true, ltb-false, le-leb, eq-eqb, ne_eqb}
use Rattle.lists.specs.Lists.{every, how_many, between, fill}
use Rattle.lists.proofs.Bools.{clash, cond_ind, and_l, and_r, and_i, or_r, not_false}
use Rattle.lists.proofs.Tests.{nowhere, where_not, where_holds, any_here}
use Rattle.records.specs.declared.name.Name.{Name}
use Rattle.records.specs.declared.carrier.Carrier.{Carrier}
use Rattle.records.specs.Names.{graphic, is_name, in_bytes, head_or0, zero_ended, holds_name}
use Rattle.records.specs.Maps.{is_code, is_map, in_map}
use Rattle.records.specs.Carriers.{no_carrier, new_carrier, expected, is_open}
use Rattle.rules.specs.declared.row.Seen.{Seen}
use Rattle.rules.specs.State.{State, record_of}
use Rattle.rules.specs.Seen.{Input, is_named, is_tied_to, is_in_spot, name_stands, tie_stands, how_many_expected, spot_taken, see}
use Rattle.rules.specs.Row.{placed, found_or_new}
use Rattle.rules.proofs.Names.{name_is}
use Rattle.rules.proofs.SoundParts.{PortFits, Fits, Facts}
use Rattle.rules.proofs.Orderly.{ties_differ_fact}

-- ── Names and maps in a record ──
zeros : (n : ℕ) → (zero_ended (fill n 0 []) ≡ true) × (head_or0 (fill n 0 []) ≡ 0)
unfolding zero_ended head_or0 fill
zeros zero = (refl, refl)
zeros (suc n) = let r = zeros n in (rw r.1 r.0, refl)

ended : (n : ℕ) (l : List ℕ) → every graphic l ≡ true → zero_ended (fill n 0 l) ≡ true
unfolding zero_ended fill every
ended zero l e = refl
ended (suc n) [] e = (zeros (suc n)).0
ended (suc n) (b ∷ l) e = and_i (or_r (eqb b 0 && eqb (head_or0 (fill n 0 l)) 0) (and_l (graphic b) _ e)) (ended n l (and_r (graphic b) _ e))

name_held : (l : List ℕ) → is_name l ≡ true → holds_name (in_bytes l) ≡ true
unfolding is_name in_bytes holds_name every head_or0 fill
name_held l e =
    let b = and_l (between 1 (length l) 16) (every graphic l) e in
    let g = and_r (between 1 (length l) 16) (every graphic l) e in
    and_i (ended 16 l g) (first l (and_l (leb 1 (length l)) _ b) g)
  where
    first : (l : List ℕ) → leb 1 (length l) ≡ true → every graphic l ≡ true → not (eqb (head_or0 (fill 16 0 l)) 0) ≡ true
    first [] a e = clash a refl
    first (b ∷ l) a e =
        let g = leb-true 0x21 b (and_l (leb 0x21 b) _ (and_l (graphic b) _ e)) in
        rw (ne_eqb b 0 (λ z. omega arith))

fill_codes : (n : ℕ) (l : List ℕ) → every is_code l ≡ true → every is_code (fill n 0 l) ≡ true
unfolding every fill
fill_codes zero l e = refl
fill_codes (suc n) [] e = fill_codes n [] refl
fill_codes (suc n) (a ∷ l) e = and_i (and_l (is_code a) _ e) (fill_codes n l (and_r (is_code a) _ e))

map_held : (l : List ℕ) → is_map l ≡ true → every is_code (in_map l) ≡ true
unfolding is_map in_map
map_held l e = fill_codes 25 l (and_r (eqb (length l) 25) _ e)

-- a new record fits
pub new_fits : (P B : ℕ) (n : Name) (p : ℕ) → holds_name n ≡ true → p ≤ P → Fits P B (new_carrier n p)
unfolding every
new_fits P B n p h b = record {
  named = h;
  stands = record {
    place_range = omega arith;
    port_range = b;
    in_spot = λ z. absurd (omega arith);
    in_free = λ z. absurd (omega arith);
    no_spot = λ _. refl;
    at_tied = λ z. absurd (omega arith);
  };
  opened = omega arith;
  cancelled = omega arith;
  cameout = omega arith;
  map = refl;
  id = (omega arith, omega arith);
  slot = (omega arith, omega arith);
  accessing = (omega arith, omega arith);
}

module _ (s : State) (i : Input) (f : Facts s) where
  abbrev x : Seen
  x = see s i

  pub given_range : x.isport ≡ true → (1 ≤ x.port) × (x.port ≤ length s.ports)
  unfolding see
  given_range e = (leb-true 1 x.port (and_l _ _ e), leb-true x.port (length s.ports) (and_r (leb 1 x.port) _ e))

  pub here_fits : PortFits x.here
  unfolding see
  here_fits = f.ports x.port

  pub home_fits : PortFits x.home
  unfolding see
  home_fits = f.ports x.found.port

  -- the name
  pub name_fits : x.named ≡ true → holds_name x.name ≡ true
  unfolding see
  name_fits e = name_held i.name e

  pub map_fits : x.mapped ≡ true → every is_code x.map ≡ true
  unfolding see
  map_fits e = map_held i.codes e

  -- the record of the name
  pub found_live : x.known ≡ true → x.stands < length s.carriers
  unfolding see
  found_live e = ltb-true x.stands (length s.carriers) e

  pub found_fits : x.known ≡ true → Fits (length s.ports) s.places x.found
  unfolding see
  found_fits e = f.records x.stands (ltb-true x.stands (length s.carriers) e)

  pub found_named : x.known ≡ true → x.found.name ≡ x.name
  unfolding see record_of name_stands
  found_named e = name_is _ _ (where_holds (is_named x.name) s.carriers no_carrier (ltb-true x.stands (length s.carriers) e))

  -- the record tied to the port given
  pub held_live : x.tied ≡ true → x.holds < length s.carriers
  unfolding see
  held_live e = ltb-true x.holds (length s.carriers) e

  pub held_tied : x.tied ≡ true → x.held.port ≡ x.port
  unfolding see record_of tie_stands
  held_tied e =
      eqb-true _ x.port
      (and_r (leb 1 x.port) _ (where_holds (is_tied_to x.port) s.carriers no_carrier (ltb-true x.holds (length s.carriers) e)))

  -- no tie is no record
  pub held_none : x.tied ≡ false → x.held ≡ no_carrier
  unfolding see record_of
  held_none e = get_or-eq_default s.carriers no_carrier (ltb-false x.holds (length s.carriers) e)

  pub holds_none : x.tied ≡ false → x.holds ≡ length s.carriers
  unfolding see tie_stands
  holds_none e =
      where_not (is_tied_to x.port) s.carriers no_carrier
      (nowhere (is_tied_to x.port) s.carriers no_carrier (ltb-false x.holds (length s.carriers) e))

  held_some : x.held ≢ no_carrier → x.tied ≡ true
  held_some n = go x.tied refl
    where
      go : (w : Bool) → x.tied ≡ w → w ≡ true
      go true e = refl
      go false e = absurd (n (held_none e))

  pub held_there : x.held.port ≢ 0 → x.tied ≡ true
  held_there n = held_some (λ e. n (ap (λ (c : Carrier). c.port) e))

  pub held_placed : x.held.place ≢ 0 → x.tied ≡ true
  held_placed n = held_some (λ e. n (ap (λ (c : Carrier). c.place) e))

  pub nobody_tied : x.tied ≡ false → 1 ≤ x.port → (j : ℕ) → j < length s.carriers → (record_of s j).port ≢ x.port
  unfolding see record_of tie_stands
  nobody_tied e a j b z =
      clash (and_i (le-leb 1 x.port a) (eq-eqb _ x.port z))
      (nowhere (is_tied_to x.port) s.carriers no_carrier (ltb-false _ _ e) j b)

  -- no other is tied to the port given
  pub only_held : 1 ≤ x.port → (j : ℕ) → j < length s.carriers → j ≢ x.holds → (record_of s j).port ≢ x.port
  unfolding see
  only_held a j b n z = go x.tied refl
    where
      go : (w : Bool) → x.tied ≡ w → ⊥
      go true e = n (ties_differ_fact s f j x.holds b (held_live e) (λ y. omega arith) (z ∙ sym (held_tied e)))
      go false e = nobody_tied e a j b z

  -- room for one more, and a free buffer place
  pub has_room : x.full ≡ false → how_many expected s.carriers < 16
  unfolding see how_many_expected
  has_room e = leb-false 16 _ e

  pub spot_free : x.taken ≡ false → (j : ℕ) → j < length s.carriers → (record_of s j).place ≡ 2 → (record_of s j).spot ≢ x.value
  unfolding see record_of spot_taken
  spot_free e j b p z =
      clash (any_here (is_in_spot x.value) s.carriers j no_carrier b (and_i (eq-eqb _ 2 p) (eq-eqb _ x.value z))) e

  -- the name's record, or a new one
  pub either_fits : x.named ≡ true → Fits (length s.ports) s.places (found_or_new x)
  unfolding found_or_new
  either_fits n =
      cond_ind (Fits (length s.ports) s.places) x.known found_fits
      (λ _. new_fits _ _ x.name 0 (name_fits n) (omega arith))

  pub either_named : (found_or_new x).name ≡ x.name
  unfolding found_or_new
  either_named = cond_ind (λ (c : Carrier). c.name ≡ x.name) x.known found_named (λ _. refl)

  -- it is closed, unless it is placed
  pub either_shut : placed x ≡ false → is_open (found_or_new x) ≡ true → ⊥
  unfolding see placed found_or_new
  either_shut n o = go x.known refl n o
    where
      go : (w : Bool) → x.known ≡ w → (w && not (expected x.found)) ≡ false
          → is_open (cond w x.found (new_carrier x.name 0)) ≡ true → ⊥
      go true e n o =
          let z = eqb-true x.found.place 0 (not_false _ n) in
          let r = f.shown x.stands (found_live e) o (λ y. omega arith) in
          let y : x.found.place ≡ 1 = r.0 in
          omega arith
      go false e n o = clash o refl

  pub placed_known : placed x ≡ true → x.known ≡ true
  unfolding placed
  placed_known e = and_l _ _ e
