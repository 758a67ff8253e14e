-- What rows and reports need of a sound state.
use Prim.Native.Nat.{ℕ, ◌≤◌, ◌<◌}
use native.Mathlib.Omega.{arith}
use mathlib.Core.Path.{◌≡◌, refl, ◌∙◌}
use mathlib.Core.Logic.{◌≢◌}
use mathlib.Core.Bool.{Bool, true, false, not}
use mathlib.Core.List.{List}
use lib.ListN.{length, get_or, get_or-eq_default}
use lib.Dec.{ltb}
use borrow.Author.Tests.{eqb-false, leb-true, ltb-true, ltb-false}
use Rattle.lists.specs.Lists.{every, every_two}
use Rattle.lists.proofs.Bools.{and_l, and_r, not_true, or_other}
use Rattle.lists.proofs.Tests.{every_at, two_at}
use Rattle.records.specs.declared.carrier.Carrier.{Carrier}
use Rattle.records.specs.Names.{same_name}
use Rattle.records.specs.Carriers.{no_carrier, at_port}
use Rattle.rules.specs.State.{State, record_of}
use Rattle.rules.specs.Sound.{carrier_in_range, in_range, other_name, place_agrees, sound}
use Rattle.rules.proofs.Names.{name_sym}

-- no two records have one name
abbrev pub Distinct : List Carrier → Type 0
Distinct l = (i j : ℕ) → i < length l → j < length l → i ≢ j → same_name (get_or l i no_carrier).name (get_or l j no_carrier).name ≡ false

module _ (s : State) (h : sound s ≡ true) where
  pub few_ports : length s.ports ≤ 4
  unfolding sound in_range
  few_ports = leb-true (length s.ports) 4 (search (and_l, and_r) depth 12)

  names_differ : every_two other_name s.carriers ≡ true
  unfolding sound
  names_differ = search (and_l, and_r) depth 9

  each_in_range : every (carrier_in_range (length s.ports) s.places) s.carriers ≡ true
  unfolding sound in_range
  each_in_range = search (and_l, and_r) depth 9

  later_differs : (i j : ℕ) → i < j → j < length s.carriers
      → same_name (get_or s.carriers i no_carrier).name (get_or s.carriers j no_carrier).name ≡ false
  unfolding other_name
  later_differs i j a b = not_true _ (two_at other_name s.carriers no_carrier names_differ i j a b)

  pub distinct : Distinct s.carriers
  distinct i j a b n = go (ltb i j) refl
    where
      go : (w : Bool) → ltb i j ≡ w → same_name (get_or s.carriers i no_carrier).name (get_or s.carriers j no_carrier).name ≡ false
      go true e = later_differs i j (ltb-true i j e) b
      go false e = let o = ltb-false i j e in name_sym _ _ ∙ later_differs j i (omega arith) a

  -- a record's port is one of the tool's, or 0
  pub port_fits_fact : (k : ℕ) → (record_of s k).port ≤ length s.ports
  unfolding record_of carrier_in_range
  port_fits_fact k = go (ltb k (length s.carriers)) refl
    where
      go : (w : Bool) → ltb k (length s.carriers) ≡ w → (get_or s.carriers k no_carrier).port ≤ length s.ports
      go true e =
          leb-true _ _
          (let o = every_at _ s.carriers no_carrier each_in_range k (ltb-true k (length s.carriers) e) in
          search (and_l, and_r) depth 13)
      go false e = rw (get_or-eq_default s.carriers no_carrier (ltb-false k (length s.carriers) e)) (omega arith)

  -- a record placed at a port is tied to one
  pub placed_tied : (k : ℕ) → k < length s.carriers → at_port (get_or s.carriers k no_carrier) ≡ true
      → 1 ≤ (get_or s.carriers k no_carrier).port
  unfolding sound place_agrees
  placed_tied k b a =
      let o = every_at place_agrees s.carriers no_carrier (search (and_l, and_r) depth 9) k b in
      let n = not_true _ (or_other (not (at_port (get_or s.carriers k no_carrier))) _ (and_l _ _ o) (rw a)) in
      let z = eqb-false (get_or s.carriers k no_carrier).port 0 n in
      omega arith
