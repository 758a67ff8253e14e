-- A carrier after an effect, found again by its name; and what an input that is accepted below leaves of a carrier in the buffer and of a
-- port that is kept free.
use Prim.Native.Nat.{ℕ, zero, suc, ◌<◌, suc-le-suc}
use native.Mathlib.Nat.{le_of_suc-le-suc}
use native.Mathlib.Omega.{arith}
use native.Mathlib.Decide.{ℕ_discrete}
use mathlib.Core.Path.{◌≡◌, refl, ap, sym, subst, ◌∙◌}
use mathlib.Core.Logic.{◌≢◌}
use mathlib.Core.Bool.{Bool, true, false}
use mathlib.Core.List.{List, [], ◌∷◌, ◌++◌}
use lib.ListN.{length, get_or, set, length-set, get_or-eq_default}
use lib.Seq.{get_or-set_same, get_or-set_other}
use lib.Dec.{ltb}
use borrow.Author.Tests.{eqb-true, eq-eqb, ltb-true, ltb-false}
use Rattle.lists.specs.Lists.{without, with_new}
use Rattle.lists.proofs.Bools.{clash}
use Rattle.lists.proofs.Tests.{where_one, where_holds}
use Rattle.records.specs.declared.name.Name.{Name}
use Rattle.records.specs.declared.carrier.Carrier.{Carrier}
use Rattle.records.specs.Names.{same_name, holds_name}
use Rattle.records.specs.Carriers.{no_carrier, in_buffer}
use Rattle.rules.specs.declared.row.Effect.{Effect}
use Rattle.rules.specs.State.{State, record_of}
use Rattle.rules.specs.Seen.{is_named, name_stands}
use Rattle.rules.specs.Row as row
use Rattle.rules.specs.Promise.{Live}
use Rattle.rules.proofs.Names.{name_is, name_same}
use Rattle.rules.proofs.Apt.{Apt}
use Rattle.rules.proofs.SoundParts.{Facts}
use Rattle.queue.specs.Requests.{carrier_of, may_leave}
use Rattle.queue.proofs.Stored.{Spares}

-- ── Positions in a list of which one element goes, or to which one comes ──
module _ {A : Type 0} (d : A) where
  still_there : (l : List A) (g j : ℕ) → j < length l → j ≢ g → (k : ℕ) × (k < length (without g l)) × (get_or (without g l) k d ≡ get_or l j d)
  unfolding without
  still_there [] g j b n = absurd (omega arith)
  still_there (x ∷ l) zero zero b n = absurd (n refl)
  still_there (x ∷ l) zero (suc j) b n = (j, le_of_suc-le-suc b, refl)
  still_there (x ∷ l) (suc g) zero b n = (0, omega arith, refl)
  still_there (x ∷ l) (suc g) (suc j) b n =
      let t = still_there l g j (le_of_suc-le-suc b) (λ z. n (ap suc z)) in
      (suc t.0, suc-le-suc t.1, t.2)

  before_new : (w : Bool) (y : A) (l : List A) (k : ℕ) → k < length l
      → (k < length (with_new w y l)) × (get_or (with_new w y l) k d ≡ get_or l k d)
  before_new true y l k b = go l k b
    where
      go : (l : List A) (k : ℕ) → k < length l → (k < length (l ++ (y ∷ []))) × (get_or (l ++ (y ∷ [])) k d ≡ get_or l k d)
      go [] k b = absurd (omega arith)
      go (x ∷ l) zero b = (omega arith, refl)
      go (x ∷ l) (suc k) b = let t = go l k (le_of_suc-le-suc b) in (suc-le-suc t.0, t.1)
  before_new false y l k b = (b, refl)

-- ── A carrier by its name ──
module _ (s : State) where
  pub found_again : Facts s → (n : Name) (k : ℕ) → Live s k → (record_of s k).name ≡ n → carrier_of s n ≡ record_of s k
  unfolding carrier_of name_stands record_of
  found_again f n k b e =
      ap (λ j. get_or s.carriers j no_carrier)
      (where_one (is_named n) s.carriers k no_carrier b (name_same _ _ e) (λ j i o. other j i o (same_name (record_of s j).name n) refl))
    where
      other : (j : ℕ) → j < length s.carriers → j ≢ k → (w : Bool) → same_name (get_or s.carriers j no_carrier).name n ≡ w → w ≡ false
      other j i o true q = absurd (o (f.names j k i b (name_is _ _ q ∙ sym e)))
      other j i o false q = refl

  module _ (n : Name) (h : in_buffer (carrier_of s n) ≡ true) where
    pub stored_live : Live s (name_stands s n)
    unfolding carrier_of record_of
    stored_live = go (ltb (name_stands s n) (length s.carriers)) refl
      where
        go : (w : Bool) → ltb (name_stands s n) (length s.carriers) ≡ w → name_stands s n < length s.carriers
        go true e = ltb-true _ _ e
        go false e =
            clash h (ap in_buffer (get_or-eq_default s.carriers no_carrier (ltb-false (name_stands s n) (length s.carriers) e)))

    pub stored_named : (record_of s (name_stands s n)).name ≡ n
    unfolding record_of name_stands
    stored_named = name_is _ _ (where_holds (is_named n) s.carriers no_carrier stored_live)

    pub carrier_named : (carrier_of s n).name ≡ n
    unfolding carrier_of
    carrier_named = stored_named

    pub name_held : Facts s → holds_name n ≡ true
    name_held f = subst (λ m. holds_name m ≡ true) stored_named (f.records (name_stands s n) stored_live).named

    pub stored_place : (record_of s (name_stands s n)).place ≡ 2
    unfolding carrier_of
    stored_place = eqb-true _ 2 h

-- the record that stands at j, after an effect under which it doesn't go
module _ (s : State) (e : Effect) (j : ℕ) (b : Live s j) (g : j ≢ e.goes) where
  abbrev after : Carrier
  after = get_or (set s.carriers e.changes e.next) j no_carrier

  pub stands_after : (k : ℕ) × Live (row.enact e s) k × (record_of (row.enact e s) k ≡ after)
  unfolding row.enact record_of
  stands_after =
      let c = set s.carriers e.changes e.next in
      let t = still_there no_carrier c e.goes j (rw length-set b) g in
      let u = before_new no_carrier e.made e.next (without e.goes c) t.0 t.1 in
      (t.0, u.0, u.1 ∙ t.2)

  after_is : (P : Carrier → Type 0) → (j ≡ e.changes → P e.next) → P (record_of s j) → P after
  unfolding record_of
  after_is P p q = go (ℕ_discrete j e.changes)
    where
      go : Dec (j ≡ e.changes) → P after
      go (yes z) = rw (z, get_or-set_same s.carriers e.changes e.next no_carrier (rw z at b)) (p z)
      go (no n) = rw (get_or-set_other s.carriers e.changes j e.next no_carrier n) q

-- ── A carrier in the buffer ──
module _ (s : State) (e : Effect) (a : Apt s e) (f : Facts (row.enact e s)) (o : Type 0) (n : Name)
    (h : in_buffer (carrier_of s n) ≡ true) (k : Spares s (name_stands s n) o e) where
  abbrev j : ℕ
  j = name_stands s n

  carrier_after : carrier_of (row.enact e s) n ≡ after s e j (stored_live s n h) k.here
  unfolding record_of
  carrier_after =
      let b = stored_live s n h in
      let t = stands_after s e j b k.here in
      found_again (row.enact e s) f n t.0 t.1
      (ap (λ (c : Carrier). c.name) t.2
      ∙ after_is s e j b k.here (λ c. c.name ≡ n)
      (λ z. a.named (rw z at b) ∙ ap (λ i. (record_of s i).name) (sym z) ∙ stored_named s n h) (stored_named s n h))
      ∙ t.2

  pub stored_still : in_buffer (carrier_of (row.enact e s) n) ≡ true
  unfolding carrier_of
  stored_still =
      rw carrier_after
      (after_is s e j (stored_live s n h) k.here (λ c. in_buffer c ≡ true) (λ z. eq-eqb _ 2 (k.stored z)) h)

  pub shut_still : (o → ⊥) → may_leave (carrier_of s n) ≡ true → may_leave (carrier_of (row.enact e s) n) ≡ true
  unfolding carrier_of
  shut_still d l =
      rw carrier_after
      (after_is s e j (stored_live s n h) k.here (λ c. may_leave c ≡ true) (λ z. k.shut d z l) l)
