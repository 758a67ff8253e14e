-- Slot status OK at once is SlotMap and then ProceedWithCarrier, where the ID is OK.
use Prim.Native.Nat.{ℕ, suc, ◌<◌, ◌≤◌}
use native.Mathlib.Nat.{le_of_suc-le-suc}
use native.Mathlib.Omega.{arith}
use mathlib.Core.Path.{◌≡◌, refl, ap, sym, ◌∙◌}
use mathlib.Core.Bool.{Bool, true, false, cond}
use mathlib.Core.List.{List, [], ◌∷◌}
use lib.ListN.{length, get_or, set, length-set}
use lib.Seq.{set_out, set-set, get_or-set_same}
use lib.Dec.{ltb}
use borrow.Author.Tests.{eqb-true, ne_eqb, lt-ltb}
use Rattle.lists.specs.Lists.{where_is}
use Rattle.lists.proofs.Bools.{and_l, or_r}
use Rattle.lists.proofs.Tables.{without_out}
use Rattle.lists.proofs.Tests.{where_holds}
use Rattle.records.specs.declared.carrier.Carrier.{Carrier}
use Rattle.records.specs.Names.{in_bytes}
use Rattle.records.specs.Ports.{no_port}
use Rattle.records.specs.Carriers.{no_carrier, is_open, id_ok, id_waits, slot_waits, with_map}
use Rattle.records.specs.Fields.{with_slot}
use Rattle.rules.specs.declared.row.Seen.{Seen}
use Rattle.rules.specs.State.{State, record_of}
use Rattle.rules.specs.Sound.{sound}
use Rattle.rules.specs.Seen.{Input, is_named, name_stands, narrow, see}
use Rattle.rules.specs.Row.{judge, enact, on_record, placed}
use Rattle.rules.specs.Verdict.{can_proceed, proceed_with_carrier}
use Rattle.rules.specs.Opening.{slot_map}
use Rattle.rules.specs.Rows.{row_of}
use Rattle.rules.specs.Outcome.{state_after}
use Rattle.rules.proofs.Accepts.{clear}
use Rattle.rules.proofs.SoundParts.{facts}
use Rattle.maps.specs.Projection.{proceed}
use Rattle.maps.proofs.Amended.{at_once, row_twenty, mapped_live}
use Rattle.maps.proofs.SoundRuns.{base_step}

-- ── A record that is replaced under its own name stands where it stood ──
where_set : {A : Type 0} (f : A → Bool) (l : List A) (y : A) → where_is f l < length l → f y ≡ true
    → where_is f (set l (where_is f l) y) ≡ where_is f l
unfolding where_is
where_set f [] y h e = refl
where_set f (x ∷ l) y h e = go (f x) refl (λ b. where_set f l y b e) h
  where
    go : (b : Bool) → f x ≡ b → (where_is f l < length l → where_is f (set l (where_is f l) y) ≡ where_is f l)
        → cond b 0 (suc (where_is f l)) < suc (length l)
        → where_is f (set (x ∷ l) (cond b 0 (suc (where_is f l))) y) ≡ cond b 0 (suc (where_is f l))
    go true p r h = rw e
    go false p r h = rw (p, r (le_of_suc-le-suc h))

-- ── ProceedWithCarrier for a placed carrier whose slot map waits ──
module _ (x : Seen) (named : x.named ≡ true) (none : x.noport ≡ true) (known : x.known ≡ true) (here : placed x ≡ true)
    (ok : id_ok x.found ≡ true) (waits : slot_waits x.found ≡ true) where
  may : can_proceed x x.found ≡ true
  unfolding can_proceed
  may = rw (none, ok, waits) (or_r (id_waits x.found) refl)

  goes_through : judge (proceed_with_carrier x).grounds ≡ 0
  goes_through = rw (here, may, named, none, known, or_r x.isport {b = true} refl)

  does : (proceed_with_carrier x).effect ≡ on_record x.count x.stands (with_slot 3 x.found)
  does = let w : id_waits x.found ≡ false = ne_eqb x.found.id 2 (λ e. let o = eqb-true x.found.id 3 ok in omega arith) in
      rw (here, known, w)

-- ── One record changed twice ──
same_end : (s : State) (k n : ℕ) (c d : Carrier) → n ≡ length s.carriers → length s.ports ≤ 4
    → enact (on_record n k d) (enact (on_record n k c) s) ≡ enact (on_record n k d) s
unfolding enact
same_end s k n c d e f =
    let p = set_out s.ports 4 no_port f in
    let l = length-set s.carriers k c in
    let a = without_out (set s.carriers k c) n (omega arith) in
    rw (p, p, a, set-set s.carriers k c d)

-- ── An equal map ──
module _ (s : State) (i : Input) (h : sound s ≡ true) (z : judge (slot_map (see s i)).grounds ≡ 0) (ok : id_ok (see s i).found ≡ true) where
  abbrev x : Seen
  x = see s i

  abbrev k : ℕ
  k = x.stands

  abbrev once : Carrier
  once = with_map x.map 2 x.found

  -- the state after SlotMap, and what ProceedWithCarrier sees of it
  abbrev mapped : State
  mapped = enact (slot_map x).effect s

  abbrev y : Seen
  y = see mapped (proceed i)

  open_now : is_open x.found ≡ true
  open_now = and_l (is_open x.found) _ (clear (slot_map x).grounds refl z).1.1.1.0

  live : k < length s.carriers
  live = mapped_live s i h z

  counted : x.count ≡ length s.carriers
  unfolding see
  counted = refl

  carriers_are : mapped.carriers ≡ set s.carriers k once
  unfolding enact
  carriers_are =
      let l = length-set s.carriers k once in
      rw counted (without_out (set s.carriers k once) (length s.carriers) (omega arith))

  found_name : is_named (in_bytes i.name) x.found ≡ true
  unfolding see record_of name_stands
  found_name = where_holds (is_named (in_bytes i.name)) s.carriers no_carrier live

  stands_still : y.stands ≡ k
  unfolding see name_stands
  stands_still =
      ap (where_is (is_named (in_bytes i.name))) carriers_are
      ∙ where_set (is_named (in_bytes i.name)) s.carriers once live found_name

  found_then : y.found ≡ once
  unfolding see record_of
  found_then =
      ap (λ n. get_or mapped.carriers n no_carrier) stands_still
      ∙ ap (λ l. get_or l k no_carrier) carriers_are ∙ get_or-set_same s.carriers k once no_carrier live

  count_then : y.count ≡ length s.carriers
  unfolding see
  count_then = ap length carriers_are ∙ length-set s.carriers k once

  known_is : y.known ≡ ltb y.stands y.count
  unfolding see
  known_is = refl

  known_then : y.known ≡ true
  known_then = known_is ∙ rw (stands_still, count_then) (lt-ltb k (length s.carriers) live)

  somewhere : x.found.place ≡ 0 → ⊥
  unfolding see
  somewhere e =
      let f = ((facts s h).shown k live open_now (λ p. omega arith)).0 in
      omega arith

  placed_then : placed y ≡ true
  unfolding placed
  placed_then = rw (known_then, found_then, ne_eqb x.found.place 0 somewhere)

  named_then : y.named ≡ true
  unfolding see
  named_then = (clear (slot_map x).grounds refl z).0

  no_port_fact : y.noport ≡ true
  unfolding see narrow
  no_port_fact = refl

  ok_then : id_ok y.found ≡ true
  ok_then = rw found_then ok

  waits_then : slot_waits y.found ≡ true
  waits_then = rw found_then

  -- ProceedWithCarrier is accepted
  pub proceeds : judge (row_of 5 y).grounds ≡ 0
  unfolding row_of
  proceeds = goes_through y named_then no_port_fact known_then placed_then ok_then waits_then

  five_does : (row_of 5 y).effect ≡ on_record (length s.carriers) k (with_slot 3 once)
  unfolding row_of
  five_does = does y named_then no_port_fact known_then placed_then ok_then waits_then ∙ rw (count_then, stands_still, found_then)

  -- and both together are the one change
  together : enact (row_of 5 y).effect mapped ≡ enact (at_once (slot_map x).effect) s
  together =
      ap (λ e. enact e mapped) five_does
      ∙ rw counted (same_end s k (length s.carriers) once (with_slot 3 once) refl (facts s h).few_ports)

-- SlotMap and then ProceedWithCarrier
pub equal_step : (s : State) (i : Input) → sound s ≡ true → i.number ≡ 20 → judge (row_of i.number (see s i)).grounds ≡ 0
    → id_ok (see s i).found ≡ true
    → state_after (state_after s i) (proceed i) ≡ enact (at_once (row_of i.number (see s i)).effect) s
equal_step s i h n z ok =
    let r = row_twenty i.number (see s i) n in
    let w : judge (slot_map (see s i)).grounds ≡ 0 = ap (λ r. judge r.grounds) (sym r) ∙ z in
    ap (λ u. state_after u (proceed i)) (base_step s i z ∙ ap (λ r. enact r.effect s) r)
    ∙ base_step (enact (slot_map (see s i)).effect s) (proceed i) (proceeds s i h w ok)
    ∙ together s i h w ok
    ∙ ap (λ r. enact (at_once r.effect) s) (sym r)
