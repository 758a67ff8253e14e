-- Open and Close: only the carrier's door changes.
use Prim.Native.Nat.{ℕ, zero, suc, ◌≤◌}
use native.Mathlib.Omega.{arith}
use mathlib.Core.Path.{◌≡◌, refl, ap, ap₂, sym, ◌∙◌}
use mathlib.Core.Bool.{Bool, true, false, not, cond}
use mathlib.Core.List.{List, [], ◌∷◌}
use lib.ListN.{length, get_or, set, length-set}
use lib.Seq.{set_out, set-set, set-get_or, get_or-set_same}
use borrow.Author.Tests.{eqb-true}
use Rattle.lists.specs.Lists.{where_is}
use Rattle.lists.proofs.Bools.{and_l, and_r, not_true}
use Rattle.lists.proofs.Tests.{list_is}
use Rattle.lists.proofs.Tables.{without_out}
use Rattle.records.specs.declared.carrier.Carrier.{Carrier}
use Rattle.records.specs.Ports.{no_port}
use Rattle.records.specs.Carriers.{no_carrier, at_port, is_open}
use Rattle.records.specs.Fields.{with_opened}
use Rattle.rules.specs.declared.row.Seen.{Seen}
use Rattle.rules.specs.State.{State, record_of}
use Rattle.rules.specs.Sound.{sound}
use Rattle.rules.specs.Seen.{Input, is_named, name_stands, see}
use Rattle.rules.specs.Row.{enact, on_record}
use Rattle.rules.specs.Opening.{leaves_port}
use Rattle.rules.specs.Rows.{row_of}
use Rattle.rules.specs.Outcome.{answer_in, state_after}
use Rattle.rules.specs.Undoing.{same_carrier, opening_door, Undoes}
use Rattle.rules.proofs.SoundParts.{facts}
use Rattle.rules.proofs.KeepSeen.{found_live, found_fits}
use Rattle.rules.proofs.Undone.{and_none, paired, grounds_clear, state_is, taken_back}
use Rattle.rules.proofs.UndonePorts.{not_one}

-- the test's first position stays where the element that changes passes as it did
where_set : {A : Type 0} (f : A → Bool) (l : List A) (k : ℕ) (c d : A) → f c ≡ f (get_or l k d) → where_is f (set l k c) ≡ where_is f l
unfolding where_is
where_set f [] k c d e = refl
where_set f (x ∷ l) zero c d e = rw e
where_set f (x ∷ l) (suc k) c d e = ap (λ r. cond (f x) 0 (suc r)) (where_set f l k c d e)

-- ── The state with another record at k ──
abbrev pub with_record_at : State → ℕ → Carrier → State
with_record_at s k c = record { ports = s.ports; carriers = set s.carriers k c; places = s.places }

pub record_enacted : (s : State) → length s.ports ≤ 4 → (k : ℕ) (c : Carrier)
    → enact (on_record (length s.carriers) k c) s ≡ with_record_at s k c
unfolding enact
record_enacted s f k c =
    let n = length-set s.carriers k c in
    ap₂ (λ a b. record { ports = a; carriers = b; places = s.places }) (set_out s.ports 4 no_port f)
    (without_out (set s.carriers k c) (length s.carriers) (omega arith))

-- and with the one that was there again
record_back : (s : State) → length s.ports ≤ 4 → (k : ℕ) (c : Carrier)
    → enact (on_record (length (set s.carriers k c)) k (record_of s k)) (with_record_at s k c) ≡ s
unfolding record_of
record_back s f k c =
    record_enacted (with_record_at s k c) f k (record_of s k)
    ∙ ap (λ l. record { ports = s.ports; carriers = l; places = s.places })
    (set-set s.carriers k c (record_of s k) ∙ set-get_or s.carriers k no_carrier)

-- what acceptance of Open says of the carrier
pub record Shut (x : Seen) : Type 0 where
  pub named : x.named ≡ true
  pub known : x.known ≡ true
  pub opened : x.found.opened ≡ 0
  pub accessing : x.found.accessing ≡ 1

pub open_found : (s : State) (h : sound s ≡ true) (i : Input) → answer_in s i ≡ 0 → i.number ≡ 19 → Shut (see s i)
unfolding row_of
open_found s h i a n =
    let c = grounds_clear s i 19 n a in
    let b = and_l _ _ c.1.1.0 in
    record {
      named = c.0;
      known = c.1.0;
      opened = not_one _ (found_fits s i (facts s h) c.1.0).opened (not_true _ (and_l _ _ b));
      accessing = eqb-true _ 1 (and_r (not (is_open (see s i).found)) _ b);
    }

-- what Close sees, of the same name
record Met (x y : Seen) : Type 0 where
  pub named : y.named ≡ true
  pub known : y.known ≡ true
  pub stands : y.stands ≡ x.stands
  pub found : y.found ≡ with_opened 1 x.found

module _ (s : State) (h : sound s ≡ true) (i j : Input) (same : i.name ≡ j.name) (g : Shut (see s i)) where
  abbrev t : State
  t = with_record_at s (see s i).stands (with_opened 1 (see s i).found)

  met : Met (see s i) (see t j)
  unfolding see record_of name_stands
  met =
      let x = see s i in
      let c = with_opened 1 x.found in
      let e : where_is (is_named x.name) (set s.carriers x.stands c) ≡ x.stands =
      where_set (is_named x.name) s.carriers x.stands c no_carrier refl in
      rw (sym same) (record {
        named = g.named;
        known = rw (e, length-set s.carriers x.stands c) g.known;
        stands = e;
        found = rw e (get_or-set_same s.carriers x.stands c no_carrier (found_live s i (facts s h) g.known));
      })

pub open_state : (s : State) (h : sound s ≡ true) (i : Input) → answer_in s i ≡ 0 → i.number ≡ 19
    → state_after s i ≡ with_record_at s (see s i).stands (with_opened 1 (see s i).found)
unfolding row_of see
open_state s h i a n = state_is s i 19 n a ∙ record_enacted s (facts s h).few_ports (see s i).stands (with_opened 1 (see s i).found)

pub opening_undone : Undoes opening_door
unfolding row_of same_carrier see
opening_undone s i j h p w a =
    let r = paired opening_door i j p in
    let f = (facts s h).few_ports in
    let x = see s i in
    let g = open_found s h i a r.row in
    let u = with_record_at s x.stands (with_opened 1 x.found) in
    let o = met s h i j (list_is _ _ r.alike) g in
    let y = see u j in
    let n : leaves_port y ≡ false = and_none (at_port y.found) (rw (o.found, g.accessing)) in
    taken_back s u i j 23 r.undoing (open_state s h i a r.row)
    (o.named, (o.known, (rw (o.found, g.accessing), tt)))
    (rw (n, o.found, o.stands)
    (ap (λ v. enact (on_record (length u.carriers) x.stands (with_opened v x.found)) u) (sym g.opened)
    ∙ record_back s f x.stands (with_opened 1 x.found)))
