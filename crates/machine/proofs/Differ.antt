-- Between a state and what an effect makes of it nothing differs but what the effect touches.
use Prim.Native.Nat.{ℕ, ◌+◌, ◌-◌, ◌≤◌, ◌<◌}
use native.Mathlib.Omega.{arith}
use native.Mathlib.Decide.{ℕ_discrete}
use mathlib.Core.Path.{◌≡◌, refl, ap, ap₂, sym, ◌∙◌}
use mathlib.Core.Logic.{◌≢◌}
use mathlib.Core.Bool.{Bool, true, false}
use mathlib.Core.List.{List, [], ◌++◌, append-nil, append_assoc}
use lib.ListN.{length, get_or, set, length-set, get_or-eq_default}
use lib.Seq.{set_out, get_or-set_same, get_or-set_other}
use lib.Dec.{ltb}
use borrow.Author.Tests.{ltb-true, ltb-false, ne_eqb}
use Rattle.lists.specs.Lists.{any, without, with_new}
use Rattle.lists.proofs.Tests.{any_other, any_gone, any_append, where_one, where_not}
use Rattle.records.specs.declared.port.Port.{Port}
use Rattle.records.specs.declared.carrier.Carrier.{Carrier}
use Rattle.records.specs.Names.{no_name, same_name}
use Rattle.records.specs.Ports.{no_port}
use Rattle.records.specs.Carriers.{no_carrier}
use Rattle.rules.specs.declared.row.Effect.{Effect}
use Rattle.rules.specs.declared.report.Report.{Report}
use Rattle.rules.specs.State.{State, spot_of, port_of, record_of}
use Rattle.rules.specs.Row.{enact}
use Rattle.rules.specs.Reports.{change, transfer_change, access_change, reservation_change, tie_change}
use Rattle.rules.specs.Reports.{by_port, each, record_in, removed_change, live_change, by_carrier, differences}
use Rattle.rules.proofs.Names.{name_same, name_sym}
use Rattle.rules.proofs.SoundFacts.{Distinct}
use Rattle.rules.proofs.Apt.{Apt}
use Rattle.parts.specs.Told.{port_touched, record_touched, touched}
use Rattle.machine.proofs.Each.{not_reported, unchanged, all_still, one_port}
use Rattle.machine.proofs.Each.{each_none, each_one, each_without_none, each_without_one, each_append}

module _
    (m : ℕ) (f : Carrier → ℕ) (zeroed : f no_carrier ≡ 0)
    (s : State) (act : Effect) (uniq : Distinct s.carriers) (apt : Apt s act) where
  abbrev l : List Carrier
  l = s.carriers

  abbrev entry : ℕ → Carrier
  entry j = get_or l j no_carrier

  abbrev changed : List Carrier
  changed = set l act.changes act.next

  abbrev staying : List Carrier
  staying = without act.goes changed

  abbrev after : List Carrier
  after = with_new act.made act.next staying

  abbrev has_name : ℕ → Carrier → Bool
  has_name j d = same_name d.name (entry j).name

  long : length changed ≡ length l
  long = simp length-set

  same_name_fact : (j : ℕ) → j < length l → (get_or changed j no_carrier).name ≡ (entry j).name
  same_name_fact j b = go (ℕ_discrete j act.changes)
    where
      go : Dec (j ≡ act.changes) → (get_or changed j no_carrier).name ≡ (entry j).name
      go (yes e) = rw (e, get_or-set_same l act.changes act.next no_carrier (rw e at b)) (apt.named (rw e at b))
      go (no n) = rw (get_or-set_other l act.changes j act.next no_carrier n)

  live : (j : ℕ) → j < length l → j ≢ act.goes → any (has_name j) after ≡ true
  live j b n = go act.made (any_other _ changed act.goes j no_carrier (rw long b) n (name_same _ _ (same_name_fact j b)))
    where
      go : (w : Bool) → any (has_name j) staying ≡ true → any (has_name j) (with_new w act.next staying) ≡ true
      go true e = rw (any_append, e)
      go false e = e

  dead : act.goes < length l → any (has_name act.goes) after ≡ false
  unfolding any
  dead b = go act.made refl (any_gone _ changed act.goes no_carrier others)
    where
      others : (j : ℕ) → j < length changed → j ≢ act.goes → has_name act.goes (get_or changed j no_carrier) ≡ false
      others j i n = rw (same_name_fact j (rw long at i)) (uniq j act.goes (rw long at i) b n)

      go : (w : Bool) → act.made ≡ w → any (has_name act.goes) staying ≡ false
          → any (has_name act.goes) (with_new w act.next staying) ≡ false
      go true q e = rw (any_append, e, name_sym, apt.fresh q act.goes b)
      go false q e = e

  gone_part : each (removed_change m f after) l ≡ change m 0 (entry act.goes).name (f (entry act.goes)) 0
  gone_part = go (ltb act.goes (length l)) refl
    where
      go : (w : Bool) → ltb act.goes (length l) ≡ w
          → each (removed_change m f after) l ≡ change m 0 (entry act.goes).name (f (entry act.goes)) 0
      go true e = let b = ltb-true act.goes (length l) e in
          each_one (removed_change m f after) l act.goes no_carrier b (λ j i n. rw (live j i n)) ∙ rw (dead b)
      go false e = let b = ltb-false act.goes (length l) e in
          each_none (removed_change m f after) l no_carrier (λ j i. rw (live j i (omega arith)))
          ∙ sym (rw (get_or-eq_default l no_carrier b) (unchanged m 0 no_name (f no_carrier) 0 zeroed))

  own : (j : ℕ) → j < length l → record_in l (entry j).name ≡ entry j
  own j b = rw (where_one (has_name j) l j no_carrier b (name_same _ _ refl) (λ k i n. uniq k j i b n))

  as_was : (j : ℕ) → j < length l → live_change m f l (entry j) ≡ []
  as_was j b = unchanged m 0 _ _ _ (ap f (own j b))

  stay_part : each (live_change m f l) after ≡ change m 0 act.next.name (f (entry act.changes)) (f act.next)
  unfolding each
  stay_part = go (ltb act.changes (length l)) refl act.made refl
    where
      go : (w : Bool) → ltb act.changes (length l) ≡ w → (u : Bool) → act.made ≡ u
          → each (live_change m f l) (with_new u act.next staying)
          ≡ change m 0 act.next.name (f (entry act.changes)) (f act.next)
      go true e true q = let b = ltb-true act.changes (length l) e in let d = apt.lone q in absurd (omega arith)
      go true e false q = let b = ltb-true act.changes (length l) e in
          each_without_one (live_change m f l) changed act.goes act.changes no_carrier (rw long b) (apt.apart b)
          (λ j i n k. rw (get_or-set_other l act.changes j act.next no_carrier k) (as_was j (rw long at i)))
          ∙ rw (get_or-set_same l act.changes act.next no_carrier b, apt.named b, own act.changes b)
      go false e true q = let b = ltb-false act.changes (length l) e in
          let h = apt.fresh q in
          let z : length l ≤ length l = omega arith in
          rw (
            each_append,
            set_out l act.changes act.next b,
            each_without_none (live_change m f l) l act.goes no_carrier (λ j i n. as_was j i),
            append-nil,
            where_not (λ c. same_name c.name act.next.name) l no_carrier h,
            get_or-eq_default l no_carrier z,
            get_or-eq_default l no_carrier b,
          )
      go false e false q = let b = ltb-false act.changes (length l) e in
          rw (set_out l act.changes act.next b, each_without_none (live_change m f l) l act.goes no_carrier (λ j i n. as_was j i))
          (sym (rw (apt.none q b, get_or-eq_default l no_carrier b) (unchanged m 0 no_name (f no_carrier) (f no_carrier) refl)))

  carriers_touched : by_carrier m f l after
      ≡ record_touched m (entry act.goes).name (f (entry act.goes)) act.next.name (f (entry act.changes)) (f act.next)
  unfolding by_carrier record_touched
  carriers_touched = ap₂ ◌++◌ gone_part stay_part

-- ── Ports ──
spot_of_fact : (p : ℕ) → spot_of p < 4 → 1 + spot_of p ≡ p
spot_of_fact p h = go (ℕ_discrete p 0)
  where
    go : Dec (p ≡ 0) → 1 + spot_of p ≡ p
    go (yes e) = absurd (let z : spot_of p ≡ 4 = rw e in omega arith)
    go (no n) = let z : spot_of p ≡ p - 1 = rw (ne_eqb p 0 n) in omega arith

module _ (s : State) (act : Effect) (few : length s.ports ≤ 4) (apt : Apt s act) where
  abbrev k : ℕ
  k = spot_of act.port

  port_touched_fact : (d : ℕ → Port → Port → List Report) → ((p : ℕ) (x : Port) → d p x x ≡ [])
      → by_port d 1 s.ports (set s.ports k act.becomes) ≡ d act.port (port_of s act.port) act.becomes
  unfolding port_of
  port_touched_fact d still = go (ltb k (length s.ports)) refl
    where
      go : (w : Bool) → ltb k (length s.ports) ≡ w
          → by_port d 1 s.ports (set s.ports k act.becomes) ≡ d act.port (get_or s.ports k no_port) act.becomes
      go true e = let b = ltb-true k (length s.ports) e in
          one_port d still 1 s.ports k act.becomes b
          ∙ ap (λ p. d p (get_or s.ports k no_port) act.becomes) (spot_of_fact act.port (omega arith))
      go false e = let b = ltb-false k (length s.ports) e in
          rw (set_out s.ports k act.becomes b, apt.still b) (all_still d still 1 s.ports ∙ sym (still act.port _))

tie_still : (p : ℕ) (x : Port) → tie_change p x x ≡ []
tie_still p x = not_reported _ 4 p no_name _ _ (rw (name_same x.tie x.tie refl))

pub differences_touched : (s : State) (act : Effect) → length s.ports ≤ 4 → Distinct s.carriers → Apt s act
    → differences s (enact act s) ≡ touched (port_of s act.port) (record_of s act.goes) (record_of s act.changes) act
unfolding differences enact touched port_touched record_of
differences_touched s act few uniq apt = rw (
  port_touched_fact s act few apt transfer_change (λ k x. unchanged 1 k no_name x.transfer x.transfer refl),
  port_touched_fact s act few apt access_change (λ k x. unchanged 2 k no_name x.access x.access refl),
  port_touched_fact s act few apt reservation_change (λ k x. unchanged 3 k no_name x.reserved x.reserved refl),
  port_touched_fact s act few apt tie_change tie_still,
  carriers_touched 5 (λ c. c.id) refl s act uniq apt,
  carriers_touched 6 (λ c. c.slot) refl s act uniq apt,
  carriers_touched 7 (λ c. c.accessing) refl s act uniq apt,
)
    (simp append_assoc)
