-- Two pairs of rows that make a record and take it away: Bind and CancelBind, CarrierNotification and CancelCarrierNotification.
use Prim.Native.Nat.{ℕ, suc, ◌≤◌}
use native.Mathlib.Nat.{le_of_suc-le-suc}
use native.Mathlib.Omega.{arith}
use mathlib.Core.Path.{◌≡◌, refl, ap, ap₂, sym, ◌∙◌}
use mathlib.Core.Bool.{Bool, true, false, not, cond}
use mathlib.Core.List.{List, [], ◌∷◌, ◌++◌}
use lib.ListN.{length, set, length-set, length-append, get_or-eq_default}
use lib.Seq.{set_out, set-set, set-get_or, get_or-set_same, get_or-append_seam}
use lib.Dec.{eqb}
use borrow.Author.Tests.{eqb-true, leb-true, ltb-false, lt-ltb, eq-eqb, ne_eqb}
use Rattle.lists.specs.Lists.{where_is, without, between}
use Rattle.lists.proofs.Bools.{clash, and_l, and_r, or_l, or_r}
use Rattle.lists.proofs.Tests.{list_is}
use Rattle.lists.proofs.Tables.{without_out}
use Rattle.records.specs.declared.name.Name.{Name}
use Rattle.records.specs.declared.port.Port.{Port}
use Rattle.records.specs.declared.carrier.Carrier.{Carrier}
use Rattle.records.specs.Names.{no_name, is_name, same_name}
use Rattle.records.specs.Carriers.{no_carrier, new_carrier}
use Rattle.records.specs.Ports.{no_port, bound_to, unbound}
use Rattle.records.specs.Fields.{with_reserved, tied_to}
use Rattle.rules.specs.declared.row.Seen.{Seen}
use Rattle.rules.specs.declared.row.Effect.{Effect}
use Rattle.rules.specs.State.{State, spot_of, port_of, record_of}
use Rattle.rules.specs.Sound.{sound}
use Rattle.rules.specs.Seen.{Input, narrow, is_named, name_stands, see}
use Rattle.rules.specs.Row.{enact, on_port_and_gone}
use Rattle.rules.specs.Booking.{meant, meant_port, meant_stands, one_pair}
use Rattle.rules.specs.Rows.{row_of}
use Rattle.rules.specs.Outcome.{answer_in, state_after}
use Rattle.rules.specs.Undoing.{same_port, same_carrier, same_both, binding, announcing, TakenBack, Undoes}
use Rattle.rules.proofs.Names.{name_is, name_same}
use Rattle.rules.proofs.Accepts.{Clear}
use Rattle.rules.proofs.SoundParts.{facts}
use Rattle.rules.proofs.KeepSeen.{given_range, here_fits, nobody_tied}
use Rattle.rules.proofs.Undone.{and_none, paired, grounds_clear, state_is, taken_back}
use Rattle.rules.proofs.UndonePorts.{spot_within, Free, is_free}

-- ── A list with one more element ──
module _ {A : Type 0} where
  pub where_last : (f : A → Bool) (l : List A) (c : A) → length l ≤ where_is f l → f c ≡ true → where_is f (l ++ (c ∷ [])) ≡ length l
  unfolding where_is
  where_last f [] c h e = rw e
  where_last f (x ∷ l) c h e = go (f x) h (λ r. where_last f l c r e)
    where
      go : (b : Bool) → suc (length l) ≤ cond b 0 (suc (where_is f l)) → (length l ≤ where_is f l → where_is f (l ++ (c ∷ [])) ≡ length l)
          → cond b 0 (suc (where_is f (l ++ (c ∷ [])))) ≡ suc (length l)
      go true h r = absurd (omega arith)
      go false h r = ap suc (r (le_of_suc-le-suc h))

  pub without_last : (l : List A) (c : A) → without (length l) (l ++ (c ∷ [])) ≡ l
  unfolding without
  without_last [] c = refl
  without_last (x ∷ l) c = ap (λ r. x ∷ r) (without_last l c)

-- ── A record is made, and goes ──
-- n is the number of records
abbrev pub making : ℕ → ℕ → Port → Carrier → Effect
making n p q c = record { port = p; becomes = q; goes = n; changes = n; next = c; made = true }

-- the state with another port at p, and one more record
abbrev pub with_made : State → ℕ → Port → Carrier → State
with_made s p q c = record { ports = set s.ports (spot_of p) q; carriers = s.carriers ++ (c ∷ []); places = s.places }

pub made_enacted : (s : State) (p : ℕ) (q : Port) (c : Carrier) → enact (making (length s.carriers) p q c) s ≡ with_made s p q c
unfolding enact
made_enacted s p q c =
    rw (set_out s.carriers (length s.carriers) c (omega arith), without_out s.carriers (length s.carriers) (omega arith))

pub made_state : (s : State) (i : Input) (n : ℕ) → i.number ≡ n → answer_in s i ≡ 0
    → (p : ℕ) (q : Port) (c : Carrier) → (row_of n (see s i)).effect ≡ making (see s i).count p q c → state_after s i ≡ with_made s p q c
unfolding see
made_state s i n is a p q c e = state_is s i n is a ∙ ap (λ w. enact w s) e ∙ made_enacted s p q c

unmade : (s : State) (p : ℕ) (q : Port) (c : Carrier)
    → enact (on_port_and_gone (length (with_made s p q c).carriers) p (port_of s p) (length s.carriers)) (with_made s p q c) ≡ s
unfolding enact port_of
unmade s p q c =
    let l = s.carriers ++ (c ∷ []) in
    ap₂ (λ a b. record { ports = a; carriers = b; places = s.places })
    (set-set s.ports (spot_of p) q (port_of s p) ∙ set-get_or s.ports (spot_of p) no_port)
    (ap (without (length s.carriers)) (set_out l (length l) no_carrier (omega arith)) ∙ without_last s.carriers c)

-- a name that has no record, and room for one
pub record New (x : Seen) : Type 0 where
  pub named : x.named ≡ true
  pub known : x.known ≡ false
  pub full : x.full ≡ false

-- what the second row sees, of the same name
pub record Met (x y : Seen) (t : State) (j : Input) (c : Carrier) : Type 0 where
  pub count : y.count ≡ length t.carriers
  pub port : y.port ≡ narrow j.port
  pub isport : y.isport ≡ between 1 (narrow j.port) (length t.ports)
  pub named : y.named ≡ true
  pub blank : y.blank ≡ false
  pub stands : y.stands ≡ x.count
  pub known : y.known ≡ true
  pub found : y.found ≡ c
  pub home : y.home ≡ port_of t c.port

module _ (s : State) (i j : Input) (same : i.name ≡ j.name) (new : New (see s i)) (p : ℕ) (q : Port) (c : Carrier)
    (own : c.name ≡ (see s i).name) where
  abbrev t : State
  t = with_made s p q c

  stands_last : name_stands t (see s i).name ≡ length s.carriers
  unfolding see name_stands
  stands_last = where_last (is_named (see s i).name) s.carriers c (ltb-false _ _ new.known) (name_same _ _ own)

  pub met : Met (see s i) (see t j) t j c
  unfolding see record_of is_name
  met =
      let f : record_of t (name_stands t (see s i).name) ≡ c =
      ap (record_of t) stands_last ∙ get_or-append_seam s.carriers c [] no_carrier in
      let n = length-append s.carriers (c ∷ []) in
      let b = leb-true 1 (length i.name) (and_l _ _ (and_l _ _ new.named)) in
      rw (sym same) (record {
        count = refl;
        port = refl;
        isport = refl;
        named = new.named;
        blank = ne_eqb (length i.name) 0 (λ z. omega arith);
        stands = stands_last;
        known = rw stands_last (lt-ltb (length s.carriers) (length t.carriers) (omega arith));
        found = f;
        home = ap (λ (d : Carrier). port_of t d.port) f;
      })

  made_undone : (n m : ℕ) → i.number ≡ n → j.number ≡ m → answer_in s i ≡ 0 → (row_of n (see s i)).effect ≡ making (see s i).count p q c
      → ((y : Seen) → Met (see s i) y t j c
      → Clear (row_of m y).grounds × ((row_of m y).effect ≡ on_port_and_gone y.count p (port_of s p) (see s i).count))
      → TakenBack s i j
  unfolding see
  made_undone n m is js a e f =
      let g = f (see t j) met in
      taken_back s t i j m js (made_state s i n is a p q c e) g.0
      (ap (λ w. enact w t) g.1 ∙ unmade s p q c)

-- ── What acceptance says ──
module _ (s : State) (h : sound s ≡ true) (i : Input) where
  pub announce_found : answer_in s i ≡ 0 → i.number ≡ 3 → New (see s i)
  unfolding row_of
  announce_found a n = let c = grounds_clear s i 3 n a in record { named = c.0; known = c.1.0; full = c.1.1.0 }

  pub bind_new : answer_in s i ≡ 0 → i.number ≡ 1 → New (see s i)
  unfolding row_of
  bind_new a n = let c = grounds_clear s i 1 n a in record { named = c.1.0; known = c.1.1.0; full = c.1.1.1.1.1.0 }

  pub bind_found : answer_in s i ≡ 0 → i.number ≡ 1 → Free (see s i)
  unfolding row_of
  bind_found a n =
      let c = grounds_clear s i 1 n a in
      is_free (see s i) (here_fits s i (facts s h)) c.0 c.1.1.1.0 c.1.1.1.1.0

  -- a port that no record is tied to has no tie
  pub no_tie : (see s i).isport ≡ true → (see s i).tied ≡ false → (see s i).here.tie ≡ no_name
  unfolding see
  no_tie p t = go (same_name (see s i).here.tie no_name) refl
    where
      go : (w : Bool) → same_name (see s i).here.tie no_name ≡ w → (see s i).here.tie ≡ no_name
      go true e = name_is _ _ e
      go false e =
          let f = facts s h in
          let b = (given_range s i f p).0 in
          let k = f.held (see s i).port b (λ z. clash (name_same _ _ z) e) in
          absurd (nobody_tied s i f t b k.0 k.1 k.2)

-- ── CarrierNotification and CancelCarrierNotification ──
pub announcing_undone : Undoes announcing
unfolding row_of same_carrier port_of
announcing_undone s i j h p w a =
    let r = paired announcing i j p in
    let g = announce_found s h i a r.row in
    let z : port_of s 0 ≡ no_port = get_or-eq_default s.ports no_port (facts s h).few_ports in
    made_undone s i j (list_is _ _ r.alike) g 0 no_port (new_carrier (see s i).name 0) refl 3 4 r.row r.undoing a refl
    (λ y o. ((o.named, (o.known, (rw o.found, tt))), ap₂ (on_port_and_gone y.count 0) (sym z) o.stands))

-- ── Bind and CancelBind ──
-- the port that is bound, and then unbound, is as it was
unbound_again : (q : Port) (n : Name) → q.reserved ≡ 0 → q.tie ≡ no_name → unbound (bound_to n q) ≡ q
unbound_again q n e d = ap₂ (λ v m. tied_to m (with_reserved v q)) (sym e) (sym d)

-- what was bound is one pair
bound_pair : (y : Seen) (n : Name) (p : ℕ) (q : Port) → 1 ≤ p → y.port ≡ p → q.movement ≡ 0 → one_pair y (new_carrier n p) q ≡ true
unfolding one_pair
bound_pair y n p q b e z = rw (ne_eqb p 0 (λ e. omega arith), and_none (not y.noport) (ap not (eq-eqb _ _ e)), eq-eqb _ 0 z)

pub binding_undone : Undoes binding
unfolding row_of same_both same_port same_carrier see port_of meant meant_port meant_stands one_pair
binding_undone s i j h p w a =
    let r = paired binding i j p in
    let x = see s i in
    let g = bind_found s h i a r.row in
    let b = given_range s i (facts s h) g.ready.isport in
    let e : narrow j.port ≡ x.port = ap narrow (sym (eqb-true i.port j.port (and_l _ _ r.alike))) in
    let q = bound_to x.name x.here in
    let l = get_or-set_same s.ports (spot_of x.port) q no_port (spot_within _ _ b.0 b.1) in
    let k = unbound_again x.here x.name g.reserved (no_tie s h i g.ready.isport g.tied) in
    made_undone s i j (list_is _ _ (and_r (eqb i.port j.port) _ r.alike)) (bind_new s h i a r.row) x.port q
    (new_carrier x.name x.port) refl 1 2 r.row r.undoing a refl
    (λ y o.
    let u : y.isport ≡ true = o.isport ∙ rw (e, length-set s.ports (spot_of x.port) q) g.ready.isport in
    let c = bound_pair y x.name x.port q b.0 (o.port ∙ e) g.ready.movement in
    let d : one_pair y (meant y) (meant_port y) ≡ true = rw (o.blank, o.found, o.home ∙ l) c in (
      (or_l _ u, (or_r y.blank o.named, (and_none y.noport o.blank, (or_r y.blank o.known, (d, tt))))),
      rw (o.blank, o.found, o.home ∙ l, o.stands) (ap (λ q. on_port_and_gone y.count x.port q x.count) k),
    ))
