-- From the facts of a sound state back to soundness' tests.
use Prim.Native.Nat.{ℕ, ◌≤◌}
use native.Mathlib.Omega.{arith}
use mathlib.Core.Path.{◌≡◌, refl, sym, ◌∙◌}
use mathlib.Core.Logic.{◌≢◌}
use mathlib.Core.Bool.{Bool, true, false, not, ◌&&◌, ◌||◌}
use lib.Dec.{eqb, leb}
use borrow.Author.Tests.{eqb-true, eqb-false, leb-true, eq-eqb, ne_eqb, le-leb}
use Rattle.lists.specs.Lists.{between}
use Rattle.lists.proofs.Bools.{clash, and_i, or_l, or_false_l, or_false_r, not_false}
use Rattle.records.specs.declared.port.Port.{Port}
use Rattle.records.specs.declared.carrier.Carrier.{Carrier}
use Rattle.records.specs.Names.{no_name, same_name}
use Rattle.records.specs.Ports.{idle, blocked, loading, has_pod}
use Rattle.records.specs.Carriers.{at_port, in_buffer, untied, is_open}
use Rattle.rules.specs.Sound.{port_in_range, spot_in_range, status_in_range, carrier_in_range, other_name, tie_kept, tie_held}
use Rattle.rules.specs.Sound.{place_agrees, other_spot, port_agrees, open_agrees}
use Rattle.rules.proofs.Names.{name_is, name_same, name_sym}
use Rattle.rules.proofs.SoundParts.{PortFits, Stands, Fits, Shown}

-- tests that hold, in the order of the definition that joins them
infixl 30 ◌and◌
pub ◌and◌ : {a b : Bool} → a ≡ true → b ≡ true → (a && b) ≡ true
◌and◌ = and_i

-- a test that holds where another fails, or where another holds
or_if : (a b : Bool) → (a ≡ false → b ≡ true) → (a || b) ≡ true
or_if true b f = refl
or_if false b f = f refl

imply : (a b : Bool) → (a ≡ true → b ≡ true) → (not a || b) ≡ true
imply a b f = or_if (not a) b (λ e. f (not_false a e))

-- ── Of a port ──
pub port_in_range_fact : (q : Port) → PortFits q → port_in_range q ≡ true
unfolding port_in_range
port_in_range_fact q h =
    le-leb _ _ h.transfer and le-leb _ _ h.access and le-leb _ _ h.reserved and h.tie
    and le-leb _ _ h.movement and le-leb _ _ h.pod and le-leb _ _ h.tag

pub port_agrees_fact : (q : Port) → PortFits q → port_agrees q ≡ true
unfolding port_agrees
port_agrees_fact q h =
    or_if (idle q) (blocked q) (λ e. eq-eqb q.transfer 3 (h.moving (eqb-false q.movement 0 e)))
    and imply (leb q.transfer 1 || loading q) (not (has_pod q)) (λ t. rw (ne_eqb q.pod 1 (empty (leb q.transfer 1) refl t)))
  where
    empty : (w : Bool) → leb q.transfer 1 ≡ w → (w || loading q) ≡ true → q.pod ≢ 1
    empty true e t = h.low (leb-true q.transfer 1 e)
    empty false e t = h.load (eqb-true q.movement 1 t)

pub tie_held_fact : (q : Port) (held : Bool) → (q.tie ≢ no_name → held ≡ true) → tie_held q held ≡ true
unfolding tie_held
tie_held_fact q held f = or_if (same_name q.tie no_name) held (λ e. f (λ z. clash (name_same _ _ z) e))

-- ── Of a record ──
spot_in_range_fact : (P B : ℕ) (c : Carrier) → Stands P B c.place c.spot c.port → spot_in_range B c ≡ true
unfolding spot_in_range
spot_in_range_fact P B c h = go (in_buffer c) refl
  where
    go : (w : Bool) → in_buffer c ≡ w → ((w && between 1 c.spot B) || (not w && eqb c.spot 0)) ≡ true
    go true e = let r = h.in_spot (eqb-true c.place 2 e) in or_l _ (le-leb 1 c.spot r.0 and le-leb c.spot B r.1)
    go false e = eq-eqb c.spot 0 (h.no_spot (eqb-false c.place 2 e))

status_in_range_fact : (v : ℕ) → (1 ≤ v) × (v ≤ 4) → status_in_range v ≡ true
unfolding status_in_range
status_in_range_fact v h = le-leb 1 v h.0 and le-leb v 4 h.1

pub carrier_in_range_fact : (P B : ℕ) (c : Carrier) → Fits P B c → carrier_in_range P B c ≡ true
unfolding carrier_in_range
carrier_in_range_fact P B c h =
    h.named and le-leb _ _ h.stands.place_range and spot_in_range_fact P B c h.stands and le-leb _ _ h.stands.port_range
    and le-leb _ _ h.opened and le-leb _ _ h.cancelled and le-leb _ _ h.cameout and h.map
    and status_in_range_fact _ h.id and status_in_range_fact _ h.slot and status_in_range_fact _ h.accessing

pub place_agrees_fact : (P B : ℕ) (c : Carrier) → Stands P B c.place c.spot c.port → place_agrees c ≡ true
unfolding place_agrees
place_agrees_fact P B c h =
    imply (at_port c) (not (untied c)) (λ t. rw (ne_eqb c.port 0 (λ z. let r = h.at_tied (eqb-true c.place 1 t) in omega arith)))
    and imply (in_buffer c) (untied c) (λ t. eq-eqb c.port 0 (h.in_free (eqb-true c.place 2 t)))

pub open_agrees_fact : (q : Port) (c : Carrier) → Shown q c → open_agrees q c ≡ true
unfolding open_agrees
open_agrees_fact q c h = or_if (not (is_open c) || in_buffer c) (at_port c && idle q && blocked q) (λ e.
    let o = not_false (is_open c) (or_false_l _ _ e) in
    let r = h o (eqb-false c.place 2 (or_false_r (not (is_open c)) _ e)) in
    eq-eqb c.place 1 r.0 and r.1 and r.2)

pub tie_kept_fact : (q : Port) (c : Carrier) → (c.port ≢ 0 → q.tie ≡ c.name) → tie_kept q c ≡ true
unfolding tie_kept
tie_kept_fact q c f = or_if (untied c) (same_name q.tie c.name) (λ e. name_same _ _ (f (eqb-false c.port 0 e)))

-- ── Of two records ──
pub other_name_fact : (c d : Carrier) → c.name ≢ d.name → other_name c d ≡ true
unfolding other_name
other_name_fact c d n = go (same_name c.name d.name) refl
  where
    go : (w : Bool) → same_name c.name d.name ≡ w → not w ≡ true
    go true e = absurd (n (name_is _ _ e))
    go false e = refl

pub other_spot_fact : (c d : Carrier) → (c.spot ≢ 0 → c.spot ≢ d.spot) → other_spot c d ≡ true
unfolding other_spot
other_spot_fact c d n = or_if (eqb c.spot 0) (not (eqb c.spot d.spot)) (λ e. rw (ne_eqb c.spot d.spot (n (eqb-false _ 0 e))))

pub other_name_turn : (c d : Carrier) → other_name c d ≡ true → other_name d c ≡ true
unfolding other_name
other_name_turn c d e = rw (name_sym d.name c.name) e

pub other_spot_turn : (c d : Carrier) → other_spot c d ≡ true → other_spot d c ≡ true
unfolding other_spot
other_spot_turn c d e =
    other_spot_fact d c (λ n z. n (z ∙ eqb-true c.spot 0 (either (eqb c.spot 0) (rw (eq-eqb c.spot d.spot (sym z)) at e))))
  where
    either : (w : Bool) → (w || false) ≡ true → w ≡ true
    either true e = refl
    either false e = e
