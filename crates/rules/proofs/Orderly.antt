-- A sound state is orderly: names, ties and places differ, and no more than P + B + 16 carriers are live.
use Prim.Native.Nat.{ℕ, zero, suc, ◌+◌, ◌≤◌, ◌<◌, suc-le-suc}
use native.Mathlib.Omega.{arith}
use mathlib.Core.Path.{◌≡◌, refl, ap, sym, ◌∙◌}
use mathlib.Core.Logic.{◌≢◌}
use mathlib.Core.Bool.{true, cond}
use mathlib.Core.List.{List, [], ◌∷◌}
use lib.ListN.{length, get_or}
use lib.Dec.{eqb}
use borrow.Author.Tests.{eqb-true}
use Rattle.lists.specs.Lists.{how_many}
use Rattle.lists.proofs.Parts.{pigeonhole}
use Rattle.records.specs.declared.carrier.Carrier.{Carrier}
use Rattle.records.specs.Carriers.{no_carrier, expected, at_port, in_buffer}
use Rattle.rules.specs.State.{State, port_of, record_of}
use Rattle.rules.specs.Sound.{sound}
use Rattle.rules.specs.Promise.{Live, Orderly}
use Rattle.rules.proofs.SoundParts.{Facts, facts}

-- no two records are tied to one port
pub ties_differ_fact : (s : State) → Facts s → (j k : ℕ) → Live s j → Live s k → (record_of s j).port ≢ 0
    → (record_of s j).port ≡ (record_of s k).port → j ≡ k
ties_differ_fact s f j k a b n e =
    f.names j k a b (sym (f.kept j a n) ∙ ap (λ p. (port_of s p).tie) e ∙ f.kept k b (λ z. n (e ∙ z)))

-- in the buffer, one has a place, and no other has it
spots_differ : (s : State) → Facts s → (j k : ℕ) → Live s j → Live s k → in_buffer (record_of s j) ≡ true
    → (record_of s j).spot ≡ (record_of s k).spot → j ≡ k
spots_differ s f j k a b t e = let r = (f.records j a).stands.in_spot (eqb-true _ 2 t) in f.spots j k a b (λ z. omega arith) e

pub orderly : (s : State) → sound s ≡ true → Orderly s
orderly s h =
    let f = facts s h in
    record {
      names_differ = f.names;
      carrier_tie = f.kept;
      port_tie = λ p a n.
          let t = f.held p a n in
          (t.0, t.1, t.2, sym (f.kept t.0 t.1 (λ z. let e = t.2 in omega arith)) ∙ ap (λ q. (port_of s q).tie) t.2);
      ties_differ = ties_differ_fact s f;
      ports_differ = λ k b t z. let o = (f.records k b).stands.at_tied (eqb-true _ 1 t) in omega arith;
      places_differ = λ j k a b t _. spots_differ s f j k a b t;
    }

-- ── The bound ──
-- each record is expected, at a port or in the buffer
three_kinds : (l : List Carrier) → ((j : ℕ) → j < length l → (get_or l j no_carrier).place ≤ 2)
    → length l ≡ how_many expected l + (how_many at_port l + how_many in_buffer l)
unfolding how_many
three_kinds [] h = refl
three_kinds (c ∷ l) h = go c.place (h 0 (omega arith)) (three_kinds l (λ j b. h (suc j) (suc-le-suc b)))
  where
    go : (p : ℕ) → p ≤ 2 → length l ≡ how_many expected l + (how_many at_port l + how_many in_buffer l)
        → suc (length l)
        ≡ (cond (eqb p 0) 1 0 + how_many expected l) + ((cond (eqb p 1) 1 0 + how_many at_port l) + (cond (eqb p 2) 1 0 + how_many in_buffer l))
    go zero b e = omega arith
    go (suc zero) b e = omega arith
    go (suc (suc zero)) b e = omega arith
    go (suc (suc (suc p))) b e = absurd (omega arith)

-- at ports no more than there are ports, in the buffer no more than there are places
module _ (s : State) (f : Facts s) where
  pub few_at_ports : how_many at_port s.carriers ≤ length s.ports
  unfolding record_of
  few_at_ports =
      pigeonhole (λ c. c.port) no_carrier (length s.ports) at_port s.carriers
      (λ j b t. let r = (f.records j b).stands in (r.at_tied (eqb-true _ 1 t), r.port_range))
      (λ i j a b p q e. let r = (f.records i a).stands.at_tied (eqb-true _ 1 p) in ties_differ_fact s f i j a b (λ z. omega arith) e)

  few_in_buffer : how_many in_buffer s.carriers ≤ s.places
  unfolding record_of
  few_in_buffer =
      pigeonhole (λ c. c.spot) no_carrier s.places in_buffer s.carriers
      (λ j b t. let r = (f.records j b).stands.in_spot (eqb-true _ 2 t) in (r.0, r.1))
      (λ i j a b p q e. spots_differ s f i j a b p e)

  pub bounded_by : length s.carriers ≤ length s.ports + s.places + 16
  unfolding record_of
  bounded_by =
      let e = three_kinds s.carriers (λ j b. (f.records j b).stands.place_range) in
      let a = few_at_ports in
      let b = few_in_buffer in
      let c = f.few in
      omega arith

pub bounded : (s : State) → sound s ≡ true → length s.carriers ≤ length s.ports + s.places + 16
bounded s h = bounded_by s (facts s h)
