-- Every input keeps a sound state sound.
use Prim.Native.Nat.{ℕ, ◌<◌}
use native.Mathlib.Omega.{arith}
use mathlib.Core.Path.{◌≡◌, refl, ◌∙◌}
use mathlib.Core.Bool.{Bool, true, false, not, cond, ◌||◌}
use mathlib.Core.List.{List}
use lib.ListN.{length, get_or}
use lib.Dec.{eqb}
use borrow.Author.Tests.{eqb-true, eqb-false}
use Rattle.lists.proofs.Bools.{clash, and_l, and_r, not_true}
use Rattle.records.specs.declared.carrier.Carrier.{Carrier}
use Rattle.records.specs.Carriers.{no_carrier, expected, at_port}
use Rattle.rules.specs.declared.row.Effect.{Effect}
use Rattle.rules.specs.State.{State, record_of}
use Rattle.rules.specs.Row as row
use Rattle.rules.proofs.SoundParts.{Facts, Stands}
use Rattle.follow.specs.Follow.{followed}
use Rattle.prediction.specs.declared.prediction.Prediction.{Prediction}
use Rattle.prediction.specs.Model.{waiting_for_carrier}
use Rattle.prediction.specs.Predictions.{no_prediction, new_prediction}
use Rattle.prediction.specs.State.{is_fixed, first_prediction}
use Rattle.prediction.specs.Sound.{in_range, left_at_port, fits, is_none}
use Rattle.prediction.proofs.Fitting.{Nearly}
use Rattle.prediction.proofs.Pairs.{Pairs, Fit, pairs_without, pairs_new, pairs_set, pairs_use}
use Rattle.prediction.proofs.Effects.{Changes}

-- ── What a pair keeps, by whether the tool is a fixed buffer tool ──
-- a prediction that fits but for what ready asks, or none
pub record Near (fixed : Bool) (c : Carrier) (p : Prediction) : Type 0 where
  pub near : fixed ≡ true → Nearly c p
  pub none : fixed ≡ false → is_none p ≡ true

-- the same where it isn't known yet where a carrier is placed
pub record Kept (fixed : Bool) (c : Carrier) (p : Prediction) : Type 0 where
  pub range : fixed ≡ true → in_range p ≡ true
  pub placed : fixed ≡ true → (eqb p.state waiting_for_carrier || not (expected c)) ≡ true
  pub none : fixed ≡ false → is_none p ≡ true

-- what fits is near
pub fit_near : (s : State) (c : Carrier) (p : Prediction) → Fit s c p → Near (is_fixed s) c p
unfolding fits
fit_near s c p h = go (is_fixed s) h
  where
    go : (b : Bool) → cond b (fits s c p) (is_none p) ≡ true → Near b c p
    go true h = record { near = λ _. record { range = and_l _ _ (and_l _ _ h); left = and_r (in_range p) _ (and_l _ _ h) }; none = λ e. clash refl e }
    go false h = record { near = λ e. clash e refl; none = λ _. h }

-- and what is near is kept, where a carrier at a port isn't expected
near_kept : (b : Bool) (c : Carrier) (p : Prediction) → Near b c p → Kept b c p
unfolding left_at_port
near_kept b c p h = record {
  range = λ e. (h.near e).range;
  placed = λ e. go (eqb p.state waiting_for_carrier) (h.near e).left;
  none = h.none;
}
  where
    go : (w : Bool) → (w || at_port c) ≡ true → (w || not (expected c)) ≡ true
    go true e = refl
    go false e = rw (eqb-true c.place 1 e)

-- ── One effect on the records ──
new_kept : (s : State) (c : Carrier) → Kept (is_fixed s) c (first_prediction s)
unfolding first_prediction in_range is_none
new_kept s c = go (is_fixed s)
  where
    go : (b : Bool) → Kept b c (cond b new_prediction no_prediction)
    go true = record { range = λ _. refl; placed = λ _. refl; none = λ e. clash refl e }
    go false = record { range = λ e. clash e refl; placed = λ e. clash e refl; none = λ _. refl }

module _ (s : State) (e : Effect)
    (awaits : e.changes < length s.carriers → expected e.next ≡ true → expected (record_of s e.changes) ≡ true) where
  changed_kept : (b : Bool) → e.changes < length s.carriers → (p : Prediction) → Kept b (get_or s.carriers e.changes no_carrier) p
      → Kept b e.next p
  unfolding record_of
  changed_kept b l p h = record {
    range = h.range;
    placed = λ f. go (eqb p.state waiting_for_carrier) (h.placed f);
    none = h.none;
  }
    where
      still : (v : Bool) → expected e.next ≡ v → not (expected (get_or s.carriers e.changes no_carrier)) ≡ true → not v ≡ true
      still true o g = clash (awaits l o) (not_true _ g)
      still false o g = refl

      go : (w : Bool) → (w || not (expected (get_or s.carriers e.changes no_carrier))) ≡ true → (w || not (expected e.next)) ≡ true
      go true g = refl
      go false g = still (expected e.next) refl g

  pub effect_keeps : (b : Bool) (n : Prediction) (ps : List Prediction) → Pairs (Kept b) s.carriers ps → Kept b e.next n
      → Pairs (Kept b) (row.enact e s).carriers (followed e.goes e.made n ps)
  unfolding row.enact followed
  effect_keeps b n ps h k =
      pairs_new e.made e.next n (pairs_without e.goes (pairs_set e.changes e.next h (changed_kept b))) (λ _. k)

-- after any change of the records, each pair is kept
pub pairs_kept : (s t : State) (goes : ℕ) (made : Bool) → Changes s t goes made → (ps : List Prediction) → Pairs (Fit s) s.carriers ps
    → Pairs (Kept (is_fixed s)) t.carriers (followed goes made (first_prediction s) ps)
pairs_kept s t goes made c ps h =
    let e = c.effect in
    let k : Pairs (Kept (is_fixed s)) s.carriers ps =
    pairs_use h (λ j b p f. near_kept (is_fixed s) _ p (fit_near s _ p f)) in
    rw (c.leads, c.goes_so, c.made_so)
    (effect_keeps s e c.awaits (is_fixed s) (first_prediction s) ps k (new_kept s e.next))

-- ── In a sound state of a fixed buffer tool whoever isn't expected is at a port ──
pub placed_there : (t : State) → Facts t → is_fixed t ≡ true → (k : ℕ) → k < length t.carriers → expected (record_of t k) ≡ false
    → at_port (record_of t k) ≡ true
placed_there t f b k l e =
    let c = record_of t k in
    let g = (f.records k l).stands in
    let z = eqb-true t.places 0 b in
    go (at_port c) refl g z (eqb-false c.place 0 e)
  where
    c : Carrier
    c = record_of t k

    go : (w : Bool) → at_port c ≡ w → Stands (length t.ports) t.places c.place c.spot c.port → t.places ≡ 0
        → (c.place ≡ 0 → ⊥) → w ≡ true
    go true w g z o = refl
    go false w g z o =
        let p = g.place_range in
        let q = eqb-false c.place 1 w in
        let two : c.place ≡ 2 = omega (arith, q, o) in
        let r = g.in_spot two in
        let u = r.0 in
        let v = r.1 in
        absurd (omega arith)

pub kept_near : (t : State) → Facts t → (b : Bool) → is_fixed t ≡ b → (ps : List Prediction) → Pairs (Kept b) t.carriers ps
    → Pairs (Near b) t.carriers ps
unfolding record_of left_at_port
kept_near t f b q ps h =
    pairs_use h (λ k l p g. record {
      near = λ e. record { range = g.range e; left = go k l p (eqb p.state waiting_for_carrier) (g.placed e) (q ∙ e) };
      none = g.none;
    })
  where
    go : (k : ℕ) → k < length t.carriers → (p : Prediction) (w : Bool) → (w || not (expected (get_or t.carriers k no_carrier))) ≡ true
        → is_fixed t ≡ true → (w || at_port (get_or t.carriers k no_carrier)) ≡ true
    go k l p true g e = refl
    go k l p false g e = placed_there t f e k l (not_true _ g)
