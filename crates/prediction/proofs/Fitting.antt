-- A prediction that moves along fits its carrier afterwards.
use Prim.Native.Nat.{ℕ, ◌≤◌}
use native.Mathlib.Omega.{arith}
use mathlib.Core.Path.{◌≡◌, refl}
use mathlib.Core.Bool.{Bool, true, false, not, cond, ◌&&◌, ◌||◌}
use lib.Dec.{eqb, leb}
use borrow.Author.Tests.{eqb-true, leb-true}
use Rattle.lists.specs.Lists.{between}
use Rattle.lists.proofs.Bools.{and_l, and_r, and_i, or_r, or_other}
use Rattle.records.specs.declared.carrier.Carrier.{Carrier}
use Rattle.records.specs.Carriers.{at_port}
use Rattle.rules.specs.State.{State}
use Rattle.prediction.specs.declared.prediction.Prediction.{Prediction}
use Rattle.prediction.specs.declared.prediction.Facts.{Facts}
use Rattle.prediction.specs.Model.{course, last_of, waiting_for_carrier, predicted, aborted, passed, next}
use Rattle.prediction.specs.Sound.{in_range, is_ready, left_at_port, not_overdue, fits, is_none}
use Rattle.prediction.specs.Outcome.{along}
use Rattle.prediction.proofs.Modelled.{ready_ends, stays_one, left_by_taken_fact}

-- all that is asked of a prediction but what ready asks
pub record Nearly (c : Carrier) (p : Prediction) : Type 0 where
  pub range : in_range p ≡ true
  pub left : left_at_port c p ≡ true

module _ (s : State) (c : Carrier) (p : Prediction) (f : Facts) (h : Nearly c p) (r : f.ready ≡ is_ready s c)
    (t : f.taken ≡ true → at_port c ≡ true) where
  abbrev last : ℕ
  last = last_of p.state (course f p.state)

  in_model : between 1 p.state 6 ≡ true
  unfolding in_range
  in_model = and_l _ _ (and_l _ _ h.range)

  small : p.state ≤ 6
  small = leb-true _ 6 (and_r (leb 1 p.state) _ in_model)

  some : eqb p.state 0 ≡ false
  some = go (eqb p.state 0) refl
    where
      go : (w : Bool) → eqb p.state 0 ≡ w → w ≡ false
      go true e = let z = eqb-true p.state 0 e in let l = leb-true 1 p.state (and_l _ _ in_model) in absurd (omega arith)
      go false e = refl

  range_then : in_range (along f p).prediction ≡ true
  unfolding in_range
  range_then =
      let a = h.range in
      and_i (and_i (rw some at (stays_one p.state small f)) (and_r (between 1 p.state 6) _ (and_l _ _ a)))
      (and_r (between 1 p.state 6 && _) _ a)

  left_then : left_at_port c (along f p).prediction ≡ true
  unfolding left_at_port
  left_then = go (eqb p.state waiting_for_carrier) refl (left_by_taken_fact p.state small f) h.left
    where
      either : (w : Bool) → (w || f.taken) ≡ true → (w || at_port c) ≡ true
      either true g = refl
      either false g = t g

      go : (w : Bool) → eqb p.state waiting_for_carrier ≡ w
          → cond w (eqb last waiting_for_carrier || f.taken) (not (eqb last waiting_for_carrier)) ≡ true
          → (w || at_port c) ≡ true → (eqb last waiting_for_carrier || at_port c) ≡ true
      go true e g l = either (eqb last waiting_for_carrier) g
      go false e g l = or_r (eqb last waiting_for_carrier) l

  ready_then : not_overdue s c (along f p).prediction ≡ true
  unfolding not_overdue
  ready_then = go (is_ready s c) r (ready_ends p.state small f)
    where
      ends : (b : Bool) → not b ≡ true → not (b && true) ≡ true
      ends true g = g
      ends false g = refl

      neither : (b : Bool) → not (b && false) ≡ true
      neither true = refl
      neither false = refl

      go : (w : Bool) → f.ready ≡ w → (not f.ready || not (eqb last predicted || eqb last aborted)) ≡ true
          → not ((eqb last predicted || eqb last aborted) && w) ≡ true
      go true e g = ends (eqb last predicted || eqb last aborted) (or_other (not f.ready) _ g (rw e))
      go false e g = neither (eqb last predicted || eqb last aborted)

  pub fits_along : fits s c (along f p).prediction ≡ true
  unfolding fits
  fits_along = and_i (and_i range_then left_then) ready_then

stays_none : (f : Facts) → last_of 0 (course f 0) ≡ 0
unfolding passed next last_of
stays_none f = refl

-- no prediction stays none
pub none_along : (p : Prediction) (f : Facts) → is_none p ≡ true → is_none (along f p).prediction ≡ true
unfolding is_none
none_along p f h =
    let z : p.state ≡ 0 = eqb-true _ 0 (and_l _ _ (and_l _ _ (and_l _ _ (and_l _ _ h)))) in
    let e : last_of p.state (course f p.state) ≡ 0 = rw z (stays_none f) in
    rw e (rw z at h)
