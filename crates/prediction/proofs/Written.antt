-- What the transitions of a carrier ask by what an input does, and what an input writes of its prediction.
use Prim.Native.Nat.{ℕ}
use mathlib.Core.Path.{◌≡◌, refl}
use mathlib.Core.Bool.{Bool, true, false, not, cond, ◌&&◌, ◌||◌}
use lib.Dec.{eqb}
use borrow.Author.Tests.{eqb-true}
use Rattle.lists.specs.Lists.{between}
use Rattle.lists.proofs.Bools.{clash, and_l, and_r, and_i}
use Rattle.records.specs.declared.carrier.Carrier.{Carrier}
use Rattle.records.specs.Carriers.{at_port}
use Rattle.rules.specs.State.{State}
use Rattle.prediction.specs.declared.prediction.Prediction.{Prediction}
use Rattle.prediction.specs.declared.prediction.Facts.{Facts}
use Rattle.prediction.specs.Model.{waiting_for_carrier}
use Rattle.prediction.specs.declared.prediction.Times.{Times}
use Rattle.prediction.specs.Predictions.{with_tp, with_te, as_it_is, on_judging}
use Rattle.prediction.specs.State.{is_fixed}
use Rattle.prediction.specs.Sound.{is_time, time_or_none, in_range, is_ready, left_at_port, fits, is_none}
use Rattle.prediction.specs.Outcome.{is_timed, along, cancels, written, own_facts, all_facts}
use Rattle.prediction.proofs.Fitting.{Nearly, fits_along, none_along}
use Rattle.prediction.proofs.Pairs.{Fit}
use Rattle.prediction.proofs.SoundRuns.{Near}

-- ── What the transitions ask ──
-- one of four
among : (Q : Facts → Type 0) (a b c d : Facts) → Q a → Q b → Q c → Q d → (u v w : Bool) → Q (cond u a (cond v b (cond w c d)))
among Q a b c d e f g h true v w = e
among Q a b c d e f g h false true w = f
among Q a b c d e f g h false false true = g
among Q a b c d e f g h false false false = h

pub own_ready : (n : ℕ) (t : Times) (p : Prediction) (b : Bool) → (own_facts n t p b).ready ≡ b
unfolding own_facts
own_ready n t p b = among (λ f. f.ready ≡ b) _ _ _ _ refl refl refl refl (eqb n 6) (eqb n 21) (eqb n 34)

-- only the first two
taken_so : (a b c d : Facts) → c.taken ≡ false → d.taken ≡ false → (u v w : Bool) → (cond u a (cond v b (cond w c d))).taken ≡ true
    → (u || v) ≡ true
taken_so a b c d g h true v w e = refl
taken_so a b c d g h false true w e = refl
taken_so a b c d g h false false true e = clash e g
taken_so a b c d g h false false false e = clash e h

pub own_taken : (n : ℕ) (t : Times) (p : Prediction) (b : Bool) → (own_facts n t p b).taken ≡ true → (eqb n 6 || eqb n 21) ≡ true
unfolding own_facts
own_taken n t p b = taken_so _ _ _ _ refl refl (eqb n 6) (eqb n 21) (eqb n 34)

pub all_ready : (n : ℕ) (t : Times) (s : State) (c : Carrier) (p : Prediction) → (all_facts n t s c p).ready ≡ is_ready s c
unfolding all_facts
all_ready n t s c p = go (is_timed n)
  where
    go : (w : Bool) → (cond w (on_judging t p (is_ready s c)) (as_it_is (is_ready s c))).ready ≡ is_ready s c
    go true = refl
    go false = refl

pub all_untaken : (n : ℕ) (t : Times) (s : State) (c : Carrier) (p : Prediction) → (all_facts n t s c p).taken ≡ false
unfolding all_facts
all_untaken n t s c p = go (is_timed n)
  where
    go : (w : Bool) → (cond w (on_judging t p (is_ready s c)) (as_it_is (is_ready s c))).taken ≡ false
    go true = refl
    go false = refl

-- ── One that moves along, whatever the tool ──
module _ (t : State) (c : Carrier) (p : Prediction) (f : Facts) (r : f.ready ≡ is_ready t c) (k : is_fixed t ≡ true → f.taken ≡ true → at_port c ≡ true)
  where
    pub near_fit : Near (is_fixed t) c p → Fit t c (along f p).prediction
    near_fit h = go (is_fixed t) refl
      where
        go : (b : Bool) → is_fixed t ≡ b → cond b (fits t c (along f p).prediction) (is_none (along f p).prediction) ≡ true
        go true e = fits_along t c p f (h.near e) r (k e)
        go false e = none_along p f (h.none e)

-- what is written leaves the state
pub same_state : (n : ℕ) (t : Times) (x : ℕ) (p : Prediction) → (written n t x p).state ≡ p.state
unfolding written
same_state n t x p = go (eqb n 6) (eqb n 32) (eqb n 33)
  where
    cancelled : (w : Bool) → (cond w (with_tp t.now p) p).state ≡ p.state
    cancelled true = refl
    cancelled false = refl

    go : (u v w : Bool) → (cond u (cancels t p) (cond v (with_tp x p) (cond w (with_te x p) p))).state ≡ p.state
    go true v w = cancelled (eqb p.state waiting_for_carrier && not (eqb t.setting 0))
    go false true w = refl
    go false false true = refl
    go false false false = refl

-- ── What an input writes stays in range ──
time_there : (x : ℕ) → is_time x ≡ true → time_or_none 1 x ≡ true
time_there x t = and_i (and_i refl t) refl

module _ (c : Carrier) (p : Prediction) where
  abbrev model : Bool
  model = between 1 p.state 6

  abbrev tp_fine : Bool
  tp_fine = time_or_none p.known p.tp

  abbrev te_fine : Bool
  te_fine = time_or_none p.estimated p.te

  tp_range : (x : ℕ) → is_time x ≡ true → in_range p ≡ true → in_range (with_tp x p) ≡ true
  unfolding in_range
  tp_range x t h =
      let a : (model && tp_fine) ≡ true = and_l _ te_fine h in
      and_i {a = model && time_or_none 1 x} (and_i {a = model} (and_l _ tp_fine a) (time_there x t)) (and_r (model && tp_fine) _ h)

  te_range : (x : ℕ) → is_time x ≡ true → in_range p ≡ true → in_range (with_te x p) ≡ true
  unfolding in_range
  te_range x t h = and_i {a = model && tp_fine} (and_l _ te_fine h) (time_there x t)

  tp_near : (x : ℕ) → is_time x ≡ true → Nearly c p → Nearly c (with_tp x p)
  unfolding left_at_port
  tp_near x t h = record { range = tp_range x t h.range; left = h.left }

  te_near : (x : ℕ) → is_time x ≡ true → Nearly c p → Nearly c (with_te x p)
  unfolding left_at_port
  te_near x t h = record { range = te_range x t h.range; left = h.left }

  pub written_near : (n : ℕ) (t : Times) (x : ℕ) → is_time t.now ≡ true → (eqb n 32 ≡ true → is_time x ≡ true)
      → (eqb n 33 ≡ true → is_time x ≡ true) → Nearly c p → Nearly c (written n t x p)
  unfolding written
  written_near n t x a b d h = go (eqb n 6) (eqb n 32) b (eqb n 33) d
    where
      cancelled : (w : Bool) → Nearly c (cond w (with_tp t.now p) p)
      cancelled true = tp_near t.now a h
      cancelled false = h

      go : (u v : Bool) → (v ≡ true → is_time x ≡ true) → (w : Bool) → (w ≡ true → is_time x ≡ true)
          → Nearly c (cond u (cancels t p) (cond v (with_tp x p) (cond w (with_te x p) p)))
      go true v b w d = cancelled (eqb p.state waiting_for_carrier && not (eqb t.setting 0))
      go false true b w d = tp_near x (b refl) h
      go false false b true d = te_near x (d refl) h
      go false false b false d = h

-- no prediction is written, but by 32 and 33, which a tool with a buffer refuses
still_none : (p : Prediction) → is_none p ≡ true → p.state ≡ 0
unfolding is_none
still_none p h = eqb-true _ 0 (and_l _ _ (and_l _ _ (and_l _ _ (and_l _ _ h))))

pub written_none : (p : Prediction) (n : ℕ) (t : Times) (x : ℕ) → eqb n 32 ≡ false → eqb n 33 ≡ false → is_none p ≡ true
    → written n t x p ≡ p
unfolding written
written_none p n t x a b h = rw (a, b) (go (eqb n 6))
  where
    none : cancels t p ≡ p
    none = rw (still_none p h)

    go : (u : Bool) → cond u (cancels t p) p ≡ p
    go true = none
    go false = refl
