-- What fits: a prediction that waits for its carrier, and those of a tool with a buffer.
use Prim.Native.Nat.{ℕ, zero, suc, ◌+◌, ◌≤◌, ◌<◌}
use native.Mathlib.Omega.{arith}
use mathlib.Core.Path.{◌≡◌, refl, ap, ◌∙◌}
use mathlib.Core.Bool.{Bool, true, false, ◌&&◌}
use mathlib.Core.List.{List, [], ◌∷◌}
use lib.ListN.{length, get_or, take, drop}
use Rattle.std.specs.List.{list_all, range_with_len}
use Rattle.lists.specs.Lists.{every}
use Rattle.records.specs.declared.carrier.Carrier.{Carrier}
use Rattle.records.specs.Carriers.{no_carrier}
use Rattle.rules.specs.State.{State}
use Rattle.lists.proofs.Ranges.{front, back}
use Rattle.prediction.specs.declared.prediction.Prediction.{Prediction}
use Rattle.prediction.specs.Predictions.{no_prediction}
use Rattle.prediction.specs.Model.{waiting_for_carrier}
use Rattle.prediction.specs.State.{is_fixed}
use Rattle.prediction.specs.Sound.{in_range, left_at_port, not_overdue, fits, is_none, each_fits}

pub and_true : (b : Bool) → (b && true) ≡ b
and_true true = refl
and_true false = refl

-- it asks nothing of the carrier
pub waiting_fits : (s : State) (c : Carrier) (p : Prediction) → p.state ≡ waiting_for_carrier → fits s c p ≡ in_range p
unfolding fits left_at_port not_overdue
waiting_fits s c p e = rw e (and_true _ ∙ and_true _)

-- `all`, by a test of positions that asks whether the predictions there fit their records
module _ (s : State) (fixed : is_fixed s ≡ true) (t : ℕ → Bool) (cs : List Carrier) (ps : List Prediction) (n : ℕ) (b : n ≤ length cs) (h : n ≤ length ps)
    (at : (k : ℕ) → k < n → t k ≡ fits s (get_or cs k no_carrier) (get_or ps k no_prediction)) where
  pub each_on : (a m : ℕ) → a + m ≡ n → list_all t (range_with_len a m) ≡ each_fits s (drop a (take n cs)) (drop a (take n ps))
  unfolding each_fits
  each_on a zero e = rw (back cs n a e b, back ps n a e h)
  each_on a (suc m) e = rw (front cs n a m no_carrier e b, front ps n a m no_prediction e h, at a (omega arith), fixed, each_on (a + 1) m (omega arith))

-- ── With a buffer there is none ──
each_none : (s : State) (cs : List Carrier) (ps : List Prediction) → is_fixed s ≡ false → length cs ≡ length ps → each_fits s cs ps ≡ every is_none ps
unfolding each_fits every
each_none s [] [] f e = refl
each_none s [] (p ∷ ps) f e = absurd (omega arith)
each_none s (c ∷ cs) [] f e = absurd (omega arith)
each_none s (c ∷ cs) (p ∷ ps) f e = rw (f, each_none s cs ps f (omega arith))

every_split : {A : Type 0} (f : A → Bool) (n : ℕ) (l : List A) → (every f (take n l) && every f (drop n l)) ≡ every f l
unfolding every
every_split f zero l = refl
every_split f (suc n) [] = refl
every_split f (suc n) (x ∷ l) = assoc (f x) (every f (take n l)) (every f (drop n l)) ∙ ap (λ b. f x && b) (every_split f n l)
  where
    assoc : (a b c : Bool) → ((a && b) && c) ≡ (a && (b && c))
    assoc true b c = refl
    assoc false b c = refl

pub none_fit : (s : State) (n : ℕ) (ps : List Prediction) → is_fixed s ≡ false → length s.carriers ≡ length (take n ps)
    → (each_fits s s.carriers (take n ps) && every is_none (drop n ps)) ≡ every is_none ps
none_fit s n ps f e = rw (each_none s s.carriers (take n ps) f e) (every_split is_none n ps)
