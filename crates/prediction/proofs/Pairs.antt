-- A carrier and its prediction, one pair after the other.
use Prim.Native.Nat.{ℕ, zero, suc, ◌<◌}
use native.Mathlib.Omega.{arith}
use mathlib.Core.Path.{◌≡◌, refl, ap}
use mathlib.Core.Bool.{Bool, true, false, cond}
use mathlib.Core.List.{List, [], ◌∷◌, ◌++◌}
use lib.ListN.{length, get_or, set}
use Rattle.lists.specs.Lists.{without, with_new}
use Rattle.lists.proofs.Bools.{clash, and_l, and_r, and_i}
use Rattle.records.specs.declared.carrier.Carrier.{Carrier}
use Rattle.records.specs.Carriers.{no_carrier}
use Rattle.rules.specs.State.{State}
use Rattle.prediction.specs.declared.prediction.Prediction.{Prediction}
use Rattle.prediction.specs.declared.prediction.Facts.{Facts}
use Rattle.prediction.specs.Predictions.{no_prediction}
use Rattle.prediction.specs.State.{is_fixed}
use Rattle.prediction.specs.Sound.{fits, is_none, each_fits}
use Rattle.prediction.specs.Outcome.{along, all_along}

pub data Pairs (Q : Carrier → Prediction → Type 0) : List Carrier → List Prediction → Type 0 where
  none : Pairs Q [] []
  more : {c : Carrier} {p : Prediction} {cs : List Carrier} {ps : List Prediction} → Q c p → Pairs Q cs ps → Pairs Q (c ∷ cs) (p ∷ ps)

-- what soundness asks of a pair
abbrev pub Fit : State → Carrier → Prediction → Type 0
Fit s c p = cond (is_fixed s) (fits s c p) (is_none p) ≡ true

pub pairs_of : (s : State) (cs : List Carrier) (ps : List Prediction) → each_fits s cs ps ≡ true → Pairs (Fit s) cs ps
unfolding each_fits
pairs_of s [] [] h = none
pairs_of s [] (p ∷ ps) h = clash h refl
pairs_of s (c ∷ cs) [] h = clash h refl
pairs_of s (c ∷ cs) (p ∷ ps) h = more (and_l _ _ h) (pairs_of s cs ps (and_r (cond (is_fixed s) (fits s c p) (is_none p)) _ h))

pub pairs_fit : (s : State) {cs : List Carrier} {ps : List Prediction} → Pairs (Fit s) cs ps → each_fits s cs ps ≡ true
unfolding each_fits
pairs_fit s none = refl
pairs_fit s (more q r) = and_i q (pairs_fit s r)

module _ {Q : Carrier → Prediction → Type 0} where
  pub as_long : {cs : List Carrier} {ps : List Prediction} → Pairs Q cs ps → length ps ≡ length cs
  as_long none = refl
  as_long (more q r) = ap suc (as_long r)

  -- one goes
  pub pairs_without : (g : ℕ) {cs : List Carrier} {ps : List Prediction} → Pairs Q cs ps → Pairs Q (without g cs) (without g ps)
  unfolding without
  pairs_without g none = none
  pairs_without zero (more q r) = r
  pairs_without (suc g) (more q r) = more q (pairs_without g r)

  -- one comes
  pub pairs_new : (b : Bool) (c : Carrier) (p : Prediction) {cs : List Carrier} {ps : List Prediction} → Pairs Q cs ps → (b ≡ true → Q c p)
      → Pairs Q (with_new b c cs) (with_new b p ps)
  pairs_new true c p r q = last r
    where
      last : {cs : List Carrier} {ps : List Prediction} → Pairs Q cs ps → Pairs Q (cs ++ c ∷ []) (ps ++ p ∷ [])
      last none = more (q refl) none
      last (more o r) = more o (last r)
  pairs_new false c p r q = r

  -- a carrier changes
  pub pairs_set : (k : ℕ) (c : Carrier) {cs : List Carrier} {ps : List Prediction} → Pairs Q cs ps
      → (k < length cs → (p : Prediction) → Q (get_or cs k no_carrier) p → Q c p) → Pairs Q (set cs k c) ps
  pairs_set k c none f = none
  pairs_set zero c (more q r) f = more (f (omega arith) _ q) r
  pairs_set (suc k) c (more q r) f = more q (pairs_set k c r (λ b. f (omega arith)))

  -- a prediction changes
  pub pairs_put : (k : ℕ) (p : Prediction) {cs : List Carrier} {ps : List Prediction} → Pairs Q cs ps
      → (k < length cs → Q (get_or cs k no_carrier) p) → Pairs Q cs (set ps k p)
  pairs_put k p none f = none
  pairs_put zero p (more q r) f = more (f (omega arith)) r
  pairs_put (suc k) p (more q r) f = more q (pairs_put k p r (λ b. f (omega arith)))

  -- each by its place
  pub pairs_all : (cs : List Carrier) (ps : List Prediction) → length ps ≡ length cs
      → ((k : ℕ) → k < length cs → Q (get_or cs k no_carrier) (get_or ps k no_prediction)) → Pairs Q cs ps
  pairs_all [] [] e f = none
  pairs_all [] (p ∷ ps) e f = absurd (omega (arith, e))
  pairs_all (c ∷ cs) [] e f = absurd (omega (arith, e))
  pairs_all (c ∷ cs) (p ∷ ps) e f = more (f 0 (omega arith)) (pairs_all cs ps (omega (arith, e)) (λ k b. f (suc k) (omega arith)))

  -- one of them
  pub pairs_at : {cs : List Carrier} {ps : List Prediction} → Pairs Q cs ps → (k : ℕ) → k < length cs
      → Q (get_or cs k no_carrier) (get_or ps k no_prediction)
  pairs_at none k b = absurd (omega arith)
  pairs_at (more q r) zero b = q
  pairs_at (more q r) (suc k) b = pairs_at r k (omega arith)

-- each by what holds of its carrier
module _ {Q R : Carrier → Prediction → Type 0} where
  pub pairs_use : {cs : List Carrier} {ps : List Prediction} → Pairs Q cs ps
      → ((k : ℕ) → k < length cs → (p : Prediction) → Q (get_or cs k no_carrier) p → R (get_or cs k no_carrier) p) → Pairs R cs ps
  pairs_use none f = none
  pairs_use (more q r) f = more (f 0 (omega arith) _ q) (pairs_use r (λ k b. f (suc k) (omega arith)))

  -- each moves along
  pub pairs_along : (f : Carrier → Prediction → Facts) → ((c : Carrier) (p : Prediction) → Q c p → R c (along (f c p) p).prediction)
      → {cs : List Carrier} {ps : List Prediction} → Pairs Q cs ps → Pairs R cs (all_along f cs ps)
  unfolding all_along
  pairs_along f g none = none
  pairs_along f g (more q r) = more (g _ _ q) (pairs_along f g r)
