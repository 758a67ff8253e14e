-- Predictions move along one after the other: the first k have, the others are as they were.
use Prim.Native.Nat.{ℕ, zero, suc, ◌<◌, ◌≤◌}
use native.Mathlib.Omega.{arith}
use mathlib.Core.Path.{◌≡◌, refl, ap, ◌∙◌}
use mathlib.Core.List.{List, [], ◌∷◌, ◌++◌}
use lib.ListN.{length, get_or, set, drop}
use lib.Seq.{drop-cons}
use Rattle.lists.specs.Lists.{fill}
use Rattle.lists.proofs.Tables.{getD_fill, set_fill}
use Rattle.records.specs.declared.carrier.Carrier.{Carrier}
use Rattle.records.specs.Carriers.{no_carrier}
use Rattle.rules.specs.declared.report.Report.{Report}
use Rattle.prediction.specs.declared.prediction.Prediction.{Prediction}
use Rattle.prediction.specs.declared.prediction.Facts.{Facts}
use Rattle.prediction.specs.Predictions.{no_prediction}
use Rattle.prediction.specs.Outcome.{along, told, all_along, all_told}

-- ── Lists ──
module _ {A : Type 0} where
  -- the first k of one list, then another's
  unfoldable pub first_of : ℕ → List A → List A → List A
  first_of zero new old = old
  first_of (suc k) [] old = old
  first_of (suc k) (x ∷ new) [] = []
  first_of (suc k) (x ∷ new) (y ∷ old) = x ∷ first_of k new old

  module _ (z : A) where
    first_length : (k : ℕ) (new old : List A) → length (first_of k new old) ≡ length old
    unfolding first_of
    first_length zero new old = refl
    first_length (suc k) [] old = refl
    first_length (suc k) (x ∷ new) [] = refl
    first_length (suc k) (x ∷ new) (y ∷ old) = ap suc (first_length k new old)

    first_get : (k : ℕ) (new old : List A) → length new ≡ length old → get_or (first_of k new old) k z ≡ get_or old k z
    unfolding first_of
    first_get zero new old e = refl
    first_get (suc k) [] old e = refl
    first_get (suc k) (x ∷ new) [] e = refl
    first_get (suc k) (x ∷ new) (y ∷ old) e = first_get k new old (omega arith)

    first_set : (k : ℕ) (new old : List A) → length new ≡ length old → k < length old
        → set (first_of k new old) k (get_or new k z) ≡ first_of (suc k) new old
    unfolding first_of
    first_set zero [] [] e b = absurd (omega arith)
    first_set zero [] (y ∷ old) e b = absurd (omega arith)
    first_set zero (x ∷ new) [] e b = absurd (omega arith)
    first_set zero (x ∷ new) (y ∷ old) e b = refl
    first_set (suc k) [] old e b = absurd (omega arith)
    first_set (suc k) (x ∷ new) [] e b = absurd (omega arith)
    first_set (suc k) (x ∷ new) (y ∷ old) e b = ap (λ l. x ∷ l) (first_set k new old (omega arith) (omega arith))

    pub first_all : (new old : List A) → length new ≡ length old → first_of (length old) new old ≡ new
    unfolding first_of
    first_all [] [] e = refl
    first_all [] (y ∷ old) e = absurd (omega arith)
    first_all (x ∷ new) [] e = absurd (omega arith)
    first_all (x ∷ new) (y ∷ old) e = ap (λ l. x ∷ l) (first_all new old (omega arith))

    -- one turn, in a table
    pub turned : (n k : ℕ) (new old : List A) (x : A) → length new ≡ length old → k < length old → x ≡ get_or new k z
        → set (fill n z (first_of k new old)) k x ≡ fill n z (first_of (suc k) new old)
    turned n k new old x e b q =
        let l = first_length k new old in
        set_fill n z (first_of k new old) k x (omega arith)
        ∙ ap (fill n z) (ap (set (first_of k new old) k) q ∙ first_set k new old e b)

    pub untouched : (n k : ℕ) (new old : List A) → length new ≡ length old → length old ≤ n
        → get_or (fill n z (first_of k new old)) k z ≡ get_or old k z
    untouched n k new old e b = let l = first_length k new old in getD_fill n z (first_of k new old) k (omega arith) ∙ first_get k new old e

-- ── All carriers ──
module _ (f : Carrier → Prediction → Facts) where
  pub along_length : (cs : List Carrier) (ps : List Prediction) → length cs ≡ length ps → length (all_along f cs ps) ≡ length ps
  unfolding all_along
  along_length [] [] e = refl
  along_length [] (p ∷ ps) e = absurd (omega arith)
  along_length (c ∷ cs) [] e = absurd (omega arith)
  along_length (c ∷ cs) (p ∷ ps) e = ap suc (along_length cs ps (omega arith))

  pub along_at : (cs : List Carrier) (ps : List Prediction) (k : ℕ) → length cs ≡ length ps → k < length ps
      → (along (f (get_or cs k no_carrier) (get_or ps k no_prediction)) (get_or ps k no_prediction)).prediction ≡ get_or (all_along f cs ps) k no_prediction
  unfolding all_along
  along_at [] [] k e b = absurd (omega arith)
  along_at [] (p ∷ ps) k e b = absurd (omega arith)
  along_at (c ∷ cs) [] k e b = absurd (omega arith)
  along_at (c ∷ cs) (p ∷ ps) zero e b = refl
  along_at (c ∷ cs) (p ∷ ps) (suc k) e b = along_at cs ps k (omega arith) (omega arith)

  -- what one is told to pass
  abbrev pub told_at : Carrier → Prediction → List Report
  told_at c p = told c.name p.state (along (f c p) p).passed

  pub told_from : (cs : List Carrier) (ps : List Prediction) (k : ℕ) → k < length cs → k < length ps
      → all_told f (drop k cs) (drop k ps) ≡ told_at (get_or cs k no_carrier) (get_or ps k no_prediction) ++ all_told f (drop (suc k) cs) (drop (suc k) ps)
  unfolding all_told
  told_from cs ps k b c = rw (drop-cons cs k no_carrier b, drop-cons ps k no_prediction c)
