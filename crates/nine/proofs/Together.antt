-- How many reports the courses of all carriers give together.
use Prim.Native.Nat.{ℕ, zero, suc, ◌+◌, ◌≤◌, ◌<◌, suc-le-suc}
use native.Mathlib.Omega.{arith}
use mathlib.Core.Path.{◌≡◌, refl, ap, ◌∙◌}
use mathlib.Core.Bool.{Bool, true, false, cond}
use mathlib.Core.List.{List, [], ◌∷◌}
use lib.ListN.{length, get_or, set, length-append}
use Rattle.lists.specs.Lists.{how_many}
use Rattle.records.specs.declared.name.Name.{Name}
use Rattle.records.specs.declared.carrier.Carrier.{Carrier}
use Rattle.records.specs.Carriers.{no_carrier}
use Rattle.prediction.specs.declared.prediction.Prediction.{Prediction}
use Rattle.prediction.specs.declared.prediction.Facts.{Facts}
use Rattle.prediction.specs.Model.{course}
use Rattle.prediction.specs.Predictions.{no_prediction}
use Rattle.prediction.specs.Outcome.{along, told, all_told}
use Rattle.prediction.proofs.Pairs.{Pairs, none, more}

-- a report for each state that is passed
pub told_length : (n : Name) (old : ℕ) (l : List ℕ) → length (told n old l) ≡ length l
unfolding told
told_length n old [] = refl
told_length n old (new ∷ l) = ap suc (told_length n new l)

-- ── Each carrier and its prediction, counted ──
module _ (w : Carrier → Prediction → ℕ) where
  unfoldable pub sum : List Carrier → List Prediction → ℕ
  sum [] ps = 0
  sum (c ∷ cs) [] = 0
  sum (c ∷ cs) (p ∷ ps) = w c p + sum cs ps

pub all_told_length : (f : Carrier → Prediction → Facts) (cs : List Carrier) (ps : List Prediction)
    → length (all_told f cs ps) ≡ sum (λ c p. length (course (f c p) p.state)) cs ps
unfolding all_told sum
all_told_length f [] ps = refl
all_told_length f (c ∷ cs) [] = refl
all_told_length f (c ∷ cs) (p ∷ ps) =
    length-append (told c.name p.state (along (f c p) p).passed) (all_told f cs ps)
    ∙ rw (told_length c.name p.state (along (f c p) p).passed, all_told_length f cs ps)

-- each counts no more than it does otherwise
pub sum_less : (v w : Carrier → Prediction → ℕ) → ((c : Carrier) (p : Prediction) → v c p ≤ w c p)
    → (cs : List Carrier) (ps : List Prediction) → sum v cs ps ≤ sum w cs ps
unfolding sum
sum_less v w h [] ps = omega arith
sum_less v w h (c ∷ cs) [] = omega arith
sum_less v w h (c ∷ cs) (p ∷ ps) = let a = h c p in let r = sum_less v w h cs ps in omega arith

module _ (w : Carrier → Prediction → ℕ) where
  -- two for each that passes a test, at most
  pub sum_twice : (f : Carrier → Bool) {cs : List Carrier} {ps : List Prediction} → Pairs (λ c p. w c p ≤ cond (f c) 2 0) cs ps
      → sum w cs ps ≤ how_many f cs + how_many f cs
  unfolding sum how_many
  sum_twice f none = omega arith
  sum_twice f (more {c = c} {p = p} {cs = cs} {ps = ps} q r) = go (f c) q (sum_twice f r)
    where
      go : (b : Bool) → w c p ≤ cond b 2 0 → sum w cs ps ≤ how_many f cs + how_many f cs
          → w c p + sum w cs ps ≤ (cond b 1 0 + how_many f cs) + (cond b 1 0 + how_many f cs)
      go true q r = omega arith
      go false q r = omega arith

  -- what one prediction counts less than the one before it is made up for by n
  pub sum_put : (n k : ℕ) (q : Prediction) (cs : List Carrier) (ps : List Prediction) → ((c : Carrier) → w c no_prediction ≡ 0)
      → n + w (get_or cs k no_carrier) q ≤ w (get_or cs k no_carrier) (get_or ps k no_prediction) → length ps ≡ length cs
      → n + sum w cs (set ps k q) ≤ sum w cs ps
  unfolding sum
  sum_put n k q [] [] z h e = let a = z (get_or [] k no_carrier) in omega arith
  sum_put n k q [] (p ∷ ps) z h e = absurd (omega arith)
  sum_put n k q (c ∷ cs) [] z h e = absurd (omega arith)
  sum_put n zero q (c ∷ cs) (p ∷ ps) z h e = omega arith
  sum_put n (suc k) q (c ∷ cs) (p ∷ ps) z h e = let r = sum_put n k q cs ps z h (omega arith) in omega arith

-- ── Those that pass a test ──
module _ (b : Carrier → Prediction → Bool) where
  abbrev pub Holds : List Carrier → List Prediction → ℕ → Type 0
  Holds cs ps k = b (get_or cs k no_carrier) (get_or ps k no_prediction) ≡ true

  unfoldable pub count : List Carrier → List Prediction → ℕ
  count cs ps = sum (λ c p. cond (b c p) 1 0) cs ps

  pub count_none : (cs : List Carrier) (ps : List Prediction) → ((k : ℕ) → k < length cs → Holds cs ps k → ⊥) → count cs ps ≡ 0
  unfolding count sum
  count_none [] ps h = refl
  count_none (c ∷ cs) [] h = refl
  count_none (c ∷ cs) (p ∷ ps) h = go (b c p) refl (count_none cs ps (λ k l. h (suc k) (suc-le-suc l)))
    where
      go : (v : Bool) → b c p ≡ v → count cs ps ≡ 0 → cond v 1 0 + count cs ps ≡ 0
      go true e r = absurd (h 0 (omega arith) e)
      go false e r = omega arith

  pub count_one : (cs : List Carrier) (ps : List Prediction)
      → ((j k : ℕ) → j < length cs → k < length cs → Holds cs ps j → Holds cs ps k → j ≡ k) → count cs ps ≤ 1
  unfolding count sum
  count_one [] ps h = omega arith
  count_one (c ∷ cs) [] h = omega arith
  count_one (c ∷ cs) (p ∷ ps) h =
      go (b c p) refl
      (count_one cs ps (λ j k a l q r. let o = h (suc j) (suc k) (suc-le-suc a) (suc-le-suc l) q r in omega arith))
    where
      go : (v : Bool) → b c p ≡ v → count cs ps ≤ 1 → cond v 1 0 + count cs ps ≤ 1
      go true e _ =
          let r = count_none cs ps (λ k l q. let o = h 0 (suc k) (omega arith) (suc-le-suc l) e q in omega arith) in
          omega arith
      go false e r = omega arith
