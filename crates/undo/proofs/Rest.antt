-- Where no port becomes READY TO UNLOAD, no prediction moves.
use Prim.Native.Nat.{ℕ, suc}
use native.Mathlib.Omega.{arith}
use mathlib.Core.Path.{◌≡◌, refl, ap, sym, ◌∙◌}
use mathlib.Core.Bool.{Bool, true, false, not, cond, ◌&&◌, ◌||◌}
use mathlib.Core.List.{List, [], ◌∷◌, ◌++◌}
use lib.ListN.{length, get_or}
use lib.Dec.{eqb}
use borrow.Author.Tests.{eqb-false, eqb-true, ne_eqb}
use Rattle.lists.proofs.Bools.{clash, and_l, and_r, not_true}
use Rattle.records.specs.declared.carrier.Carrier.{Carrier}
use Rattle.records.specs.Carriers.{no_carrier}
use Rattle.rules.specs.State.{State}
use Rattle.prediction.specs.declared.prediction.Facts.{Facts}
use Rattle.prediction.specs.declared.prediction.Prediction.{Prediction}
use Rattle.prediction.specs.declared.prediction.Times.{Times}
use Rattle.prediction.specs.Model.{transitions, next, predicted, aborted}
use Rattle.prediction.specs.Predictions.{as_it_is}
use Rattle.prediction.specs.State.{is_fixed}
use Rattle.prediction.specs.Sound.{is_ready, not_overdue, fits, in_range, left_at_port, is_none, each_fits}
use Rattle.prediction.specs.Outcome.{is_timed, along, all_along, all_facts}
use Rattle.predicted.proofs.Quiet.{unmoved, stays_so}

-- ── One carrier ──
passes_by : (w : Bool) (x y : ℕ) → cond (w && false) x y ≡ y
passes_by true x y = refl
passes_by false x y = refl

-- not ready: no transition applies; ready: only those from PREDICTED and ABORTED
next_unready : (s : ℕ) → next (transitions (as_it_is false)) s ≡ s
unfolding next
next_unready s =
    passes_by (eqb 2 s) _ _ ∙ passes_by (eqb 3 s) _ _ ∙ passes_by (eqb 4 s) _ _ ∙ passes_by (eqb 2 s) _ _ ∙ passes_by (eqb 3 s) _ _
    ∙ passes_by (eqb 4 s) _ _ ∙ passes_by (eqb 5 s) _ _

other_way : (s k : ℕ) → eqb s k ≡ false → eqb k s ≡ false
other_way s k e = ne_eqb k s (λ z. eqb-false s k e (sym z))

next_ready : (s : ℕ) → (eqb s predicted || eqb s aborted) ≡ false → next (transitions (as_it_is true)) s ≡ s
unfolding next
next_ready s h =
    let a = other_way s 4 (left (eqb s 4) (eqb s 5) h) in
    let b = other_way s 5 (right (eqb s 4) (eqb s 5) h) in
    rw (a, b) (passes_by (eqb 2 s) _ _ ∙ passes_by (eqb 3 s) _ _ ∙ passes_by (eqb 2 s) _ _ ∙ passes_by (eqb 3 s) _ _)
  where
    left : (a b : Bool) → (a || b) ≡ false → a ≡ false
    left true b e = e
    left false b e = refl

    right : (a b : Bool) → (a || b) ≡ false → b ≡ false
    right true b e = clash refl e
    right false b e = e

module _ (n : ℕ) (clock : is_timed n ≡ false) (t : Times) (u : State) where
  facts_are : (c : Carrier) (p : Prediction) → all_facts n t u c p ≡ as_it_is (is_ready u c)
  unfolding all_facts
  facts_are c p = rw clock

  -- a carrier that isn't ready
  pub unready_rests : (c : Carrier) (p : Prediction) → is_ready u c ≡ false → (along (all_facts n t u c p) p).prediction ≡ p
  unready_rests c p e =
      stays_so (all_facts n t u c p) p (unmoved (all_facts n t u c p) p.state (rw (facts_are c p, e) (next_unready p.state)))

  ready_rests : (c : Carrier) (p : Prediction) → is_ready u c ≡ true → (eqb p.state predicted || eqb p.state aborted) ≡ false
      → (along (all_facts n t u c p) p).prediction ≡ p
  ready_rests c p e h =
      stays_so (all_facts n t u c p) p (unmoved (all_facts n t u c p) p.state (rw (facts_are c p, e) (next_ready p.state h)))

  -- what fits a state in which it was ready, too, or has no prediction
  abbrev Fitting : State → Carrier → Prediction → Type 0
  Fitting s c p = cond (is_fixed s) (fits s c p) (is_none p) ≡ true

  not_overdue_fact : (s : State) (c : Carrier) (p : Prediction) → Fitting s c p → is_ready s c ≡ true
      → (eqb p.state predicted || eqb p.state aborted) ≡ false
  unfolding fits not_overdue is_none
  not_overdue_fact s c p h r = go (is_fixed s) h
    where
      none : p.state ≡ 0 → (eqb p.state predicted || eqb p.state aborted) ≡ false
      none z = rw z

      unready : (w v : Bool) → not (w && v) ≡ true → v ≡ true → w ≡ false
      unready true v e f = sym f ∙ not_true v e
      unready false v e f = refl

      go : (w : Bool) → cond w (fits s c p) (is_none p) ≡ true → (eqb p.state predicted || eqb p.state aborted) ≡ false
      go true k = unready _ (is_ready s c) (and_r (in_range p && left_at_port c p) _ k) r
      go false k = none (eqb-true p.state 0 (and_l _ _ (and_l _ _ (and_l _ _ (and_l _ _ k)))))

  one_rests : (s : State) (old c : Carrier) (p : Prediction) → Fitting s old p → (is_ready u c ≡ true → is_ready s old ≡ true)
      → (along (all_facts n t u c p) p).prediction ≡ p
  one_rests s old c p h f = go (is_ready u c) refl
    where
      go : (w : Bool) → is_ready u c ≡ w → (along (all_facts n t u c p) p).prediction ≡ p
      go true e = ready_rests c p e (not_overdue_fact s old p h (f e))
      go false e = unready_rests c p e

  -- ── All of them ──
  -- each was ready before, if it is now
  pub all_rest : (s : State) (olds cs : List Carrier) (ps : List Prediction) → each_fits s olds ps ≡ true → length cs ≡ length olds
      → ((k : ℕ) → is_ready u (get_or cs k no_carrier) ≡ true → is_ready s (get_or olds k no_carrier) ≡ true)
      → all_along (all_facts n t u) cs ps ≡ ps
  unfolding each_fits all_along
  all_rest s [] [] [] h e f = refl
  all_rest s [] (c ∷ cs) ps h e f = absurd (omega arith)
  all_rest s [] [] (p ∷ ps) h e f = clash h refl
  all_rest s (o ∷ olds) [] ps h e f = absurd (omega arith)
  all_rest s (o ∷ olds) (c ∷ cs) [] h e f = clash h refl
  all_rest s (o ∷ olds) (c ∷ cs) (p ∷ ps) h e f =
      rw (
        one_rests s o c p (and_l _ _ h) (f 0),
        all_rest s olds cs ps (and_r (cond (is_fixed s) (fits s o p) (is_none p)) _ h) (omega arith) (λ k. f (suc k)),
      )

-- and one more after them
pub along_more : (f : Carrier → Prediction → Facts) (cs : List Carrier) (ps : List Prediction) (c : Carrier) (p : Prediction) → length cs ≡ length ps
    → all_along f (cs ++ c ∷ []) (ps ++ p ∷ []) ≡ all_along f cs ps ++ (along (f c p) p).prediction ∷ []
unfolding all_along
along_more f [] [] c p e = refl
along_more f [] (q ∷ ps) c p e = absurd (omega arith)
along_more f (d ∷ cs) [] c p e = absurd (omega arith)
along_more f (d ∷ cs) (q ∷ ps) c p e = ap (λ l. (along (f d q) q).prediction ∷ l) (along_more f cs ps c p (omega arith))

-- as many predictions as carriers
pub as_many : (s : State) (cs : List Carrier) (ps : List Prediction) → each_fits s cs ps ≡ true → length ps ≡ length cs
unfolding each_fits
as_many s [] [] h = refl
as_many s [] (p ∷ ps) h = clash h refl
as_many s (c ∷ cs) [] h = clash h refl
as_many s (c ∷ cs) (p ∷ ps) h = ap suc (as_many s cs ps (and_r (cond (is_fixed s) (fits s c p) (is_none p)) _ h))
