-- What a host may count on: every report of model 8 is a transition, or of a record made or gone.
use Prim.Native.Nat.{ℕ, ◌≤◌}
use native.Mathlib.Omega.{arith}
use mathlib.Core.Path.{◌≡◌, refl, sym, subst}
use mathlib.Core.Bool.{Bool, true, false, cond, ◌&&◌, ◌||◌}
use mathlib.Core.List.{List, [], ◌∷◌, ◌++◌}
use lib.ListN.{get_or}
use lib.Dec.{eqb, leb}
use borrow.Author.Tests.{eqb-true, eq-eqb, leb-true}
use Rattle.lists.specs.Lists.{any, every}
use Rattle.lists.proofs.Bools.{and_l, and_r, and_i, or_l, or_r}
use Rattle.records.specs.declared.name.Name.{Name}
use Rattle.records.specs.declared.carrier.Carrier.{Carrier}
use Rattle.rules.specs.declared.report.Report.{Report}
use Rattle.rules.specs.State.{State, record_of}
use Rattle.prediction.specs.declared.prediction.Prediction.{Prediction}
use Rattle.prediction.specs.declared.prediction.Facts.{Facts}
use Rattle.prediction.specs.Model.{Transition, transitions, course, waiting_for_carrier}
use Rattle.prediction.specs.declared.prediction.Times.{Times}
use Rattle.prediction.specs.Predictions.{no_prediction, is_soon, on_judging}
use Rattle.prediction.specs.State.{Predicted, base_of, Timed, is_fixed}
use Rattle.prediction.specs.Sound.{in_range, is_ready, is_none, sound}
use Rattle.prediction.specs.Outcome as outcome
use Rattle.prediction.specs.Outcome.{is_timed, answer_in, along, told, all_told}
use Rattle.prediction.specs.Host.{is_step, is_made, is_gone, in_model, not_forgotten}
use Rattle.prediction.proofs.Modelled.{leads, steps_lead, course_leads, soon_left}
use Rattle.prediction.proofs.Written.{same_state}
use Rattle.prediction.proofs.Pairs.{Pairs, none, more, pairs_along}
use Rattle.prediction.proofs.SoundRuns.{Near}
use Rattle.prediction.proofs.Sounds.{second_near}

-- ── Reports ──
-- what leads by the table is a step of it
module _ (old new : ℕ) where
  joins : Transition → Bool
  joins t = eqb t.from old && eqb t.to new

  lead_joins : (t : Transition) → leads old new t ≡ true → joins t ≡ true
  unfolding joins
  lead_joins t h =
      let a : (eqb t.from old && t.when) ≡ true = and_l _ (eqb t.to new) h in
      and_i {a = eqb t.from old} (and_l _ t.when a) (and_r (eqb t.from old && t.when) _ h)

  lead_any : (ts : List Transition) → any (leads old new) ts ≡ true → any joins ts ≡ true
  unfolding any
  lead_any [] h = h
  lead_any (t ∷ ts) h = go (leads old new t) refl h (lead_any ts)
    where
      go : (w : Bool) → leads old new t ≡ w → (w || any (leads old new) ts) ≡ true → (any (leads old new) ts ≡ true → any joins ts ≡ true)
          → (joins t || any joins ts) ≡ true
      go true e h r = or_l _ (lead_joins t e)
      go false e h r = or_r (joins t) (r h)

  lead_step : (f : Facts) → any (leads old new) (transitions f) ≡ true → is_step old new ≡ true
  unfolding any joins
  lead_step f h = lead_any (transitions f) h

-- each report of a course is a step
told_steps : (n : Name) (f : Facts) (old : ℕ) (l : List ℕ) → steps_lead f old l ≡ true → every in_model (told n old l) ≡ true
unfolding told every steps_lead in_model
told_steps n f old [] h = refl
told_steps n f old (new ∷ l) h =
    and_i {a = is_step old new || is_made old new || is_gone old new}
    (or_l _ (or_l _ (lead_step old new f (and_l (any (leads old new) (transitions f)) (steps_lead f new l) h))))
    (told_steps n f new l (and_r (any (leads old new) (transitions f)) _ h))

every_both : {A : Type 0} (g : A → Bool) (l k : List A) → every g l ≡ true → every g k ≡ true → every g (l ++ k) ≡ true
unfolding every
every_both g [] k a b = b
every_both g (x ∷ l) k a b = and_i {a = g x} (and_l _ (every g l) a) (every_both g l k (and_r (g x) _ a) b)

all_steps : (f : Carrier → Prediction → Facts) (cs : List Carrier) (ps : List Prediction) → every in_model (all_told f cs ps) ≡ true
unfolding all_told every
all_steps f [] ps = refl
all_steps f (c ∷ cs) [] = refl
all_steps f (c ∷ cs) (p ∷ ps) =
    every_both in_model (told c.name p.state (course (f c p) p.state)) (all_told f cs ps)
    (told_steps c.name (f c p) p.state (course (f c p) p.state) (course_leads (f c p) p.state)) (all_steps f cs ps)

module _ (s : Predicted) (i : Timed) where
  gone_model : (n : Name) (old : ℕ) → every in_model (told n old (cond (eqb old 0) [] (0 ∷ []))) ≡ true
  unfolding told every in_model
  gone_model n old = go (eqb old 0) refl
    where
      go : (w : Bool) → eqb old 0 ≡ w → every in_model (told n old (cond w [] (0 ∷ []))) ≡ true
      go true e = refl
      go false e = and_i {a = is_step old 0 || is_made old 0 || is_gone old 0} (or_r (is_step old 0 || is_made old 0) (rw e)) refl

  fresh_model : (b : Bool) (n : Name) → every in_model (cond b (told n 0 (waiting_for_carrier ∷ [])) []) ≡ true
  unfolding told every in_model any
  fresh_model true n = refl
  fresh_model false n = refl

  own_model : (n : Name) (f : Facts) (old o : ℕ) → o ≡ old → every in_model (told n old (course f o)) ≡ true
  own_model n f old o e = rw e (told_steps n f old (course f old) (course_leads f old))

  abbrev named : Prediction
  named = get_or (outcome.first s i) (outcome.spot s i) no_prediction

  abbrev own_told : List Report
  own_told = told (record_of (outcome.after s i) (outcome.spot s i)).name named.state (outcome.own_moved s i).passed

  -- every report of model 8 is a transition, or of a record made or gone
  pub all_in_model : every in_model (outcome.eight s i) ≡ true
  all_in_model =
      every_both in_model (outcome.gone s i ++ outcome.fresh s i ++ own_told) _
      (every_both in_model (outcome.gone s i ++ outcome.fresh s i) own_told
      (every_both in_model (outcome.gone s i) (outcome.fresh s i) (gone_model _ _)
      (fresh_model ((outcome.below s i).made && is_fixed (base_of s)) _))
      (own_model _ _ named.state _ (same_state i.input.number (outcome.times_then s i) i.time named)))
      (all_steps (outcome.all_facts i.input.number (outcome.times_then s i) (outcome.after s i)) (outcome.after s i).carriers
      (outcome.second s i))

-- ── Nobody is forgotten ──
all_judged : (n : ℕ) (u : Times) (st : State) (c : Carrier) (p : Prediction) → is_timed n ≡ true
    → outcome.all_facts n u st c p ≡ on_judging u p (is_ready st c)
unfolding outcome.all_facts
all_judged n u st c p t = rw t

-- after one of 31 to 34 that is accepted
module _ (s : Predicted) (i : Timed) (t : is_timed i.input.number ≡ true) (h : sound s ≡ true) (a : answer_in s i ≡ 0) where
  abbrev then : State
  then = outcome.after s i

  abbrev times : Times
  times = outcome.times_then s i

  near_few : (b : Bool) (c : Carrier) (p : Prediction) → Near b c p → p.state ≤ 6
  unfolding in_range is_none
  near_few true c p n = leb-true _ 6 (and_r (leb 1 p.state) _ (and_l _ _ (and_l _ _ (n.near refl).range)))
  near_few false c p n =
      let z = eqb-true p.state 0 (and_l _ _ (and_l _ _ (and_l _ _ (and_l _ _ (n.none refl))))) in
      omega arith

  judged_moves : (c : Carrier) (p : Prediction) → p.state ≤ 6 → not_forgotten times (along (on_judging times p (is_ready then c)) p).prediction ≡ true
  unfolding not_forgotten is_soon
  judged_moves c p l = soon_left p.state l (on_judging times p (is_ready then c))

  all_moves : (c : Carrier) (p : Prediction) → Near (is_fixed then) c p
      → not_forgotten times (along (outcome.all_facts i.input.number times then c p) p).prediction ≡ true
  all_moves c p n =
      subst (λ f. not_forgotten times (along f p).prediction ≡ true) (sym (all_judged i.input.number times then c p t))
      (judged_moves c p (near_few (is_fixed then) c p n))

  each_moved : {cs : List Carrier} {ps : List Prediction} → Pairs (λ _ p. not_forgotten times p ≡ true) cs ps → every (not_forgotten times) ps ≡ true
  unfolding every
  each_moved none = refl
  each_moved (more q r) = and_i q (each_moved r)

  -- nobody is left WAITING FOR PREDICTION whose Tp is within the setting time
  pub none_forgotten : every (not_forgotten (outcome.state_after s i).times) (outcome.state_after s i).predictions ≡ true
  unfolding outcome.state_after
  none_forgotten =
      rw (eq-eqb (answer_in s i) 0 a)
      (each_moved (pairs_along (outcome.all_facts i.input.number times then) all_moves (second_near s i h a)))
