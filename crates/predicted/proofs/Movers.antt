-- What the movers leave, from what their parts leave.
use Prim.Native.Nat.{ℕ, ◌<◌, ◌≤◌}
use native.Mathlib.Omega.{arith}
use mathlib.Core.Path.{◌≡◌, refl, ap, sym, subst⁻¹, ◌∙◌}
use mathlib.Core.Bool.{Bool, true, false, not, cond, ◌&&◌}
use mathlib.Core.List.{List, [], ◌++◌}
use lib.ListN.{length, get_or, set, get_or-eq_default}
use lib.Seq.{length-take-le, get_or-set_same, get_or-set_other, set-get_or, set_out, get_or-take}
use lib.Dec.{eqb}
use Rattle.lists.specs.Lists.{fill}
use Rattle.lists.proofs.Tables.{take_fill}
use Rattle.records.specs.declared.carrier.Carrier.{Carrier}
use Rattle.records.specs.declared.name.Name.{Name}
use Rattle.rules.specs.declared.report.Report.{Report}
use Rattle.rules.specs.declared.report.Reports.{Reports}
use Rattle.rules.specs.State.{State, record_of}
use Rattle.rules.specs.Held.{Held}
use Rattle.rules.proofs.Holding.{count_held}
use Rattle.image.specs.Image.{tool_from}
use Rattle.parts.specs.Told.{note_all}
use Rattle.parts.proofs.Notes.{note_all_append}
use Rattle.follow.specs.Follow.{KeptOutside}
use Rattle.mapped.specs.Bytes.{own_in}
use Rattle.prediction.specs.declared.prediction.Prediction.{Prediction}
use Rattle.prediction.specs.declared.prediction.Times.{Times}
use Rattle.prediction.specs.declared.prediction.Facts.{Facts}
use Rattle.prediction.specs.Model.{waiting_for_carrier, course, last_of}
use Rattle.prediction.specs.Predictions.{no_prediction, in_state, with_tp, with_te, as_it_is, on_judging}
use Rattle.prediction.specs.Sound.{is_ready}
use Rattle.prediction.specs.Outcome.{is_timed, along, told, all_along, all_told, cancels, written, own_facts, all_facts}
use Rattle.times.specs.Bytes.{predictions_from}
use Rattle.times.proofs.Laid.{predictions_long}
use Rattle.predicted.specs.Bytes.{base_in, used_in, NoneAfter, facts_in, own_moved}
use Rattle.prediction.proofs.Modelled.{none_quiet}
use Rattle.predicted.proofs.Quiet.{on_the_way, quiet, stays_so}

-- ── The second block is another ──
module _ (m : List (List ℕ)) (w : List ℕ) (two : 1 < length m) where
  pub own_then : own_in (set m 1 w) ≡ w
  own_then = get_or-set_same m 1 w [] two

  pub base_then : get_or (set m 1 w) 0 [] ≡ get_or m 0 []
  base_then = get_or-set_other m 1 0 w [] (omega arith)

  pub kept_then : {o e : ℕ} → KeptOutside o e (own_in m) w → KeptOutside o e (own_in m) (own_in (set m 1 w))
  kept_then {o} {e} k = subst⁻¹ (KeptOutside o e (own_in m)) own_then k

-- as many predictions are used as there are records
module _ (m : List (List ℕ)) (h : Held (tool_from (get_or m 0 []))) where
  pub used_long : length (used_in m) ≡ (tool_from (get_or m 0 [])).count
  used_long = let l = predictions_long (own_in m) in let f = h.few_carriers in length-take-le _ (predictions_from (own_in m)) (omega arith)

  pub as_many : length (base_in m).carriers ≡ length (used_in m)
  as_many = count_held (tool_from (get_or m 0 [])) h ∙ sym used_long

  pub fits : length (used_in m) ≤ 36
  fits = let l = used_long in let f = h.few_carriers in omega arith

-- a table that holds them, one for each record
module _ (m : List (List ℕ)) (ps : List Prediction) (laid : predictions_from (own_in m) ≡ fill 36 no_prediction ps)
    (long : length ps ≡ (tool_from (get_or m 0 [])).count) (few : length ps ≤ 36) where
  pub used_then : used_in m ≡ ps
  used_then = rw (laid, ← long) (take_fill 36 no_prediction ps few)

  pub none_then : NoneAfter m
  none_then = laid ∙ ap (fill 36 no_prediction) (sym used_then)

-- ── One carrier ──
pub facts_are : (timed : Bool) (t : Times) (s : State) {ready : Bool} {c d : Carrier} {p q : Prediction} {f : Facts}
    → f ≡ cond timed (on_judging t p ready) (as_it_is ready) → ready ≡ is_ready s c → p ≡ q → c ≡ d → f ≡ facts_in timed t s d q
facts_are timed t s e r a b = rw (e, r, a, b)

pub own_facts_are : (number : ℕ) (t : Times) (s : State) {ready : Bool} {c d : Carrier} {p q : Prediction} {f : Facts}
    → f ≡ own_facts number t p ready → ready ≡ is_ready s c → p ≡ q → c ≡ d → f ≡ own_facts number t q (is_ready s d)
own_facts_are number t s e r a b = rw (e, r, a, b)

-- where a course ended, written into the prediction
pub ended_is : {f g : Facts} {p q x : Prediction} {last : ℕ} → f ≡ g → p ≡ q → last ≡ last_of p.state (course f p.state)
    → x ≡ in_state last p → x ≡ (along g q).prediction
ended_is a b l e = rw (e, l, a, b)

-- and what was told on the way
pub told_is : {f g : Facts} {p q : Prediction} {n k : Name} (r : Reports) → f ≡ g → p ≡ q → n ≡ k
    → note_all r (told n p.state (course f p.state)) ≡ note_all r (told k q.state (along g q).passed)
told_is r a b c = rw (a, b, c)

untaken : (timed : Bool) (t : Times) (s : State) (c : Carrier) (p : Prediction) → (facts_in timed t s c p).taken ≡ false
untaken true t s c p = refl
untaken false t s c p = refl

-- whoever isn't on the way stays, and nothing is told
module _ (timed : Bool) (t : Times) (s : State) (c : Carrier) (ps : List Prediction) (k : ℕ)
    (off : on_the_way (get_or ps k no_prediction).state ≡ false) where
  abbrev p : Prediction
  p = get_or ps k no_prediction

  nothing : course (facts_in timed t s c p) p.state ≡ []
  nothing = quiet (facts_in timed t s c p) p.state (untaken timed t s c p) off

  pub stays_there : ps ≡ set ps k (along (facts_in timed t s c p) p).prediction
  stays_there = sym (ap (set ps k) (stays_so (facts_in timed t s c p) p nothing) ∙ set-get_or ps k no_prediction)

  pub nothing_told : (r : Reports) (n : Name) → r ≡ note_all r (told n p.state (along (facts_in timed t s c p) p).passed)
  unfolding note_all told
  nothing_told r n = rw nothing

-- ── The carrier that an input names ──
-- what an input writes leaves the state
pub written_state : (number : ℕ) (t : Times) (time : ℕ) (p : Prediction) → (written number t time p).state ≡ p.state
unfolding written
written_state number t time p = go (eqb number 6) (eqb number 32) (eqb number 33)
  where
    cancelled : (w : Bool) → (cond w (with_tp t.now p) p).state ≡ p.state
    cancelled true = refl
    cancelled false = refl

    go : (u v w : Bool) → (cond u (cancels t p) (cond v (with_tp time p) (cond w (with_te time p) p))).state ≡ p.state
    go true v w = cancelled (eqb p.state waiting_for_carrier && not (eqb t.setting 0))
    go false true w = refl
    go false false true = refl
    go false false false = refl

pub told_of : {n l : Name} {s t : ℕ} {p q : List ℕ} → n ≡ l → s ≡ t → p ≡ q → told n s p ≡ told l t q
told_of a b c = rw (a, b, c)

-- the predictions in use are those of the table
pub used_at : (m : List (List ℕ)) (k : ℕ) → k < (tool_from (get_or m 0 [])).count
    → get_or (predictions_from (own_in m)) k no_prediction ≡ get_or (used_in m) k no_prediction
used_at m k b = sym (get_or-take (tool_from (get_or m 0 [])).count (predictions_from (own_in m)) k no_prediction b)

-- past them there is none: nothing is written, and nothing told
module _ (number : ℕ) (t : Times) (time : ℕ) (s : State) (ps : List Prediction) (k : ℕ) (past : length ps ≤ k) where
  pub past_stays : (x : Prediction) → set ps k x ≡ ps
  past_stays x = set_out ps k x past

  none_there : get_or ps k no_prediction ≡ no_prediction
  none_there = get_or-eq_default ps no_prediction past

  pub past_told : (r : Reports) (n : Name) → r ≡ note_all r (told n (get_or ps k no_prediction).state (own_moved number t time s ps k).passed)
  unfolding note_all told
  past_told r n = ap (λ l. note_all r (told n (get_or ps k no_prediction).state l)) (sym nothing)
    where
      facts : Facts
      facts = own_facts number t (get_or ps k no_prediction) (is_ready s (record_of s k))

      nothing : (own_moved number t time s ps k).passed ≡ []
      nothing =
          ap (course facts) (written_state number t time (get_or ps k no_prediction) ∙ ap (λ (p : Prediction). p.state) none_there)
          ∙ none_quiet facts

-- ── Reports, one list after the other ──
pub noted_twice : (r q x : Reports) (l k : List Report) → q ≡ note_all r l → x ≡ note_all q k → x ≡ note_all r (l ++ k)
noted_twice r q x l k p e = e ∙ ap (λ q. note_all q k) p ∙ sym (note_all_append r l k)

-- ── All carriers, by an input's number ──
module _ (number : ℕ) (t : Times) where
  facts_in_fact : (s : State) → facts_in (is_timed number) t s ≡ all_facts number t s
  unfolding all_facts
  facts_in_fact s = refl

  pub all_along_of : {w : Bool} {a b : State} {ps qs : List Prediction} → w ≡ is_timed number → a ≡ b → ps ≡ qs
      → all_along (facts_in w t a) a.carriers ps ≡ all_along (all_facts number t b) b.carriers qs
  all_along_of {b = b} {qs = qs} p q r = rw (p, q, r) (ap (λ f. all_along f b.carriers qs) (facts_in_fact b))

  pub all_told_of : {w : Bool} {a b : State} {ps qs : List Prediction} → w ≡ is_timed number → a ≡ b → ps ≡ qs
      → all_told (facts_in w t a) a.carriers ps ≡ all_told (all_facts number t b) b.carriers qs
  all_told_of {b = b} {qs = qs} p q r = rw (p, q, r) (ap (λ f. all_told f b.carriers qs) (facts_in_fact b))
