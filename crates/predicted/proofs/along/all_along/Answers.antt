-- The first k have moved along; what is still to be told gives the same.
-- what each asks, and where all of them are in the end
use native.Mathlib.Omega.{arith}
use Prim.Native.Nat.{ℕ, suc, ◌+◌, ◌<◌}
use mathlib.Core.Path.{◌≡◌, refl, ap, sym, ◌∙◌}
use mathlib.Core.Bool.{Bool}
use mathlib.Core.List.{List, [], ◌++◌}
use lib.ListN.{length, get_or, set, drop, drop_of_length-le}
use Rattle.lists.specs.Lists.{fill}
use Rattle.records.specs.declared.carrier.Carrier.{Carrier}
use Rattle.rules.specs.declared.report.Reports.{Reports}
use Rattle.rules.specs.State.{state_of, record_of}
use Rattle.rules.specs.Held.{Held}
use Rattle.image.specs.Image.{tool_from, reports_from}
use Rattle.parts.specs.Told.{note_all}
use Rattle.parts.proofs.Notes.{note_all_append}
use Rattle.follow.proofs.Entries.{kept_all, kept_twice}
use Rattle.mapped.specs.Bytes.{own_in}
use Rattle.prediction.specs.declared.prediction.Prediction.{Prediction}
use Rattle.prediction.specs.declared.prediction.Times.{Times}
use Rattle.prediction.specs.declared.prediction.Facts.{Facts}
use Rattle.prediction.specs.Predictions.{no_prediction}
use Rattle.prediction.specs.Outcome.{Moved, along, told, all_along, all_told}
use Rattle.times.specs.Bytes.{predictions_from}
use Rattle.predicted.specs.Bytes.{base_in, used_in, facts_in}
use Rattle.predicted.proofs.Turns.{first_of, first_all, turned, untouched, along_length, along_at, told_from}
use Rattle.predicted.proofs.Movers.{used_long, as_many, fits, told_of}
use Rattle.predicted.proofs.along.all_along.Goals as goal

abbrev asks : List (List ℕ) → Bool → Times → Carrier → Prediction → Facts
asks m timed t = facts_in timed t (base_in m)

abbrev ended : List (List ℕ) → Bool → Times → List Prediction
ended m timed t = all_along (asks m timed t) (base_in m).carriers (used_in m)

-- one turn, of the carrier at k
module _ (m₀ m : List (List ℕ)) (timed : Bool) (t : Times) (k : ℕ) (h : Held (tool_from (get_or m₀ 0 [])))
    (b : k < (tool_from (get_or m₀ 0 [])).count) (same : get_or m 0 [] ≡ get_or m₀ 0 [])
    (laid : predictions_from (own_in m) ≡ fill 36 no_prediction (first_of k (ended m₀ timed t) (used_in m₀))) where
  inside : k < length (used_in m₀)
  inside = let l = used_long m₀ h in omega arith

  abbrev here : Prediction
  here = get_or (predictions_from (own_in m)) k no_prediction

  here_is : here ≡ get_or (used_in m₀) k no_prediction
  here_is =
      ap (λ l. get_or l k no_prediction) laid
      ∙ untouched no_prediction 36 k (ended m₀ timed t) (used_in m₀) (along_length (asks m₀ timed t) _ _ (as_many m₀ h)) (fits m₀ h)

  abbrev moved : Moved
  moved = along (facts_in timed t (base_in m) (record_of (base_in m) k) here) here

  moved_is : moved ≡ along (asks m₀ timed t (record_of (base_in m₀) k) (get_or (used_in m₀) k no_prediction)) (get_or (used_in m₀) k no_prediction)
  moved_is = rw (here_is, same)

  after : suc k ≡ k + 1
  after = omega arith

  pub laid_next : set (predictions_from (own_in m)) k moved.prediction ≡ fill 36 no_prediction (first_of (k + 1) (ended m₀ timed t) (used_in m₀))
  unfolding record_of
  laid_next =
      rw (← after)
      (ap (λ l. set l k moved.prediction) laid
      ∙ turned no_prediction 36 k (ended m₀ timed t) (used_in m₀) moved.prediction (along_length (asks m₀ timed t) _ _ (as_many m₀ h)) inside
      (ap (λ (m : Moved). m.prediction) moved_is ∙ along_at (asks m₀ timed t) (base_in m₀).carriers (used_in m₀) k (as_many m₀ h) inside))

  pub told_next : (r s : Reports) → s ≡ note_all r (told (record_of (base_in m) k).name here.state moved.passed)
      → note_all s (all_told (asks m₀ timed t) (drop (k + 1) (base_in m₀).carriers) (drop (k + 1) (used_in m₀)))
      ≡ note_all r (all_told (asks m₀ timed t) (drop k (base_in m₀).carriers) (drop k (used_in m₀)))
  unfolding record_of
  told_next r s e =
      let l = as_many m₀ h in
      let i = inside in
      rw (e, ← after)
      (sym (note_all_append r _ _)
      ∙ ap (λ x. note_all r (x ++ all_told (asks m₀ timed t) (drop (suc k) (base_in m₀).carriers) (drop (suc k) (used_in m₀))))
      (told_of (ap (λ b. (record_of (state_of (tool_from b)) k).name) same) (ap (λ (p : Prediction). p.state) here_is)
      (ap (λ (m : Moved). m.passed) moved_is))
      ∙ ap (note_all r) (sym (told_from (asks m₀ timed t) (base_in m₀).carriers (used_in m₀) k (omega arith) i)))

none_told : (f : Carrier → Prediction → Facts) (r : Reports) {cs : List Carrier} (ps : List Prediction) → cs ≡ [] → note_all r (all_told f cs ps) ≡ r
unfolding note_all all_told
none_told f r ps e = rw e

pub loop-k-init : goal.loop-k-init
unfolding first_of
loop-k-init c =
    (c.from-n.ensures ∙ c.count.ensures, omega arith, c.requires.held, refl, c.requires.none_after, refl, kept_all _ _ _)

pub along_at-requires : goal.along_at-requires
along_at-requires c =
    let i = c.loop-k.invariant in
    let f = i.2.few_carriers in
    record { held = rw i.3 i.2; k_bound = omega arith }

pub loop-k-preserved : goal.loop-k-preserved
loop-k-preserved c =
    let a = c.args in
    let i = c.loop-k.invariant in
    let e = c.along_at.ensures in
    let l = laid_next a.m.now c.loop-k.m a.timed a.t c.loop-k.k i.2 (omega arith) i.3 i.4 in
    let n = told_next a.m.now c.loop-k.m a.timed a.t c.loop-k.k i.2 (omega arith) i.3 i.4 (reports_from c.loop-k.o) _ e.o_after in
    (i.0, omega arith, i.2, e.m_unchanged ∙ i.3, e.m_after ∙ l, n ∙ i.5, kept_twice 1201 1597 _ _ _ i.6 e.kept_outside)

pub returns : goal.returns
returns c =
    let a = c.args in
    let i = c.loop-k.invariant in
    let m = a.m.now in
    let all : c.loop-k.k ≡ length (used_in m) = let l = used_long m i.2 in let e = i.0 in omega arith in
    let most = as_many m i.2 in
    let none : drop c.loop-k.k (base_in m).carriers ≡ [] = drop_of_length-le (base_in m).carriers {i = c.loop-k.k} (omega arith) in record {
      m_unchanged = i.3;
      m_after = i.4 ∙ ap (λ k. fill 36 no_prediction (first_of k (ended m a.timed a.t) (used_in m))) all
          ∙ ap (fill 36 no_prediction) (first_all no_prediction _ (used_in m) (along_length (asks m a.timed a.t) _ _ (as_many m i.2)));
      o_after = sym (none_told (asks m a.timed a.t) (reports_from c.loop-k.o) _ none) ∙ i.5;
      kept_outside = i.6;
    }
