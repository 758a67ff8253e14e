-- What any other input leaves: the predictions follow the records, and then move along.
use Prim.Native.Nat.{ℕ, ◌-◌}
use mathlib.Core.Path.{◌≡◌, refl, ap, ap₂, sym, ◌∙◌}
use mathlib.Core.Bool.{Bool, true, false, not, cond, ◌&&◌}
use mathlib.Core.List.{List, [], ◌∷◌, ◌++◌, append_assoc}
use lib.ListN.{length, get_or}
use lib.Dec.{eqb}
use borrow.Author.Tests.{eqb-true}
use Rattle.records.specs.declared.name.Name.{Name}
use Rattle.rules.specs.declared.report.Report.{Report}
use Rattle.rules.specs.declared.report.Reports.{Reports}
use Rattle.rules.specs.State.{State, record_of}
use Rattle.rules.specs.Seen.{see}
use Rattle.rules.specs.Reports.{listed, no_reports, report_if}
use Rattle.parts.specs.Told.{note_all}
use Rattle.parts.proofs.Notes.{note_all_append, all_noted}
use Rattle.follow.specs.Follow.{followed_in}
use Rattle.queue.specs.State as queue
use Rattle.queue.specs.State.{QueuedTool}
use Rattle.queue.specs.Outcome as below
use Rattle.prediction.specs.declared.prediction.Prediction.{Prediction}
use Rattle.prediction.specs.Model.{waiting_for_carrier}
use Rattle.prediction.specs.Predictions.{no_prediction}
use Rattle.prediction.specs.State.{Predicted, base_of, Timed, is_fixed}
use Rattle.prediction.specs.Sound.{sound}
use Rattle.prediction.specs.Outcome as outcome
use Rattle.prediction.specs.Outcome.{is_timed, says_of, answer_in, below_in, told}
use Rattle.prediction.proofs.Effects.{input_changes}
use Rattle.prediction.proofs.Pairs.{as_long}
use Rattle.prediction.proofs.SoundRuns.{pairs_kept}
use Rattle.prediction.proofs.Sounds.{queue_part, pairs_part}
use Rattle.predicted.specs.Bytes.{told_after}

-- ── Below ──
pub below_given : (t : QueuedTool) (i : _) → below.answer_in (queue.state_of t) i ≡ 0
    → below.given_in t i
    ≡ below.accepted (queue.state_of t) (below.state_after (queue.state_of t) i) (below.row_in (queue.state_of t) i).stands
unfolding below.given_in
below_given t i z = rw z

pub below_refused : (t : QueuedTool) (i : _) → eqb (below.answer_in (queue.state_of t) i) 0 ≡ false
    → below.given_in t i ≡ below.refused t (below.answer_in (queue.state_of t) i)
unfolding below.given_in
below_refused t i z = rw z

-- both give the answer
pub given_answer : (t : QueuedTool) (i : _) → (below.given_in t i).answer ≡ below.answer_in (queue.state_of t) i
unfolding below.given_in
given_answer t i = go (eqb (below.answer_in (queue.state_of t) i) 0) refl
  where
    go : (w : Bool) → eqb (below.answer_in (queue.state_of t) i) 0 ≡ w
        → (cond w (below.accepted (queue.state_of t) (below.state_after (queue.state_of t) i) (below.row_in (queue.state_of t) i).stands)
        (below.refused t (below.answer_in (queue.state_of t) i))).answer ≡ below.answer_in (queue.state_of t) i
    go true e = sym (eqb-true _ 0 e)
    go false e = refl

module _ (s : Predicted) (i : Timed) (t : is_timed i.input.number ≡ false) where
  pub answer_is : answer_in s i ≡ below.answer_in s.queued i.input
  unfolding answer_in
  answer_is = rw t

  pub after_is : (outcome.below s i).after ≡ below.state_after s.queued i.input
  unfolding below_in
  after_is = rw t

  pub goes_is : (outcome.below s i).goes ≡ below.goes_in s.queued.mapped (below.row_in s.queued i.input).stands
  unfolding below_in
  goes_is = rw t

  pub made_is : (outcome.below s i).made ≡ below.made_in s.queued.mapped (below.row_in s.queued i.input).stands
  unfolding below_in
  made_is = rw t

  pub times_is : s.times ≡ outcome.times_then s i
  times_is = rw t

  -- one prediction for each record that is there then
  pub first_long : sound s ≡ true → answer_in s i ≡ 0 → length (outcome.first s i) ≡ length (outcome.after s i).carriers
  first_long h z =
      let c = input_changes s.queued i.input (queue_part s h) (sym answer_is ∙ z) in
      rw (goes_is, made_is, after_is) (as_long (pairs_kept (base_of s) _ _ _ c s.predictions (pairs_part s h)))

  -- where the named carrier stands
  pub spot_is : (b : State) → b ≡ outcome.after s i → (n : ℕ) → n ≡ length b.carriers
      → cond (says_of i.input.number) (see b i.input).stands n ≡ outcome.spot s i
  spot_is b e n l = rw (l, e)

-- the same table, followed alike
pub follow_of : {n k g h : ℕ} {a b : Bool} {x y : Prediction} {l r : List Prediction} → n ≡ k → g ≡ h → a ≡ b → x ≡ y → l ≡ r
    → followed_in no_prediction n g a x l ≡ followed_in no_prediction k h b y r
follow_of p q r s t = rw (p, q, r, s, t)

-- ── Reports ──
-- noted after a list that is there
pub noted_on : (l k : List Report) → note_all (listed l) k ≡ listed (l ++ k)
noted_on l k = ap (λ r. note_all r k) (sym (all_noted l)) ∙ sym (note_all_append no_reports l k) ∙ all_noted (l ++ k)

gone_told : (n : Name) (k : ℕ) → report_if (not (eqb k 0)) 8 0 n k 0 ≡ told n k (cond (eqb k 0) [] (0 ∷ []))
unfolding report_if told
gone_told n k = go (eqb k 0)
  where
    go : (w : Bool) → report_if (not w) 8 0 n k 0 ≡ told n k (cond w [] (0 ∷ []))
    go true = refl
    go false = refl

fresh_told : (n : Name) (w : Bool) → report_if w 8 0 n 0 2 ≡ cond w (told n 0 (waiting_for_carrier ∷ [])) []
unfolding report_if told
fresh_told n true = refl
fresh_told n false = refl

module _ (s : Predicted) (i : Timed) where
  -- what is told of the record that goes and of the one that is made
  pub records_told : (g k : ℕ) (m f : Bool) (n t : Name) → g ≡ (outcome.below s i).goes → m ≡ (outcome.below s i).made
      → k ≡ (get_or s.predictions g no_prediction).state → n ≡ (record_of (base_of s) g).name → f ≡ is_fixed (base_of s)
      → t ≡ (record_of (outcome.after s i) (length (outcome.after s i).carriers - 1)).name
      → report_if (not (eqb k 0)) 8 0 n k 0 ++ report_if (m && f) 8 0 t 0 2 ≡ outcome.gone s i ++ outcome.fresh s i
  records_told g k m f n t a b c d x y =
      rw (
        x,
        y,
        d,
        c,
        a,
        b,
        gone_told (record_of (base_of s) (outcome.below s i).goes).name (get_or s.predictions (outcome.below s i).goes no_prediction).state,
        fresh_told (record_of (outcome.after s i) (length (outcome.after s i).carriers - 1)).name ((outcome.below s i).made && is_fixed (base_of s)),
      )

  abbrev moved : List Report
  moved = told_after i.input.number (outcome.times_then s i) i.time (outcome.after s i) (outcome.first s i) (outcome.spot s i)

  -- one list after the other
  reports_are : (l : List Report) → (l ++ (outcome.gone s i ++ outcome.fresh s i)) ++ moved ≡ l ++ outcome.eight s i
  reports_are l = joined l (outcome.gone s i ++ outcome.fresh s i) _ _
    where
      joined : (a b c d : List Report) → (a ++ b) ++ (c ++ d) ≡ a ++ (b ++ c ++ d)
      joined a b c d = append_assoc a b (c ++ d) ∙ ap (λ l. a ++ l) (sym (append_assoc b c d))

  pub all_told : (l : List Report) (r q : Reports) (g : List Report) → r ≡ listed l → q ≡ note_all r g → g ≡ outcome.gone s i ++ outcome.fresh s i
      → note_all q moved ≡ listed (l ++ outcome.eight s i)
  all_told l r q g a b c =
      ap (λ q. note_all q moved) (b ∙ ap₂ note_all a c ∙ noted_on l (outcome.gone s i ++ outcome.fresh s i))
      ∙ noted_on (l ++ (outcome.gone s i ++ outcome.fresh s i)) moved ∙ ap listed (reports_are l)
