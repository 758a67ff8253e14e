-- The list of an input's reports, part by part and in numbers.
use Prim.Native.Nat.{ℕ, ◌+◌, ◌≤◌}
use native.Mathlib.Omega.{arith}
use mathlib.Core.Path.{◌≡◌, ap, sym, ◌∙◌}
use mathlib.Core.Bool.{Bool, true, false, cond, ◌&&◌}
use mathlib.Core.List.{List, [], ◌∷◌, ◌++◌}
use lib.ListN.{length, get_or, length-append, length-set, get_or-eq_default}
use lib.Dec.{eqb}
use Rattle.records.specs.declared.name.Name.{Name}
use Rattle.rules.specs.declared.report.Report.{Report}
use Rattle.rules.specs.State.{State, record_of}
use Rattle.rules.specs.Reports.{differences}
use Rattle.rules.proofs.SoundParts as base-parts
use Rattle.queue.proofs.Below.{base_facts}
use Rattle.queue.proofs.SoundRuns as queue-runs
use Rattle.prediction.specs.declared.prediction.Prediction.{Prediction}
use Rattle.prediction.specs.declared.prediction.Facts.{Facts}
use Rattle.prediction.specs.Model.{course, waiting_for_carrier}
use Rattle.prediction.specs.Predictions.{no_prediction}
use Rattle.prediction.specs.State.{Predicted, base_of, Timed, is_fixed}
use Rattle.prediction.specs.Sound.{is_ready, sound}
use Rattle.prediction.specs.Outcome as outcome
use Rattle.prediction.specs.Outcome.{answer_in, told, all_told, own_facts, all_facts}
use Rattle.prediction.proofs.Pairs.{as_long}
use Rattle.prediction.proofs.Written.{same_state, own_ready}
use Rattle.prediction.proofs.Sounds.{queue_part, second_near, enact_sound}
use Rattle.nine.proofs.Few.{is_overdue, not_left_fact}
use Rattle.nine.proofs.Together.{told_length}
use Rattle.nine.proofs.Freed.{overdue_in}

-- ── The parts, in numbers ──
one_at_most : (n : Name) (old new : ℕ) (b : Bool) → length (told n old (cond b [] (new ∷ []))) ≤ 1
one_at_most n old new true = rw (told_length n old []) (omega arith)
one_at_most n old new false = rw (told_length n old (new ∷ [])) (omega arith)

module _ (s : Predicted) (i : Timed) where
  abbrev pub number : ℕ
  number = i.input.number

  abbrev pub then : State
  then = outcome.after s i

  abbrev pub spot : ℕ
  spot = outcome.spot s i

  abbrev pub first : List Prediction
  first = outcome.first s i

  -- of the carrier that is named, and then of each
  abbrev pub own_told : List Report
  own_told = told (record_of then spot).name (get_or first spot no_prediction).state (outcome.own_moved s i).passed

  abbrev pub others_told : List Report
  others_told = all_told (all_facts number (outcome.times_then s i) then) then.carriers (outcome.second s i)

  -- what the transitions of the carrier that is named ask
  abbrev pub facts : Facts
  facts = own_facts number (outcome.times_then s i) (get_or first spot no_prediction) (is_ready then (record_of then spot))

  -- one at most that goes, and one that is made
  pub gone_one : length (outcome.gone s i) ≤ 1
  gone_one = one_at_most _ _ 0 (eqb (get_or s.predictions (outcome.below s i).goes no_prediction).state 0)

  pub gone_none : length s.predictions ≤ (outcome.below s i).goes → length (outcome.gone s i) ≡ 0
  unfolding told
  gone_none b = rw (get_or-eq_default s.predictions no_prediction b)

  pub fresh_one : length (outcome.fresh s i) ≤ 1
  unfolding told
  fresh_one = go _ ((outcome.below s i).made && is_fixed (base_of s))
    where
      go : (n : Name) (w : Bool) → length (cond w (told n 0 (waiting_for_carrier ∷ [])) []) ≤ 1
      go n true = omega arith
      go n false = omega arith

  pub fresh_none : (outcome.below s i).made ≡ false → length (outcome.fresh s i) ≡ 0
  fresh_none m = rw m

  pub own_told_fact : length own_told ≡ length (course facts (get_or first spot no_prediction).state)
  own_told_fact =
      told_length _ _ (outcome.own_moved s i).passed
      ∙ ap (λ z. length (course facts z)) (same_state number (outcome.times_then s i) i.time (get_or first spot no_prediction))

  -- the five parts
  pub all_parts : length (differences (base_of s) then ++ outcome.eight s i)
      ≡ length (differences (base_of s) then)
      + (length (outcome.gone s i) + length (outcome.fresh s i) + length own_told + length others_told)
  all_parts = simp length-append

-- ── Before and after an input that is accepted ──
module _ (s : Predicted) (i : Timed) (h : sound s ≡ true) (a : answer_in s i ≡ 0) where
  abbrev t : State
  t = then s i

  pub facts_after : base-parts.Facts t
  facts_after =
      let b = (outcome.below s i).after in
      base_facts b.mapped (queue-runs.sound_parts b (queue_part (outcome.enact s i) (enact_sound s i h a))).mapped

  pub facts_before : base-parts.Facts (base_of s)
  facts_before = base_facts s.queued.mapped (queue-runs.sound_parts s.queued (queue_part s h)).mapped

  second_long : length (outcome.second s i) ≡ length t.carriers
  second_long = as_long (second_near s i h a)

  pub first_long : length (first s i) ≡ length t.carriers
  first_long = sym (length-set (first s i) (spot s i) _) ∙ second_long

  -- the carrier that is named isn't left overdue
  pub own_not_overdue : overdue_in t (record_of t (spot s i)) (outcome.own_moved s i).prediction ≡ false
  own_not_overdue =
      let r = own_ready (number s i) (outcome.times_then s i) (get_or (first s i) (spot s i) no_prediction) (is_ready t (record_of t (spot s i))) in
      ap (λ b. is_overdue b (outcome.own_moved s i).prediction.state) (sym r) ∙ not_left_fact (outcome.own s i).state (facts s i)
