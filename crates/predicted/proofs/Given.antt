-- What a step leaves is what the definitions give, refused or accepted.
use Prim.Native.Nat.{ℕ}
use mathlib.Core.Path.{◌≡◌, refl, ◌∙◌}
use mathlib.Core.Logic.{◌≢◌}
use mathlib.Core.List.{List, ◌++◌}
use borrow.Author.Tests.{ne_eqb}
use Rattle.lists.specs.Lists.{fill}
use Rattle.std.specs.Prelude.{Result, Ok}
use Rattle.records.specs.declared.refusal.Refusal.{Refusal}
use Rattle.records.specs.Refusals.{answer}
use Rattle.rules.specs.declared.report.Reports.{Reports}
use Rattle.rules.specs.State.{State}
use Rattle.rules.specs.Reports.{no_reports, listed, differences}
use Rattle.image.specs.Image.{reports_from}
use Rattle.mapped.specs.Bytes.{own_in}
use Rattle.queue.specs.State as queue
use Rattle.queue.specs.State.{QueuedTool}
use Rattle.queued.specs.Bytes.{queued_in}
use Rattle.prediction.specs.declared.prediction.Prediction.{Prediction}
use Rattle.prediction.specs.declared.prediction.Times.{Times}
use Rattle.prediction.specs.Predictions.{no_prediction}
use Rattle.prediction.specs.State.{Predicted, base_of, state_of, in_tool, Timed}
use Rattle.prediction.specs.Outcome as outcome
use Rattle.prediction.specs.Outcome.{Given, answer_in, state_after, reports_in, given_in}
use Rattle.times.specs.Bytes.{times_from, predictions_from}
use Rattle.predicted.specs.Bytes.{predicted_in, left, all_after, told_after}

-- the same parts, the same Given
given_of : {q u : QueuedTool} {t v : Times} {p k : List Prediction} {a : ℕ} {r s : Reports} → q ≡ u → t ≡ v → p ≡ k → r ≡ s
    → ◌≡◌ {A = Given} (record { tool = record { queued = q; times = t; predictions = p }; answer = a; reports = r })
    (record { tool = record { queued = u; times = v; predictions = k }; answer = a; reports = s })
given_of a b c d = rw (a, b, c, d)

-- the same carriers, predictions, times and position: all moves alike
module _ (number time : ℕ) {t v : Times} {a b : State} {ps qs : List Prediction} {j k : ℕ}
    (e : t ≡ v) (f : a ≡ b) (g : ps ≡ qs) (h : j ≡ k) where
  pub same_after : all_after number t time a ps j ≡ all_after number v time b qs k
  same_after = rw (e, f, g, h)

  pub same_told : told_after number t time a ps j ≡ told_after number v time b qs k
  same_told = rw (e, f, g, h)

module _ (m : List (List ℕ)) (i : Timed) where
  abbrev s : Predicted
  s = state_of (predicted_in m)

  pub refused_left : (a : Result Unit Refusal) (o : List ℕ) → answer_in s i ≡ answer a → answer a ≢ 0 → reports_from o ≡ no_reports → left m o a ≡ given_in (predicted_in m) i
  unfolding given_in
  refused_left a o e d r = rw (e, ne_eqb (answer a) 0 d, r)

  -- and another tool that holds the same
  pub refused_then : (n : List (List ℕ)) (a : Result Unit Refusal) (o : List ℕ) → queued_in n ≡ queued_in m → times_from (own_in n) ≡ times_from (own_in m)
      → predictions_from (own_in n) ≡ predictions_from (own_in m) → answer_in s i ≡ answer a → answer a ≢ 0 → reports_from o ≡ no_reports
      → left n o a ≡ given_in (predicted_in m) i
  refused_then n a o q t p e d r = given_of q t p refl ∙ refused_left a o e d r

  accepted_is : answer_in s i ≡ 0 → ◌≡◌ {A = Given} (record {
    tool = record {
      queued = queue.in_tool (outcome.below s i).after;
      times = outcome.times_then s i;
      predictions = fill 36 no_prediction (outcome.third s i);
    };
    answer = 0;
    reports = listed (differences (base_of s) (outcome.after s i) ++ outcome.eight s i);
  }) (given_in (predicted_in m) i)
  unfolding given_in state_after reports_in in_tool
  accepted_is z = rw z

  pub accepted_left : answer_in s i ≡ 0 → (n : List (List ℕ)) (o : List ℕ)
      → queued_in n ≡ queue.in_tool (outcome.below s i).after → times_from (own_in n) ≡ outcome.times_then s i
      → predictions_from (own_in n) ≡ fill 36 no_prediction (outcome.third s i)
      → reports_from o ≡ listed (differences (base_of s) (outcome.after s i) ++ outcome.eight s i)
      → left n o (Ok tt) ≡ given_in (predicted_in m) i
  accepted_left z n o q t p r = given_of q t p r ∙ accepted_is z
