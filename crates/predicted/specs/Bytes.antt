-- The tool with its predictions, in two blocks of 1,891 bytes; and what is read off them.
use Rattle.std.specs.Prelude.{ℕ, ◌≡◌, Bool, cond, Result, List, [], ◌++◌, get_or, set, take}
use Rattle.lists.specs.Lists.{fill}
use Rattle.records.specs.declared.refusal.Refusal.{Refusal}
use Rattle.records.specs.Refusals.{answer}
use Rattle.records.specs.declared.carrier.Carrier.{Carrier}
use Rattle.rules.specs.declared.report.Report.{Report}
use Rattle.rules.specs.State.{State, state_of, record_of}
use Rattle.image.specs.Image.{tool_from, reports_from}
use Rattle.mapped.specs.Bytes.{own_in}
use Rattle.queued.specs.Bytes.{queued_in}
use Rattle.prediction.specs.declared.prediction.Prediction.{Prediction}
use Rattle.prediction.specs.declared.prediction.Times.{Times}
use Rattle.prediction.specs.declared.prediction.Facts.{Facts}
use Rattle.prediction.specs.Predictions.{no_prediction, as_it_is, on_judging}
use Rattle.prediction.specs.State.{PredictedTool}
use Rattle.prediction.specs.Sound.{is_ready}
use Rattle.prediction.specs.Outcome.{Given, Moved, along, told, written, own_facts, all_facts, all_along, all_told}
use Rattle.times.specs.Bytes.{times_from, predictions_from}

abbrev pub predicted_in : List (List ℕ) → PredictedTool
predicted_in m = record { queued = queued_in m; times = times_from (own_in m); predictions = predictions_from (own_in m) }

-- what a step leaves: the bytes of the tool and of the reports, and its answer
abbrev pub left : List (List ℕ) → List ℕ → Result Unit Refusal → Given
left m o said = record { tool = predicted_in m; answer = answer said; reports = reports_from o }

-- ── What moves predictions along ──
-- document 01's state, and the predictions of its records
abbrev pub base_in : List (List ℕ) → State
base_in m = state_of (tool_from (get_or m 0 []))

abbrev pub used_in : List (List ℕ) → List Prediction
used_in m = take (tool_from (get_or m 0 [])).count (predictions_from (own_in m))

-- there is none after them
abbrev pub NoneAfter : List (List ℕ) → Type 0
NoneAfter m = predictions_from (own_in m) ≡ fill 36 no_prediction (used_in m)

-- what each carrier's transitions ask: it is judged after an input that brings a clock
abbrev pub facts_in : Bool → Times → State → Carrier → Prediction → Facts
facts_in timed t s c p = cond timed (on_judging t p (is_ready s c)) (as_it_is (is_ready s c))

-- the carrier at k, moved along by what an input does to it
abbrev pub own_moved : ℕ → Times → ℕ → State → List Prediction → ℕ → Moved
own_moved number t time s ps k =
    along (own_facts number t (get_or ps k no_prediction) (is_ready s (record_of s k))) (written number t time (get_or ps k no_prediction))

abbrev pub own_after : ℕ → Times → ℕ → State → List Prediction → ℕ → List Prediction
own_after number t time s ps k = set ps k (own_moved number t time s ps k).prediction

-- and then all of them, in record order
abbrev pub all_after : ℕ → Times → ℕ → State → List Prediction → ℕ → List Prediction
all_after number t time s ps k = all_along (all_facts number t s) s.carriers (own_after number t time s ps k)

-- with what is told of it
abbrev pub told_after : ℕ → Times → ℕ → State → List Prediction → ℕ → List Report
told_after number t time s ps k = told (record_of s k).name (get_or ps k no_prediction).state (own_moved number t time s ps k).passed
    ++ all_told (all_facts number t s) s.carriers (own_after number t time s ps k)
