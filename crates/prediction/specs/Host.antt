-- What a host that schedules vehicles may count on.
use Rattle.std.specs.Prelude.{ℕ, Bool, not, ◌&&◌, ◌||◌, List, [], ◌∷◌, eqb}
use Rattle.lists.specs.Lists.{any}
use Rattle.rules.specs.declared.report.Report.{Report}
use Rattle.prediction.specs.declared.prediction.Prediction.{Prediction}
use Rattle.prediction.specs.Model.{waiting_for_carrier, waiting_for_prediction, predicted, aborted, completed, disabled}
use Rattle.prediction.specs.declared.prediction.Times.{Times}
use Rattle.prediction.specs.Predictions.{has_tp, is_soon}

-- ── Every report of model 8 is one of document 000's transitions, or of a record made or gone ──
pub record Step : Type 0 where
  pub number : ℕ
  pub from : ℕ
  pub to : ℕ

abbrev step : ℕ → ℕ → ℕ → Step
step number from to = record { number = number; from = from; to = to }

abbrev pub steps : List Step
steps =
    step 23 waiting_for_carrier waiting_for_prediction
    ∷ step 24 waiting_for_prediction predicted
    ∷ step 25 predicted completed
    ∷ step 26 waiting_for_carrier disabled
    ∷ step 27 waiting_for_prediction aborted
    ∷ step 28 predicted aborted
    ∷ step 29 aborted completed
    ∷ []

abbrev pub is_step : ℕ → ℕ → Bool
is_step old new = any (λ t. eqb t.from old && eqb t.to new) steps

-- a record is made, and waits for its carrier; or it goes
abbrev pub is_made : ℕ → ℕ → Bool
is_made old new = eqb old 0 && eqb new waiting_for_carrier

abbrev pub is_gone : ℕ → ℕ → Bool
is_gone old new = not (eqb old 0) && eqb new 0

unfoldable pub in_model : Report → Bool
in_model r = eqb r.model 8 && (is_step r.old r.new || is_made r.old r.new || is_gone r.old r.new)

-- ── Nobody is left WAITING FOR PREDICTION whose Tp is within the setting time ──
unfoldable pub not_forgotten : Times → Prediction → Bool
not_forgotten t p = not (eqb p.state waiting_for_prediction && (has_tp p && is_soon t p))
