-- What the four inputs that bring a clock ask, of what the code sees: every number of 32 bits is a time.
use Rattle.std.specs.Prelude.{ℕ, Bool, cond, List, [], ◌∷◌, eqb}
use Rattle.rules.specs.declared.row.Seen.{Seen}
use Rattle.rules.specs.Row.{Ground, when, unless}
use Rattle.prediction.specs.declared.prediction.Prediction.{Prediction}
use Rattle.prediction.specs.Model.{waiting_for_prediction}
use Rattle.prediction.specs.Predictions.{has_tp}

unfoldable pub timed_grounds : ℕ → Seen → Bool → Prediction → Bool → List Ground
timed_grounds n x fixed p back =
    cond (eqb n 31) (when back 11 ∷ [])
    (cond (eqb n 32) (unless x.named 1 ∷ unless x.known 2 ∷ unless fixed 5
    ∷ unless (eqb p.state waiting_for_prediction) 5 ∷ when (has_tp p) 5 ∷ when back 11 ∷ [])
    (cond (eqb n 33) (unless x.named 1 ∷ unless x.known 2 ∷ unless fixed 5 ∷ unless (has_tp p) 5 ∷ when back 11 ∷ [])
    (unless x.named 1 ∷ unless x.known 2 ∷ unless fixed 5 ∷ unless (eqb p.state waiting_for_prediction) 5 ∷ when back 11 ∷ [])))
