-- Times and predictions in the second block of a tool.
use Rattle.std.specs.Prelude.{ℕ, ◌+◌, ◌*◌, ◌/◌, ◌%◌, List, [], ◌∷◌, ◌++◌}
use Rattle.image.specs.Image.{table, byte_at}
use Rattle.prediction.specs.declared.prediction.Prediction.{Prediction}
use Rattle.prediction.specs.declared.prediction.Times.{Times}

-- a number of seconds in four bytes, low byte first
unfoldable pub seconds_from : List ℕ → ℕ → ℕ
seconds_from m o = byte_at m o + 256 * byte_at m (o + 1) + 65536 * byte_at m (o + 2) + 16777216 * byte_at m (o + 3)

unfoldable pub seconds_bytes : ℕ → List ℕ
seconds_bytes n = n % 256 ∷ n / 256 % 256 ∷ n / 65536 % 256 ∷ n / 16777216 % 256 ∷ []

-- From byte 1189 on: the clock, the setting time, the timeout.
unfoldable pub times_from : List ℕ → Times
times_from m = record { now = seconds_from m 1189; setting = seconds_from m 1193; timeout = seconds_from m 1197 }

-- Then 36 predictions of 11 bytes each, in record order: the state, whether there is a Tp and a Te, and these.
abbrev pub prediction_start : ℕ → ℕ
prediction_start k = 1201 + 11 * k

unfoldable pub prediction_from : List ℕ → ℕ → Prediction
prediction_from m o = record {
  state = byte_at m o;
  known = byte_at m (o + 1);
  estimated = byte_at m (o + 2);
  tp = seconds_from m (o + 3);
  te = seconds_from m (o + 7);
}

unfoldable pub predictions_from : List ℕ → List Prediction
predictions_from m = table 36 (λ k. prediction_from m (prediction_start k))

-- what a prediction is as bytes
unfoldable pub prediction_bytes : Prediction → List ℕ
prediction_bytes p = (p.state ∷ p.known ∷ p.estimated ∷ []) ++ seconds_bytes p.tp ++ seconds_bytes p.te
