-- The predictions in the bytes, one by one.
use Prim.Native.Nat.{ℕ, ◌<◌, ◌≤◌}
use native.Mathlib.Omega.{arith}
use mathlib.Core.Path.{◌≡◌}
use mathlib.Core.List.{List}
use lib.ListN.{length, get_or, get_or-eq_default}
use Rattle.image.proofs.Table.{getD_table, length_table}
use Rattle.prediction.specs.Predictions.{no_prediction}
use Rattle.times.specs.Bytes.{prediction_start, prediction_from, predictions_from}

module _ (m : List ℕ) where
  pub predictions_long : length (predictions_from m) ≡ 36
  unfolding predictions_from
  predictions_long = length_table 36 (λ k. prediction_from m (prediction_start k))

  pub prediction_is : (k : ℕ) → k < 36 → get_or (predictions_from m) k no_prediction ≡ prediction_from m (prediction_start k)
  unfolding predictions_from
  prediction_is k h = getD_table 36 (λ k. prediction_from m (prediction_start k)) k no_prediction h

  pub prediction_out : (k : ℕ) → 36 ≤ k → get_or (predictions_from m) k no_prediction ≡ no_prediction
  prediction_out k h = let l = predictions_long in get_or-eq_default (predictions_from m) no_prediction (omega arith)
