-- Where no byte of theirs is written, times and predictions stay.
use Prim.Native.Nat.{ℕ, ◌+◌, ◌≤◌}
use native.Mathlib.Omega.{arith}
use mathlib.Core.Path.{◌≡◌}
use mathlib.Core.List.{List}
use Rattle.image.proofs.Table.{table_same}
use Rattle.follow.specs.Follow.{KeptOutside}
use Rattle.times.specs.Bytes.{seconds_from, times_from, prediction_start, predictions_from}
use Rattle.times.proofs.Written.{seconds_same, prediction_same}

module _ (o e : ℕ) (m n : List ℕ) (kept : KeptOutside o e m n) where
  pub seconds_before : (p : ℕ) → p + 4 ≤ o → seconds_from n p ≡ seconds_from m p
  seconds_before p h = seconds_same n m p p (λ i b. kept.before (p + i) (omega arith))

  pub seconds_after : (p : ℕ) → e ≤ p → seconds_from n p ≡ seconds_from m p
  seconds_after p h = seconds_same n m p p (λ i b. kept.after (p + i) (omega arith))

  pub times_before : 1201 ≤ o → times_from n ≡ times_from m
  unfolding times_from
  times_before h = rw (seconds_before 1189 (omega arith), seconds_before 1193 (omega arith), seconds_before 1197 (omega arith))

  pub times_after : e ≤ 1189 → times_from n ≡ times_from m
  unfolding times_from
  times_after h = rw (seconds_after 1189 (omega arith), seconds_after 1193 (omega arith), seconds_after 1197 (omega arith))

  pub predictions_after : e ≤ 1201 → predictions_from n ≡ predictions_from m
  unfolding predictions_from
  predictions_after h =
      table_same 36 _ _ (λ k b. prediction_same n m (prediction_start k) (prediction_start k)
      (λ i c. kept.after (prediction_start k + i) (omega arith)))
