-- Soundness of the predictions as the code tests it: one for each record, none after them.
use Rattle.std.specs.Prelude.{ℕ, Bool, ◌&&◌, List, take, drop}
use Rattle.lists.specs.Lists.{every}
use Rattle.rules.specs.State.{State}
use Rattle.prediction.specs.declared.prediction.Prediction.{Prediction}
use Rattle.prediction.specs.Sound.{is_none, each_fits}

unfoldable pub sound_predictions : State → ℕ → List Prediction → Bool
sound_predictions s n ps = each_fits s s.carriers (take n ps) && every is_none (drop n ps)
