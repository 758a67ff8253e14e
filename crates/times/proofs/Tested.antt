-- What the code tests makes a tool sound whose queue is.
use mathlib.Core.Path.{◌≡◌, refl}
use mathlib.Core.Bool.{Bool, true, false, ◌&&◌}
use lib.ListN.{drop}
use Rattle.lists.specs.Lists.{every}
use Rattle.queue.specs.Sound as queue
use Rattle.queue.proofs.SoundTools as queue-tools
use Rattle.prediction.specs.State.{base_of, PredictedTool, count_of, state_of}
use Rattle.prediction.specs.Sound.{times_in_range, is_none, each_fits, sound, sound_tool}
use Rattle.times.specs.Tests.{sound_predictions}

last_first : (a b c : Bool) → (a && (b && c)) ≡ (c && (a && b))
last_first true true true = refl
last_first true true false = refl
last_first true false true = refl
last_first true false false = refl
last_first false b true = refl
last_first false b false = refl

pub predictions_tested : (t : PredictedTool) → queue.sound_tool t.queued ≡ true
    → (times_in_range t.times && sound_predictions (base_of (state_of t)) (count_of t) t.predictions) ≡ sound_tool t
unfolding sound_predictions sound sound_tool
predictions_tested t h =
    rw (h, queue-tools.tool_sound t.queued h)
    (last_first (times_in_range t.times) (each_fits (base_of (state_of t)) (base_of (state_of t)).carriers (state_of t).predictions)
    (every is_none (drop (count_of t) t.predictions)))
