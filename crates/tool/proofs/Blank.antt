-- A block of zeros: no map, no request, no time, no prediction, no alarm, and nothing unused.
use Prim.Native.Nat.{ℕ, ◌+◌, ◌*◌}
use mathlib.Core.Path.{◌≡◌, ◌∙◌}
use mathlib.Core.List.{List, []}
use lib.ListN.{get_or, replicate}
use Rattle.rules.specs.declared.tool.Tool.{Tool}
use Rattle.image.specs.Image.{tool_from, bytes_from}
use Rattle.image.proofs.Table.{table_same, table_const}
use Rattle.machine.proofs.Fresh.{zero_at}
use Rattle.follow.specs.Follow.{entries_from}
use Rattle.maps.specs.State.{no_maps}
use Rattle.maps.specs.Expected.{no_map}
use Rattle.mapped.specs.Bytes.{maps_from, own_in}
use Rattle.queue.specs.Requests.{no_request}
use Rattle.queue.specs.State.{no_requests}
use Rattle.line.specs.Bytes.{request_start, request_from, queue_from}
use Rattle.queued.specs.Bytes.{queued_in}
use Rattle.prediction.specs.declared.prediction.Times.{Times}
use Rattle.prediction.specs.Predictions.{no_prediction}
use Rattle.prediction.specs.State.{no_predictions}
use Rattle.hands.specs.Alarms.{no_alarm}
use Rattle.hands.specs.State.{no_alarms}
use Rattle.handled.specs.Bytes.{alarm_from, alarm_start, alarms_from}
use Rattle.times.specs.Bytes.{seconds_from, times_from, prediction_from, prediction_start, predictions_from}

abbrev pub zeros : List ℕ
zeros = replicate 1891 0

pub none_used : (o n : ℕ) → bytes_from zeros o n ≡ replicate n 0
none_used o n = table_same n _ (λ i. 0) (λ i h. zero_at 1891 (o + i)) ∙ table_const n 0

pub no_maps_fact : maps_from zeros ≡ no_maps
unfolding entries_from
no_maps_fact = table_same 36 _ (λ k. no_map) (λ k h. none_used (0 + 25 * k) 25) ∙ table_const 36 no_map

pub no_requests_fact : queue_from zeros ≡ no_requests
unfolding queue_from
no_requests_fact = table_same 16 _ (λ k. no_request) (λ k h. none_at (request_start k)) ∙ table_const 16 no_request
  where
    none_at : (o : ℕ) → request_from zeros o ≡ no_request
    none_at o = rw (none_used o 16, zero_at 1891 (o + 16), zero_at 1891 (o + 17))

no_seconds : (o : ℕ) → seconds_from zeros o ≡ 0
unfolding seconds_from
no_seconds o = rw (zero_at 1891 o, zero_at 1891 (o + 1), zero_at 1891 (o + 2), zero_at 1891 (o + 3))

pub no_times : ◌≡◌ {A = Times} (times_from zeros) (record { now = 0; setting = 0; timeout = 0 })
unfolding times_from
no_times = rw (no_seconds 1189, no_seconds 1193, no_seconds 1197)

pub no_predictions_fact : predictions_from zeros ≡ no_predictions
unfolding predictions_from prediction_from
no_predictions_fact = table_same 36 _ (λ k. no_prediction) (λ k h. none_at (prediction_start k)) ∙ table_const 36 no_prediction
  where
    none_at : (o : ℕ) → prediction_from zeros o ≡ no_prediction
    none_at o = rw (zero_at 1891 o, zero_at 1891 (o + 1), zero_at 1891 (o + 2), no_seconds (o + 3), no_seconds (o + 7))

pub no_alarms_fact : alarms_from zeros ≡ no_alarms
unfolding alarms_from
no_alarms_fact = table_same 4 _ (λ k. no_alarm) (λ k h. none_at (alarm_start k)) ∙ table_const 4 no_alarm
  where
    none_at : (o : ℕ) → alarm_from zeros o ≡ no_alarm
    none_at o = rw (zero_at 1891 o, zero_at 1891 (o + 1))

-- beside document 01's tool
pub queued_made : (m : List (List ℕ)) {t : Tool} → tool_from (get_or m 0 []) ≡ t → own_in m ≡ zeros
    → queued_in m ≡ record { mapped = record { base = t; maps = no_maps }; waiting = 0; queue = no_requests }
queued_made m p q = rw (p, q, no_maps_fact, no_requests_fact, zero_at 1891 900)
