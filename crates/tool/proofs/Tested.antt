-- What the one test of soundness finds, and what follows from it.
use Prim.Native.Nat.{ℕ, ◌≤◌}
use native.Mathlib.Omega.{arith}
use mathlib.Core.Path.{◌≡◌, refl, ap, sym, ◌∙◌}
use mathlib.Core.Bool.{Bool, true, false, ◌&&◌}
use mathlib.Core.List.{List, []}
use lib.ListN.{length, get_or, take, drop}
use lib.Seq.{length-take-le}
use borrow.Author.Tests.{eq-eqb}
use Rattle.lists.specs.Lists.{every}
use Rattle.lists.proofs.Bools.{and_l, and_comm}
use Rattle.rules.specs.declared.tool.Tool.{Tool}
use Rattle.rules.specs.State as base
use Rattle.rules.specs.Sound as base_sound
use Rattle.rules.specs.Held.{Held}
use Rattle.rules.proofs.Holding.{tool_sound, count_held, sound_held}
use Rattle.image.specs.Image.{bytes_from, tool_from}
use Rattle.image.proofs.Laid.{ports_long, carriers_long}
use Rattle.image.proofs.Table.{table_same}
use Rattle.passes.specs.Passes.{is_zero}
use Rattle.follow.specs.Follow.{KeptOutside}
use Rattle.maps.specs.Expected.{is_none, is_kept}
use Rattle.maps.specs.State.{MappedTool, state_of}
use Rattle.maps.specs.Sound as maps
use Rattle.mapped.specs.Bytes.{maps_from, own_in, mapped_in}
use Rattle.mapped.proofs.InBytes.{maps_long}
use Rattle.queue.specs.State as queue-state
use Rattle.queue.specs.State.{base_of, QueuedTool}
use Rattle.queue.specs.Sound as queue
use Rattle.line.specs.Bytes.{waiting_in, queue_from}
use Rattle.line.specs.Tests.{sound_line}
use Rattle.line.proofs.Laid.{queue_long}
use Rattle.line.proofs.Tested.{line_tested}
use Rattle.queued.specs.Bytes.{queued_in}
use Rattle.prediction.specs.declared.prediction.Prediction.{Prediction}
use Rattle.prediction.specs.declared.prediction.Times.{Times}
use Rattle.prediction.specs.State.{PredictedTool}
use Rattle.prediction.specs.Sound.{times_in_range}
use Rattle.prediction.specs.Sound as prediction
use Rattle.wafers.specs.Outcome.{Brought}
use Rattle.hands.specs.declared.alarm.Alarm.{Alarm}
use Rattle.hands.specs.State.{HandledTool}
use Rattle.hands.specs.Sound.{sound_tool}
use Rattle.hands.specs.Outcome.{given_in}
use Rattle.handled.specs.Bytes.{alarms_from, handled_in}
use Rattle.handled.specs.Tests.{sound_alarms}
use Rattle.handled.proofs.Tested.{alarms_tested}
use Rattle.times.specs.Bytes.{times_from, predictions_from}
use Rattle.times.specs.Tests.{sound_predictions}
use Rattle.times.proofs.Tested.{predictions_tested}
use Rattle.predicted.specs.Bytes.{predicted_in}
use Rattle.tool.specs.Whole.{Whole, whole_in, sound_whole, refused, around, outcome}

module _ (t : Tool) (m : List ℕ) (h : base_sound.sound_tool t ≡ true) (k : Held t) where
  abbrev both : MappedTool
  both = record { base = t; maps = maps_from m }

  as_many : length (take t.count (maps_from m)) ≡ length (base.state_of t).carriers
  as_many =
      let l = maps_long m in
      let f = k.few_carriers in
      length-take-le t.count (maps_from m) (omega arith) ∙ sym (count_held t k)

  state_sound : maps.sound (state_of both) ≡ every is_kept (take t.count (maps_from m))
  unfolding maps.sound
  state_sound = rw (tool_sound t h, eq-eqb _ _ as_many)

  pub maps_tested : (every is_kept (take t.count (maps_from m)) && every is_none (drop t.count (maps_from m))) ≡ maps.sound_tool both
  unfolding maps.sound_tool
  maps_tested = rw (h, state_sound) (and_comm (every is_kept (take t.count (maps_from m))) _)

-- what document 01's test finds
module _ (m : List (List ℕ)) (h : base_sound.sound_tool (tool_from (get_or m 0 [])) ≡ true) where
  pub held_when : Held (tool_from (get_or m 0 []))
  held_when = let b = get_or m 0 [] in sound_held (tool_from b) (ports_long b) (carriers_long b) h

  pub maps_tested_of : (n : ℕ) → n ≡ (tool_from (get_or m 0 [])).count → (b : Bool)
      → b ≡ (every is_kept (take n (maps_from (own_in m))) && every is_none (drop n (maps_from (own_in m)))) → b ≡ maps.sound_tool (mapped_in m)
  maps_tested_of n e b f =
      f ∙ ap (λ n. every is_kept (take n (maps_from (own_in m))) && every is_none (drop n (maps_from (own_in m)))) e
      ∙ maps_tested (tool_from (get_or m 0 [])) (own_in m) h held_when

unsound_below : (t : QueuedTool) → maps.sound_tool t.mapped ≡ false → queue.sound_tool t ≡ false
unfolding queue.sound_tool
unsound_below t e = rw e

-- the maps and the queue
pub queue_tested : (t : QueuedTool) → length t.queue ≡ 16
    → (maps.sound_tool t.mapped && sound_line (base_of (queue-state.state_of t)) t.waiting t.queue) ≡ queue.sound_tool t
queue_tested t long = go (maps.sound_tool t.mapped) refl
  where
    go : (w : Bool) → maps.sound_tool t.mapped ≡ w → (w && sound_line (base_of (queue-state.state_of t)) t.waiting t.queue) ≡ queue.sound_tool t
    go true e = line_tested t e long
    go false e = sym (unsound_below t e)

pub base_unsound : (m : List (List ℕ)) → base_sound.sound_tool (mapped_in m).base ≡ false → false ≡ sound_whole (whole_in m)
unfolding sound_whole sound_tool prediction.sound_tool queue.sound_tool maps.sound_tool
base_unsound m h = rw h

-- the times and the predictions, with a queue that is sound or not
unsound_queue : (t : PredictedTool) → queue.sound_tool t.queued ≡ false → prediction.sound_tool t ≡ false
unfolding prediction.sound_tool
unsound_queue t e = rw e

times_tested : (m : List (List ℕ)) (z : Bool)
    → (queue.sound_tool (queued_in m) && times_in_range (times_from (own_in m))
    && sound_predictions (base.state_of (mapped_in m).base) (mapped_in m).base.count (predictions_from (own_in m)) && z)
    ≡ (prediction.sound_tool (predicted_in m) && z)
times_tested m z = go (queue.sound_tool (queued_in m)) refl
  where
    go : (w : Bool) → queue.sound_tool (queued_in m) ≡ w
        → (w && times_in_range (times_from (own_in m))
        && sound_predictions (base.state_of (mapped_in m).base) (mapped_in m).base.count (predictions_from (own_in m)) && z)
        ≡ (prediction.sound_tool (predicted_in m) && z)
    go true e = ap (λ b. b && z) (predictions_tested (predicted_in m) e)
    go false e = rw (unsound_queue (predicted_in m) e)

pub whole_tested : (m : List (List ℕ)) (b c d e f : Bool) → b ≡ maps.sound_tool (mapped_in m)
    → c ≡ sound_line (base.state_of (mapped_in m).base) (waiting_in (own_in m)) (queue_from (own_in m))
    → d ≡ times_in_range (times_from (own_in m))
    → e ≡ sound_predictions (base.state_of (mapped_in m).base) (mapped_in m).base.count (predictions_from (own_in m))
    → f ≡ sound_alarms (mapped_in m).base (alarms_from (own_in m))
    → (b && c && d && e && f && every is_zero (bytes_from (own_in m) 1605 286)) ≡ sound_whole (whole_in m)
unfolding sound_whole
whole_tested m b c d e f p q r s t =
    rw (p, q, r, s, t, queue_tested (queued_in m) (queue_long (own_in m)))
    (ap (λ w. w && every is_zero (bytes_from (own_in m) 1605 286)) (times_tested m (sound_alarms (mapped_in m).base (alarms_from (own_in m))) ∙ alarms_tested m))

pub layered_sound : (m : List (List ℕ)) → sound_whole (whole_in m) ≡ true → sound_tool (handled_in m) ≡ true
unfolding sound_whole
layered_sound m h = and_l _ _ h

pub when_sound : (t : Whole) (i : Brought) → sound_whole t ≡ true → around t (given_in t.layered i) ≡ outcome t i
unfolding outcome
when_sound t i h = rw h

pub when_not : (t : Whole) (i : Brought) → sound_whole t ≡ false → refused t 1 ≡ outcome t i
unfolding outcome
when_not t i h = rw h

-- the bytes that the layers leave alone
pub unused_after : {o e : ℕ} (m n : List ℕ) → KeptOutside o e m n → e ≤ 1605 → bytes_from n 1605 286 ≡ bytes_from m 1605 286
unused_after m n k l = table_same 286 _ _ (λ i h. k.after _ (omega arith))

pub whole_of : (m : List (List ℕ)) (t : HandledTool) (u : List ℕ) → handled_in m ≡ t → bytes_from (own_in m) 1605 286 ≡ u
    → whole_in m ≡ record { layered = t; unused = u }
whole_of m t u p q = rw (p, q)

pub whole_made : (m : List (List ℕ)) {q : QueuedTool} {t : Times} {p : List Prediction} {l : List Alarm} {u : List ℕ} → queued_in m ≡ q
    → times_from (own_in m) ≡ t → predictions_from (own_in m) ≡ p → alarms_from (own_in m) ≡ l → bytes_from (own_in m) 1605 286 ≡ u
    → whole_in m ≡ record { layered = record { predicted = record { queued = q; times = t; predictions = p }; alarms = l }; unused = u }
whole_made m a b c d e = rw (a, b, c, d, e)
