-- What the bytes of a sound tool hold.
use Prim.Native.Nat.{ℕ}
use mathlib.Core.Path.{◌≡◌, ap, ◌∙◌}
use mathlib.Core.Bool.{true, ◌&&◌}
use mathlib.Core.List.{List, []}
use lib.ListN.{get_or, drop}
use lib.Dec.{eqb}
use borrow.Author.Tests.{eqb-true}
use Rattle.lists.specs.Lists.{every, fill}
use Rattle.lists.proofs.Bools.{and_l, and_r}
use Rattle.lists.proofs.Tables.{tail_is, getD_fill}
use Rattle.rules.specs.Held.{Held}
use Rattle.image.specs.Image.{tool_from}
use Rattle.line.proofs.Laid.{queue_long}
use Rattle.mapped.specs.Bytes.{own_in}
use Rattle.queue.specs.State as queue
use Rattle.queue.specs.Sound as queue-sound
use Rattle.queue.proofs.Passed.{waiting_held, queue_held}
use Rattle.queued.specs.Bytes.{queued_in}
use Rattle.queued.proofs.Held as queued
use Rattle.prediction.specs.declared.prediction.Prediction.{Prediction}
use Rattle.prediction.specs.Predictions.{no_prediction}
use Rattle.prediction.specs.State.{state_of}
use Rattle.prediction.specs.Sound.{is_none, sound, sound_tool}
use Rattle.prediction.proofs.SoundTools.{tool_sound}
use Rattle.times.specs.Bytes.{predictions_from}
use Rattle.times.proofs.Laid.{predictions_long}
use Rattle.predicted.specs.Bytes.{predicted_in, used_in, NoneAfter}
use Rattle.predicted.proofs.Movers.{fits}

made_of : {a b c d e : ℕ} → a ≡ 0 → b ≡ 0 → c ≡ 0 → d ≡ 0 → e ≡ 0
    → ◌≡◌ {A = Prediction} (record { state = a; known = b; estimated = c; tp = d; te = e }) no_prediction
made_of p q r s t = rw (p, q, r, s, t)

none_is : (p : Prediction) → is_none p ≡ true → p ≡ no_prediction
unfolding is_none
none_is p h =
    let a = and_l _ _ h in
    let b = and_l _ _ a in
    let c = and_l _ _ b in
    made_of (eqb-true _ 0 (and_l _ _ c)) (eqb-true _ 0 (and_r (eqb p.state 0) _ c))
    (eqb-true _ 0 (and_r (eqb p.state 0 && eqb p.known 0) _ b))
    (eqb-true _ 0 (and_r (eqb p.state 0 && eqb p.known 0 && eqb p.estimated 0) _ a))
    (eqb-true _ 0 (and_r (eqb p.state 0 && eqb p.known 0 && eqb p.estimated 0 && eqb p.tp 0) _ h))

module _ (m : List (List ℕ)) (h : sound_tool (predicted_in m) ≡ true) where
  pub queue_is : queue-sound.sound_tool (queued_in m) ≡ true
  unfolding sound_tool
  queue_is = and_l _ _ (and_l _ _ h)

  pub held : Held (tool_from (get_or m 0 []))
  held = queued.held m queue_is

  none_past : every is_none (drop (tool_from (get_or m 0 [])).count (predictions_from (own_in m))) ≡ true
  unfolding sound_tool
  none_past = and_r (queue-sound.sound_tool (queued_in m)) _ (and_l _ _ h)

  pub none_after : NoneAfter m
  none_after =
      tail_is is_none no_prediction none_is (tool_from (get_or m 0 [])).count (predictions_from (own_in m)) none_past
      ∙ ap (λ n. fill n no_prediction (used_in m)) (predictions_long (own_in m))

  -- the table, at any position
  pub table_at : (k : ℕ) → get_or (predictions_from (own_in m)) k no_prediction ≡ get_or (used_in m) k no_prediction
  table_at k = ap (λ l. get_or l k no_prediction) none_after ∙ getD_fill 36 no_prediction (used_in m) k (fits m held)

  pub state_sound : sound (state_of (predicted_in m)) ≡ true
  state_sound = tool_sound (predicted_in m) h

  -- P5's tool holds its state
  pub queued_again : queue.in_tool (queue.state_of (queued_in m)) ≡ queued_in m
  unfolding queue.in_tool
  queued_again =
      rw (
        queued.mapped_again m queue_is,
        waiting_held (queued_in m) queue_is (queue_long (own_in m)),
        queue_held (queued_in m) queue_is (queue_long (own_in m)),
      )
