-- One input gives at most ten reports: nine below, and one of model 9.
use Prim.Native.Nat.{ℕ, ◌≤◌}
use native.Mathlib.Omega.{arith}
use mathlib.Core.Path.{◌≡◌, refl, sym, subst, ◌∙◌}
use mathlib.Core.Bool.{Bool, true, false, cond}
use mathlib.Core.List.{List, [], ◌∷◌, ◌++◌}
use lib.ListN.{length, length-append, get_or, set}
use lib.Dec.{eqb}
use Rattle.records.specs.declared.port.Port.{Port}
use Rattle.rules.specs.State.{spot_of}
use Rattle.rules.specs.Seen.{narrow, see}
use Rattle.rules.specs.Rows as base-rows
use Rattle.maps.specs.Rows as maps-rows
use Rattle.queue.specs.Rows as queue-rows
use Rattle.prediction.specs.State as prediction-state
use Rattle.prediction.specs.State.{Predicted}
use Rattle.prediction.specs.Outcome as prediction
use Rattle.prediction.specs.Sound as prediction-sound
use Rattle.nine.proofs.Nine.{nine}
use Rattle.wafers.specs.Outcome as wafers
use Rattle.wafers.specs.Outcome.{Brought}
use Rattle.wafers.proofs.Projected.{stands}
use Rattle.hands.specs.declared.alarm.Alarm.{Alarm}
use Rattle.hands.specs.Alarms.{no_alarm, holding}
use Rattle.hands.specs.State.{Handled, base_of, alarm_of}
use Rattle.hands.specs.Sound.{sound}
use Rattle.hands.specs.Rows.{LoadDone, violated}
use Rattle.hands.specs.Outcome.{row_in, reports_below, answer_in, all_settled, alarms_told, alarms_then, reports_in}
use Rattle.hands.proofs.Walk.{walk}
use Rattle.hands.proofs.Sounds.{predicted_part, alarms_part}
use Rattle.ten.proofs.Told.{one_told}
use Rattle.ten.proofs.Moved.{At, One, still_at, set_own, one_wafers, at_wafers}

-- ── Nine below ──
nine_brought : (p : Predicted) (i : Brought) → prediction-sound.sound p ≡ true → length (wafers.reports_in p i) ≤ 9
unfolding wafers.told_of prediction.reached
nine_brought p i h = stands i (λ l. length (wafers.told_of p l) ≤ 9) (omega arith) (λ x _. nine p x h)

nine_below : (p : Predicted) (l : List Brought) → prediction-sound.sound p ≡ true → length (reports_below p l) ≤ 9
unfolding reports_below
nine_below p [] h = omega arith
nine_below p (i ∷ l) h = nine_brought p i h

-- ── One of model 9 ──
module _ (s : Handled) (i : Brought) (h : sound s ≡ true) where
  abbrev p : Predicted
  p = s.predicted

  abbrev k : ℕ
  k = spot_of (narrow i.timed.input.port)

  abbrev before : List Port
  before = (base_of s).ports

  abbrev after : List Brought → List Port
  after l = (prediction-state.base_of (wafers.reached p l)).ports

  abbrev Few : List Brought → Alarm → Type 0
  Few l a = length (alarms_told 1 s.alarms (all_settled (after l) (set s.alarms k a))) ≤ 1

  -- the input's own port
  here : (l : List Brought) (a : Alarm) → At k before (after l) → Few l a
  here l a m =
      subst (λ qs. length (alarms_told 1 s.alarms (all_settled qs (set s.alarms k a))) ≤ 1) (sym m.is)
      (one_told before s.alarms (alarms_part s h) 1 k m.becomes a)

  -- some port, and the row leaves the alarm of its own
  elsewhere : (l : List Brought) → One before (after l) → Few l (alarm_of s (narrow i.timed.input.port))
  unfolding alarm_of
  elsewhere l m =
      let t = one_told before s.alarms (alarms_part s h) 1 m.at m.moved.becomes (get_or s.alarms m.at no_alarm) in
      let u = subst (λ as'. length (alarms_told 1 s.alarms (all_settled (set before m.at m.moved.becomes) as')) ≤ 1)
      (set_own s.alarms m.at no_alarm ∙ sym (set_own s.alarms k no_alarm)) t in
      subst (λ qs. length (alarms_told 1 s.alarms (all_settled qs (set s.alarms k (get_or s.alarms k no_alarm)))) ≤ 1) (sym m.moved.is) u

  itself : One before (after (i ∷ []))
  unfolding wafers.reached
  itself = one_wafers p i

  nothing : At k before (after [])
  unfolding wafers.reached
  nothing = still_at k before

  load_at : i.timed.input.number ≡ 13 → At k before (after (i ∷ []))
  unfolding wafers.reached queue-rows.row_of maps-rows.row_of base-rows.row_of see
  load_at e = at_wafers p i 13 e refl refl (rw e) (rw e)

  unload_at : i.timed.input.number ≡ 24 → At k before (after (i ∷ []))
  unfolding wafers.reached queue-rows.row_of maps-rows.row_of base-rows.row_of see
  unload_at e = at_wafers p i 24 e refl refl (rw e) (rw e)

  done_at : At k before (after (LoadDone i.timed.input.port ∷ []))
  unfolding wafers.reached queue-rows.row_of maps-rows.row_of base-rows.row_of see
  done_at = at_wafers p (LoadDone i.timed.input.port) 14 refl refl refl refl refl

  -- LoadDone holds the pod, or goes on
  done_few : (w : Bool) → let a = alarm_of s (narrow i.timed.input.port) in Few (cond w [] (i ∷ [])) (cond w (holding a) a)
  done_few true = here [] _ nothing
  done_few false = elsewhere (i ∷ []) itself

  few : Few (row_in s i).stands (row_in s i).alarm
  few = walk (λ r. Few r.stands r.alarm) i.timed.input.number (see (base_of s) i.timed.input) (alarm_of s (narrow i.timed.input.port)) i (record {
    load_start = λ e. here (i ∷ []) _ (load_at e);
    load_done = λ _. done_few (violated (see (base_of s) i.timed.input) (alarm_of s (narrow i.timed.input.port)));
    unload_start = λ e. here (i ∷ []) _ (unload_at e);
    continue_row = λ _. here (LoadDone i.timed.input.port ∷ []) _ done_at;
    other = elsewhere (i ∷ []) itself;
  })

  pub ten : length (reports_in s i) ≤ 10
  unfolding reports_in
  ten = go (eqb (answer_in s i) 0)
    where
      go : (w : Bool) → length (cond w (reports_below p (row_in s i).stands ++ alarms_told 1 s.alarms (alarms_then s i)) []) ≤ 10
      go true =
          let e = length-append (reports_below p (row_in s i).stands) (alarms_told 1 s.alarms (alarms_then s i)) in
          let a = nine_below p (row_in s i).stands (predicted_part s h) in
          let b = few in
          omega arith
      go false = omega arith
