-- CarrierOut and CancelCarrierOut: a request is put last in the queue, and dropped.
use Prim.Native.Nat.{ℕ, ◌≤◌}
use native.Mathlib.Omega.{arith}
use mathlib.Core.Path.{◌≡◌, refl, ap, sym, ◌∙◌}
use mathlib.Core.Bool.{true, false}
use mathlib.Core.List.{List, [], ◌∷◌}
use lib.ListN.{length, set}
use lib.Seq.{set_out, set-get_or}
use lib.Dec.{eqb}
use Rattle.lists.specs.Lists.{any, where_is}
use Rattle.lists.proofs.Bools.{and_i, or_r, or_false_l, or_false_r}
use Rattle.lists.proofs.Tables.{without_out}
use Rattle.lists.proofs.Tests.{list_is}
use Rattle.records.specs.declared.name.Name.{Name}
use Rattle.rules.specs.declared.row.Seen.{Seen}
use Rattle.rules.specs.State.{State, spot_of}
use Rattle.rules.specs.Seen.{Input, narrow, see}
use Rattle.rules.specs.Row.{lower, lowest}
use Rattle.rules.specs.Undoing.{same_carrier}
use Rattle.rules.proofs.Names.{name_same}
use Rattle.rules.proofs.Accepts.{Clear, clear}
use Rattle.rules.proofs.Undone.{paired}
use Rattle.rules.proofs.UndoneBookings.{where_last, without_last}
use Rattle.follow.specs.Follow.{followed}
use Rattle.maps.specs.Projection as maps-runs
use Rattle.queue.specs.declared.request.Request.{Request}
use Rattle.queue.specs.Requests.{new_request, is_of, waits_of, is_queued, added, dropped}
use Rattle.queue.specs.Rows as queue-rows
use Rattle.queue.specs.Outcome as queue
use Rattle.queue.proofs.SoundRuns.{lower_zero, cleared}
use Rattle.prediction.specs.State as prediction-state
use Rattle.prediction.specs.State.{Predicted}
use Rattle.prediction.specs.Outcome as prediction
use Rattle.prediction.specs.Outcome.{is_timed, says_of, all_along, all_facts, below_in}
use Rattle.prediction.proofs.Projected.{plain_answers}
use Rattle.wafers.specs.Outcome as wafers
use Rattle.wafers.specs.Outcome.{Brought}
use Rattle.hands.specs.declared.alarm.Alarm.{Alarm}
use Rattle.hands.specs.Alarms.{no_alarm}
use Rattle.hands.specs.State.{Handled, base_of, alarm_of}
use Rattle.hands.specs.Sound.{sound}
use Rattle.hands.specs.Rows as hands-rows
use Rattle.hands.specs.Outcome.{row_in, answer_below, answer_in, all_settled, state_after}
use Rattle.hands.proofs.Sounds.{alarms_part, sound_after}
use Rattle.ten.proofs.Told.{all_stay}
use Rattle.undo.specs.Undoing.{queueing, Undoes}
use Rattle.undo.proofs.Passing.{kept_alarm}
use Rattle.undo.proofs.Rest.{all_rest, as_many}
use Rattle.undo.proofs.Lifted.{each_fits_fact}

abbrev with_queue : List Request → Handled → Handled
with_queue q s = record {
  predicted = record {
    queued = record { mapped = s.predicted.queued.mapped; queue = q };
    times = s.predicted.times;
    predictions = s.predicted.predictions;
  };
  alarms = s.alarms;
}

-- ── A row that changes the queue alone: 7 and 29 ──
record Lining (s : Handled) (i : Brought) : Type 0 where
  pub no_clock : is_timed i.timed.input.number ≡ false
  pub no_wafers : eqb i.timed.input.number 35 ≡ false
  pub nobody : says_of i.timed.input.number ≡ false
  pub own : (row_in s i).stands ≡ i ∷ []
  pub free : lowest (row_in s i).grounds ≡ 0
  pub alarm : (row_in s i).alarm ≡ alarm_of s (narrow i.timed.input.port)
  pub stands : (queue.row_in s.predicted.queued i.timed.input).stands ≡ []

lining : (s : Handled) (i : Brought) (n : ℕ) → i.timed.input.number ≡ n → is_timed n ≡ false → eqb n 35 ≡ false → says_of n ≡ false
    → ((x : Seen) (a : Alarm) → (hands-rows.row_of n x a i).stands ≡ i ∷ []) → ((x : Seen) (a : Alarm) → lowest (hands-rows.row_of n x a i).grounds ≡ 0)
    → ((x : Seen) (a : Alarm) → (hands-rows.row_of n x a i).alarm ≡ a)
    → ((b : State) (q : List Request) (x : Seen) (i : Input) → (queue-rows.row_of n b q x i).stands ≡ [])
    → Lining s i
lining s i n e c v b f g k q =
    let x = see (base_of s) i.timed.input in
    let l = alarm_of s (narrow i.timed.input.port) in
    record {
      no_clock = ap is_timed e ∙ c;
      no_wafers = ap (λ m. eqb m 35) e ∙ v;
      nobody = ap says_of e ∙ b;
      own = ap (λ m. (hands-rows.row_of m x l i).stands) e ∙ f x l;
      free = ap (λ m. lowest (hands-rows.row_of m x l i).grounds) e ∙ g x l;
      alarm = kept_alarm s i n e k;
      stands = ap (λ m. (queue-rows.row_of m (base_of s) s.predicted.queued.queue x i.timed.input).stands) e ∙ q _ _ x _;
    }

module _ (s : Handled) (i : Brought) (l : Lining s i) where
  abbrev p : Predicted
  p = s.predicted

  abbrev input : Input
  input = i.timed.input

  abbrev row : queue-rows.Row
  row = queue.row_in p.queued input

  below_is : queue.answer_in p.queued input ≡ lower (lowest row.grounds) 0
  unfolding queue.answer_in queue.answers_in
  below_is = rw l.stands

  answers : answer_in s i ≡ queue.answer_in p.queued input
  unfolding answer_in answer_below lower wafers.answer_in
  answers = rw (l.free, l.own, l.no_wafers) (plain_answers p i.timed l.no_clock)

  -- accepted exactly if none of its grounds applies
  accepts : lowest row.grounds ≡ 0 → answer_in s i ≡ 0
  unfolding lower
  accepts e = answers ∙ below_is ∙ rw e

  grounds_yes : answer_in s i ≡ 0 → lowest row.grounds ≡ 0
  grounds_yes a = (lower_zero (lowest row.grounds) 0 (sym below_is ∙ sym answers ∙ a)).0

  module _ (a : answer_in s i ≡ 0) (h : sound s ≡ true) where
    queue_yes : queue.answer_in p.queued input ≡ 0
    queue_yes = sym answers ∙ a

    queue_after : queue.state_after p.queued input ≡ record { mapped = p.queued.mapped; queue = row.queue }
    unfolding queue.state_after maps-runs.reached
    queue_after = rw (queue_yes, l.stands)

    predicted_after : wafers.reached p (row_in s i).stands ≡ prediction.enact p i.timed
    unfolding wafers.reached wafers.state_after wafers.stands_for prediction.reached prediction.state_after
    predicted_after = rw (l.own, l.no_wafers, plain_answers p i.timed l.no_clock, queue_yes)

    predictions_stay : (prediction.enact p i.timed).predictions ≡ p.predictions
    unfolding below_in queue.goes_in queue.made_in followed
    predictions_stay =
        let e = as_many (base_of s) (base_of s).carriers p.predictions (each_fits_fact s h) in
        rw (l.no_clock, l.nobody, queue_after, l.stands, without_out p.predictions (length (base_of s).carriers) (omega arith))
        (ap (all_along (all_facts input.number p.times (base_of s)) (base_of s).carriers) (set_out p.predictions _ _ (omega arith))
        ∙ all_rest input.number l.no_clock p.times (base_of s) (base_of s) (base_of s).carriers (base_of s).carriers p.predictions (each_fits_fact s h) refl
        (λ k e. e))

    enacted : prediction.enact p i.timed ≡ (with_queue row.queue s).predicted
    unfolding below_in
    enacted = rw (predictions_stay, l.no_clock, queue_after)

    alarms_stay : all_settled (base_of s).ports (set s.alarms (spot_of (narrow input.port)) (row_in s i).alarm) ≡ s.alarms
    unfolding alarm_of
    alarms_stay = rw (l.alarm, set-get_or s.alarms (spot_of (narrow input.port)) no_alarm) (all_stay (base_of s).ports s.alarms (alarms_part s h))

    lined : state_after s i ≡ with_queue row.queue s
    unfolding state_after
    lined =
        rw a
        (ap (λ (r : Predicted). record {
          predicted = r;
          alarms = all_settled (prediction-state.base_of r).ports (set s.alarms (spot_of (narrow input.port)) (row_in s i).alarm);
        }) (predicted_after ∙ enacted)
        ∙ ap (λ (l : List Alarm). record { predicted = (with_queue row.queue s).predicted; alarms = l }) alarms_stay)

out_lining : (s : Handled) (i : Brought) → i.timed.input.number ≡ 7 → Lining s i
unfolding says_of hands-rows.row_of queue-rows.row_of lowest
out_lining s i e = lining s i 7 e refl refl refl (λ x a. refl) (λ x a. refl) (λ x a. refl) (λ s q x i. refl)

cancel_lining : (s : Handled) (i : Brought) → i.timed.input.number ≡ 29 → Lining s i
unfolding says_of hands-rows.row_of queue-rows.row_of lowest
cancel_lining s i e = lining s i 29 e refl refl refl (λ x a. refl) (λ x a. refl) (λ x a. refl) (λ s q x i. refl)

-- ── The queue ──
-- a carrier that has no request has none that waits
none_waits : (n : Name) (q : List Request) → any (is_of n) q ≡ false → length q ≤ where_is (waits_of n) q
unfolding any where_is
none_waits n [] e = omega arith
none_waits n (r ∷ q) e = rw (or_false_l (is_of n r) _ e) (let l = none_waits n q (or_false_r (is_of n r) _ e) in omega arith)

waits_of_own : (n : Name) (p : ℕ) → waits_of n (new_request n p) ≡ true
waits_of_own n p = and_i (name_same n n refl) refl

-- the request that was added goes
dropped_again : (n : Name) (p : ℕ) (q : List Request) → is_queued n q ≡ false → dropped n (added n p q) ≡ q
dropped_again n p q e = rw (where_last (waits_of n) q (new_request n p) (none_waits n q e) (waits_of_own n p)) (without_last q (new_request n p))

it_waits : (n : Name) (p : ℕ) (q : List Request) → any (waits_of n) (added n p q) ≡ true
unfolding any
it_waits n p [] = rw (waits_of_own n p)
it_waits n p (r ∷ q) = or_r (waits_of n r) (it_waits n p q)

-- what acceptance of CarrierOut says of the name: it is one, and has no request
module _ (s : Handled) (i : Brought) (e : i.timed.input.number ≡ 7) (a : answer_in s i ≡ 0) where
  abbrev x : Seen
  x = see (base_of s) i.timed.input

  grounds_clear : Clear (queue-rows.carrier_out s.predicted.queued.queue x).grounds
  unfolding queue-rows.row_of see
  grounds_clear =
      let gs = (queue-rows.carrier_out s.predicted.queued.queue x).grounds in
      clear gs refl (cleared gs refl (rw e at (grounds_yes s i (out_lining s i e) a)))

-- the state between, and CancelCarrierOut there
module _ (s : Handled) (i j : Brought) (h : sound s ≡ true) (is : i.timed.input.number ≡ 7) (js : j.timed.input.number ≡ 29)
    (same : i.timed.input.name ≡ j.timed.input.name) (a : answer_in s i ≡ 0) where
  abbrev q : List Request
  q = s.predicted.queued.queue

  abbrev between : Handled
  between = with_queue (added (x s i is a).name (x s i is a).port q) s

  between_is : state_after s i ≡ between
  unfolding queue-rows.row_of
  between_is = lined s i (out_lining s i is) a h ∙ rw is

  between_sound : sound between ≡ true
  between_sound = rw (sym between_is) (sound_after s i h)

  again : answer_in between j ≡ 0
  unfolding queue-rows.row_of lowest lower see
  again =
      accepts between j (cancel_lining between j js)
      (rw (js, sym same, (grounds_clear s i is a).0, it_waits (x s i is a).name (x s i is a).port q))

  back_again : state_after between j ≡ s
  unfolding queue-rows.row_of see
  back_again =
      lined between j (cancel_lining between j js) again between_sound
      ∙ rw (js, sym same, dropped_again (x s i is a).name (x s i is a).port q (grounds_clear s i is a).1.1.1.1.1.0)

pub queueing_undone : Undoes queueing
unfolding same_carrier
queueing_undone s i j h p w a =
    let r = paired queueing i.timed.input j.timed.input p in
    let same = list_is _ _ r.alike in
    let e = between_is s i j h r.row r.undoing same a in
    record {
      accepted = ap (λ u. answer_in u j) e ∙ again s i j h r.row r.undoing same a;
      back = ap (λ u. state_after u j) e ∙ back_again s i j h r.row r.undoing same a;
    }
