-- What the layers do with a row's number, and with the rows that undo.
use Prim.Native.Nat.{ℕ, zero, suc, ◌<◌}
use native.Mathlib.Omega.{arith}
use mathlib.Core.Path.{◌≡◌, refl, ap, ◌∙◌}
use mathlib.Core.Bool.{Bool, true, false, cond, ◌||◌}
use mathlib.Core.List.{List, [], ◌∷◌}
use lib.ListN.{length, get_or}
use lib.Dec.{eqb}
use Rattle.lists.specs.Lists.{any}
use Rattle.lists.proofs.Bools.{or_false_l, or_false_r}
use Rattle.rules.specs.declared.row.Seen.{Seen}
use Rattle.rules.specs.State.{State}
use Rattle.rules.specs.Seen.{Input, narrow, see}
use Rattle.rules.specs.Row.{lowest}
use Rattle.maps.specs.Expected.{carries}
use Rattle.queue.specs.declared.request.Request.{Request}
use Rattle.queue.specs.Rows as queue
use Rattle.prediction.specs.Outcome.{is_timed, says_of}
use Rattle.wafers.specs.Outcome.{Brought}
use Rattle.hands.specs.declared.alarm.Alarm.{Alarm}
use Rattle.hands.specs.State.{Handled, base_of, alarm_of}
use Rattle.hands.specs.Rows as hands
use Rattle.hands.specs.Outcome.{row_in}
use Rattle.undo.proofs.Stepped.{Passes}

-- ── They pass it on ──
pub record Sent (n : ℕ) : Type 0 where
  pub no_clock : is_timed n ≡ false
  pub no_wafers : eqb n 35 ≡ false
  pub nobody : says_of n ≡ false
  pub no_map : eqb n 20 ≡ false
  pub stands : (x : Seen) (a : Alarm) (i : Brought) → (hands.row_of n x a i).stands ≡ i ∷ []
  pub queued : (s : State) (q : List Request) (x : Seen) (i : Input) → (queue.row_of n s q x i).stands ≡ i ∷ []
  pub line : (s : State) (q : List Request) (x : Seen) (i : Input) → (queue.row_of n s q x i).queue ≡ q

module _ (s : Handled) (i : Brought) (n : ℕ) (e : i.timed.input.number ≡ n) (t : Sent n) where
  abbrev x : Seen
  x = see (base_of s) i.timed.input

  abbrev q : List Request
  q = s.predicted.queued.queue

  pub passes : Passes s i
  passes = record {
    no_clock = ap is_timed e ∙ t.no_clock;
    no_wafers = ap (λ k. eqb k 35) e ∙ t.no_wafers;
    nobody = ap says_of e ∙ t.nobody;
    stands = ap (λ k. (hands.row_of k x (alarm_of s (narrow i.timed.input.port)) i).stands) e ∙ t.stands x _ i;
    queued = ap (λ k. (queue.row_of k (base_of s) q x i.timed.input).stands) e ∙ t.queued (base_of s) q x i.timed.input;
    line = ap (λ k. (queue.row_of k (base_of s) q x i.timed.input).queue) e ∙ t.line (base_of s) q x i.timed.input;
  }

  pub no_map_fact : eqb i.timed.input.number 20 ≡ false
  no_map_fact = ap (λ k. eqb k 20) e ∙ t.no_map

-- ── Which numbers they pass on ──
-- P5, P7, P8 and P9 have a row of their own for these, and P1 an effect
abbrev those : List ℕ
those = 7 ∷ 14 ∷ 20 ∷ 27 ∷ 28 ∷ 29 ∷ 30 ∷ 35 ∷ 36 ∷ []

unfoldable pub is_theirs : ℕ → Bool
is_theirs n = is_timed n || says_of n || any (eqb n) those

module _ (n : ℕ) (h : is_theirs n ≡ false) where
  says_nothing : says_of n ≡ false
  unfolding is_theirs
  says_nothing = or_false_r (is_timed n) _ (or_false_l _ _ h)

  not_six : eqb n 6 ≡ false
  unfolding says_of
  not_six = or_false_l _ _ (or_false_l _ _ says_nothing)

  none_of : (l : List ℕ) → any (eqb n) l ≡ false → (k : ℕ) → k < length l → eqb n (get_or l k 0) ≡ false
  unfolding any
  none_of [] e k b = absurd (omega arith)
  none_of (m ∷ l) e zero b = or_false_l (eqb n m) _ e
  none_of (m ∷ l) e (suc k) b = none_of l (or_false_r (eqb n m) _ e) k (omega arith)

  not_it : (k : ℕ) → k < 9 → eqb n (get_or those k 0) ≡ false
  unfolding is_theirs
  not_it k b = none_of those (or_false_r (is_timed n || says_of n) _ h) k b

  -- the starts stand for themselves, too
  stands_for_itself : (x : Seen) (a : Alarm) (i : Brought) → (hands.row_of n x a i).stands ≡ i ∷ []
  unfolding hands.row_of
  stands_for_itself x a i = rw (not_it 1 (omega arith), not_it 8 (omega arith)) (go (eqb n 13) (eqb n 24))
    where
      go : (u v : Bool) → (cond u (hands.starts x a i) (cond v (hands.starts x a i) (hands.passed_on a i))).stands ≡ i ∷ []
      go true v = refl
      go false true = refl
      go false false = refl

  -- and so do the rows to which the queue adds a refusal
  passes_queue : (s : State) (q : List Request) (x : Seen) (i : Input)
      → ((queue.row_of n s q x i).stands ≡ i ∷ []) × ((queue.row_of n s q x i).queue ≡ q)
  unfolding queue.row_of
  passes_queue s q x i =
      rw (
        not_six,
        not_it 0 (omega arith),
        not_it 3 (omega arith),
        not_it 4 (omega arith),
        not_it 5 (omega arith),
        not_it 6 (omega arith),
      )
      (go (eqb n 12) (eqb n 13) (eqb n 19))
    where
      row_if : Bool → Bool → Bool → queue.Row
      row_if u v w =
          cond u (queue.cancel_reservation_at_port q x i) (cond v (queue.load_start q x i) (cond w (queue.open_row q x i) (queue.passed_on [] q i)))

      go : (u v w : Bool) → ((row_if u v w).stands ≡ i ∷ []) × ((row_if u v w).queue ≡ q)
      go true v w = (refl, refl)
      go false true w = (refl, refl)
      go false false true = (refl, refl)
      go false false false = (refl, refl)

  pub sent : Sent n
  unfolding is_theirs
  sent = record {
    no_clock = or_false_l _ _ (or_false_l _ _ h);
    no_wafers = not_it 7 (omega arith);
    nobody = says_nothing;
    no_map = not_it 2 (omega arith);
    stands = stands_for_itself;
    queued = λ s q x i. (passes_queue s q x i).0;
    line = λ s q x i. (passes_queue s q x i).1;
  }

-- a row that leaves the alarm of its port
pub kept_alarm : (s : Handled) (i : Brought) (n : ℕ) → i.timed.input.number ≡ n
    → ((x : Seen) (a : Alarm) → (hands.row_of n x a i).alarm ≡ a) → (row_in s i).alarm ≡ alarm_of s (narrow i.timed.input.port)
kept_alarm s i n e f =
    let x = see (base_of s) i.timed.input in
    let a = alarm_of s (narrow i.timed.input.port) in
    ap (λ k. (hands.row_of k x a i).alarm) e ∙ f x a

-- ── Those that undo: P1 and P9 add nothing to them ──
pub record Undoing (n : ℕ) : Type 0 where
  pub sent : Sent n
  pub no_codes : carries n ≡ false
  pub free : (x : Seen) (a : Alarm) (i : Brought) → lowest (hands.row_of n x a i).grounds ≡ 0
  pub keeps : (x : Seen) (a : Alarm) (i : Brought) → (hands.row_of n x a i).alarm ≡ a

module _ (s : Handled) (j : Brought) (n : ℕ) (e : j.timed.input.number ≡ n) (t : Undoing n) where
  abbrev y : Seen
  y = see (base_of s) j.timed.input

  abbrev a : Alarm
  a = alarm_of s (narrow j.timed.input.port)

  pub no_codes_fact : carries j.timed.input.number ≡ false
  no_codes_fact = ap carries e ∙ t.no_codes

  pub no_grounds : lowest (row_in s j).grounds ≡ 0
  no_grounds = ap (λ k. lowest (hands.row_of k y a j).grounds) e ∙ t.free y a j

  pub own_alarm : (row_in s j).alarm ≡ alarm_of s (narrow j.timed.input.port)
  own_alarm = kept_alarm s j n e (λ x a. t.keeps x a j)

-- ── The rows of the pairs ──
module _ (n : ℕ) (h : is_theirs n ≡ false) where
  plain_grounds : eqb n 13 ≡ false → eqb n 24 ≡ false → (x : Seen) (a : Alarm) (i : Brought) → hands.row_of n x a i ≡ hands.passed_on a i
  unfolding hands.row_of
  plain_grounds e f x a i = rw (e, f, not_it n h 1 (omega arith), not_it n h 8 (omega arith))

  pub undoes : eqb n 13 ≡ false → eqb n 24 ≡ false → carries n ≡ false → Undoing n
  unfolding lowest
  undoes e f c = record {
    sent = sent n h;
    no_codes = c;
    free = λ x a i. rw (plain_grounds e f x a i);
    keeps = λ x a i. rw (plain_grounds e f x a i);
  }

pub bind_sent : Sent 1
unfolding is_theirs says_of any
bind_sent = sent 1 refl

pub cancel_bind_undoing : Undoing 2
unfolding is_theirs says_of any carries
cancel_bind_undoing = undoes 2 refl refl refl refl

pub notification_sent : Sent 3
unfolding is_theirs says_of any
notification_sent = sent 3 refl

pub cancel_notification_undoing : Undoing 4
unfolding is_theirs says_of any carries
cancel_notification_undoing = undoes 4 refl refl refl refl

pub access_undoing : Undoing 9
unfolding is_theirs says_of any carries
access_undoing = undoes 9 refl refl refl refl

pub access_sent : Sent 9
unfolding is_theirs says_of any
access_sent = sent 9 refl

pub service_undoing : Undoing 10
unfolding is_theirs says_of any carries
service_undoing = undoes 10 refl refl refl refl

pub service_sent : Sent 10
unfolding is_theirs says_of any
service_sent = sent 10 refl

pub reserve_undoing : Undoing 11
unfolding is_theirs says_of any carries
reserve_undoing = undoes 11 refl refl refl refl

pub reserve_sent : Sent 11
unfolding is_theirs says_of any
reserve_sent = sent 11 refl

pub cancel_reservation_undoing : Undoing 12
unfolding is_theirs says_of any carries
cancel_reservation_undoing = undoes 12 refl refl refl refl

pub cancel_reservation_sent : Sent 12
unfolding is_theirs says_of any
cancel_reservation_sent = sent 12 refl

pub load_sent : Sent 13
unfolding is_theirs says_of any
load_sent = sent 13 refl

pub load_fail_undoing : Undoing 15
unfolding is_theirs says_of any carries
load_fail_undoing = undoes 15 refl refl refl refl

pub open_sent : Sent 19
unfolding is_theirs says_of any
open_sent = sent 19 refl

pub close_undoing : Undoing 23
unfolding is_theirs says_of any carries
close_undoing = undoes 23 refl refl refl refl

pub unload_sent : Sent 24
unfolding is_theirs says_of any
unload_sent = sent 24 refl

pub unload_fail_undoing : Undoing 26
unfolding is_theirs says_of any carries
unload_fail_undoing = undoes 26 refl refl refl refl
