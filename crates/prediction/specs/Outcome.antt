-- What an input gives: the answer, the state that follows, and the reports of model 8 in turn.
use Rattle.std.specs.Prelude.{ℕ, ◌-◌, Bool, false, not, cond, ◌&&◌, ◌||◌, List, [], ◌∷◌, ◌++◌, length, get_or, set, eqb, leb, ltb}
use Rattle.records.specs.declared.name.Name.{Name}
use Rattle.records.specs.declared.carrier.Carrier.{Carrier}
use Rattle.rules.specs.declared.report.Report.{Report}
use Rattle.rules.specs.declared.report.Reports.{Reports}
use Rattle.rules.specs.declared.row.Seen.{Seen}
use Rattle.rules.specs.State.{State, record_of}
use Rattle.rules.specs.Seen.{Input, see}
use Rattle.rules.specs.Row.{Ground, when, unless, lowest}
use Rattle.rules.specs.Reports.{listed, no_reports, differences}
use Rattle.follow.specs.Follow.{followed}
use Rattle.queue.specs.State as queue-state
use Rattle.queue.specs.Outcome as queue
use Rattle.prediction.specs.declared.prediction.Prediction.{Prediction}
use Rattle.prediction.specs.declared.prediction.Facts.{Facts}
use Rattle.prediction.specs.Model.{waiting_for_carrier, waiting_for_prediction, course, last_of}
use Rattle.prediction.specs.declared.prediction.Times.{Times}
use Rattle.prediction.specs.Predictions.{no_prediction, in_state, with_tp, with_te, has_tp, as_it_is, on_access, on_cancel, on_judging, on_none}
use Rattle.prediction.specs.State.{Predicted, base_of, PredictedTool, state_of, in_tool, Timed, is_fixed, first_prediction}
use Rattle.prediction.specs.Sound.{is_time, is_ready}

-- ── The four inputs that the request adds ──
abbrev pub is_timed : ℕ → Bool
is_timed n = leb 31 n && leb n 34

-- the rows that say something of the carrier which they name: 6 and 21, and 32 to 34
unfoldable pub says_of : ℕ → Bool
says_of n = eqb n 6 || eqb n 21 || (leb 32 n && leb n 34)

-- what is predicted of the carrier that an input names
abbrev pub named : Predicted → Seen → Prediction
named s x = get_or s.predictions x.stands no_prediction

-- a name: 1 where it is none, 2 where it has no record; and 5 where the tool has a buffer
abbrev a_name : Predicted → Seen → List Ground
a_name s x = unless x.named 1 ∷ unless x.known 2 ∷ unless (is_fixed (base_of s)) 5 ∷ []

-- 11 for a clock earlier than the last accepted
abbrev a_clock : Predicted → Timed → List Ground
a_clock s i = when (ltb i.clock s.times.now) 11 ∷ []

-- 31. Clock(clock).
abbrev pub clock_grounds : Predicted → Timed → List Ground
clock_grounds s i = unless (is_time i.clock) 1 ∷ a_clock s i

-- 32. PredictedTime(clock, name, Tp). 5 outside WAITING FOR PREDICTION, or with a Tp already.
abbrev pub tp_grounds : Predicted → Seen → Timed → List Ground
tp_grounds s x i = unless (is_time i.clock) 1 ∷ unless (is_time i.time) 1 ∷ a_name s x
    ++ unless (eqb (named s x).state waiting_for_prediction) 5 ∷ when (has_tp (named s x)) 5 ∷ a_clock s i

-- 33. Estimate(clock, name, Te). 5 without a Tp.
abbrev pub te_grounds : Predicted → Seen → Timed → List Ground
te_grounds s x i = unless (is_time i.clock) 1 ∷ unless (is_time i.time) 1 ∷ a_name s x ++ unless (has_tp (named s x)) 5 ∷ a_clock s i

-- 34. NoPrediction(clock, name). 5 outside WAITING FOR PREDICTION.
abbrev pub none_grounds : Predicted → Seen → Timed → List Ground
none_grounds s x i = unless (is_time i.clock) 1 ∷ a_name s x ++ unless (eqb (named s x).state waiting_for_prediction) 5 ∷ a_clock s i

unfoldable pub grounds_of : ℕ → Predicted → Seen → Timed → List Ground
grounds_of n s x i =
    cond (eqb n 31) (clock_grounds s i)
    (cond (eqb n 32) (tp_grounds s x i)
    (cond (eqb n 33) (te_grounds s x i)
    (none_grounds s x i)))

-- ── The answer ──
unfoldable pub answer_in : Predicted → Timed → ℕ
answer_in s i =
    cond (is_timed i.input.number)
    (lowest (grounds_of i.input.number s (see (base_of s) i.input) i))
    (queue.answer_in s.queued i.input)

-- ── Predictions move along ──
-- of one carrier: the prediction that follows, and the states that it passes
pub record Moved : Type 0 where
  pub prediction : Prediction
  pub passed : List ℕ

abbrev pub along : Facts → Prediction → Moved
along f p = record { prediction = in_state (last_of p.state (course f p.state)) p; passed = course f p.state }

-- a report for each state that is passed
unfoldable pub told : Name → ℕ → List ℕ → List Report
told n old [] = []
told n old (new ∷ l) = record { model = 8; port = 0; name = n; old = old; new = new } ∷ told n new l

-- all carriers, in record order, each by what its transitions ask
unfoldable pub all_along : (Carrier → Prediction → Facts) → List Carrier → List Prediction → List Prediction
all_along f [] ps = []
all_along f (c ∷ cs) [] = []
all_along f (c ∷ cs) (p ∷ ps) = (along (f c p) p).prediction ∷ all_along f cs ps

unfoldable pub all_told : (Carrier → Prediction → Facts) → List Carrier → List Prediction → List Report
all_told f [] ps = []
all_told f (c ∷ cs) [] = []
all_told f (c ∷ cs) (p ∷ ps) = told c.name p.state (along (f c p) p).passed ++ all_told f cs ps

-- ── What an input does to the carrier that it names, before any carrier is judged ──
-- its prediction as the input writes it: CancelCarrier from WAITING FOR CARRIER sets Tp to now, unless the setting is 0
abbrev pub cancels : Times → Prediction → Prediction
cancels t p = cond (eqb p.state waiting_for_carrier && not (eqb t.setting 0)) (with_tp t.now p) p

unfoldable pub written : ℕ → Times → ℕ → Prediction → Prediction
written n t time p =
    cond (eqb n 6) (cancels t p)
    (cond (eqb n 32) (with_tp time p)
    (cond (eqb n 33) (with_te time p)
    p))

-- and what its transitions ask
unfoldable pub own_facts : ℕ → Times → Prediction → Bool → Facts
own_facts n t p ready =
    cond (eqb n 6) (on_cancel t p ready)
    (cond (eqb n 21) (on_access t ready)
    (cond (eqb n 34) (on_none ready)
    (as_it_is ready)))

-- Each carrier afterwards: it is judged after 31 to 34, and is completed wherever it is ready.
unfoldable pub all_facts : ℕ → Times → State → Carrier → Prediction → Facts
all_facts n t s c p = cond (is_timed n) (on_judging t p (is_ready s c)) (as_it_is (is_ready s c))

-- ── Accepted ──
-- the state below, and what it shows of the records: which one went (their number: none), and whether one was made
pub record Below : Type 0 where
  pub after : queue-state.Queued
  pub goes : ℕ
  pub made : Bool

unfoldable pub below_in : Predicted → Input → Below
below_in s i =
    cond (is_timed i.number)
    (record { after = s.queued; goes = length (base_of s).carriers; made = false })
    (record {
      after = queue.state_after s.queued i;
      goes = queue.goes_in s.queued.mapped (queue.row_in s.queued i).stands;
      made = queue.made_in s.queued.mapped (queue.row_in s.queued i).stands;
    })

module _ (s : Predicted) (i : Timed) where
  abbrev pub number : ℕ
  number = i.input.number

  abbrev pub below : Below
  below = below_in s i.input

  abbrev pub after : State
  after = queue-state.base_of below.after

  -- now is the clock that one of the four brings, and else the last one accepted
  abbrev pub times_then : Times
  times_then = cond (is_timed number) (record { now = i.clock; setting = s.times.setting; timeout = s.times.timeout }) s.times

  -- the predictions follow the records
  abbrev pub first : List Prediction
  first = followed below.goes below.made (first_prediction (base_of s)) s.predictions

  -- the carrier that is named, where it stands afterwards; other rows name nobody
  abbrev pub spot : ℕ
  spot = cond (says_of number) (see after i.input).stands (length after.carriers)

  abbrev pub own : Prediction
  own = written number times_then i.time (get_or first spot no_prediction)

  abbrev pub own_moved : Moved
  own_moved = along (own_facts number times_then (get_or first spot no_prediction) (is_ready after (record_of after spot))) own

  abbrev pub second : List Prediction
  second = set first spot own_moved.prediction

  abbrev pub third : List Prediction
  third = all_along (all_facts number times_then after) after.carriers second

  abbrev pub enact : Predicted
  enact = record { queued = below.after; times = times_then; predictions = third }

  -- ── Reports of model 8, in turn: one that goes, one that is made, the named carrier's own, then each in record order ──
  abbrev pub gone : List Report
  gone = told (record_of (base_of s) below.goes).name (get_or s.predictions below.goes no_prediction).state
      (cond (eqb (get_or s.predictions below.goes no_prediction).state 0) [] (0 ∷ []))

  -- the record that is made stands last
  abbrev pub fresh : List Report
  fresh = cond (below.made && is_fixed (base_of s)) (told (record_of after (length after.carriers - 1)).name 0 (waiting_for_carrier ∷ [])) []

  abbrev pub eight : List Report
  eight = gone ++ fresh ++ told (record_of after spot).name (get_or first spot no_prediction).state own_moved.passed
      ++ all_told (all_facts number times_then after) after.carriers second

  unfoldable pub state_after : Predicted
  state_after = cond (eqb (answer_in s i) 0) enact s

  -- those of P5's layer, which are the differences, and then model 8's
  unfoldable pub reports_in : List Report
  reports_in = cond (eqb (answer_in s i) 0) (differences (base_of s) after ++ eight) []

-- ── In a tool ──
pub record Given : Type 0 where
  pub tool : PredictedTool
  pub answer : ℕ
  pub reports : Reports

-- Refused: nothing changes, and nothing is reported.
abbrev pub refused : PredictedTool → ℕ → Given
refused t n = record { tool = t; answer = n; reports = no_reports }

abbrev pub accepted : Predicted → List Report → Given
accepted after reports = record { tool = in_tool after; answer = 0; reports = listed reports }

-- an input to a tool that is known to be sound
unfoldable pub given_in : PredictedTool → Timed → Given
given_in t i =
    cond (eqb (answer_in (state_of t) i) 0)
    (accepted (state_after (state_of t) i) (reports_in (state_of t) i))
    (refused t (answer_in (state_of t) i))

-- The state that a run has reached, the latest input first.
unfoldable pub reached : Predicted → List Timed → Predicted
reached s [] = s
reached s (i ∷ earlier) = state_after (reached s earlier) i
