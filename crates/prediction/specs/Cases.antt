-- What request P7 changes and adds, shown by runs: the scenarios of document 000, R3-4, and then runs that differ in one condition each.
use Rattle.std.specs.Prelude.{ℕ, ◌+◌, Bool, true, ◌&&◌, List, [], ◌∷◌, ◌++◌, map, eqb}
use Rattle.rules.specs.declared.report.Report.{Report}
use Rattle.rules.specs.Seen.{Input, input_of}
use Rattle.rules.specs.Run.{on_port, on_name}
use Rattle.rules.specs.Inputs.{Bind, CarrierNotification, CancelCarrierNotification, ProceedWithCarrier, CancelCarrier, LoadStart, LoadDone}
use Rattle.rules.specs.Inputs.{IdRead, IdReadFailed, Open, SlotMap, AccessStart, AccessEnd, Close, UnloadStart, UnloadFail}
use Rattle.rules.specs.Inputs.{A, B, A17, threes, unannounced, stored, agreed, accessed}
use Rattle.prediction.specs.State.{Predicted, Timed, start}
use Rattle.prediction.specs.Outcome.{answer_in, state_after, reports_in}

-- ── Inputs ──
-- one of those before, which bring no time
abbrev pub plain : Input → Timed
plain i = record { input = i; clock = 0; time = 0 }

abbrev pub Clock : ℕ → Timed
Clock clock = record { input = input_of 31 0 0 [] []; clock = clock; time = 0 }

abbrev pub PredictedTime : ℕ → List ℕ → ℕ → Timed
PredictedTime clock name tp = record { input = input_of 32 0 0 name []; clock = clock; time = tp }

abbrev pub Estimate : ℕ → List ℕ → ℕ → Timed
Estimate clock name te = record { input = input_of 33 0 0 name []; clock = clock; time = te }

abbrev pub NoPrediction : ℕ → List ℕ → Timed
NoPrediction clock name = record { input = input_of 34 0 0 name []; clock = clock; time = 0 }

-- nine o'clock, and so many seconds after it
abbrev nine : ℕ → ℕ
nine seconds = 32400 + seconds

-- ── A run of inputs that are accepted, and one more: its answer and its reports ──
pub record Case : Type 0 where
  pub ports : ℕ
  pub places : ℕ
  pub setting : ℕ
  pub timeout : ℕ
  pub before : List Timed
  pub input : Timed

pub record Result : Type 0 where
  pub smooth : Bool
  pub answer : ℕ
  pub reports : List Report

pub record Line : Type 0 where
  pub asked : Case
  pub said : Result

unfoldable pub smooth : Predicted → List Timed → Bool
smooth s [] = true
smooth s (i ∷ is) = eqb (answer_in s i) 0 && smooth (state_after s i) is

unfoldable pub after : Predicted → List Timed → Predicted
after s [] = s
after s (i ∷ is) = after (state_after s i) is

abbrev pub result_in : Bool → Predicted → Timed → Result
result_in smooth s i = record { smooth = smooth; answer = answer_in s i; reports = reports_in s i }

unfoldable pub result_of : Case → Result
result_of c =
    let s = start c.ports c.places c.setting c.timeout in
    result_in (smooth s c.before) (after s c.before) c.input

abbrev line : ℕ → ℕ → ℕ → ℕ → List Timed → Timed → ℕ → List Report → Line
line ports places setting timeout before input answer reports = record {
  asked = record { ports = ports; places = places; setting = setting; timeout = timeout; before = before; input = input };
  said = record { smooth = true; answer = answer; reports = reports };
}

-- a fixed buffer tool of one port, a minute before and two minutes after
abbrev told : List Timed → Timed → List Report → Line
told before input reports = line 1 0 60 120 before input 0 reports

abbrev refused : List Timed → Timed → ℕ → Line
refused before input answer = line 1 0 60 120 before input answer []

-- one that makes no predictions, and one that aborts none
abbrev unset : List Timed → Timed → List Report → Line
unset before input reports = line 1 0 0 120 before input 0 reports

abbrev patient : List Timed → Timed → List Report → Line
patient before input reports = line 1 0 60 0 before input 0 reports

-- a tool with a buffer
abbrev buffered : List Timed → Timed → ℕ → List Report → Line
buffered before input answer reports = line 1 1 60 120 before input answer reports

-- a report of A, of model 8
abbrev eight : ℕ → ℕ → Report
eight old new = on_name 8 A old new

-- A is IN ACCESS at port 1, and so WAITING FOR PREDICTION
abbrev in_access : List Timed
in_access = map plain accessed

-- at nine, Tp is five past nine; and it is PREDICTED a minute before that
abbrev calculated : List Timed
calculated = in_access ++ PredictedTime (nine 0) A (nine 300) ∷ []

abbrev notified : List Timed
notified = calculated ++ Clock (nine 240) ∷ []

-- A is done with, and still open
abbrev ended : List Timed
ended = plain (AccessEnd A 0) ∷ []

abbrev pub scenarios : List Line
scenarios =
    -- R3-4.1.1: before the predicted time
    told in_access (PredictedTime (nine 0) A (nine 300)) []
    ∷ told calculated (Clock (nine 239)) []
    ∷ told calculated (Clock (nine 240)) (eight 3 4 ∷ [])
    ∷ told (notified ++ ended) (plain (Close A)) (on_port 1 1 3 2 ∷ eight 4 6 ∷ [])
    -- R3-4.1.2: after it and before the timeout; the clock of its step 3 is 9:05:45
    ∷ told (notified ++ ended ++ Clock (nine 345) ∷ []) (plain (Close A)) (on_port 1 1 3 2 ∷ eight 4 6 ∷ [])
    -- R3-4.1.3: not within the timeout
    ∷ told notified (Clock (nine 300)) []
    ∷ told notified (Clock (nine 419)) []
    ∷ told notified (Clock (nine 420)) (eight 4 5 ∷ [])
    -- R3-4.1.4: an estimate beyond the timeout, before PREDICTED
    ∷ told calculated (Estimate (nine 60) A (nine 600)) (eight 3 5 ∷ [])
    -- R3-4.1.5: and after
    ∷ told (notified ++ Clock (nine 300) ∷ []) (Estimate (nine 315) A (nine 600)) (eight 4 5 ∷ [])
    -- R3-4.1.6 and R3-4.1.7: Tp in the past, within the timeout and beyond it
    ∷ told (in_access ++ Clock (nine 0) ∷ []) (PredictedTime (nine 0) A (nine 0)) (eight 3 4 ∷ [])
    ∷ told in_access (PredictedTime (nine 60) A (nine 0)) (eight 3 4 ∷ [])
    ∷ told in_access (PredictedTime (nine 150) A (nine 0)) (eight 3 5 ∷ [])
    ∷ []

-- ── Runs that differ in one condition each ──
-- the last second that a clock shows, and one more
abbrev latest : ℕ
latest = 4294967295

abbrev too_late : ℕ
too_late = 4294967296

-- A is closed while it still waits for a prediction, and its port is READY TO UNLOAD
abbrev closed : List Timed
closed = in_access ++ ended ++ plain (Close A) ∷ []

-- B is IN ACCESS at port 2, too, and both have the same Tp
abbrev second : List Input
second = Bind 2 B ∷ LoadStart 2 ∷ LoadDone 2 ∷ IdRead 2 B ∷ Open B ∷ SlotMap B threes ∷ ProceedWithCarrier B 2 ∷ AccessStart B ∷ []

abbrev both : List Timed
both = in_access ++ map plain second ++ PredictedTime 0 B 100 ∷ PredictedTime 0 A 100 ∷ []

-- in a tool with a buffer a carrier is opened at its place
abbrev inside : List Timed
inside = map plain (stored A 1 ++ Open A ∷ SlotMap A threes ∷ ProceedWithCarrier A 0 ∷ [])

abbrev pub conditions : List Line
conditions =
    -- a record is made, and goes; a tool with a buffer has no model 8
    told [] (plain (CarrierNotification A)) (on_name 5 A 0 1 ∷ on_name 6 A 0 1 ∷ on_name 7 A 0 1 ∷ eight 0 2 ∷ [])
    ∷ told (plain (CarrierNotification A) ∷ []) (plain (CancelCarrierNotification A))
    (on_name 5 A 1 0 ∷ on_name 6 A 1 0 ∷ on_name 7 A 1 0 ∷ eight 2 0 ∷ [])
    ∷ buffered [] (plain (CarrierNotification A)) 0 (on_name 5 A 0 1 ∷ on_name 6 A 0 1 ∷ on_name 7 A 0 1 ∷ [])
    -- nine reports, the most that there are: one is made and cancelled at once; one goes, and another is made
    ∷ told (map plain (LoadStart 1 ∷ LoadDone 1 ∷ IdReadFailed 1 ∷ [])) (plain (CancelCarrier A 1))
    (on_port 1 1 3 2 ∷ on_port 4 1 0 1 ∷ on_name 5 A 0 4 ∷ on_name 6 A 0 1 ∷ on_name 7 A 0 1
    ∷ eight 0 2 ∷ eight 2 3 ∷ eight 3 4 ∷ eight 4 6 ∷ [])
    ∷ told (map plain (Bind 1 A ∷ LoadStart 1 ∷ LoadDone 1 ∷ [])) (plain (IdRead 1 B))
    (on_port 4 1 1 1 ∷ on_name 5 A 1 0 ∷ on_name 5 B 0 2 ∷ on_name 6 A 1 0 ∷ on_name 6 B 0 1 ∷ on_name 7 A 1 0 ∷ on_name 7 B 0 1
    ∷ eight 2 0 ∷ on_name 8 B 0 2 ∷ [])
    -- 23 and 26: it comes into access, or is cancelled; the setting is 0
    ∷ told (map plain agreed) (plain (AccessStart A)) (on_name 7 A 1 2 ∷ eight 2 3 ∷ [])
    ∷ unset (map plain agreed) (plain (AccessStart A)) (on_name 7 A 1 2 ∷ eight 2 1 ∷ [])
    ∷ buffered inside (plain (AccessStart A)) 0 (on_name 7 A 1 2 ∷ [])
    ∷ told (map plain unannounced) (plain (CancelCarrier A 1))
    (on_port 1 1 3 2 ∷ on_name 5 A 2 4 ∷ eight 2 3 ∷ eight 3 4 ∷ eight 4 6 ∷ [])
    ∷ unset (map plain unannounced) (plain (CancelCarrier A 1)) (on_port 1 1 3 2 ∷ on_name 5 A 2 4 ∷ eight 2 1 ∷ [])
    -- 25 and 29: ready already, or ready after all
    ∷ told closed (PredictedTime 0 A 60) (eight 3 4 ∷ eight 4 6 ∷ [])
    ∷ told closed (PredictedTime 0 A 61) []
    ∷ told closed (NoPrediction 0 A) (eight 3 5 ∷ eight 5 6 ∷ [])
    ∷ told (closed ++ plain (UnloadStart 1) ∷ []) (PredictedTime 0 A 60) (eight 3 4 ∷ [])
    ∷ told (closed ++ plain (UnloadStart 1) ∷ PredictedTime 0 A 60 ∷ []) (plain (UnloadFail 1)) (on_port 1 1 3 2 ∷ eight 4 6 ∷ [])
    -- 27: no prediction, with a Tp or without
    ∷ told in_access (NoPrediction 0 A) (eight 3 5 ∷ [])
    ∷ told calculated (NoPrediction (nine 0) A) (eight 3 5 ∷ [])
    -- a timeout of 0 aborts nobody; an estimate that was given stays; sums don't wrap
    ∷ patient notified (Clock (nine 4000)) []
    ∷ told (notified ++ Estimate (nine 240) A (nine 419) ∷ []) (Clock (nine 4000)) []
    ∷ told in_access (PredictedTime latest A latest) (eight 3 4 ∷ [])
    -- an estimate changes nothing where nothing is judged
    ∷ told (notified ++ ended ++ plain (Close A) ∷ []) (Estimate (nine 300) A (nine 600)) []
    -- all are judged, in record order
    ∷ line 2 0 60 120 both (Clock 40) 0 (eight 3 4 ∷ on_name 8 B 3 4 ∷ [])
    -- a time, a name, a record, a fixed buffer tool
    ∷ told [] (Clock latest) []
    ∷ refused [] (Clock too_late) 1
    ∷ refused in_access (PredictedTime too_late A 0) 1
    ∷ refused in_access (PredictedTime 0 A too_late) 1
    ∷ refused in_access (PredictedTime 0 A17 0) 1
    ∷ refused in_access (PredictedTime 0 B 0) 2
    ∷ refused [] (Estimate 0 A too_late) 1
    ∷ refused [] (NoPrediction too_late A) 1
    ∷ refused [] (NoPrediction 0 A) 2
    ∷ buffered [] (Estimate 0 A 0) 2 []
    ∷ buffered (inside ++ plain (AccessStart A) ∷ []) (PredictedTime 0 A 0) 5 []
    -- WAITING FOR PREDICTION, and no Tp so far; a Tp
    ∷ refused (map plain agreed) (PredictedTime 0 A 0) 5
    ∷ refused calculated (PredictedTime (nine 0) A (nine 300)) 5
    ∷ refused in_access (Estimate 0 A 0) 5
    ∷ refused notified (NoPrediction (nine 240) A) 5
    -- a clock that runs back; the same is none
    ∷ told (Clock (nine 1) ∷ []) (Clock (nine 1)) []
    ∷ refused (Clock (nine 1) ∷ []) (Clock (nine 0)) 11
    ∷ refused (in_access ++ Clock (nine 1) ∷ []) (PredictedTime (nine 0) A (nine 300)) 11
    ∷ refused notified (Estimate (nine 239) A (nine 300)) 11
    ∷ refused (in_access ++ Clock (nine 1) ∷ []) (NoPrediction (nine 0) A) 11
    ∷ refused notified (NoPrediction (nine 239) A) 5
    ∷ []
