-- Runs through the door: the shortened name is the one in record and comparison; only a length of zero is missing; a row that takes no
-- name ignores it.
use Rattle.std.specs.Prelude.{ℕ, Bool, true, false, not, cond, ◌&&◌, List, [], ◌∷◌, ◌++◌, map, replicate, eqb}
use Rattle.rules.specs.Seen.{Input, input_of}
use Rattle.rules.specs.Inputs.{Bind, CancelBind, CarrierNotification, CancelCarrierNotification, CarrierOut, LoadStart, LoadDone, IdRead}
use Rattle.rules.specs.Inputs.{MoveIn, Open}
use Rattle.rules.specs.Inputs.{A, accessed}
use Rattle.queue.specs.Cases.{CancelCarrierOut}
use Rattle.prediction.specs.State.{Timed, timed, start}
use Rattle.wafers.specs.Outcome.{Brought, brought, answer_in}
use Rattle.prediction.specs.Cases.{plain, PredictedTime, Estimate, NoPrediction, smooth, after}
use Rattle.door.specs.Door.{shown, may_pad_run}

-- A run of inputs that are accepted, and one more with its answer.
pub record Case : Type 0 where
  pub before : List Timed
  pub input : Brought
  pub answer : ℕ

abbrev timed_case : List Timed → Timed → ℕ → Case
timed_case before input answer = record { before = before; input = brought input []; answer = answer }

-- no wafers, of a name
abbrev wafer_case : List Timed → List ℕ → ℕ → Case
wafer_case before name answer = timed_case before (timed (input_of 35 0 0 name []) 5 0) answer

abbrev seen : Timed → Timed
seen i = (shown (brought i [])).timed

abbrev case : List Input → Input → ℕ → Case
case before input answer = timed_case (map plain before) (plain input) answer

-- one port, so many places, and a minute before a carrier is ready
unfoldable pub holds : ℕ → Case → Bool
holds places c = smooth (start 1 places 60 0) (map seen c.before)
    && eqb (answer_in (after (start 1 places 60 0) (map seen c.before)) (shown c.input)) c.answer

abbrev AB : List ℕ
AB = 0x41 ∷ 0x42 ∷ []

abbrev blanks : ℕ → List ℕ
blanks n = replicate n 0x20

-- a pod comes to port 1, and its tag is read
abbrev arrives : List ℕ → List Input
arrives name = LoadStart 1 ∷ LoadDone 1 ∷ IdRead 1 name ∷ []

abbrev pub cases : List Case
cases =
    -- padded in the record, plain in the comparison, and the other way round
    case (CarrierNotification (AB ++ blanks 2) ∷ []) (CarrierNotification AB) 3
    ∷ case (CarrierNotification AB ∷ []) (CarrierNotification (AB ++ blanks 2)) 3
    ∷ case (CarrierNotification (AB ++ blanks 30) ∷ []) (CancelCarrierNotification AB) 0
    ∷ case (CarrierNotification AB ∷ []) (CancelCarrierNotification (AB ++ blanks 31)) 1
    ∷ case (CarrierNotification AB ∷ []) (CancelCarrierNotification (blanks 1 ++ AB)) 1
    -- a tag reader that pads verifies the carrier that was announced
    ∷ case (Bind 1 AB ∷ arrives (AB ++ blanks 14)) (Open AB) 0
    ∷ case (Bind 1 AB ∷ arrives (AB ++ blanks 14)) (Open (AB ++ blanks 1)) 0
    ∷ case (Bind 1 AB ∷ arrives (0x41 ∷ 0x43 ∷ blanks 14)) (Open (0x41 ∷ 0x43 ∷ [])) 7
    -- only a length of zero means missing
    ∷ case (Bind 1 AB ∷ []) (CancelBind 1 []) 0
    ∷ case (Bind 1 AB ∷ []) (CancelBind 1 (blanks 1)) 1
    ∷ case (Bind 1 AB ∷ []) (CancelBind 1 (blanks 33)) 1
    ∷ case (Bind 1 AB ∷ []) (CancelBind 1 (AB ++ blanks 1)) 0
    ∷ case [] (CarrierNotification []) 1
    ∷ case [] (CarrierNotification (blanks 4)) 1
    -- a row that takes no name ignores it, however bad
    ∷ case [] (input_of 13 1 0 (blanks 1 ++ AB) []) 0
    ∷ case [] (input_of 13 1 0 (replicate 40 0) []) 0
    ∷ []

-- A is IN ACCESS at port 1: 32 to 35 take the name that remains; 31 ignores it, however bad
abbrev in_access : List Timed
in_access = map plain accessed

abbrev pub timed_cases : List Case
timed_cases =
    timed_case in_access (PredictedTime 5 (A ++ blanks 3) 9) 0
    ∷ timed_case in_access (PredictedTime 5 (blanks 1 ++ A) 9) 1
    ∷ timed_case in_access (PredictedTime 5 (blanks 1) 9) 1
    ∷ timed_case in_access (NoPrediction 5 (A ++ blanks 31)) 0
    ∷ timed_case in_access (NoPrediction 5 (A ++ blanks 32)) 1
    ∷ timed_case (in_access ++ PredictedTime 5 (A ++ blanks 3) 90 ∷ []) (Estimate 6 A 99) 0
    ∷ timed_case (in_access ++ PredictedTime 5 A 90 ∷ []) (Estimate 6 (A ++ blanks 1) 99) 0
    ∷ timed_case in_access (timed (input_of 31 0 0 (replicate 40 0) []) 5 0) 0
    ∷ timed_case in_access (timed (input_of 31 0 0 (blanks 1) []) 5 0) 0
    ∷ wafer_case in_access (A ++ blanks 3) 0
    ∷ wafer_case in_access (A ++ blanks 32) 1
    ∷ wafer_case in_access (blanks 1 ++ A) 1
    ∷ []

-- with a place in the buffer: AB is moved there and queued
abbrev queued : List ℕ → List Input
queued name = Bind 1 AB ∷ arrives AB ++ MoveIn 1 1 ∷ CarrierOut name 1 ∷ []

abbrev pub queue_cases : List Case
queue_cases =
    case (queued (AB ++ blanks 3)) (CancelCarrierOut AB) 0
    ∷ case (queued AB) (CancelCarrierOut (AB ++ blanks 30)) 0
    ∷ case (queued (AB ++ blanks 3)) (CarrierOut (AB ++ blanks 1) 1) 10
    ∷ case (queued AB) (CancelCarrierOut (AB ++ blanks 31)) 1
    ∷ case (queued AB) (CancelCarrierOut (blanks 1 ++ AB)) 1
    -- 27, 28 and 30 ignore the name, however bad
    ∷ case (queued AB) (input_of 27 1 0 (replicate 40 0) []) 0
    ∷ case (queued AB) (input_of 28 1 0 (replicate 40 0) []) 5
    ∷ case (queued AB) (input_of 30 0 0 (replicate 40 0) []) 0
    ∷ []

-- ── What may be padded: any name within 32 bytes, a bad one too, but none that is missing ──
pub record Pads : Type 0 where
  pub blanks : List ℕ
  pub run : List Brought
  pub may : Bool

abbrev pads : List ℕ → List Input → Bool → Pads
pads blanks run may = record { blanks = blanks; run = map (λ i. brought (plain i) []) run; may = may }

unfoldable pub pads_hold : Pads → Bool
pads_hold p = cond p.may (may_pad_run p.blanks p.run) (not (may_pad_run p.blanks p.run))

abbrev pub paddings : List Pads
paddings =
    pads [] (CarrierNotification AB ∷ []) true
    ∷ pads (30 ∷ []) (CarrierNotification AB ∷ []) true
    ∷ pads (31 ∷ []) (CarrierNotification AB ∷ []) false
    ∷ pads (2 ∷ []) (CarrierNotification (blanks 1 ++ AB) ∷ []) true
    ∷ pads (0 ∷ 2 ∷ []) (CancelBind 1 [] ∷ Bind 1 AB ∷ LoadStart 1 ∷ []) true
    ∷ pads (1 ∷ 2 ∷ []) (CancelBind 1 [] ∷ Bind 1 AB ∷ []) false
    ∷ pads (2 ∷ 31 ∷ []) (Open AB ∷ Bind 1 AB ∷ []) false
    ∷ pads (4 ∷ 4 ∷ []) (CarrierNotification [] ∷ []) true
    ∷ []
