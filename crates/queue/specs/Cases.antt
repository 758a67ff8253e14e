-- What request P5 changes and adds, shown by runs: each beginning is accepted, and the endings differ in one condition.
use Rattle.std.specs.Prelude.{ℕ, zero, suc, ◌+◌, Bool, true, cond, ◌&&◌, List, [], ◌∷◌, ◌++◌, eqb}
use Rattle.records.specs.Names.{in_bytes}
use Rattle.rules.specs.declared.report.Report.{Report}
use Rattle.rules.specs.Seen.{Input, input_of}
use Rattle.rules.specs.Reports.{differences}
use Rattle.rules.specs.Run.{on_port}
use Rattle.rules.specs.Inputs.{Bind, CancelCarrier, CarrierOut, ChangeServiceStatus, ReserveAtPort, CancelReservationAtPort, LoadStart}
use Rattle.rules.specs.Inputs.{LoadFail, Open, SlotMap, AccessStart, ProceedWithCarrier, A, B, A16, A17, threes, arrived, stored}
use Rattle.queue.specs.declared.request.Request.{Request}
use Rattle.queue.specs.State.{Queued, base_of, start}
use Rattle.queue.specs.Outcome.{answer_in, state_after}

-- ── The inputs that the request adds ──
abbrev pub OutStart : ℕ → Input
OutStart port = input_of 27 port 0 [] []

abbrev pub OutDone : ℕ → Input
OutDone port = input_of 28 port 0 [] []

abbrev pub CancelCarrierOut : List ℕ → Input
CancelCarrierOut name = input_of 29 0 0 name []

abbrev pub CancelAllCarrierOut : Input
CancelAllCarrierOut = input_of 30 0 0 [] []

-- ── Beginnings ──
-- A and B are in the buffer
abbrev both : List Input
both = stored A 1 ++ stored B 2

-- A is queued for a port, and its request is started
abbrev queued_to : ℕ → List Input
queued_to port = both ++ CarrierOut A port ∷ []

abbrev started_to : ℕ → List Input
started_to port = queued_to port ++ OutStart port ∷ []

-- A and then B are queued for port 1
abbrev in_line : List Input
in_line = both ++ CarrierOut A 1 ∷ CarrierOut B 1 ∷ []

-- A is IN ACCESS in the buffer
abbrev in_access : List Input
in_access = both ++ Open A ∷ SlotMap A threes ∷ ProceedWithCarrier A 0 ∷ AccessStart A ∷ []

-- B is bound to port 1 and its load fails: tied, and not reserved
abbrev tied_only : List Input
tied_only = stored A 1 ++ Bind 1 B ∷ LoadStart 1 ∷ LoadFail 1 ∷ []

-- so many carriers are in the buffer and queued, none of them A or B
abbrev letter : ℕ → List ℕ
letter n = (0x61 + n) ∷ []

abbrev many : ℕ → List Input
many zero = []
many (suc n) = many n ++ stored (letter n) (suc n) ++ CarrierOut (letter n) 1 ∷ []

-- ── A run of inputs that are accepted, and one more: its answer, the queue afterwards, and the reports ──
pub record Case : Type 0 where
  pub ports : ℕ
  pub places : ℕ
  pub before : List Input
  pub input : Input

pub record Result : Type 0 where
  pub smooth : Bool
  pub answer : ℕ
  pub queue : List Request
  pub reports : List Report

pub record Line : Type 0 where
  pub asked : Case
  pub said : Result

unfoldable pub smooth : Queued → List Input → Bool
smooth s [] = true
smooth s (i ∷ is) = eqb (answer_in s i) 0 && smooth (state_after s i) is

unfoldable pub after : Queued → List Input → Queued
after s [] = s
after s (i ∷ is) = after (state_after s i) is

abbrev pub result_in : Bool → Queued → Input → Result
result_in smooth s i = record {
  smooth = smooth;
  answer = answer_in s i;
  queue = (state_after s i).queue;
  reports = cond (eqb (answer_in s i) 0) (differences (base_of s) (base_of (state_after s i))) [];
}

unfoldable pub result_of : Case → Result
result_of c =
    result_in (smooth (start c.ports c.places) c.before) (after (start c.ports c.places) c.before) c.input

abbrev pub holding : ℕ → ℕ → List Input → Input → ℕ → List Request → List Report → Line
holding ports places before input answer queue reports = record {
  asked = record { ports = ports; places = places; before = before; input = input };
  said = record { smooth = true; answer = answer; queue = queue; reports = reports };
}

-- two ports, two places; refused, or accepted with no report
abbrev pub case : List Input → Input → ℕ → List Request → Line
case before input answer queue = holding 2 2 before input answer queue []

abbrev pub told : List Input → Input → List Request → List Report → Line
told before input queue reports = holding 2 2 before input 0 queue reports

-- a request that waits for a port, and one that is started to it
abbrev pub waits : List ℕ → ℕ → Request
waits name port = record { name = in_bytes name; port = port; started = 0 }

abbrev pub runs : List ℕ → ℕ → Request
runs name port = record { name = in_bytes name; port = port; started = 1 }

-- the requests of so many
abbrev waiting : ℕ → List Request
waiting zero = []
waiting (suc n) = waiting n ++ waits (letter n) 1 ∷ []

abbrev pub cases : List Line
cases =
    -- 7. CarrierOut: queued, the oldest first, even while the port is busy, reserved, tied or out of service, the carrier open or in access
    case both (CarrierOut A 1) 0 (waits A 1 ∷ [])
    ∷ case (queued_to 2) (CarrierOut B 1) 0 (waits A 2 ∷ waits B 1 ∷ [])
    ∷ case (both ++ LoadStart 1 ∷ []) (CarrierOut A 1) 0 (waits A 1 ∷ [])
    ∷ case (both ++ ReserveAtPort 1 ∷ []) (CarrierOut A 1) 0 (waits A 1 ∷ [])
    ∷ case tied_only (CarrierOut A 1) 0 (waits A 1 ∷ [])
    ∷ case (both ++ ChangeServiceStatus 1 0 ∷ []) (CarrierOut A 1) 0 (waits A 1 ∷ [])
    ∷ case (both ++ Open A ∷ []) (CarrierOut A 1) 0 (waits A 1 ∷ [])
    ∷ case in_access (CarrierOut A 1) 0 (waits A 1 ∷ [])
    -- a name, a port; a record; in the buffer
    ∷ case (stored A16 1) (CarrierOut A16 1) 0 (waits A16 1 ∷ [])
    ∷ case (stored A16 1) (CarrierOut A17 1) 1 []
    ∷ case both (CarrierOut A 2) 0 (waits A 2 ∷ [])
    ∷ case both (CarrierOut A 3) 1 []
    ∷ case both (CarrierOut A 0) 1 []
    ∷ case (stored A 1) (CarrierOut B 1) 2 []
    ∷ case (arrived A) (CarrierOut A 1) 5 []
    -- already queued, to any port, started or not
    ∷ case (queued_to 1) (CarrierOut A 2) 10 (waits A 1 ∷ [])
    ∷ case (started_to 1) (CarrierOut A 1) 10 (runs A 1 ∷ [])
    -- the sixteenth, and one more: 9 is the lower
    ∷ holding 1 16 (many 15 ++ stored A 16) (CarrierOut A 1) 0 (waiting 15 ++ waits A 1 ∷ []) []
    ∷ holding 1 16 (many 16) (CarrierOut (letter 3) 1) 9 (waiting 16) []
    -- 27. OutStart: the oldest that is ready; one that isn't keeps its place
    ∷ told (queued_to 1) (OutStart 1) (runs A 1 ∷ []) (on_port 3 1 0 1 ∷ [])
    ∷ told in_line (OutStart 1) (runs A 1 ∷ waits B 1 ∷ []) (on_port 3 1 0 1 ∷ [])
    ∷ told (in_line ++ Open A ∷ []) (OutStart 1) (waits A 1 ∷ runs B 1 ∷ []) (on_port 3 1 0 1 ∷ [])
    ∷ told (both ++ CarrierOut A 2 ∷ CarrierOut B 1 ∷ []) (OutStart 1) (waits A 2 ∷ runs B 1 ∷ []) (on_port 3 1 0 1 ∷ [])
    ∷ told (started_to 1 ++ CarrierOut B 2 ∷ []) (OutStart 2) (runs A 1 ∷ runs B 2 ∷ []) (on_port 3 2 0 1 ∷ [])
    -- a port; reserved, by the host or for one that is started; tied
    ∷ case (queued_to 1) (OutStart 3) 1 (waits A 1 ∷ [])
    ∷ case (queued_to 1 ++ ReserveAtPort 1 ∷ []) (OutStart 1) 4 (waits A 1 ∷ [])
    ∷ case (in_line ++ OutStart 1 ∷ []) (OutStart 1) 4 (runs A 1 ∷ waits B 1 ∷ [])
    ∷ case (tied_only ++ CarrierOut A 1 ∷ []) (OutStart 1) 4 (waits A 1 ∷ [])
    -- READY TO LOAD; something to take: for this port, closed, not in access
    ∷ case (queued_to 1 ++ LoadStart 1 ∷ []) (OutStart 1) 5 (waits A 1 ∷ [])
    ∷ case (queued_to 1 ++ ChangeServiceStatus 1 0 ∷ []) (OutStart 1) 5 (waits A 1 ∷ [])
    ∷ case both (OutStart 1) 5 []
    ∷ case (queued_to 2) (OutStart 1) 5 (waits A 2 ∷ [])
    ∷ case (queued_to 1 ++ Open A ∷ []) (OutStart 1) 5 (waits A 1 ∷ [])
    ∷ case (in_access ++ CarrierOut A 1 ∷ []) (OutStart 1) 5 (waits A 1 ∷ [])
    -- 4 is the lower
    ∷ case (both ++ ReserveAtPort 1 ∷ []) (OutStart 1) 4 []
    -- 28. OutDone: row 7's effect, the reservation ends, the entry is free
    ∷ told (started_to 1) (OutDone 1) [] (on_port 1 1 1 2 ∷ on_port 3 1 1 0 ∷ on_port 4 1 0 1 ∷ [])
    ∷ told (in_line ++ OutStart 1 ∷ []) (OutDone 1) (waits B 1 ∷ []) (on_port 1 1 1 2 ∷ on_port 3 1 1 0 ∷ on_port 4 1 0 1 ∷ [])
    ∷ told (started_to 1 ++ CarrierOut B 2 ∷ OutStart 2 ∷ []) (OutDone 2) (runs A 1 ∷ [])
    (on_port 1 2 1 2 ∷ on_port 3 2 1 0 ∷ on_port 4 2 0 1 ∷ [])
    -- a cancelled carrier comes out, too
    ∷ told (started_to 1 ++ CancelCarrier A 0 ∷ []) (OutDone 1) [] (on_port 1 1 1 2 ∷ on_port 3 1 1 0 ∷ on_port 4 1 0 1 ∷ [])
    -- a port; started there: not at another, not only queued, not a host's reservation or a tie
    ∷ case (started_to 1) (OutDone 3) 1 (runs A 1 ∷ [])
    ∷ case (started_to 1) (OutDone 2) 5 (runs A 1 ∷ [])
    ∷ case (queued_to 1) (OutDone 1) 5 (waits A 1 ∷ [])
    ∷ case (queued_to 1 ++ ReserveAtPort 1 ∷ []) (OutDone 1) 5 (waits A 1 ∷ [])
    ∷ case (tied_only ++ CarrierOut A 1 ∷ []) (OutDone 1) 5 (waits A 1 ∷ [])
    -- 29. CancelCarrierOut: a name; queued, not started
    ∷ case in_line (CancelCarrierOut A) 0 (waits B 1 ∷ [])
    ∷ case in_line (CancelCarrierOut B) 0 (waits A 1 ∷ [])
    ∷ case in_line (CancelCarrierOut []) 1 (waits A 1 ∷ waits B 1 ∷ [])
    ∷ case (queued_to 1) (CancelCarrierOut B) 5 (waits A 1 ∷ [])
    ∷ case (queued_to 1) (CancelCarrierOut A16) 5 (waits A 1 ∷ [])
    ∷ case (started_to 1) (CancelCarrierOut A) 5 (runs A 1 ∷ [])
    -- 30. CancelAllCarrierOut: accepted even with none; a started one runs on
    ∷ case both CancelAllCarrierOut 0 []
    ∷ case in_line CancelAllCarrierOut 0 []
    ∷ case (in_line ++ OutStart 1 ∷ []) CancelAllCarrierOut 0 (runs A 1 ∷ [])
    -- 6. CancelCarrier: drops that carrier's request, and a started one runs on; refused, it drops none
    ∷ case in_line (CancelCarrier A 0) 0 (waits B 1 ∷ [])
    ∷ case (started_to 1) (CancelCarrier A 0) 0 (runs A 1 ∷ [])
    ∷ case (in_access ++ CarrierOut A 1 ∷ []) (CancelCarrier A 0) 5 (waits A 1 ∷ [])
    -- 12. CancelReservationAtPort: 4 where one is started
    ∷ told (queued_to 1 ++ ReserveAtPort 1 ∷ []) (CancelReservationAtPort 1) (waits A 1 ∷ []) (on_port 3 1 1 0 ∷ [])
    ∷ case (started_to 1) (CancelReservationAtPort 1) 4 (runs A 1 ∷ [])
    ∷ told (started_to 1 ++ ReserveAtPort 2 ∷ []) (CancelReservationAtPort 2) (runs A 1 ∷ []) (on_port 3 2 1 0 ∷ [])
    ∷ case (started_to 1) (CancelReservationAtPort 3) 1 (runs A 1 ∷ [])
    ∷ case (queued_to 1) (CancelReservationAtPort 1) 5 (waits A 1 ∷ [])
    -- 13. LoadStart: 4 where one is started
    ∷ told (queued_to 1) (LoadStart 1) (waits A 1 ∷ []) (on_port 1 1 1 3 ∷ [])
    ∷ case (started_to 1) (LoadStart 1) 4 (runs A 1 ∷ [])
    ∷ told (started_to 1) (LoadStart 2) (runs A 1 ∷ []) (on_port 1 2 1 3 ∷ [])
    ∷ case (started_to 1) (LoadStart 3) 1 (runs A 1 ∷ [])
    ∷ case (queued_to 1 ++ ChangeServiceStatus 1 0 ∷ []) (LoadStart 1) 5 (waits A 1 ∷ [])
    -- 19. Open: 5 for a carrier whose request is started, before 8; one that waits may open, and keeps its entry
    ∷ case (queued_to 1) (Open A) 0 (waits A 1 ∷ [])
    ∷ case (started_to 1) (Open A) 5 (runs A 1 ∷ [])
    ∷ case (started_to 1) (Open B) 0 (runs A 1 ∷ [])
    ∷ case (started_to 1 ++ Open B ∷ []) (Open A) 5 (runs A 1 ∷ [])
    ∷ case (started_to 1 ++ CancelCarrier A 0 ∷ []) (Open A) 5 (runs A 1 ∷ [])
    ∷ case (started_to 1) (Open []) 1 (runs A 1 ∷ [])
    ∷ case (stored A16 1 ++ CarrierOut A16 1 ∷ OutStart 1 ∷ []) (Open A17) 1 (runs A16 1 ∷ [])
    ∷ case (started_to 1) (Open A16) 2 (runs A 1 ∷ [])
    ∷ case (queued_to 1 ++ CancelCarrier B 0 ∷ []) (Open B) 7 (waits A 1 ∷ [])
    ∷ case (queued_to 1 ++ Open B ∷ []) (Open A) 8 (waits A 1 ∷ [])
    ∷ []
