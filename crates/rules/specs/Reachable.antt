-- For each row and each answer that document 01 allows for it, a run from set-up whose last input is given that answer.
use Rattle.std.specs.Prelude.{ℕ, Bool, true, ◌&&◌, ◌||◌, List, [], ◌∷◌, ◌++◌, map, eqb}
use Rattle.lists.specs.Lists.{any}
use Rattle.rules.specs.State.{State, start, set_up}
use Rattle.rules.specs.Seen.{Input}
use Rattle.rules.specs.Outcome.{answer_in, state_after}
use Rattle.rules.specs.Run.{run}
use Rattle.rules.specs.Inputs.{Bind, CancelBind, CarrierNotification, CancelCarrierNotification, ProceedWithCarrier, CancelCarrier}
use Rattle.rules.specs.Inputs.{CarrierOut, CarrierIn, ChangeAccess, ChangeServiceStatus, ReserveAtPort, CancelReservationAtPort}
use Rattle.rules.specs.Inputs.{LoadStart, LoadDone, LoadFail, IdRead, IdReadFailed, MoveIn, Open, SlotMap, AccessStart, AccessEnd}
use Rattle.rules.specs.Inputs.{Close, UnloadStart, UnloadDone, UnloadFail, A, B, threes, expecting, unannounced, arrived, stored}
use Rattle.rules.specs.Inputs.{opened, agreed, accessed, finished}

-- ── The table ──
-- A line: a row and an answer, the tool's ports and places, the inputs before, and the last input.
pub record Line : Type 0 where
  pub row : ℕ
  pub answer : ℕ
  pub ports : ℕ
  pub places : ℕ
  pub before : List Input
  pub last : Input

abbrev shows : ℕ → ℕ → ℕ → ℕ → List Input → Input → Line
shows row answer ports places before last =
    record { row = row; answer = answer; ports = ports; places = places; before = before; last = last }

abbrev pub table : List Line
table =
    shows 1 0 1 0 [] (Bind 1 A)
    ∷ shows 1 1 1 0 [] (Bind 0 A)
    ∷ shows 1 3 1 0 (CarrierNotification A ∷ []) (Bind 1 A)
    ∷ shows 1 4 1 0 (ReserveAtPort 1 ∷ []) (Bind 1 A)
    ∷ shows 1 5 1 0 (LoadStart 1 ∷ []) (Bind 1 A)
    ∷ shows 1 6 1 0 (expecting 16) (Bind 1 A)
    ∷ shows 2 0 1 0 (Bind 1 A ∷ []) (CancelBind 1 A)
    ∷ shows 2 1 1 0 (Bind 1 A ∷ []) (CancelBind 0 [])
    ∷ shows 2 2 1 0 (Bind 1 A ∷ []) (CancelBind 1 B)
    ∷ shows 2 5 1 0 (Bind 1 A ∷ LoadStart 1 ∷ []) (CancelBind 1 A)
    ∷ shows 3 0 1 0 [] (CarrierNotification A)
    ∷ shows 3 1 1 0 [] (CarrierNotification [])
    ∷ shows 3 3 1 0 (Bind 1 A ∷ []) (CarrierNotification A)
    ∷ shows 3 6 1 0 (expecting 16) (CarrierNotification A)
    ∷ shows 4 0 1 0 (CarrierNotification A ∷ []) (CancelCarrierNotification A)
    ∷ shows 4 1 1 0 [] (CancelCarrierNotification [])
    ∷ shows 4 2 1 0 [] (CancelCarrierNotification A)
    ∷ shows 4 5 1 0 (Bind 1 A ∷ []) (CancelCarrierNotification A)
    ∷ shows 5 0 1 0 unannounced (ProceedWithCarrier A 1)
    ∷ shows 5 1 1 0 unannounced (ProceedWithCarrier A 2)
    ∷ shows 5 2 1 0 unannounced (ProceedWithCarrier B 1)
    ∷ shows 5 5 1 0 (arrived A) (ProceedWithCarrier A 1)
    ∷ shows 6 0 1 0 unannounced (CancelCarrier A 1)
    ∷ shows 6 1 1 0 unannounced (CancelCarrier A 2)
    ∷ shows 6 2 1 0 unannounced (CancelCarrier B 1)
    ∷ shows 6 5 1 0 accessed (CancelCarrier A 1)
    ∷ shows 7 0 1 2 (stored A 1) (CarrierOut A 1)
    ∷ shows 7 1 1 2 (stored A 1) (CarrierOut A 2)
    ∷ shows 7 2 1 2 (stored A 1) (CarrierOut B 1)
    ∷ shows 7 4 1 2 (stored A 1 ++ ReserveAtPort 1 ∷ []) (CarrierOut A 1)
    ∷ shows 7 5 1 2 (stored A 1 ++ LoadStart 1 ∷ []) (CarrierOut A 1)
    ∷ shows 8 0 1 2 (stored A 1 ++ CarrierOut A 1 ∷ []) (CarrierIn A)
    ∷ shows 8 1 1 2 (stored A 1 ++ CarrierOut A 1 ∷ []) (CarrierIn [])
    ∷ shows 8 2 1 2 (stored A 1 ++ CarrierOut A 1 ∷ []) (CarrierIn B)
    ∷ shows 8 5 1 2 (stored A 1) (CarrierIn A)
    ∷ shows 9 0 1 0 [] (ChangeAccess 1 1)
    ∷ shows 9 1 1 0 [] (ChangeAccess 1 2)
    ∷ shows 9 4 1 0 (ReserveAtPort 1 ∷ []) (ChangeAccess 1 1)
    ∷ shows 9 5 1 0 (LoadStart 1 ∷ []) (ChangeAccess 1 1)
    ∷ shows 10 0 1 0 [] (ChangeServiceStatus 1 0)
    ∷ shows 10 1 1 0 [] (ChangeServiceStatus 1 2)
    ∷ shows 10 4 1 0 (ReserveAtPort 1 ∷ []) (ChangeServiceStatus 1 0)
    ∷ shows 10 5 1 0 (LoadStart 1 ∷ []) (ChangeServiceStatus 1 0)
    ∷ shows 11 0 1 0 [] (ReserveAtPort 1)
    ∷ shows 11 1 1 0 [] (ReserveAtPort 2)
    ∷ shows 11 4 1 0 (Bind 1 A ∷ []) (ReserveAtPort 1)
    ∷ shows 11 5 1 0 (ChangeServiceStatus 1 0 ∷ []) (ReserveAtPort 1)
    ∷ shows 12 0 1 0 (ReserveAtPort 1 ∷ []) (CancelReservationAtPort 1)
    ∷ shows 12 1 1 0 (ReserveAtPort 1 ∷ []) (CancelReservationAtPort 2)
    ∷ shows 12 4 1 0 (Bind 1 A ∷ []) (CancelReservationAtPort 1)
    ∷ shows 12 5 1 0 [] (CancelReservationAtPort 1)
    ∷ shows 13 0 1 0 [] (LoadStart 1)
    ∷ shows 13 1 1 0 [] (LoadStart 2)
    ∷ shows 13 5 1 0 (ChangeServiceStatus 1 0 ∷ []) (LoadStart 1)
    ∷ shows 14 0 1 0 (LoadStart 1 ∷ []) (LoadDone 1)
    ∷ shows 14 1 1 0 (LoadStart 1 ∷ []) (LoadDone 2)
    ∷ shows 14 5 1 0 [] (LoadDone 1)
    ∷ shows 15 0 1 0 (LoadStart 1 ∷ []) (LoadFail 1)
    ∷ shows 15 1 1 0 (LoadStart 1 ∷ []) (LoadFail 2)
    ∷ shows 15 5 1 0 (LoadStart 1 ∷ LoadDone 1 ∷ []) (LoadFail 1)
    ∷ shows 16 0 1 0 (Bind 1 A ∷ LoadStart 1 ∷ LoadDone 1 ∷ []) (IdRead 1 A)
    ∷ shows 16 1 1 0 (Bind 1 A ∷ LoadStart 1 ∷ LoadDone 1 ∷ []) (IdRead 1 [])
    ∷ shows 16 3 2 0 (Bind 2 A ∷ LoadStart 1 ∷ LoadDone 1 ∷ []) (IdRead 1 A)
    ∷ shows 16 5 1 0 (Bind 1 A ∷ LoadStart 1 ∷ []) (IdRead 1 A)
    ∷ shows 17 0 1 0 (LoadStart 1 ∷ LoadDone 1 ∷ []) (IdReadFailed 1)
    ∷ shows 17 1 1 0 (LoadStart 1 ∷ LoadDone 1 ∷ []) (IdReadFailed 2)
    ∷ shows 17 5 1 0 unannounced (IdReadFailed 1)
    ∷ shows 18 0 1 2 (arrived A) (MoveIn 1 1)
    ∷ shows 18 1 1 0 (arrived A) (MoveIn 1 1)
    ∷ shows 18 5 1 2 (Bind 1 A ∷ LoadStart 1 ∷ []) (MoveIn 1 1)
    ∷ shows 18 7 1 2 unannounced (MoveIn 1 1)
    ∷ shows 18 8 1 2 (stored A 1 ++ arrived B) (MoveIn 1 1)
    ∷ shows 19 0 1 0 (arrived A) (Open A)
    ∷ shows 19 1 1 0 (arrived A) (Open [])
    ∷ shows 19 2 1 0 (arrived A) (Open B)
    ∷ shows 19 5 1 2 (arrived A) (Open A)
    ∷ shows 19 7 1 0 unannounced (Open A)
    ∷ shows 19 8 1 2 (stored A 1 ++ stored B 2 ++ Open A ∷ []) (Open B)
    ∷ shows 20 0 1 0 opened (SlotMap A threes)
    ∷ shows 20 1 1 0 opened (SlotMap A [])
    ∷ shows 20 2 1 0 opened (SlotMap B threes)
    ∷ shows 20 5 1 0 (arrived A) (SlotMap A threes)
    ∷ shows 21 0 1 0 agreed (AccessStart A)
    ∷ shows 21 1 1 0 agreed (AccessStart [])
    ∷ shows 21 2 1 0 agreed (AccessStart B)
    ∷ shows 21 5 1 0 (arrived A) (AccessStart A)
    ∷ shows 21 7 1 0 opened (AccessStart A)
    ∷ shows 22 0 1 0 accessed (AccessEnd A 0)
    ∷ shows 22 1 1 0 accessed (AccessEnd A 2)
    ∷ shows 22 2 1 0 accessed (AccessEnd B 0)
    ∷ shows 22 5 1 0 agreed (AccessEnd A 0)
    ∷ shows 23 0 1 0 opened (Close A)
    ∷ shows 23 1 1 0 opened (Close [])
    ∷ shows 23 2 1 0 opened (Close B)
    ∷ shows 23 5 1 0 accessed (Close A)
    ∷ shows 24 0 1 0 finished (UnloadStart 1)
    ∷ shows 24 1 1 0 finished (UnloadStart 2)
    ∷ shows 24 5 1 0 accessed (UnloadStart 1)
    ∷ shows 25 0 1 0 (finished ++ UnloadStart 1 ∷ []) (UnloadDone 1)
    ∷ shows 25 1 1 0 (finished ++ UnloadStart 1 ∷ []) (UnloadDone 2)
    ∷ shows 25 5 1 0 finished (UnloadDone 1)
    ∷ shows 26 0 1 0 (finished ++ UnloadStart 1 ∷ []) (UnloadFail 1)
    ∷ shows 26 1 1 0 (finished ++ UnloadStart 1 ∷ []) (UnloadFail 2)
    ∷ shows 26 5 1 0 finished (UnloadFail 1)
    ∷ []

-- every input of a run is accepted
unfoldable pub smooth : State → List Input → Bool
smooth s [] = true
smooth s (i ∷ is) = eqb (answer_in s i) 0 && smooth (state_after s i) is

-- Set-up and the inputs before are accepted; the last input is the row's, and is given the line's answer.
unfoldable pub shown : Line → Bool
shown l =
    eqb (set_up l.ports l.places).answer 0
    && smooth (start l.ports l.places) l.before
    && eqb l.last.number l.row
    && eqb (answer_in (run (start l.ports l.places) l.before) l.last) l.answer

-- ── What document 01 allows ──
pub record Pair : Type 0 where
  pub row : ℕ
  pub answer : ℕ

abbrev pub pair_of : Line → Pair
pair_of l = record { row = l.row; answer = l.answer }

abbrev pub pairs : List Pair
pairs = map pair_of table

abbrev pub answers : ℕ → List ℕ → List Pair
answers row [] = []
answers row (n ∷ ns) = record { row = row; answer = n } ∷ answers row ns

-- each row's numbers: 0, 1, and what its text in document 01 names
abbrev pub allowed : List Pair
allowed =
    answers 1 (0 ∷ 1 ∷ 3 ∷ 4 ∷ 5 ∷ 6 ∷ [])
    ++ answers 2 (0 ∷ 1 ∷ 2 ∷ 5 ∷ [])
    ++ answers 3 (0 ∷ 1 ∷ 3 ∷ 6 ∷ [])
    ++ answers 4 (0 ∷ 1 ∷ 2 ∷ 5 ∷ [])
    ++ answers 5 (0 ∷ 1 ∷ 2 ∷ 5 ∷ [])
    ++ answers 6 (0 ∷ 1 ∷ 2 ∷ 5 ∷ [])
    ++ answers 7 (0 ∷ 1 ∷ 2 ∷ 4 ∷ 5 ∷ [])
    ++ answers 8 (0 ∷ 1 ∷ 2 ∷ 5 ∷ [])
    ++ answers 9 (0 ∷ 1 ∷ 4 ∷ 5 ∷ [])
    ++ answers 10 (0 ∷ 1 ∷ 4 ∷ 5 ∷ [])
    ++ answers 11 (0 ∷ 1 ∷ 4 ∷ 5 ∷ [])
    ++ answers 12 (0 ∷ 1 ∷ 4 ∷ 5 ∷ [])
    ++ answers 13 (0 ∷ 1 ∷ 5 ∷ [])
    ++ answers 14 (0 ∷ 1 ∷ 5 ∷ [])
    ++ answers 15 (0 ∷ 1 ∷ 5 ∷ [])
    ++ answers 16 (0 ∷ 1 ∷ 3 ∷ 5 ∷ [])
    ++ answers 17 (0 ∷ 1 ∷ 5 ∷ [])
    ++ answers 18 (0 ∷ 1 ∷ 5 ∷ 7 ∷ 8 ∷ [])
    ++ answers 19 (0 ∷ 1 ∷ 2 ∷ 5 ∷ 7 ∷ 8 ∷ [])
    ++ answers 20 (0 ∷ 1 ∷ 2 ∷ 5 ∷ [])
    ++ answers 21 (0 ∷ 1 ∷ 2 ∷ 5 ∷ 7 ∷ [])
    ++ answers 22 (0 ∷ 1 ∷ 2 ∷ 5 ∷ [])
    ++ answers 23 (0 ∷ 1 ∷ 2 ∷ 5 ∷ [])
    ++ answers 24 (0 ∷ 1 ∷ 5 ∷ [])
    ++ answers 25 (0 ∷ 1 ∷ 5 ∷ [])
    ++ answers 26 (0 ∷ 1 ∷ 5 ∷ [])

-- a row may give an answer: 1, or what document 01 allows for it
unfoldable pub may_answer : ℕ → ℕ → Bool
may_answer row n = eqb n 1 || any (λ p. eqb p.row row && eqb p.answer n) allowed
