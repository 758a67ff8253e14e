-- Rows 5 and 6, shown condition by condition.
use Rattle.std.specs.Prelude.{ℕ, List, [], ◌∷◌, ◌++◌}
use Rattle.rules.specs.State.{State}
use Rattle.rules.specs.Seen.{Input}
use Rattle.rules.specs.Pairs.{Case, Pair, along, standing, pair, pair_with, port, carrier, state}
use Rattle.rules.specs.Inputs.{Bind, ProceedWithCarrier, CancelCarrier, LoadStart, LoadDone, IdRead, IdReadFailed, SlotMap}
use Rattle.rules.specs.Inputs.{UnloadStart, A, B, zeros, threes, announced, unannounced, cancelled, stored, opened, agreed, accessed}

-- an unknown pod: nobody announced it, and the tag can't be read
abbrev unknown : List Input
unknown = LoadStart 1 ∷ LoadDone 1 ∷ IdReadFailed 1 ∷ []

-- its port without a pod, and unloading: no run leaves a failed tag without a pod, or unloads a pod that has no tie
abbrev podless : State
podless = state 0 (port 3 0 0 [] 0 0 2 ∷ []) []

abbrev unloading : State
unloading = state 0 (port 3 0 0 [] 2 1 2 ∷ []) []

-- an unknown pod at port 1, and A in the buffer with its ID NOT READ: runs bring only carriers with ID OK there
abbrev unverified : State
unverified = state 1 (port 3 0 0 [] 0 1 2 ∷ []) (carrier A 2 1 0 0 0 0 zeros 1 1 1 ∷ [])

-- A open at port 1 with its slot map read, and ID FAILED: runs open only carriers with ID OK, which keep it
abbrev misjudged : State
misjudged = state 0 (port 3 0 0 A 0 1 1 ∷ []) (carrier A 1 0 1 1 0 0 threes 4 2 1 ∷ [])

-- two pods that nobody announced: A at port 1, B at port 2
abbrev two : List Input
two = unannounced ++ LoadStart 2 ∷ LoadDone 2 ∷ IdRead 2 B ∷ []

-- a cancelled carrier is being unloaded
abbrev leaving : List Input
leaving = cancelled ++ UnloadStart 1 ∷ []

-- A's slot map is read
abbrev mapped : List Input
mapped = opened ++ SlotMap A threes ∷ []

-- What both rows ask: the row, its input, a case with A in the buffer and an unknown pod at the port, and what the row asks besides.
abbrev verdict : ℕ → (List ℕ → ℕ → Input) → Case → List Pair → List Pair
verdict n Judge buffered more =
    -- a name
    pair n 0 (along 1 0 unknown (Judge A 1)) 0 (along 1 0 unknown (Judge [] 1)) 1
    -- a port of the tool
    ∷ pair n 1 (along 2 0 unannounced (Judge A 2)) 5 (along 2 0 unannounced (Judge A 3)) 1
    -- no port given
    ∷ pair n 2 (along 1 0 unannounced (Judge A 0)) 0 (along 1 0 unannounced (Judge A 2)) 1
    -- the name has a record
    ∷ pair n 3 (along 1 0 (announced A) (Judge A 1)) 5 (along 1 0 (announced B) (Judge A 1)) 2
    -- at the port given: pod present
    ∷ pair n 4 (along 1 0 unknown (Judge A 1)) 0 (standing podless (Judge A 1)) 2
    -- idle
    ∷ pair n 5 (along 1 0 unknown (Judge A 1)) 0 (standing unloading (Judge A 1)) 2
    -- tag failed
    ∷ pair n 6 (along 1 0 unknown (Judge A 1)) 0 (along 1 0 (LoadStart 1 ∷ LoadDone 1 ∷ []) (Judge A 1)) 2
    -- a tie
    ∷ pair n 7 (along 1 0 (Bind 1 B ∷ unknown) (Judge A 1)) 2 (along 1 0 unknown (Judge A 1)) 0
    -- the record: expected
    ∷ pair n 8 (along 1 1 (announced A ++ unknown) (Judge A 1)) 0 buffered 5
    -- untied
    ∷ pair n 9 (along 2 0 (announced A ++ unknown) (Judge A 1)) 0 (along 2 0 (Bind 2 A ∷ unknown) (Judge A 1)) 5
    -- its port is the one given
    ∷ pair n 10 (along 2 0 two (Judge A 1)) 0 (along 2 0 two (Judge A 2)) 5
    ∷ more

-- 5. ProceedWithCarrier: these, and its own
abbrev proceed_pairs : List Pair
proceed_pairs = verdict 5 ProceedWithCarrier (standing unverified (ProceedWithCarrier A 1)) (
    -- ID WAITING FOR HOST
    pair 5 11 (along 1 0 unannounced (ProceedWithCarrier A 1)) 0 (along 1 0 cancelled (ProceedWithCarrier A 1)) 5
    -- ID OK
    ∷ pair 5 12 (along 1 0 mapped (ProceedWithCarrier A 1)) 0 (standing misjudged (ProceedWithCarrier A 1)) 5
    -- slot status WAITING FOR HOST
    ∷ pair 5 13 (along 1 0 mapped (ProceedWithCarrier A 1)) 0 (along 1 0 opened (ProceedWithCarrier A 1)) 5
    ∷ [])

-- 6. CancelCarrier: these, and its own
abbrev cancel_pairs : List Pair
cancel_pairs = verdict 6 CancelCarrier (along 1 1 (stored A 1 ++ unknown) (CancelCarrier A 1)) (
    -- IN ACCESS
    pair 6 11 (along 1 0 accessed (CancelCarrier A 1)) 5 (along 1 0 agreed (CancelCarrier A 1)) 0
    -- at a port; one in the buffer has no port, so that "untied", "its port is the one given" and "its port idle" change with it
    ∷ pair_with (9 ∷ 10 ∷ 13 ∷ []) 6 12 (along 1 1 leaving (CancelCarrier A 0)) 5 (along 1 1 (stored A 1) (CancelCarrier A 0)) 0
    -- its port idle
    ∷ pair 6 13 (along 1 0 cancelled (CancelCarrier A 0)) 0 (along 1 0 leaving (CancelCarrier A 0)) 5
    ∷ [])

abbrev pub verdict_pairs : List Pair
verdict_pairs = proceed_pairs ++ cancel_pairs
