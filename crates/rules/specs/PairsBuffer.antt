-- Rows 7, 8 and 18, shown condition by condition.
use Rattle.std.specs.Prelude.{ℕ, List, [], ◌∷◌, ◌++◌}
use Rattle.rules.specs.State.{State}
use Rattle.rules.specs.Seen.{Input}
use Rattle.rules.specs.Pairs.{Pair, along, standing, pair, port, carrier, state}
use Rattle.rules.specs.Inputs.{Bind, CarrierOut, CarrierIn, ChangeServiceStatus, ReserveAtPort}
use Rattle.rules.specs.Inputs.{LoadStart, LoadFail, MoveIn, Open, UnloadStart, A, B, A16, A17, zeros, threes}
use Rattle.rules.specs.Inputs.{announced, unannounced, cancelled, arrived, stored}

-- a carrier comes out of the buffer to port 1
abbrev out : List ℕ → List Input
out name = stored name 1 ++ CarrierOut name 1 ∷ []

-- B is bound to port 1 and its load fails: tied, and not reserved
abbrev tied_only : List Input
tied_only = Bind 1 B ∷ LoadStart 1 ∷ LoadFail 1 ∷ []

-- A in the buffer, closed and IN ACCESS: no run closes a carrier that is IN ACCESS
abbrev shut_in_access : State
shut_in_access = state 1 (port 1 0 0 [] 0 0 0 ∷ []) (carrier A 2 1 0 0 0 0 threes 3 3 2 ∷ [])

-- A expected, though it came out to its port: no run has an expected carrier come out
abbrev out_unplaced : State
out_unplaced = state 1 (port 2 0 0 A 0 1 1 ∷ []) (carrier A 0 0 1 0 0 1 zeros 3 1 1 ∷ [])

-- A at an idle BLOCKED port without a pod: no run loses the pod there
abbrev podless : State
podless = state 1 (port 3 0 0 A 0 0 1 ∷ []) (carrier A 1 0 1 0 0 0 zeros 3 1 1 ∷ [])

-- a pod at a port tied to A, which is expected with ID OK: on runs the ID of an expected carrier is NOT READ
abbrev unplaced : State
unplaced = state 1 (port 3 0 0 A 0 1 0 ∷ []) (carrier A 0 0 1 0 0 0 zeros 3 1 1 ∷ [])

abbrev pub buffer_pairs : List Pair
buffer_pairs =
    -- 7. CarrierOut: a name
    pair 7 0 (along 1 1 (stored A16 1) (CarrierOut A16 1)) 0 (along 1 1 (stored A16 1) (CarrierOut A17 1)) 1
    -- a port of the tool
    ∷ pair 7 1 (along 1 1 (ChangeServiceStatus 1 0 ∷ []) (CarrierOut A 1)) 2 (along 1 1 (ChangeServiceStatus 1 0 ∷ []) (CarrierOut A 2)) 1
    -- the name has a record
    ∷ pair 7 2 (along 1 1 (announced A) (CarrierOut A 1)) 5 (along 1 1 (announced B) (CarrierOut A 1)) 2
    -- reserved
    ∷ pair 7 3 (along 1 1 (stored A 1 ++ ReserveAtPort 1 ∷ []) (CarrierOut A 1)) 4 (along 1 1 (stored A 1) (CarrierOut A 1)) 0
    -- tied
    ∷ pair 7 4 (along 1 1 (stored A 1 ++ tied_only) (CarrierOut A 1)) 4 (along 1 1 (stored A 1) (CarrierOut A 1)) 0
    -- in the buffer
    ∷ pair 7 5 (along 2 1 (stored A 1) (CarrierOut A 2)) 0 (along 2 1 (arrived A) (CarrierOut A 2)) 5
    -- open
    ∷ pair 7 6 (along 1 1 (stored A 1 ++ Open A ∷ []) (CarrierOut A 1)) 5 (along 1 1 (stored A 1) (CarrierOut A 1)) 0
    -- IN ACCESS
    ∷ pair 7 7 (standing shut_in_access (CarrierOut A 1)) 5 (along 1 1 (stored A 1) (CarrierOut A 1)) 0
    -- the port READY TO LOAD
    ∷ pair 7 8 (along 1 1 (stored A 1) (CarrierOut A 1)) 0 (along 1 1 (stored A 1 ++ LoadStart 1 ∷ []) (CarrierOut A 1)) 5
    -- 8. CarrierIn: a name
    ∷ pair 8 0 (along 1 1 (out A16) (CarrierIn A16)) 0 (along 1 1 (out A16) (CarrierIn A17)) 1
    -- it has a record
    ∷ pair 8 1 (along 1 1 (announced A) (CarrierIn A)) 5 (along 1 1 (announced B) (CarrierIn A)) 2
    -- at a port
    ∷ pair 8 2 (along 1 1 (out A) (CarrierIn A)) 0 (standing out_unplaced (CarrierIn A)) 5
    -- its port READY TO UNLOAD
    ∷ pair 8 3 (along 1 1 (out A) (CarrierIn A)) 0 (along 1 1 (out A ++ UnloadStart 1 ∷ []) (CarrierIn A)) 5
    -- came-out on
    ∷ pair 8 4 (along 1 1 (out A) (CarrierIn A)) 0 (along 1 1 cancelled (CarrierIn A)) 5
    -- 18. MoveIn: a port of the tool
    ∷ pair 18 0 (along 1 1 [] (MoveIn 1 1)) 5 (along 1 1 [] (MoveIn 2 1)) 1
    -- a place from 1 on
    ∷ pair 18 1 (along 1 1 (arrived A) (MoveIn 1 1)) 0 (along 1 1 (arrived A) (MoveIn 1 0)) 1
    -- up to B
    ∷ pair 18 2 (along 1 1 (arrived A) (MoveIn 1 1)) 0 (along 1 1 (arrived A) (MoveIn 1 2)) 1
    -- pod present
    ∷ pair 18 3 (along 1 1 (arrived A) (MoveIn 1 1)) 0 (standing podless (MoveIn 1 1)) 5
    -- idle
    ∷ pair 18 4 (along 1 1 (out A ++ CarrierIn A ∷ []) (MoveIn 1 1)) 0 (along 1 1 (out A ++ UnloadStart 1 ∷ []) (MoveIn 1 1)) 5
    -- BLOCKED
    ∷ pair 18 5 (along 1 1 (out A ++ CarrierIn A ∷ []) (MoveIn 1 1)) 0 (along 1 1 (out A) (MoveIn 1 1)) 5
    -- a carrier at the port
    ∷ pair 18 6 (along 1 1 (arrived A) (MoveIn 1 1)) 0 (standing unplaced (MoveIn 1 1)) 7
    -- its ID OK
    ∷ pair 18 7 (along 1 1 (arrived A) (MoveIn 1 1)) 0 (along 1 1 unannounced (MoveIn 1 1)) 7
    -- the place is taken
    ∷ pair 18 8 (along 1 2 (stored A 1 ++ arrived B) (MoveIn 1 1)) 8 (along 1 2 (stored A 1 ++ arrived B) (MoveIn 1 2)) 0
    ∷ []
