-- Rows 9 to 12, shown condition by condition.
use Rattle.std.specs.Prelude.{ℕ, List, [], ◌∷◌, ◌++◌, replicate}
use Rattle.rules.specs.State.{State}
use Rattle.rules.specs.Seen.{Input}
use Rattle.rules.specs.Pairs.{Pair, along, standing, pair, port, carrier, state}
use Rattle.rules.specs.Inputs.{Bind, ChangeAccess, ChangeServiceStatus, ReserveAtPort, CancelReservationAtPort, LoadStart, LoadFail}
use Rattle.rules.specs.Inputs.{A}

-- port 1 is out of service; it is reserved; it is loading
abbrev out : List Input
out = ChangeServiceStatus 1 0 ∷ []

abbrev reserved : List Input
reserved = ReserveAtPort 1 ∷ []

abbrev loading : List Input
loading = LoadStart 1 ∷ []

-- A is tied to port 1: reserved for it; loading; after a load that failed, READY TO LOAD and not reserved
abbrev bound : List Input
bound = Bind 1 A ∷ []

abbrev bound_loading : List Input
bound_loading = bound ++ loading

abbrev tied : List Input
tied = bound_loading ++ LoadFail 1 ∷ []

-- A is tied to port 1, which is out of service: no run ties such a port, or takes a tied one out
abbrev tied_and_out : State
tied_and_out = state 0 (port 0 0 0 A 0 0 0 ∷ []) (carrier A 0 0 1 0 0 0 (replicate 25 0) 1 1 1 ∷ [])

-- port 1 is reserved, with this transfer and movement: in a run a reserved port is READY TO LOAD and idle
abbrev reserved_with : ℕ → ℕ → State
reserved_with transfer movement = state 0 (port transfer 0 1 [] movement 0 0 ∷ []) []

-- 9. ChangeAccess
abbrev change_access_pairs : List Pair
change_access_pairs =
    -- a port of the tool
    pair 9 0 (along 1 0 [] (ChangeAccess 1 0)) 0 (along 1 0 [] (ChangeAccess 2 0)) 1
    ∷ pair 9 0 (along 1 0 [] (ChangeAccess 1 1)) 0 (along 1 0 [] (ChangeAccess 2 1)) 1
    -- 0 or 1: of any port, of a reserved one, of one that isn't idle
    ∷ pair 9 1 (along 1 0 [] (ChangeAccess 1 1)) 0 (along 1 0 [] (ChangeAccess 1 2)) 1
    ∷ pair 9 1 (along 1 0 reserved (ChangeAccess 1 1)) 4 (along 1 0 reserved (ChangeAccess 1 2)) 1
    ∷ pair 9 1 (along 1 0 loading (ChangeAccess 1 1)) 5 (along 1 0 loading (ChangeAccess 1 2)) 1
    -- the value held already: though reserved, though not idle, though both
    ∷ pair 9 2 (along 1 0 reserved (ChangeAccess 1 0)) 0 (along 1 0 reserved (ChangeAccess 1 1)) 4
    ∷ pair 9 2 (along 1 0 loading (ChangeAccess 1 0)) 0 (along 1 0 loading (ChangeAccess 1 1)) 5
    ∷ pair 9 2 (standing (reserved_with 3 1) (ChangeAccess 1 0)) 0 (standing (reserved_with 3 1) (ChangeAccess 1 1)) 4
    -- reserved
    ∷ pair 9 3 (along 1 0 reserved (ChangeAccess 1 1)) 4 (along 1 0 [] (ChangeAccess 1 1)) 0
    -- idle
    ∷ pair 9 4 (along 1 0 [] (ChangeAccess 1 1)) 0 (along 1 0 loading (ChangeAccess 1 1)) 5
    ∷ []

-- 10. ChangeServiceStatus
abbrev change_service_status_pairs : List Pair
change_service_status_pairs =
    -- a port of the tool
    pair 10 0 (along 1 0 out (ChangeServiceStatus 1 0)) 0 (along 1 0 out (ChangeServiceStatus 2 0)) 1
    ∷ pair 10 0 (along 1 0 out (ChangeServiceStatus 1 1)) 0 (along 1 0 out (ChangeServiceStatus 2 1)) 1
    -- 0 or 1: of any port, of one that is out, of one that is reserved and tied, of one that is tied and not READY TO LOAD
    ∷ pair 10 1 (along 1 0 [] (ChangeServiceStatus 1 1)) 0 (along 1 0 [] (ChangeServiceStatus 1 2)) 1
    ∷ pair 10 1 (along 1 0 out (ChangeServiceStatus 1 1)) 0 (along 1 0 out (ChangeServiceStatus 1 2)) 1
    ∷ pair 10 1 (along 1 0 bound (ChangeServiceStatus 1 1)) 0 (along 1 0 bound (ChangeServiceStatus 1 2)) 1
    ∷ pair 10 1 (along 1 0 bound_loading (ChangeServiceStatus 1 1)) 0 (along 1 0 bound_loading (ChangeServiceStatus 1 2)) 1
    -- OUT OF SERVICE: though reserved, though tied, though not READY TO LOAD
    ∷ pair 10 2 (standing (reserved_with 0 0) (ChangeServiceStatus 1 0)) 0 (standing (reserved_with 3 0) (ChangeServiceStatus 1 0)) 4
    ∷ pair 10 2 (standing tied_and_out (ChangeServiceStatus 1 0)) 0 (along 1 0 bound_loading (ChangeServiceStatus 1 0)) 4
    ∷ pair 10 2 (along 1 0 out (ChangeServiceStatus 1 0)) 0 (along 1 0 loading (ChangeServiceStatus 1 0)) 5
    -- out is asked for: of a reserved port, of one that isn't READY TO LOAD, of one that is both
    ∷ pair 10 3 (along 1 0 reserved (ChangeServiceStatus 1 0)) 4 (along 1 0 reserved (ChangeServiceStatus 1 1)) 0
    ∷ pair 10 3 (along 1 0 loading (ChangeServiceStatus 1 0)) 5 (along 1 0 loading (ChangeServiceStatus 1 1)) 0
    ∷ pair 10 3 (standing (reserved_with 3 0) (ChangeServiceStatus 1 0)) 4 (standing (reserved_with 3 0) (ChangeServiceStatus 1 1)) 0
    -- reserved
    ∷ pair 10 4 (along 1 0 reserved (ChangeServiceStatus 1 0)) 4 (along 1 0 [] (ChangeServiceStatus 1 0)) 0
    -- tied
    ∷ pair 10 5 (along 1 0 tied (ChangeServiceStatus 1 0)) 4 (along 1 0 [] (ChangeServiceStatus 1 0)) 0
    -- READY TO LOAD
    ∷ pair 10 6 (along 1 0 [] (ChangeServiceStatus 1 0)) 0 (along 1 0 loading (ChangeServiceStatus 1 0)) 5
    ∷ []

-- 11. ReserveAtPort
abbrev reserve_at_port_pairs : List Pair
reserve_at_port_pairs =
    -- a port of the tool
    pair 11 0 (along 1 0 out (ReserveAtPort 1)) 5 (along 1 0 out (ReserveAtPort 2)) 1
    -- reserved: READY TO LOAD or not
    ∷ pair 11 1 (along 1 0 reserved (ReserveAtPort 1)) 4 (along 1 0 [] (ReserveAtPort 1)) 0
    ∷ pair 11 1 (standing (reserved_with 3 1) (ReserveAtPort 1)) 4 (along 1 0 loading (ReserveAtPort 1)) 5
    -- tied: READY TO LOAD or not
    ∷ pair 11 2 (along 1 0 tied (ReserveAtPort 1)) 4 (along 1 0 [] (ReserveAtPort 1)) 0
    ∷ pair 11 2 (along 1 0 bound_loading (ReserveAtPort 1)) 4 (along 1 0 loading (ReserveAtPort 1)) 5
    -- READY TO LOAD
    ∷ pair 11 3 (along 1 0 [] (ReserveAtPort 1)) 0 (along 1 0 loading (ReserveAtPort 1)) 5
    ∷ []

-- 12. CancelReservationAtPort
abbrev cancel_reservation_at_port_pairs : List Pair
cancel_reservation_at_port_pairs =
    -- a port of the tool: the last of four, and one more
    pair 12 0 (along 4 0 [] (CancelReservationAtPort 4)) 5 (along 4 0 [] (CancelReservationAtPort 5)) 1
    -- tied: reserved or not
    ∷ pair 12 1 (along 1 0 bound (CancelReservationAtPort 1)) 4 (along 1 0 reserved (CancelReservationAtPort 1)) 0
    ∷ pair 12 1 (along 1 0 tied (CancelReservationAtPort 1)) 4 (along 1 0 [] (CancelReservationAtPort 1)) 5
    -- reserved
    ∷ pair 12 2 (along 1 0 reserved (CancelReservationAtPort 1)) 0 (along 1 0 [] (CancelReservationAtPort 1)) 5
    ∷ []

abbrev pub service_pairs : List Pair
service_pairs = change_access_pairs ++ change_service_status_pairs ++ reserve_at_port_pairs ++ cancel_reservation_at_port_pairs
