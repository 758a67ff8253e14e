-- Rows 19 to 23, shown condition by condition.
use Rattle.std.specs.Prelude.{ℕ, List, [], ◌∷◌, ◌++◌, replicate}
use Rattle.records.specs.declared.port.Port.{Port}
use Rattle.records.specs.declared.carrier.Carrier.{Carrier}
use Rattle.records.specs.Ports.{new_port}
use Rattle.rules.specs.State.{State}
use Rattle.rules.specs.Seen.{Input}
use Rattle.rules.specs.Pairs.{Pair, along, standing, pair, port, carrier, state}
use Rattle.rules.specs.Inputs.{Bind, ProceedWithCarrier, CancelCarrier, LoadStart, LoadDone, IdRead, IdReadFailed, Open, SlotMap}
use Rattle.rules.specs.Inputs.{AccessStart, AccessEnd, Close, A, B, threes, unannounced, arrived, stored, opened, agreed, accessed}

-- ── Runs ──
-- the pod that A is bound to has come to port 1; its tag can't be read, and A is placed there
abbrev bound : List Input
bound = Bind 1 A ∷ LoadStart 1 ∷ LoadDone 1 ∷ []

abbrev unreadable : List Input
unreadable = bound ++ IdReadFailed 1 ∷ []

-- a pod that nobody announced, and the host says yes to its ID
abbrev accepted : List Input
accepted = unannounced ++ ProceedWithCarrier A 1 ∷ []

-- A is open at port 1, and the pod that B is bound to has come to port 2; its tag agrees; its tag can't be read
abbrev bound_beside : List Input
bound_beside = opened ++ Bind 2 B ∷ LoadStart 2 ∷ LoadDone 2 ∷ []

abbrev open_beside : List Input
open_beside = bound_beside ++ IdRead 2 B ∷ []

abbrev unreadable_beside : List Input
unreadable_beside = bound_beside ++ IdReadFailed 2 ∷ []

-- A is open at port 1 and its slot map waits for the host; it is closed then
abbrev mapped : List Input
mapped = opened ++ SlotMap A threes ∷ []

abbrev mapped_closed : List Input
mapped_closed = mapped ++ Close A ∷ []

-- A's slot map is agreed to, and A is closed; A is accessed to the end, or stopped, and still open
abbrev agreed_closed : List Input
agreed_closed = agreed ++ Close A ∷ []

abbrev access_complete : List Input
access_complete = accessed ++ AccessEnd A 0 ∷ []

abbrev access_stopped : List Input
access_stopped = accessed ++ AccessEnd A 1 ∷ []

-- A is in the buffer: cancelled; open; opened, accessed and closed again
abbrev stored_cancelled : List Input
stored_cancelled = stored A 1 ++ CancelCarrier A 0 ∷ []

abbrev stored_open : List Input
stored_open = stored A 1 ++ Open A ∷ []

abbrev stored_finished : List Input
stored_finished = stored_open ++ SlotMap A threes ∷ ProceedWithCarrier A 0 ∷ AccessStart A ∷ AccessEnd A 0 ∷ Close A ∷ []

-- A and B are in the buffer; A is open, and B may be cancelled; A is done with, and B is open
abbrev both_stored : List Input
both_stored = stored A 1 ++ stored B 2

abbrev one_open : List Input
one_open = both_stored ++ Open A ∷ []

abbrev one_cancelled : List Input
one_cancelled = one_open ++ CancelCarrier B 0 ∷ []

abbrev next_open : List Input
next_open = stored_finished ++ stored B 2 ++ Open B ∷ []

-- A is open in the buffer, and B comes to port 1
abbrev open_inside : List Input
open_inside = stored_open ++ arrived B

-- ── States that no run comes to ──
-- A is expected and untied, with this ID status and accessing; a run keeps these NOT READ and NOT ACCESSED while a carrier is expected
abbrev expected_with : ℕ → ℕ → State
expected_with id accessing = state 2 (new_port ∷ []) (carrier A 0 0 0 0 0 0 (replicate 25 0) id 1 accessing ∷ [])

-- Before access a run makes A's port READY TO UNLOAD, and its slot status FAILED, by CancelCarrier alone, and without places it makes that
-- port BLOCKED again only to unload; after access it closes A at a port READY TO UNLOAD. What differs from that is written out here.
-- Port 1, tied to A
abbrev blocked : Port
blocked = port 3 0 0 A 0 1 1

abbrev unloading : Port
unloading = port 3 0 0 A 2 1 1

abbrev ready_to_unload : Port
ready_to_unload = port 2 0 0 A 0 1 1

-- A, closed and tied to port 1, placed at it (1) or still expected (0): ID OK and this slot status; ID OK and cancelled; ID and slot status
-- FAILED and cancelled
abbrev verified : ℕ → ℕ → Carrier
verified place slot = carrier A place 0 1 0 0 0 threes 3 slot 1

abbrev cancelled : Carrier
cancelled = carrier A 1 0 1 0 1 0 threes 3 1 1

abbrev rejected : ℕ → ℕ → Carrier
rejected place accessing = carrier A place 0 1 0 1 0 threes 4 4 accessing

-- A, open at port 1, accessed to the end though its slot map was never read
abbrev ended_unread : Carrier
ended_unread = carrier A 1 0 1 1 0 0 threes 3 1 3

-- a tool of so many places, this one port and this one carrier
abbrev holding : ℕ → Port → Carrier → State
holding places q c = state places (q ∷ []) (c ∷ [])

-- A is open at port 1, and port 2 unloads B, which is verified
abbrev leaves_beside : State
leaves_beside = state 0 (blocked ∷ port 3 0 0 B 2 1 1 ∷ []) (carrier A 1 0 1 1 0 0 threes 3 1 1 ∷ carrier B 1 0 2 0 0 0 threes 3 1 1 ∷ [])

-- A is open in the buffer, B closed beside it; each cancelled or not, with this ID and slot status
abbrev both_with : ℕ → ℕ → ℕ → State
both_with cancel id slot =
    state 2 (new_port ∷ []) (carrier A 2 1 0 1 cancel 0 threes id slot 1 ∷ carrier B 2 2 0 0 cancel 0 threes id slot 1 ∷ [])

-- ── The pairs ──
-- 19. Open
abbrev open_pairs : List Pair
open_pairs =
    -- a name: 16 bytes, and one more; while a carrier is open in the buffer
    pair 19 0 (along 1 0 [] (Open (replicate 16 0x41))) 2 (along 1 0 [] (Open (replicate 17 0x41))) 1
    ∷ pair 19 0 (along 1 2 stored_open (Open B)) 2 (along 1 2 stored_open (Open [])) 1
    -- it has a record
    ∷ pair 19 1 (standing (expected_with 1 3) (Open A)) 5 (along 1 2 [] (Open A)) 2
    -- open: at a port, in the buffer, and rejected
    ∷ pair 19 2 (along 2 0 open_beside (Open A)) 5 (along 2 0 open_beside (Open B)) 0
    ∷ pair 19 2 (along 1 2 one_open (Open A)) 5 (along 1 2 one_open (Open B)) 8
    ∷ pair 19 2 (standing (both_with 1 4 4) (Open A)) 5 (standing (both_with 1 4 4) (Open B)) 7
    -- NOT ACCESSED: in the buffer, while another is open, at a port
    ∷ pair 19 3 (along 1 2 (stored A 1) (Open A)) 0 (along 1 2 stored_finished (Open A)) 5
    ∷ pair 19 3 (along 1 2 one_open (Open B)) 8 (along 1 2 next_open (Open A)) 5
    ∷ pair 19 3 (standing (holding 0 blocked (rejected 1 1)) (Open A)) 7 (standing (holding 0 blocked (rejected 1 3)) (Open A)) 5
    -- in the buffer
    ∷ pair 19 4 (along 1 2 (stored A 1) (Open A)) 0 (standing (expected_with 3 1) (Open A)) 5
    -- B = 0: while another is open, not verified, rejected
    ∷ pair 19 5 (along 1 0 (arrived A) (Open A)) 0 (along 1 1 (arrived A) (Open A)) 5
    ∷ pair 19 5 (along 2 0 open_beside (Open B)) 0 (along 1 2 open_inside (Open B)) 5
    ∷ pair 19 5 (along 1 0 unannounced (Open A)) 7 (along 1 1 unannounced (Open A)) 5
    ∷ pair 19 5 (standing (holding 0 blocked (rejected 1 1)) (Open A)) 7 (standing (holding 2 blocked (rejected 1 1)) (Open A)) 5
    -- at a port: not verified, while another is open, verified, rejected
    ∷ pair 19 6 (along 1 0 unreadable (Open A)) 7 (along 1 0 bound (Open A)) 5
    ∷ pair 19 6 (along 2 0 unreadable_beside (Open B)) 7 (along 2 0 bound_beside (Open B)) 5
    ∷ pair 19 6 (along 1 0 (arrived A) (Open A)) 0 (standing (holding 0 blocked (verified 0 1)) (Open A)) 5
    ∷ pair 19 6 (standing (holding 0 blocked (rejected 1 1)) (Open A)) 7 (standing (holding 0 blocked (rejected 0 1)) (Open A)) 5
    -- its port idle: verified, while another is open, rejected
    ∷ pair 19 7 (along 1 0 (arrived A) (Open A)) 0 (standing (holding 0 unloading (verified 1 1)) (Open A)) 5
    ∷ pair 19 7 (along 2 0 open_beside (Open B)) 0 (standing leaves_beside (Open B)) 5
    ∷ pair 19 7 (standing (holding 0 blocked (rejected 1 1)) (Open A)) 7 (standing (holding 0 unloading (rejected 1 1)) (Open A)) 5
    -- BLOCKED: verified, rejected
    ∷ pair 19 8 (along 1 0 (arrived A) (Open A)) 0 (standing (holding 0 ready_to_unload (verified 1 1)) (Open A)) 5
    ∷ pair 19 8 (standing (holding 0 blocked (rejected 1 1)) (Open A)) 7 (standing (holding 0 ready_to_unload (rejected 1 1)) (Open A)) 5
    -- ID OK: at a port, in the buffer
    ∷ pair 19 9 (along 1 0 accepted (Open A)) 0 (along 1 0 unannounced (Open A)) 7
    ∷ pair 19 9 (along 1 2 one_open (Open B)) 8 (standing (both_with 0 2 1) (Open B)) 7
    -- slot status FAILED: at a port, in the buffer
    ∷ pair 19 10 (standing (holding 0 blocked (verified 1 4)) (Open A)) 7 (along 1 0 (arrived A) (Open A)) 0
    ∷ pair 19 10 (standing (both_with 0 3 4) (Open B)) 7 (along 1 2 one_open (Open B)) 8
    -- cancelled: at a port, in the buffer, while another is open
    ∷ pair 19 11 (standing (holding 0 blocked cancelled) (Open A)) 7 (along 1 0 (arrived A) (Open A)) 0
    ∷ pair 19 11 (along 1 2 stored_cancelled (Open A)) 7 (along 1 2 (stored A 1) (Open A)) 0
    ∷ pair 19 11 (along 1 2 one_cancelled (Open B)) 7 (along 1 2 one_open (Open B)) 8
    -- some carrier is open: with the fewest places that hold two carriers, and with the most
    ∷ pair 19 12 (along 1 2 one_open (Open B)) 8 (along 1 2 both_stored (Open B)) 0
    ∷ pair 19 12 (along 1 16 one_open (Open B)) 8 (along 1 16 both_stored (Open B)) 0
    ∷ []

-- 20. SlotMap
abbrev slot_map_pairs : List Pair
slot_map_pairs =
    -- a name: 0x21, and the byte below
    pair 20 0 (along 1 0 [] (SlotMap (0x21 ∷ []) threes)) 2 (along 1 0 [] (SlotMap (0x20 ∷ []) threes)) 1
    -- a slot map: 25 codes and neither fewer nor more, each 0 to 5; of a name without a record too
    ∷ pair 20 1 (along 1 0 opened (SlotMap A (replicate 25 5))) 0 (along 1 0 opened (SlotMap A (replicate 24 5))) 1
    ∷ pair 20 1 (along 1 0 opened (SlotMap A (replicate 25 5))) 0 (along 1 0 opened (SlotMap A (replicate 26 5))) 1
    ∷ pair 20 1 (along 1 0 opened (SlotMap A (replicate 25 5))) 0 (along 1 0 opened (SlotMap A (replicate 25 6))) 1
    ∷ pair 20 1 (along 1 0 [] (SlotMap A (replicate 25 5))) 2 (along 1 0 [] (SlotMap A (replicate 25 6))) 1
    -- the name has a record
    ∷ pair 20 2 (along 1 0 mapped_closed (SlotMap A threes)) 5 (along 1 0 mapped_closed (SlotMap B threes)) 2
    -- open: at the port, in the buffer
    ∷ pair 20 3 (along 1 0 opened (SlotMap A threes)) 0 (along 1 0 (arrived A) (SlotMap A threes)) 5
    ∷ pair 20 3 (along 1 2 stored_open (SlotMap A threes)) 0 (along 1 2 (stored A 1) (SlotMap A threes)) 5
    -- slot status NOT READ: not WAITING FOR HOST, not OK
    ∷ pair 20 4 (along 1 0 opened (SlotMap A threes)) 0 (along 1 0 mapped (SlotMap A threes)) 5
    ∷ pair 20 4 (along 1 0 opened (SlotMap A threes)) 0 (along 1 0 agreed (SlotMap A threes)) 5
    ∷ []

-- 21. AccessStart
abbrev access_start_pairs : List Pair
access_start_pairs =
    -- a name: 0x7E, and the byte above
    pair 21 0 (along 1 0 [] (AccessStart (0x7E ∷ []))) 2 (along 1 0 [] (AccessStart (0x7F ∷ []))) 1
    -- it has a record
    ∷ pair 21 1 (standing (expected_with 1 3) (AccessStart A)) 5 (along 1 2 [] (AccessStart A)) 2
    -- open: slot status OK, NOT READ
    ∷ pair 21 2 (along 1 0 agreed (AccessStart A)) 0 (along 1 0 agreed_closed (AccessStart A)) 5
    ∷ pair 21 2 (along 1 0 opened (AccessStart A)) 7 (along 1 0 (arrived A) (AccessStart A)) 5
    -- NOT ACCESSED: not IN ACCESS, not COMPLETE; slot status NOT READ
    ∷ pair 21 3 (along 1 0 agreed (AccessStart A)) 0 (along 1 0 accessed (AccessStart A)) 5
    ∷ pair 21 3 (along 1 0 agreed (AccessStart A)) 0 (along 1 0 access_complete (AccessStart A)) 5
    ∷ pair 21 3 (along 1 0 opened (AccessStart A)) 7 (standing (holding 0 blocked ended_unread) (AccessStart A)) 5
    -- slot status OK: not NOT READ, not WAITING FOR HOST
    ∷ pair 21 4 (along 1 0 agreed (AccessStart A)) 0 (along 1 0 opened (AccessStart A)) 7
    ∷ pair 21 4 (along 1 0 agreed (AccessStart A)) 0 (along 1 0 mapped (AccessStart A)) 7
    ∷ []

-- 22. AccessEnd
abbrev access_end_pairs : List Pair
access_end_pairs =
    -- a name
    pair 22 0 (along 1 0 [] (AccessEnd A 0)) 2 (along 1 0 [] (AccessEnd [] 0)) 1
    -- 0 or 1: of a name without a record too
    ∷ pair 22 1 (along 1 0 accessed (AccessEnd A 1)) 0 (along 1 0 accessed (AccessEnd A 2)) 1
    ∷ pair 22 1 (along 1 0 [] (AccessEnd A 1)) 2 (along 1 0 [] (AccessEnd A 2)) 1
    -- the name has a record
    ∷ pair 22 2 (along 1 0 agreed (AccessEnd A 0)) 5 (along 1 0 agreed (AccessEnd B 0)) 2
    -- IN ACCESS: not NOT ACCESSED, not STOPPED
    ∷ pair 22 3 (along 1 0 accessed (AccessEnd A 0)) 0 (along 1 0 agreed (AccessEnd A 0)) 5
    ∷ pair 22 3 (along 1 0 accessed (AccessEnd A 0)) 0 (along 1 0 access_stopped (AccessEnd A 0)) 5
    ∷ []

-- 23. Close
abbrev close_pairs : List Pair
close_pairs =
    -- a name
    pair 23 0 (along 1 0 [] (Close A)) 2 (along 1 0 [] (Close [])) 1
    -- it has a record
    ∷ pair 23 1 (along 1 0 (arrived A) (Close A)) 5 (along 1 0 (arrived A) (Close B)) 2
    -- open
    ∷ pair 23 2 (along 1 0 opened (Close A)) 0 (along 1 0 (arrived A) (Close A)) 5
    -- IN ACCESS
    ∷ pair 23 3 (along 1 0 accessed (Close A)) 5 (along 1 0 agreed (Close A)) 0
    ∷ []

abbrev pub opening_pairs : List Pair
opening_pairs = open_pairs ++ slot_map_pairs ++ access_start_pairs ++ access_end_pairs ++ close_pairs
