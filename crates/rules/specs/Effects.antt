-- What each row changes: a sound state, an input, the state that follows and the reports. In the state before, what a row names has another
-- value than it gets, and what it doesn't name is no zero where it need not be one, so that a field that moves by mistake is seen to move.
use Rattle.std.specs.Prelude.{ℕ, Bool, ◌&&◌, List, [], ◌∷◌, ◌++◌, replicate, eqb}
use Rattle.records.specs.declared.port.Port.{Port}
use Rattle.records.specs.declared.carrier.Carrier.{Carrier}
use Rattle.rules.specs.declared.report.Report.{Report}
use Rattle.rules.specs.State.{State}
use Rattle.rules.specs.Sound.{sound}
use Rattle.rules.specs.Seen.{Input}
use Rattle.rules.specs.Reports.{differences}
use Rattle.rules.specs.Outcome.{answer_in, state_after}
use Rattle.rules.specs.Run.{on_port, on_name}
use Rattle.rules.specs.Pairs.{port, carrier, state}
use Rattle.rules.specs.Inputs.{Bind, CancelBind, CarrierNotification, CancelCarrierNotification, ProceedWithCarrier, CancelCarrier}
use Rattle.rules.specs.Inputs.{CarrierOut, CarrierIn, ChangeAccess, ChangeServiceStatus, ReserveAtPort, CancelReservationAtPort}
use Rattle.rules.specs.Inputs.{LoadStart, LoadDone, LoadFail, IdRead, IdReadFailed, MoveIn, Open, SlotMap, AccessStart, AccessEnd}
use Rattle.rules.specs.Inputs.{Close, UnloadStart, UnloadDone, UnloadFail, A, B}

-- An effect: the state before, the input, the state after, the reports.
pub record Change : Type 0 where
  pub before : State
  pub input : Input
  pub after : State
  pub reports : List Report

abbrev change : State → Input → State → List Report → Change
change before input after reports = record { before = before; input = input; after = after; reports = reports }

-- the same state and input, and what the definitions make of them
abbrev pub remade : Change → Change
remade c = record {
  before = c.before;
  input = c.input;
  after = state_after c.before c.input;
  reports = differences c.before (state_after c.before c.input);
}

-- the state before is sound, and the input is accepted
unfoldable pub happens : Change → Bool
happens c = sound c.before && eqb (answer_in c.before c.input) 0

-- ── What the states have in common ──
abbrev C : List ℕ
C = 0x43 ∷ []

abbrev none : List ℕ
none = replicate 25 0

abbrev mixed : List ℕ
mixed = 1 ∷ 0 ∷ 5 ∷ replicate 21 3 ++ (2 ∷ [])

abbrev other : List ℕ
other = 4 ∷ replicate 23 3 ++ (1 ∷ [])

-- a port that nothing here concerns: tied to C, AUTO, BLOCKED, its tag failed
abbrev aside : Port
aside = port 3 1 1 C 0 1 2

abbrev aside_c : Carrier
aside_c = carrier C 1 0 2 0 1 1 mixed 4 2 3

-- Two ports and four places: the first port as given, the second aside; the records as given, with that of C before or behind.
abbrev at : Port → List Carrier → State
at q cs = state 4 (q ∷ aside ∷ []) (aside_c ∷ cs)

abbrev behind : Port → List Carrier → State
behind q cs = state 4 (q ∷ aside ∷ []) (cs ++ (aside_c ∷ []))

-- the same in a tool without a buffer
abbrev fixed : Port → List Carrier → State
fixed q cs = state 0 (q ∷ aside ∷ []) (cs ++ (aside_c ∷ []))

-- a record that was announced and tied to port p or to none, and whose other fields are all of the odd kind
abbrev announced : List ℕ → ℕ → Carrier
announced n p = carrier n 0 0 p 0 1 1 mixed 4 2 3

-- reports of a record that is made, and of one that goes
abbrev made : List ℕ → ℕ → List Report
made n id = on_name 5 n 0 id ∷ on_name 6 n 0 1 ∷ on_name 7 n 0 1 ∷ []

-- ── Rows 1 to 4 ──
abbrev pub booking : List Change
booking =
    -- 1. Bind: new record tied to the port; reserved
    change (at (port 1 1 0 [] 0 0 2) []) (Bind 1 A)
    (state 4 (port 1 1 1 A 0 0 2 ∷ aside ∷ []) (aside_c ∷ carrier A 0 0 1 0 0 0 none 1 1 1 ∷ []))
    (on_port 3 1 0 1 ∷ on_port 4 1 0 1 ∷ made A 1)
    -- 2. CancelBind: record, tie and reservation go; meant by the port, by the name, by both
    ∷ change (behind (port 3 1 1 A 0 1 1) (announced A 1 ∷ [])) (CancelBind 1 [])
    (behind (port 3 1 0 [] 0 1 1) [])
    (on_port 3 1 1 0 ∷ on_port 4 1 1 0 ∷ on_name 5 A 4 0 ∷ on_name 6 A 2 0 ∷ on_name 7 A 3 0 ∷ [])
    ∷ change (behind (port 1 1 1 A 0 0 2) (announced B 0 ∷ announced A 1 ∷ [])) (CancelBind 0 A)
    (behind (port 1 1 0 [] 0 0 2) (announced B 0 ∷ []))
    (on_port 3 1 1 0 ∷ on_port 4 1 1 0 ∷ on_name 5 A 4 0 ∷ on_name 6 A 2 0 ∷ on_name 7 A 3 0 ∷ [])
    ∷ change (at (port 1 1 0 A 0 0 2) (announced A 1 ∷ announced B 0 ∷ [])) (CancelBind 1 A)
    (at (port 1 1 0 [] 0 0 2) (announced B 0 ∷ []))
    (on_port 4 1 1 0 ∷ on_name 5 A 4 0 ∷ on_name 6 A 2 0 ∷ on_name 7 A 3 0 ∷ [])
    -- 3. CarrierNotification: new record, no tie
    ∷ change (at (port 1 1 1 [] 0 0 2) []) (CarrierNotification A)
    (at (port 1 1 1 [] 0 0 2) (carrier A 0 0 0 0 0 0 none 1 1 1 ∷ []))
    (made A 1)
    -- 4. CancelCarrierNotification: record goes
    ∷ change (behind (port 1 1 1 [] 0 0 2) (announced B 0 ∷ announced A 0 ∷ [])) (CancelCarrierNotification A)
    (behind (port 1 1 1 [] 0 0 2) (announced B 0 ∷ []))
    (on_name 5 A 4 0 ∷ on_name 6 A 2 0 ∷ on_name 7 A 3 0 ∷ [])
    ∷ []

-- ── Rows 5 and 6 ──
-- an unknown pod: present, idle, tag failed, no tie
abbrev unknown : ℕ → Port
unknown transfer = port transfer 1 1 [] 0 1 2

abbrev pub verdict : List Change
verdict =
    -- 5. ProceedWithCarrier: no record, an unknown pod there: a new record with ID OK, placed at and tied to that port
    change (at (unknown 3) []) (ProceedWithCarrier A 1)
    (at (port 3 1 1 A 0 1 2) (carrier A 1 0 1 0 0 0 none 3 1 1 ∷ []))
    (on_port 4 1 0 1 ∷ made A 3)
    -- expected: ID OK, placed and tied
    ∷ change (behind (unknown 2) (announced A 0 ∷ [])) (ProceedWithCarrier A 1)
    (behind (port 2 1 1 A 0 1 2) (carrier A 1 0 1 0 1 1 mixed 3 2 3 ∷ []))
    (on_port 4 1 0 1 ∷ on_name 5 A 4 3 ∷ [])
    -- placed: ID 2 becomes 3
    ∷ change (behind (port 3 1 1 A 2 1 1) (carrier A 1 0 1 0 1 1 mixed 2 2 3 ∷ [])) (ProceedWithCarrier A 1)
    (behind (port 3 1 1 A 2 1 1) (carrier A 1 0 1 0 1 1 mixed 3 2 3 ∷ []))
    (on_name 5 A 2 3 ∷ [])
    -- else ID 3 and slot status 2 makes slot status 3
    ∷ change (behind (port 1 1 1 [] 0 0 2) (carrier A 2 3 0 1 1 1 mixed 3 2 3 ∷ [])) (ProceedWithCarrier A 0)
    (behind (port 1 1 1 [] 0 0 2) (carrier A 2 3 0 1 1 1 mixed 3 3 3 ∷ []))
    (on_name 6 A 2 3 ∷ [])
    -- 6. CancelCarrier: no record: as row 5, with ID FAILED; cancelled; the port READY TO UNLOAD
    ∷ change (at (unknown 3) []) (CancelCarrier A 1)
    (at (port 2 1 1 A 0 1 2) (carrier A 1 0 1 0 1 0 none 4 1 1 ∷ []))
    (on_port 1 1 3 2 ∷ on_port 4 1 0 1 ∷ made A 4)
    -- expected: came-out goes off
    ∷ change (behind (unknown 3) (carrier A 0 0 0 0 0 1 mixed 2 2 2 ∷ [])) (CancelCarrier A 1)
    (behind (port 2 1 1 A 0 1 2) (carrier A 1 0 1 0 1 0 mixed 4 2 2 ∷ []))
    (on_port 1 1 3 2 ∷ on_port 4 1 0 1 ∷ on_name 5 A 2 4 ∷ [])
    -- unless the port was READY TO UNLOAD already
    ∷ change (behind (unknown 2) (carrier A 0 0 0 0 0 1 mixed 2 2 2 ∷ [])) (CancelCarrier A 1)
    (behind (port 2 1 1 A 0 1 2) (carrier A 1 0 1 0 1 1 mixed 4 2 2 ∷ []))
    (on_port 4 1 0 1 ∷ on_name 5 A 2 4 ∷ [])
    -- placed at a port: ID 2 becomes 4; closed
    ∷ change (behind (port 3 1 1 A 0 1 1) (carrier A 1 0 1 1 0 1 mixed 2 2 3 ∷ [])) (CancelCarrier A 0)
    (behind (port 2 1 1 A 0 1 1) (carrier A 1 0 1 0 1 0 mixed 4 2 3 ∷ []))
    (on_port 1 1 3 2 ∷ on_name 5 A 2 4 ∷ [])
    -- else slot status 2 becomes 4
    ∷ change (behind (port 2 1 1 A 0 1 1) (carrier A 1 0 1 0 0 1 mixed 1 2 3 ∷ [])) (CancelCarrier A 1)
    (behind (port 2 1 1 A 0 1 1) (carrier A 1 0 1 0 1 1 mixed 1 4 3 ∷ []))
    (on_name 6 A 2 4 ∷ [])
    -- else both stay; in the buffer no port is concerned
    ∷ change (behind (port 1 1 1 [] 0 0 2) (carrier A 2 3 0 1 0 1 mixed 3 3 4 ∷ [])) (CancelCarrier A 0)
    (behind (port 1 1 1 [] 0 0 2) (carrier A 2 3 0 0 1 0 mixed 3 3 4 ∷ []))
    []
    ∷ []

-- ── Rows 7, 8 and 18 ──
abbrev pub buffer : List Change
buffer =
    -- 7. CarrierOut: placed at and tied to the port; pod present, tag read, READY TO UNLOAD; came-out on
    change (behind (port 1 1 0 [] 0 0 2) (carrier A 2 3 0 0 1 0 mixed 4 2 3 ∷ [])) (CarrierOut A 1)
    (behind (port 2 1 0 A 0 1 1) (carrier A 1 0 1 0 1 1 mixed 4 2 3 ∷ []))
    (on_port 1 1 1 2 ∷ on_port 4 1 0 1 ∷ [])
    -- 8. CarrierIn: port BLOCKED; came-out off
    ∷ change (behind (port 2 1 1 A 0 1 2) (carrier A 1 0 1 0 1 1 mixed 4 2 3 ∷ [])) (CarrierIn A)
    (behind (port 3 1 1 A 0 1 2) (carrier A 1 0 1 0 1 0 mixed 4 2 3 ∷ []))
    (on_port 1 1 2 3 ∷ [])
    -- 18. MoveIn: carrier to that place; port loses pod and tie, tag unread, READY TO LOAD
    ∷ change (behind (port 3 1 1 A 0 1 2) (carrier A 1 0 1 1 1 1 mixed 3 2 3 ∷ [])) (MoveIn 1 3)
    (behind (port 1 1 1 [] 0 0 0) (carrier A 2 3 0 1 1 1 mixed 3 2 3 ∷ []))
    (on_port 1 1 3 1 ∷ on_port 4 1 1 0 ∷ [])
    ∷ []

-- ── Rows 9 to 12: the carriers stay as they are ──
abbrev pub service : List Change
service =
    -- 9. ChangeAccess: access set
    change (at (port 3 0 0 [] 0 1 2) []) (ChangeAccess 1 1) (at (port 3 1 0 [] 0 1 2) []) (on_port 2 1 0 1 ∷ [])
    ∷ change (at (port 2 1 0 [] 0 1 1) []) (ChangeAccess 1 0) (at (port 2 0 0 [] 0 1 1) []) (on_port 2 1 1 0 ∷ [])
    -- the value held already is accepted, always
    ∷ change (at (port 3 1 1 [] 1 0 2) []) (ChangeAccess 1 1) (at (port 3 1 1 [] 1 0 2) []) []
    -- 10. ChangeServiceStatus: OUT OF SERVICE
    ∷ change (at (port 1 1 0 [] 0 0 2) []) (ChangeServiceStatus 1 0) (at (port 0 1 0 [] 0 0 2) []) (on_port 1 1 1 0 ∷ [])
    -- in: READY TO LOAD
    ∷ change (at (port 0 1 1 [] 0 0 2) []) (ChangeServiceStatus 1 1) (at (port 1 1 1 [] 0 0 2) []) (on_port 1 1 0 1 ∷ [])
    -- the value held already
    ∷ change (at (port 0 1 1 [] 0 0 2) []) (ChangeServiceStatus 1 0) (at (port 0 1 1 [] 0 0 2) []) []
    ∷ change (at (port 3 1 1 [] 1 0 2) []) (ChangeServiceStatus 1 1) (at (port 3 1 1 [] 1 0 2) []) []
    -- 11. ReserveAtPort: reserved
    ∷ change (at (port 1 1 0 [] 0 0 2) []) (ReserveAtPort 1) (at (port 1 1 1 [] 0 0 2) []) (on_port 3 1 0 1 ∷ [])
    -- 12. CancelReservationAtPort: not reserved
    ∷ change (at (port 3 1 1 [] 1 0 2) []) (CancelReservationAtPort 1) (at (port 3 1 0 [] 1 0 2) []) (on_port 3 1 1 0 ∷ [])
    ∷ []

-- ── Rows 13 to 15 and 24 to 26 ──
abbrev pub transfer : List Change
transfer =
    -- 13. LoadStart: BLOCKED, loading, reservation ends, tie stays
    change (behind (port 1 1 1 A 0 0 2) (announced A 1 ∷ [])) (LoadStart 1)
    (behind (port 3 1 0 A 1 0 2) (announced A 1 ∷ []))
    (on_port 1 1 1 3 ∷ on_port 3 1 1 0 ∷ [])
    -- 14. LoadDone: idle, pod present, tag unread
    ∷ change (behind (port 3 1 1 A 1 0 2) (announced A 1 ∷ [])) (LoadDone 1) (behind (port 3 1 1 A 0 1 0) (announced A 1 ∷ [])) []
    -- 15. LoadFail: idle, READY TO LOAD
    ∷ change (behind (port 3 1 0 A 1 0 2) (announced A 1 ∷ [])) (LoadFail 1)
    (behind (port 1 1 0 A 0 0 2) (announced A 1 ∷ []))
    (on_port 1 1 3 1 ∷ [])
    -- 24. UnloadStart: BLOCKED, unloading
    ∷ change (behind (port 2 1 1 A 0 1 2) (announced A 1 ∷ [])) (UnloadStart 1)
    (behind (port 3 1 1 A 2 1 2) (announced A 1 ∷ []))
    (on_port 1 1 2 3 ∷ [])
    -- 25. UnloadDone: idle, no pod, tag unread, no tie, READY TO LOAD; the record goes
    ∷ change (behind (port 3 1 1 A 2 1 2) (announced B 0 ∷ announced A 1 ∷ [])) (UnloadDone 1)
    (behind (port 1 1 1 [] 0 0 0) (announced B 0 ∷ []))
    (on_port 1 1 3 1 ∷ on_port 4 1 1 0 ∷ on_name 5 A 4 0 ∷ on_name 6 A 2 0 ∷ on_name 7 A 3 0 ∷ [])
    -- without a tie none goes
    ∷ change (behind (port 3 1 1 [] 2 1 2) (announced A 0 ∷ [])) (UnloadDone 1)
    (behind (port 1 1 1 [] 0 0 0) (announced A 0 ∷ []))
    (on_port 1 1 3 1 ∷ [])
    -- 26. UnloadFail: idle, READY TO UNLOAD
    ∷ change (behind (port 3 1 1 A 2 1 2) (announced A 1 ∷ [])) (UnloadFail 1)
    (behind (port 2 1 1 A 0 1 2) (announced A 1 ∷ []))
    (on_port 1 1 3 2 ∷ [])
    ∷ []

-- ── Rows 16 and 17 ──
abbrev pub reading : List Change
reading =
    -- 16. IdRead: tied to this name: ID OK
    change (behind (port 2 1 1 A 0 1 0) (announced A 1 ∷ [])) (IdRead 1 A)
    (behind (port 2 1 1 A 0 1 1) (carrier A 1 0 1 0 1 1 mixed 3 2 3 ∷ []))
    (on_name 5 A 4 3 ∷ [])
    -- no tie and the name expected: ID OK, tied
    ∷ change (behind (port 3 1 1 [] 0 1 0) (announced A 0 ∷ [])) (IdRead 1 A)
    (behind (port 3 1 1 A 0 1 1) (carrier A 1 0 1 0 1 1 mixed 3 2 3 ∷ []))
    (on_port 4 1 0 1 ∷ on_name 5 A 4 3 ∷ [])
    -- no tie and no record: new record, ID 2
    ∷ change (at (port 3 1 1 [] 0 1 0) []) (IdRead 1 A)
    (at (port 3 1 1 A 0 1 1) (carrier A 1 0 1 0 0 0 none 2 1 1 ∷ []))
    (on_port 4 1 0 1 ∷ made A 2)
    -- tied to another name: that record goes; the read name's record is new
    ∷ change (behind (port 3 1 1 B 0 1 0) (announced B 1 ∷ [])) (IdRead 1 A)
    (at (port 3 1 1 A 0 1 1) (carrier A 1 0 1 0 0 0 none 2 1 1 ∷ []))
    (on_port 4 1 1 1 ∷ on_name 5 B 4 0 ∷ on_name 5 A 0 2 ∷ on_name 6 B 2 0 ∷ on_name 6 A 0 1 ∷ on_name 7 B 3 0 ∷ on_name 7 A 0 1 ∷ [])
    -- or the expected one, which keeps its place among the records
    ∷ change (behind (port 3 1 1 B 0 1 0) (announced B 1 ∷ announced A 0 ∷ [])) (IdRead 1 A)
    (behind (port 3 1 1 A 0 1 1) (carrier A 1 0 1 0 1 1 mixed 2 2 3 ∷ []))
    (on_port 4 1 1 1 ∷ on_name 5 B 4 0 ∷ on_name 5 A 4 2 ∷ on_name 6 B 2 0 ∷ on_name 7 B 3 0 ∷ [])
    -- 17. IdReadFailed: tag failed; a tied carrier is placed at the port with ID 2
    ∷ change (behind (port 2 1 1 A 0 1 0) (announced A 1 ∷ [])) (IdReadFailed 1)
    (behind (port 2 1 1 A 0 1 2) (carrier A 1 0 1 0 1 1 mixed 2 2 3 ∷ []))
    (on_name 5 A 4 2 ∷ [])
    ∷ change (behind (port 3 1 1 [] 0 1 0) (announced A 0 ∷ [])) (IdReadFailed 1) (behind (port 3 1 1 [] 0 1 2) (announced A 0 ∷ [])) []
    ∷ []

-- ── Rows 19 to 23: the ports stay as they are, but for row 23 ──
abbrev pub opening : List Change
opening =
    -- 19. Open: open
    change (behind (port 1 1 1 [] 0 0 2) (carrier A 2 3 0 0 0 1 mixed 3 2 1 ∷ [])) (Open A)
    (behind (port 1 1 1 [] 0 0 2) (carrier A 2 3 0 1 0 1 mixed 3 2 1 ∷ []))
    []
    ∷ change (fixed (port 3 1 1 A 0 1 2) (carrier A 1 0 1 0 0 1 mixed 3 3 1 ∷ [])) (Open A)
    (fixed (port 3 1 1 A 0 1 2) (carrier A 1 0 1 1 0 1 mixed 3 3 1 ∷ []))
    []
    -- 20. SlotMap: map kept, slot status 2
    ∷ change (behind (port 3 1 1 A 0 1 2) (carrier A 1 0 1 1 1 1 mixed 4 1 3 ∷ [])) (SlotMap A other)
    (behind (port 3 1 1 A 0 1 2) (carrier A 1 0 1 1 1 1 other 4 2 3 ∷ []))
    (on_name 6 A 1 2 ∷ [])
    -- 21. AccessStart: IN ACCESS
    ∷ change (behind (port 3 1 1 A 0 1 2) (carrier A 1 0 1 1 1 1 mixed 4 3 1 ∷ [])) (AccessStart A)
    (behind (port 3 1 1 A 0 1 2) (carrier A 1 0 1 1 1 1 mixed 4 3 2 ∷ []))
    (on_name 7 A 1 2 ∷ [])
    -- 22. AccessEnd: COMPLETE or STOPPED
    ∷ change (behind (port 3 1 1 A 0 1 2) (carrier A 1 0 1 1 1 1 mixed 4 2 2 ∷ [])) (AccessEnd A 0)
    (behind (port 3 1 1 A 0 1 2) (carrier A 1 0 1 1 1 1 mixed 4 2 3 ∷ []))
    (on_name 7 A 2 3 ∷ [])
    ∷ change (behind (port 1 1 1 [] 0 0 2) (carrier A 2 3 0 0 1 1 mixed 4 2 2 ∷ [])) (AccessEnd A 1)
    (behind (port 1 1 1 [] 0 0 2) (carrier A 2 3 0 0 1 1 mixed 4 2 4 ∷ []))
    (on_name 7 A 2 4 ∷ [])
    -- 23. Close: closed; at a port with accessing 3 or 4, READY TO UNLOAD
    ∷ change (behind (port 3 1 1 A 0 1 2) (carrier A 1 0 1 1 1 1 mixed 4 2 3 ∷ [])) (Close A)
    (behind (port 2 1 1 A 0 1 2) (carrier A 1 0 1 0 1 1 mixed 4 2 3 ∷ []))
    (on_port 1 1 3 2 ∷ [])
    ∷ change (behind (port 3 1 1 A 0 1 2) (carrier A 1 0 1 1 1 1 mixed 4 2 4 ∷ [])) (Close A)
    (behind (port 2 1 1 A 0 1 2) (carrier A 1 0 1 0 1 1 mixed 4 2 4 ∷ []))
    (on_port 1 1 3 2 ∷ [])
    ∷ change (behind (port 3 1 1 A 0 1 2) (carrier A 1 0 1 1 1 1 mixed 4 2 1 ∷ [])) (Close A)
    (behind (port 3 1 1 A 0 1 2) (carrier A 1 0 1 0 1 1 mixed 4 2 1 ∷ []))
    []
    ∷ change (behind (port 1 1 1 [] 0 0 2) (carrier A 2 3 0 1 1 1 mixed 4 2 3 ∷ [])) (Close A)
    (behind (port 1 1 1 [] 0 0 2) (carrier A 2 3 0 0 1 1 mixed 4 2 3 ∷ []))
    []
    ∷ []

abbrev pub changes : List Change
changes = booking ++ verdict ++ buffer ++ service ++ transfer ++ reading ++ opening
