-- What each row asks before it accepts, condition by condition: tests of what is seen, none of them joined to another.
use Rattle.std.specs.Prelude.{ℕ, Bool, cond, List, [], ◌∷◌, eqb, leb}
use Rattle.records.specs.Ports.{out_of_service, ready_to_load, ready_to_unload, blocked, reserved, idle, loading, unloading, has_pod}
use Rattle.records.specs.Ports.{tag_unread, tag_failed}
use Rattle.records.specs.Carriers.{expected, at_port, in_buffer, untied, is_open, is_cancelled, came_out, id_waits, id_ok, slot_not_read}
use Rattle.records.specs.Carriers.{slot_waits, slot_ok, slot_failed, not_accessed, in_access}
use Rattle.rules.specs.declared.row.Seen.{Seen}
use Rattle.rules.specs.Row.{is_choice}
use Rattle.rules.specs.Booking.{meant, meant_port}

-- 1. Bind: 0 a port of the tool, 1 a name; 2 it has a record; 3 reserved, 4 tied; 5 READY TO LOAD; 6 sixteen are expected
abbrev pub bind_asks : Seen → List Bool
bind_asks x = x.isport ∷ x.named ∷ x.known ∷ reserved x.here ∷ x.tied ∷ ready_to_load x.here ∷ x.full ∷ []

-- 2. CancelBind: 0 a port of the tool, 1 no port given, 2 no name given, 3 a name; 4 it has a record; of the carrier that is meant:
-- 5 no tie, 6 its port is the one given, 7 expected, 8 its port idle
abbrev pub cancel_bind_asks : Seen → List Bool
cancel_bind_asks x =
    x.isport ∷ x.noport ∷ x.blank ∷ x.named ∷ x.known ∷ untied (meant x) ∷ eqb x.port (meant x).port ∷ expected (meant x)
    ∷ idle (meant_port x) ∷ []

-- 3. CarrierNotification: 0 a name; 1 it has a record; 2 sixteen are expected
abbrev pub carrier_notification_asks : Seen → List Bool
carrier_notification_asks x = x.named ∷ x.known ∷ x.full ∷ []

-- 4. CancelCarrierNotification: 0 a name; 1 it has a record; 2 expected, 3 untied
abbrev pub cancel_carrier_notification_asks : Seen → List Bool
cancel_carrier_notification_asks x = x.named ∷ x.known ∷ expected x.found ∷ untied x.found ∷ []

-- Rows 5 and 6: 0 a name, 1 a port of the tool, 2 no port given; 3 the name has a record; at the port given: 4 pod present, 5 idle,
-- 6 tag failed, 7 a tie; the record: 8 expected, 9 untied, 10 its port is the one given
abbrev verdict_asks : Seen → List Bool → List Bool
verdict_asks x more =
    x.named ∷ x.isport ∷ x.noport ∷ x.known ∷ has_pod x.here ∷ idle x.here ∷ tag_failed x.here ∷ x.tied ∷ expected x.found
    ∷ untied x.found ∷ eqb x.port x.found.port ∷ more

-- 5. ProceedWithCarrier: these, and 11 ID WAITING FOR HOST, 12 ID OK, 13 slot status WAITING FOR HOST
abbrev pub proceed_with_carrier_asks : Seen → List Bool
proceed_with_carrier_asks x = verdict_asks x (id_waits x.found ∷ id_ok x.found ∷ slot_waits x.found ∷ [])

-- 6. CancelCarrier: these, and 11 IN ACCESS, 12 at a port, 13 its port idle
abbrev pub cancel_carrier_asks : Seen → List Bool
cancel_carrier_asks x = verdict_asks x (in_access x.found ∷ at_port x.found ∷ idle x.home ∷ [])

-- 7. CarrierOut: 0 a name, 1 a port of the tool; 2 the name has a record; 3 reserved, 4 tied; 5 in the buffer, 6 open, 7 IN ACCESS,
-- 8 the port READY TO LOAD
abbrev pub carrier_out_asks : Seen → List Bool
carrier_out_asks x =
    x.named ∷ x.isport ∷ x.known ∷ reserved x.here ∷ x.tied ∷ in_buffer x.found ∷ is_open x.found ∷ in_access x.found
    ∷ ready_to_load x.here ∷ []

-- 8. CarrierIn: 0 a name; 1 it has a record; 2 at a port, 3 its port READY TO UNLOAD, 4 came-out on
abbrev pub carrier_in_asks : Seen → List Bool
carrier_in_asks x = x.named ∷ x.known ∷ at_port x.found ∷ ready_to_unload x.home ∷ came_out x.found ∷ []

-- 9. ChangeAccess: 0 a port of the tool, 1 0 or 1; 2 the value held already; 3 reserved; 4 idle
abbrev pub change_access_asks : Seen → List Bool
change_access_asks x =
    x.isport ∷ is_choice x ∷ eqb x.here.access x.value ∷ reserved x.here ∷ idle x.here ∷ []

-- 10. ChangeServiceStatus: 0 a port of the tool, 1 0 or 1; 2 OUT OF SERVICE, 3 out is asked for; 4 reserved, 5 tied; 6 READY TO LOAD
abbrev pub change_service_status_asks : Seen → List Bool
change_service_status_asks x =
    x.isport ∷ is_choice x ∷ out_of_service x.here ∷ eqb x.value 0 ∷ reserved x.here ∷ x.tied ∷ ready_to_load x.here ∷ []

-- 11. ReserveAtPort: 0 a port of the tool; 1 reserved, 2 tied; 3 READY TO LOAD
abbrev pub reserve_at_port_asks : Seen → List Bool
reserve_at_port_asks x = x.isport ∷ reserved x.here ∷ x.tied ∷ ready_to_load x.here ∷ []

-- 12. CancelReservationAtPort: 0 a port of the tool; 1 tied; 2 reserved
abbrev pub cancel_reservation_at_port_asks : Seen → List Bool
cancel_reservation_at_port_asks x = x.isport ∷ x.tied ∷ reserved x.here ∷ []

-- 13. LoadStart: 0 a port of the tool; 1 READY TO LOAD
abbrev pub load_start_asks : Seen → List Bool
load_start_asks x = x.isport ∷ ready_to_load x.here ∷ []

-- 14. LoadDone and 15. LoadFail: 0 a port of the tool; 1 loading
abbrev pub load_end_asks : Seen → List Bool
load_end_asks x = x.isport ∷ loading x.here ∷ []

-- 16. IdRead: 0 a port of the tool, 1 a name; 2 it has a record, 3 expected, 4 untied, 5 its port is the one given; 6 pod present, 7 idle,
-- 8 tag unread
abbrev pub id_read_asks : Seen → List Bool
id_read_asks x =
    x.isport ∷ x.named ∷ x.known ∷ expected x.found ∷ untied x.found ∷ eqb x.port x.found.port ∷ has_pod x.here
    ∷ idle x.here ∷ tag_unread x.here ∷ []

-- 17. IdReadFailed: 0 a port of the tool; 1 pod present, 2 idle, 3 tag unread
abbrev pub id_read_failed_asks : Seen → List Bool
id_read_failed_asks x = x.isport ∷ has_pod x.here ∷ idle x.here ∷ tag_unread x.here ∷ []

-- 18. MoveIn: 0 a port of the tool, 1 a place from 1 on, 2 up to B; 3 pod present, 4 idle, 5 BLOCKED; 6 a carrier at the port, 7 its ID OK;
-- 8 the place is taken
abbrev pub move_in_asks : Seen → List Bool
move_in_asks x =
    x.isport ∷ leb 1 x.value ∷ leb x.value x.places ∷ has_pod x.here ∷ idle x.here ∷ blocked x.here ∷ at_port x.held
    ∷ id_ok x.held ∷ x.taken ∷ []

-- 19. Open: 0 a name; 1 it has a record; 2 open, 3 NOT ACCESSED, 4 in the buffer, 5 B = 0, 6 at a port, 7 its port idle, 8 BLOCKED;
-- 9 ID OK, 10 slot status FAILED, 11 cancelled; 12 some carrier is open
abbrev pub open_asks : Seen → List Bool
open_asks x =
    x.named ∷ x.known ∷ is_open x.found ∷ not_accessed x.found ∷ in_buffer x.found ∷ eqb x.places 0 ∷ at_port x.found
    ∷ idle x.home ∷ blocked x.home ∷ id_ok x.found ∷ slot_failed x.found ∷ is_cancelled x.found ∷ x.busy ∷ []

-- 20. SlotMap: 0 a name, 1 a slot map; 2 the name has a record; 3 open, 4 slot status NOT READ
abbrev pub slot_map_asks : Seen → List Bool
slot_map_asks x = x.named ∷ x.mapped ∷ x.known ∷ is_open x.found ∷ slot_not_read x.found ∷ []

-- 21. AccessStart: 0 a name; 1 it has a record; 2 open, 3 NOT ACCESSED; 4 slot status OK
abbrev pub access_start_asks : Seen → List Bool
access_start_asks x = x.named ∷ x.known ∷ is_open x.found ∷ not_accessed x.found ∷ slot_ok x.found ∷ []

-- 22. AccessEnd: 0 a name, 1 0 or 1; 2 the name has a record; 3 IN ACCESS
abbrev pub access_end_asks : Seen → List Bool
access_end_asks x = x.named ∷ is_choice x ∷ x.known ∷ in_access x.found ∷ []

-- 23. Close: 0 a name; 1 it has a record; 2 open, 3 IN ACCESS
abbrev pub close_asks : Seen → List Bool
close_asks x = x.named ∷ x.known ∷ is_open x.found ∷ in_access x.found ∷ []

-- 24. UnloadStart: 0 a port of the tool; 1 READY TO UNLOAD
abbrev pub unload_start_asks : Seen → List Bool
unload_start_asks x = x.isport ∷ ready_to_unload x.here ∷ []

-- 25. UnloadDone and 26. UnloadFail: 0 a port of the tool; 1 unloading
abbrev pub unload_end_asks : Seen → List Bool
unload_end_asks x = x.isport ∷ unloading x.here ∷ []

unfoldable pub asks : ℕ → Seen → List Bool
asks n x =
    cond (eqb n 1) (bind_asks x)
    (cond (eqb n 2) (cancel_bind_asks x)
    (cond (eqb n 3) (carrier_notification_asks x)
    (cond (eqb n 4) (cancel_carrier_notification_asks x)
    (cond (eqb n 5) (proceed_with_carrier_asks x)
    (cond (eqb n 6) (cancel_carrier_asks x)
    (cond (eqb n 7) (carrier_out_asks x)
    (cond (eqb n 8) (carrier_in_asks x)
    (cond (eqb n 9) (change_access_asks x)
    (cond (eqb n 10) (change_service_status_asks x)
    (cond (eqb n 11) (reserve_at_port_asks x)
    (cond (eqb n 12) (cancel_reservation_at_port_asks x)
    (cond (eqb n 13) (load_start_asks x)
    (cond (eqb n 14) (load_end_asks x)
    (cond (eqb n 15) (load_end_asks x)
    (cond (eqb n 16) (id_read_asks x)
    (cond (eqb n 17) (id_read_failed_asks x)
    (cond (eqb n 18) (move_in_asks x)
    (cond (eqb n 19) (open_asks x)
    (cond (eqb n 20) (slot_map_asks x)
    (cond (eqb n 21) (access_start_asks x)
    (cond (eqb n 22) (access_end_asks x)
    (cond (eqb n 23) (close_asks x)
    (cond (eqb n 24) (unload_start_asks x)
    (cond (eqb n 25) (unload_end_asks x)
    (cond (eqb n 26) (unload_end_asks x)
    [])))))))))))))))))))))))))
