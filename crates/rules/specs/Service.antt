-- Rows 9 to 12: access mode, service status and reservations of a port.
use Rattle.std.specs.Prelude.{Bool, not, cond, ◌&&◌, [], ◌∷◌, eqb}
use Rattle.records.specs.Ports.{out_of_service, ready_to_load, reserved, idle}
use Rattle.records.specs.Fields.{with_access, with_transfer, with_reserved}
use Rattle.rules.specs.declared.row.Seen.{Seen}
use Rattle.rules.specs.Row.{Row, when, unless, on_port, is_choice, reserved_or_tied}

-- 9. ChangeAccess(port, 0 or 1). The value held already is accepted, always. Else 4 if reserved, 5 unless idle. Access set.
abbrev pub other_access : Seen → Bool
other_access x = not (eqb x.here.access x.value)

abbrev pub change_access : Seen → Row
change_access x = record {
  grounds = unless x.isport 1 ∷ unless (is_choice x) 1 ∷ when (other_access x && reserved x.here) 4
      ∷ when (other_access x && not (idle x.here)) 5 ∷ [];
  effect = on_port x.count x.port (with_access x.value x.here);
}

-- 10. ChangeServiceStatus(port, 0 out, 1 in). A port is in unless OUT OF SERVICE; the value held already is accepted. Out: 4
-- if reserved or tied, 5 unless READY TO LOAD; OUT OF SERVICE. In: READY TO LOAD.
abbrev pub goes_out : Seen → Bool
goes_out x = not (out_of_service x.here) && eqb x.value 0

abbrev pub comes_in : Seen → Bool
comes_in x = out_of_service x.here && eqb x.value 1

abbrev pub change_service_status : Seen → Row
change_service_status x = record {
  grounds = unless x.isport 1 ∷ unless (is_choice x) 1 ∷ when (goes_out x && reserved_or_tied x) 4
      ∷ when (goes_out x && not (ready_to_load x.here)) 5 ∷ [];
  effect = on_port x.count x.port (with_transfer (cond (goes_out x) 0 (cond (comes_in x) 1 x.here.transfer)) x.here);
}

-- 11. ReserveAtPort(port). 4 if reserved or tied; 5 unless READY TO LOAD. Reserved.
abbrev pub reserve_at_port : Seen → Row
reserve_at_port x = record {
  grounds = unless x.isport 1 ∷ when (reserved_or_tied x) 4 ∷ unless (ready_to_load x.here) 5 ∷ [];
  effect = on_port x.count x.port (with_reserved 1 x.here);
}

-- 12. CancelReservationAtPort(port). 4 if tied; 5 unless reserved. Not reserved.
abbrev pub cancel_reservation_at_port : Seen → Row
cancel_reservation_at_port x = record {
  grounds = unless x.isport 1 ∷ when x.tied 4 ∷ unless (reserved x.here) 5 ∷ [];
  effect = on_port x.count x.port (with_reserved 0 x.here);
}
