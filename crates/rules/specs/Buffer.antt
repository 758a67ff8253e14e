-- Rows 7, 8 and 18: out of the buffer, back, and in.
use Rattle.std.specs.Prelude.{Bool, not, ◌&&◌, [], ◌∷◌}
use Rattle.records.specs.Ports.{ready_to_load, ready_to_unload, blocked, idle, has_pod, handed_out, to_blocked, emptied}
use Rattle.records.specs.Carriers.{at_port, in_buffer, is_open, came_out, id_ok, in_access, taken_out, taken_back, moved_in}
use Rattle.rules.specs.declared.row.Seen.{Seen}
use Rattle.lists.specs.Lists.{between}
use Rattle.rules.specs.Row.{Row, when, unless, on_both, reserved_or_tied}

-- 7. CarrierOut(name, port). 2; 4 if reserved or tied; 5 unless the carrier is in the buffer, closed and not IN ACCESS, and
-- the port READY TO LOAD. Placed at and tied to the port; pod present, tag read, READY TO UNLOAD; came-out on.
abbrev pub can_come_out : Seen → Bool
can_come_out x = in_buffer x.found && not (is_open x.found) && not (in_access x.found) && ready_to_load x.here

abbrev pub carrier_out : Seen → Row
carrier_out x = record {
  grounds = unless x.named 1 ∷ unless x.isport 1 ∷ unless x.known 2 ∷ when (reserved_or_tied x) 4
      ∷ unless (can_come_out x) 5 ∷ [];
  effect = on_both x.count x.port (handed_out x.name x.here) x.stands (taken_out x.port x.found);
}

-- 8. CarrierIn(name). 2; 5 unless at a port READY TO UNLOAD with came-out on. Port BLOCKED; came-out off.
abbrev pub can_go_back : Seen → Bool
can_go_back x = at_port x.found && ready_to_unload x.home && came_out x.found

abbrev pub carrier_in : Seen → Row
carrier_in x = record {
  grounds = unless x.named 1 ∷ unless x.known 2 ∷ unless (can_go_back x) 5 ∷ [];
  effect = on_both x.count x.found.port (to_blocked x.home) x.stands (taken_back x.found);
}

-- 18. MoveIn(port, place 1 to B). 5 unless pod present, idle and BLOCKED; 7 unless a carrier is placed there with ID OK; 8 if
-- the place is taken. Carrier to that place; port loses pod and tie, tag unread, READY TO LOAD.
abbrev pub can_move_in : Seen → Bool
can_move_in x = has_pod x.here && idle x.here && blocked x.here

abbrev pub verified_here : Seen → Bool
verified_here x = at_port x.held && id_ok x.held

abbrev pub move_in : Seen → Row
move_in x = record {
  grounds = unless x.isport 1 ∷ unless (between 1 x.value x.places) 1 ∷ unless (can_move_in x) 5
      ∷ unless (verified_here x) 7 ∷ when x.taken 8 ∷ [];
  effect = on_both x.count x.port (emptied x.here) x.holds (moved_in x.value x.held);
}
