-- Rows 19 to 23: a carrier is opened, mapped, accessed and closed.
use Rattle.std.specs.Prelude.{Bool, not, cond, ◌&&◌, ◌||◌, [], ◌∷◌, eqb, leb}
use Rattle.records.specs.Ports.{no_port, idle, blocked, to_unload}
use Rattle.records.specs.Carriers.{at_port, in_buffer, is_open, is_cancelled, id_ok, slot_not_read, slot_ok, slot_failed}
use Rattle.records.specs.Carriers.{not_accessed, in_access, access_ended, with_map}
use Rattle.records.specs.Fields.{with_opened, with_accessing}
use Rattle.rules.specs.declared.row.Seen.{Seen}
use Rattle.rules.specs.Row.{Row, when, unless, on_record, on_both, is_choice}

-- 19. Open(name). 2; 5 unless closed, NOT ACCESSED and in the buffer, or, when B = 0, at an idle BLOCKED port; 7 if ID isn't
-- OK, slot status is FAILED, or it is cancelled; 8 if B > 0 and another is open. Open.
abbrev pub can_open : Seen → Bool
can_open x = not (is_open x.found) && not_accessed x.found
    && (in_buffer x.found || (eqb x.places 0 && at_port x.found && idle x.home && blocked x.home))

abbrev pub not_verified : Seen → Bool
not_verified x = not (id_ok x.found) || slot_failed x.found || is_cancelled x.found

-- it is closed itself, so that whatever is open is another
abbrev pub opener_in_use : Seen → Bool
opener_in_use x = leb 1 x.places && x.busy

abbrev pub open_row : Seen → Row
open_row x = record {
  grounds = unless x.named 1 ∷ unless x.known 2 ∷ unless (can_open x) 5 ∷ when (not_verified x) 7
      ∷ when (opener_in_use x) 8 ∷ [];
  effect = on_record x.count x.stands (with_opened 1 x.found);
}

-- 20. SlotMap(name, codes). 1 unless 25 codes, each 0 to 5; 2; 5 unless open with slot status 1. Map kept, slot status 2: the
-- host alone judges slot maps.
abbrev pub slot_map : Seen → Row
slot_map x = record {
  grounds = unless x.named 1 ∷ unless x.mapped 1 ∷ unless x.known 2
      ∷ unless (is_open x.found && slot_not_read x.found) 5 ∷ [];
  effect = on_record x.count x.stands (with_map x.map 2 x.found);
}

-- 21. AccessStart(name). 2; 5 unless open and NOT ACCESSED; 7 unless slot status is OK. IN ACCESS.
abbrev pub access_start : Seen → Row
access_start x = record {
  grounds = unless x.named 1 ∷ unless x.known 2 ∷ unless (is_open x.found && not_accessed x.found) 5
      ∷ unless (slot_ok x.found) 7 ∷ [];
  effect = on_record x.count x.stands (with_accessing 2 x.found);
}

-- 22. AccessEnd(name, 0 complete, 1 stopped). 2; 5 unless IN ACCESS. COMPLETE or STOPPED.
abbrev pub access_end : Seen → Row
access_end x = record {
  grounds = unless x.named 1 ∷ unless (is_choice x) 1 ∷ unless x.known 2 ∷ unless (in_access x.found) 5 ∷ [];
  effect = on_record x.count x.stands (with_accessing (cond (eqb x.value 0) 3 4) x.found);
}

-- 23. Close(name). 2; 5 unless open and not IN ACCESS. Closed; at a port with accessing 3 or 4, READY TO UNLOAD.
abbrev pub leaves_port : Seen → Bool
leaves_port x = at_port x.found && access_ended x.found

abbrev pub close_row : Seen → Row
close_row x = record {
  grounds = unless x.named 1 ∷ unless x.known 2 ∷ unless (is_open x.found && not (in_access x.found)) 5 ∷ [];
  effect = on_both x.count (cond (leaves_port x) x.found.port 0) (cond (leaves_port x) (to_unload x.home) no_port)
      x.stands (with_opened 0 x.found);
}
