-- Rows 5 and 6: the host says yes or no to a carrier.
use Rattle.std.specs.Prelude.{ℕ, Bool, not, cond, ◌&&◌, ◌||◌, List, [], ◌∷◌, eqb}
use Rattle.records.specs.declared.port.Port.{Port}
use Rattle.records.specs.declared.carrier.Carrier.{Carrier}
use Rattle.records.specs.Ports.{no_port, ready_to_unload, idle, to_unload}
use Rattle.records.specs.Carriers.{at_port, untied, id_waits, id_ok, slot_waits, in_access, placed_at, proceeded, judged_no, cancelled_by}
use Rattle.records.specs.Fields.{tied_to, with_id}
use Rattle.rules.specs.declared.row.Seen.{Seen}
use Rattle.rules.specs.Row.{Ground, Row, unless, is_port_or_none, other_port, placed, unknown_pod, found_or_new}

-- Expected: it is untied and an unknown pod is at the port given.
unfoldable pub takes_unknown_pod : Seen → Bool
takes_unknown_pod x = untied x.found && unknown_pod x

-- No record: 2 without an unknown pod; expected: 5 unless it takes one; placed: 5 unless it can be judged so.
abbrev pub grounds_unless : Bool → Seen → List Ground
grounds_unless can x = unless x.named 1 ∷ unless (is_port_or_none x) 1 ∷ unless (x.known || unknown_pod x) 2
    ∷ unless (not x.known || placed x || takes_unknown_pod x) 5 ∷ unless (not (placed x) || can) 5 ∷ []

-- 5. ProceedWithCarrier(name, port or 0). No record: with an unknown pod there, a new record with ID OK, placed at and tied
-- to that port; else 2. Expected: if untied and an unknown pod is there, ID OK, placed and tied; else 5. Placed: 5 if a
-- given port isn't its port; ID 2 becomes 3; else ID 3 and slot status 2 makes slot status 3; else 5.
unfoldable pub can_proceed : Seen → Carrier → Bool
can_proceed x c = not (other_port x c) && (id_waits c || (id_ok c && slot_waits c))

abbrev pub proceed_with_carrier : Seen → Row
proceed_with_carrier x = record {
  grounds = grounds_unless (can_proceed x x.found) x;
  effect = record {
    port = cond (placed x) 0 x.port;
    becomes = cond (placed x) no_port (tied_to x.name x.here);
    goes = x.count;
    changes = x.stands;
    next = cond (placed x) (proceeded x.found) (with_id 3 (placed_at x.port (found_or_new x)));
    made = not x.known;
  };
}

-- 6. CancelCarrier(name, port or 0). No record, or expected: as row 5, with ID FAILED instead of OK. Placed: 5 if a given
-- port isn't its port, if IN ACCESS, or if its port isn't idle; ID 2 becomes 4, else slot status 2 becomes 4, else both stay.
-- In every accepted case: cancelled, closed, came-out off unless the port was READY TO UNLOAD already; if at a port, that
-- port is READY TO UNLOAD.
unfoldable pub can_cancel : Seen → Carrier → Port → Bool
can_cancel x c q = not (other_port x c) && not (in_access c) && (not (at_port c) || idle q)

-- the port that is concerned: a placed carrier's, none for one in the buffer, else the one given
unfoldable pub cancel_at : Seen → ℕ
cancel_at x = cond (placed x) (cond (at_port x.found) x.found.port 0) x.port

unfoldable pub cancel_port : Seen → Port
cancel_port x = cond (placed x) (cond (at_port x.found) x.home no_port) (tied_to x.name x.here)

-- the record before it is cancelled
unfoldable pub failed : Seen → Carrier
failed x = cond (placed x) (judged_no x.found) (with_id 4 (placed_at x.port (found_or_new x)))

abbrev pub cancel_carrier : Seen → Row
cancel_carrier x = record {
  grounds = grounds_unless (can_cancel x x.found x.home) x;
  effect = record {
    port = cancel_at x;
    becomes = cond (eqb (cancel_at x) 0) no_port (to_unload (cancel_port x));
    goes = x.count;
    changes = x.stands;
    next = cancelled_by (ready_to_unload (cancel_port x)) (failed x);
    made = not x.known;
  };
}
