-- Rows 1 to 4: a carrier is announced, and the announcement is taken back.
use Rattle.std.specs.Prelude.{ℕ, Bool, true, not, cond, ◌&&◌, ◌||◌, [], ◌∷◌}
use Rattle.records.specs.declared.port.Port.{Port}
use Rattle.records.specs.declared.carrier.Carrier.{Carrier}
use Rattle.records.specs.Ports.{no_port, ready_to_load, idle, bound_to, unbound}
use Rattle.records.specs.Carriers.{new_carrier, expected, untied}
use Rattle.rules.specs.declared.row.Seen.{Seen}
use Rattle.rules.specs.Row.{Row, when, unless, on_port_and_gone, is_port_or_none, reserved_or_tied, other_port}

-- 1. Bind(port, name). 3 if it has a record; 4 if reserved or tied; 5 unless READY TO LOAD; 6. New record tied to the
-- port; reserved.
abbrev pub bind : Seen → Row
bind x = record {
  grounds = unless x.isport 1 ∷ unless x.named 1 ∷ when x.known 3 ∷ when (reserved_or_tied x) 4
      ∷ unless (ready_to_load x.here) 5 ∷ when x.full 6 ∷ [];
  effect = record {
    port = x.port;
    becomes = bound_to x.name x.here;
    goes = x.count;
    changes = x.count;
    next = new_carrier x.name x.port;
    made = true;
  };
}

-- 2. CancelBind(port or 0, name or empty). 1 if both are missing. 2 if a given name has no record. 5 unless what is given
-- means one tied pair, the carrier expected and the port idle. Record, tie and reservation go.
-- The carrier that is meant, by its name or else by the port, and its port.
unfoldable pub meant : Seen → Carrier
meant x = cond x.blank x.held x.found

unfoldable pub meant_port : Seen → Port
meant_port x = cond x.blank x.here x.home

unfoldable pub meant_stands : Seen → ℕ
meant_stands x = cond x.blank x.holds x.stands

unfoldable pub one_pair : Seen → Carrier → Port → Bool
one_pair x c q = not (untied c) && not (other_port x c) && expected c && idle q

abbrev pub cancel_bind : Seen → Row
cancel_bind x = record {
  grounds = unless (is_port_or_none x) 1 ∷ unless (x.blank || x.named) 1 ∷ when (x.noport && x.blank) 1
      ∷ unless (x.blank || x.known) 2 ∷ unless (one_pair x (meant x) (meant_port x)) 5 ∷ [];
  effect = on_port_and_gone x.count (meant x).port (unbound (meant_port x)) (meant_stands x);
}

-- 3. CarrierNotification(name). 3 if it has a record; 6. New record, no tie.
abbrev pub carrier_notification : Seen → Row
carrier_notification x = record {
  grounds = unless x.named 1 ∷ when x.known 3 ∷ when x.full 6 ∷ [];
  effect = record {
    port = 0;
    becomes = no_port;
    goes = x.count;
    changes = x.count;
    next = new_carrier x.name 0;
    made = true;
  };
}

-- 4. CancelCarrierNotification(name). 2; 5 unless expected and untied. Record goes.
abbrev pub cancel_carrier_notification : Seen → Row
cancel_carrier_notification x = record {
  grounds = unless x.named 1 ∷ unless x.known 2 ∷ unless (expected x.found && untied x.found) 5 ∷ [];
  effect = on_port_and_gone x.count 0 no_port x.stands;
}
