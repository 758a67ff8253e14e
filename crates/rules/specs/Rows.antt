-- The 26 inputs by number.
use Rattle.std.specs.Prelude.{ℕ, true, cond, [], ◌∷◌, eqb}
use Rattle.records.specs.Ports.{no_port}
use Rattle.rules.specs.declared.row.Seen.{Seen}
use Rattle.rules.specs.Row.{Row, when, on_port}
use Rattle.rules.specs.Booking.{bind, cancel_bind, carrier_notification, cancel_carrier_notification}
use Rattle.rules.specs.Verdict.{proceed_with_carrier, cancel_carrier}
use Rattle.rules.specs.Buffer.{carrier_out, carrier_in, move_in}
use Rattle.rules.specs.Service.{change_access, change_service_status, reserve_at_port, cancel_reservation_at_port}
use Rattle.rules.specs.Transfer.{load_start, load_done, load_fail, unload_start, unload_done, unload_fail}
use Rattle.rules.specs.Reading.{id_read, id_read_failed}
use Rattle.rules.specs.Opening.{open_row, slot_map, access_start, access_end, close_row}

-- the input number isn't 1 to 26
abbrev pub no_row : Seen → Row
no_row x = record { grounds = when true 1 ∷ []; effect = on_port x.count 0 no_port }

unfoldable pub row_of : ℕ → Seen → Row
row_of n x =
    cond (eqb n 1) (bind x)
    (cond (eqb n 2) (cancel_bind x)
    (cond (eqb n 3) (carrier_notification x)
    (cond (eqb n 4) (cancel_carrier_notification x)
    (cond (eqb n 5) (proceed_with_carrier x)
    (cond (eqb n 6) (cancel_carrier x)
    (cond (eqb n 7) (carrier_out x)
    (cond (eqb n 8) (carrier_in x)
    (cond (eqb n 9) (change_access x)
    (cond (eqb n 10) (change_service_status x)
    (cond (eqb n 11) (reserve_at_port x)
    (cond (eqb n 12) (cancel_reservation_at_port x)
    (cond (eqb n 13) (load_start x)
    (cond (eqb n 14) (load_done x)
    (cond (eqb n 15) (load_fail x)
    (cond (eqb n 16) (id_read x)
    (cond (eqb n 17) (id_read_failed x)
    (cond (eqb n 18) (move_in x)
    (cond (eqb n 19) (open_row x)
    (cond (eqb n 20) (slot_map x)
    (cond (eqb n 21) (access_start x)
    (cond (eqb n 22) (access_end x)
    (cond (eqb n 23) (close_row x)
    (cond (eqb n 24) (unload_start x)
    (cond (eqb n 25) (unload_done x)
    (cond (eqb n 26) (unload_fail x)
    (no_row x))))))))))))))))))))))))))
