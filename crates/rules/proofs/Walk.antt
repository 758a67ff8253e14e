-- One walk over the 26 rows. To show Q of every input number: write what shows it of each row under the row's name, and `walk` picks the
-- one that the number asks for,
--     holds : (n : ℕ) → Q n (row_of n x)
--     holds = walk Q x (record { bind = ..; cancel_bind = ..; .. })
-- Where Q speaks only of a row that accepts, `walk_accepting` of `Accepts` hands each row its grounds.
use Prim.Native.Nat.{ℕ}
use mathlib.Core.Path.{◌≡◌, refl}
use mathlib.Core.Bool.{Bool, true, false, cond}
use lib.Dec.{eqb}
use borrow.Author.Tests.{eqb-true}
use Rattle.rules.specs.declared.row.Seen.{Seen}
use Rattle.rules.specs.Row.{Row}
use Rattle.rules.specs.Booking.{bind, cancel_bind, carrier_notification, cancel_carrier_notification}
use Rattle.rules.specs.Verdict.{proceed_with_carrier, cancel_carrier}
use Rattle.rules.specs.Buffer.{carrier_out, carrier_in, move_in}
use Rattle.rules.specs.Service.{change_access, change_service_status, reserve_at_port, cancel_reservation_at_port}
use Rattle.rules.specs.Transfer.{load_start, load_done, load_fail, unload_start, unload_done, unload_fail}
use Rattle.rules.specs.Reading.{id_read, id_read_failed}
use Rattle.rules.specs.Opening.{open_row, slot_map, access_start, access_end, close_row}
use Rattle.rules.specs.Rows.{no_row, row_of}

-- Q of a row's number and of the row, for each row
pub record EachRow (Q : ℕ → Row → Type 0) (x : Seen) : Type 0 where
  pub bind : Q 1 (bind x)
  pub cancel_bind : Q 2 (cancel_bind x)
  pub carrier_notification : Q 3 (carrier_notification x)
  pub cancel_carrier_notification : Q 4 (cancel_carrier_notification x)
  pub proceed_with_carrier : Q 5 (proceed_with_carrier x)
  pub cancel_carrier : Q 6 (cancel_carrier x)
  pub carrier_out : Q 7 (carrier_out x)
  pub carrier_in : Q 8 (carrier_in x)
  pub change_access : Q 9 (change_access x)
  pub change_service_status : Q 10 (change_service_status x)
  pub reserve_at_port : Q 11 (reserve_at_port x)
  pub cancel_reservation_at_port : Q 12 (cancel_reservation_at_port x)
  pub load_start : Q 13 (load_start x)
  pub load_done : Q 14 (load_done x)
  pub load_fail : Q 15 (load_fail x)
  pub id_read : Q 16 (id_read x)
  pub id_read_failed : Q 17 (id_read_failed x)
  pub move_in : Q 18 (move_in x)
  pub open_row : Q 19 (open_row x)
  pub slot_map : Q 20 (slot_map x)
  pub access_start : Q 21 (access_start x)
  pub access_end : Q 22 (access_end x)
  pub close_row : Q 23 (close_row x)
  pub unload_start : Q 24 (unload_start x)
  pub unload_done : Q 25 (unload_done x)
  pub unload_fail : Q 26 (unload_fail x)
  -- every other number
  pub none : (n : ℕ) → Q n (no_row x)

module _ (Q : ℕ → Row → Type 0) where
  -- the number is the row's, or another's
  or_else : {r q : Row} (n k : ℕ) → Q k r → Q n q → Q n (cond (eqb n k) r q)
  or_else {r} {q} n k this other = go (eqb n k) refl
    where
      go : (b : Bool) → eqb n k ≡ b → Q n (cond b r q)
      go true e = rw (eqb-true n k e) this
      go false e = other

  pub walk : (x : Seen) → EachRow Q x → (n : ℕ) → Q n (row_of n x)
  unfolding row_of
  walk x each n =
      or_else n 1 each.bind (or_else n 2 each.cancel_bind (or_else n 3 each.carrier_notification
      (or_else n 4 each.cancel_carrier_notification (or_else n 5 each.proceed_with_carrier (or_else n 6 each.cancel_carrier
      (or_else n 7 each.carrier_out (or_else n 8 each.carrier_in (or_else n 9 each.change_access
      (or_else n 10 each.change_service_status (or_else n 11 each.reserve_at_port (or_else n 12 each.cancel_reservation_at_port
      (or_else n 13 each.load_start (or_else n 14 each.load_done (or_else n 15 each.load_fail (or_else n 16 each.id_read
      (or_else n 17 each.id_read_failed (or_else n 18 each.move_in (or_else n 19 each.open_row (or_else n 20 each.slot_map
      (or_else n 21 each.access_start (or_else n 22 each.access_end (or_else n 23 each.close_row (or_else n 24 each.unload_start
      (or_else n 25 each.unload_done (or_else n 26 each.unload_fail (each.none n))))))))))))))))))))))))))
