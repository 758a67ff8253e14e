-- The rows that request P5 changes, and the four that it adds.
use Rattle.std.specs.Prelude.{ℕ, cond, List, [], ◌∷◌, length, get_or, eqb, ltb}
use Rattle.lists.specs.Lists.{any, without}
use Rattle.records.specs.declared.name.Name.{Name}
use Rattle.records.specs.Carriers.{in_buffer}
use Rattle.rules.specs.declared.row.Seen.{Seen}
use Rattle.rules.specs.State.{State}
use Rattle.rules.specs.Seen.{Input}
use Rattle.rules.specs.Row.{Ground, when, unless}
use Rattle.rules.specs.Inputs as base
use Rattle.queue.specs.declared.request.Request.{Request}
use Rattle.queue.specs.Requests.{no_request, waits_of, started_of, started_to, is_full, is_queued, ready_stands, started_stands}
use Rattle.queue.specs.Requests.{added, started, dropped, all_dropped}

-- A row here: what it is refused for besides the refusals of the inputs below that it stands for, these inputs, the latest first, and the
-- queue that follows.
pub record Row : Type 0 where
  pub grounds : List Ground
  pub stands : List Input
  pub queue : List Request

-- the text of a name that stands in sixteen bytes: those before the first zero
unfoldable pub until_zero : List ℕ → List ℕ
until_zero [] = []
until_zero (b ∷ l) = cond (eqb b 0) [] (b ∷ until_zero l)

abbrev pub text_of : Name → List ℕ
text_of n = until_zero n.bytes

-- An input that is answered below, after the refusals that a row adds to it.
abbrev pub passed_on : List Ground → List Request → Input → Row
passed_on grounds q i = record { grounds = grounds; stands = i ∷ []; queue = q }

-- 6. CancelCarrier(name, port or 0). Accepted, it drops that carrier's request, if it isn't started; a started one runs on to OutDone.
abbrev pub cancel_carrier : List Request → Seen → Input → Row
cancel_carrier q x i = passed_on [] (dropped x.name q) i

-- 7. CarrierOut(name, port). 2; 5 unless the carrier is in the buffer; 9 if the queue is full; 10 if it is queued already. Queued.
abbrev pub carrier_out : List Request → Seen → Row
carrier_out q x = record {
  grounds = unless x.named 1 ∷ unless x.isport 1 ∷ unless x.known 2 ∷ unless (in_buffer x.found) 5
      ∷ when (is_full q) 9 ∷ when (is_queued x.name q) 10 ∷ [];
  stands = [];
  queue = added x.name x.port q;
}

-- 12. CancelReservationAtPort(port). 4 also where a request is started to the port.
abbrev pub cancel_reservation_at_port : List Request → Seen → Input → Row
cancel_reservation_at_port q x i = passed_on (when (any (started_to x.port) q) 4 ∷ []) q i

-- 13. LoadStart(port). 4 also where a request is started to the port.
abbrev pub load_start : List Request → Seen → Input → Row
load_start q x i = passed_on (when (any (started_to x.port) q) 4 ∷ []) q i

-- 19. Open(name). 5 also for a carrier whose request is started.
abbrev pub open_row : List Request → Seen → Input → Row
open_row q x i = passed_on (when (any (started_of x.name) q) 5 ∷ []) q i

-- 27. OutStart(port). Takes the oldest request for that port whose carrier is closed and not in access; 5 where there is none. Needs what
-- row 7 needed of the port, and reserves it, which is row 11: 4 if reserved or tied, 5 unless READY TO LOAD. Started.
abbrev pub out_start : State → List Request → Seen → Input → Row
out_start s q x i = record {
  grounds = unless (ltb (ready_stands s x.port q) (length q)) 5 ∷ [];
  stands = base.ReserveAtPort i.port ∷ [];
  queue = started (ready_stands s x.port q) q;
}

-- The carrier whose request is started to a port comes out: the reservation ends, and then row 7 as document 01 has it.
abbrev pub comes_out : Request → Input → List Input
comes_out r i = base.CarrierOut (text_of r.name) i.port ∷ base.CancelReservationAtPort i.port ∷ []

-- 28. OutDone(port). 5 unless a request is started to the port. Its carrier comes out, and the entry is free.
abbrev pub out_done : List Request → Seen → Input → Row
out_done q x i = record {
  grounds = unless x.isport 1 ∷ unless (any (started_to x.port) q) 5 ∷ [];
  stands = cond (any (started_to x.port) q) (comes_out (get_or q (started_stands x.port q) no_request) i) [];
  queue = without (started_stands x.port q) q;
}

-- 29. CancelCarrierOut(name). 5 unless the carrier's request is queued and not started. Dropped.
abbrev pub cancel_carrier_out : List Request → Seen → Row
cancel_carrier_out q x = record {
  grounds = unless x.named 1 ∷ unless (any (waits_of x.name) q) 5 ∷ [];
  stands = [];
  queue = dropped x.name q;
}

-- 30. CancelAllCarrierOut. Accepted even with none. All are dropped that aren't started.
abbrev pub cancel_all_carrier_out : List Request → Row
cancel_all_carrier_out q = record { grounds = []; stands = []; queue = all_dropped q }

unfoldable pub row_of : ℕ → State → List Request → Seen → Input → Row
row_of n s q x i =
    cond (eqb n 6) (cancel_carrier q x i)
    (cond (eqb n 7) (carrier_out q x)
    (cond (eqb n 12) (cancel_reservation_at_port q x i)
    (cond (eqb n 13) (load_start q x i)
    (cond (eqb n 19) (open_row q x i)
    (cond (eqb n 27) (out_start s q x i)
    (cond (eqb n 28) (out_done q x i)
    (cond (eqb n 29) (cancel_carrier_out q x)
    (cond (eqb n 30) (cancel_all_carrier_out q)
    (passed_on [] q i)))))))))
