-- What looks as if it undid an input, and doesn't: each line is a sound state that shows it.
use Rattle.std.specs.Prelude.{ℕ, ◌≡◌, Bool, true, not, ◌&&◌, ◌||◌, List, [], ◌∷◌, ◌++◌, map, length, eqb}
use Rattle.records.specs.Names.{in_bytes}
use Rattle.records.specs.Ports.{new_port}
use Rattle.records.specs.Fields.{with_transfer, with_reserved, with_tag}
use Rattle.rules.specs.State.{port_of, record_of}
use Rattle.rules.specs.Seen.{Input, name_stands, see}
use Rattle.rules.specs.Inputs.{Bind, CancelBind, CarrierNotification, CancelCarrierNotification, CarrierOut, CarrierIn, ChangeAccess}
use Rattle.rules.specs.Inputs.{ChangeServiceStatus, ReserveAtPort, CancelReservationAtPort, LoadFail, MoveIn, Open, AccessEnd, Close, UnloadFail}
use Rattle.rules.specs.Inputs.{A, B, stored, accessed, cancelled}
use Rattle.rules.specs.Undoing.{Pair, is_pair, same_port, same_carrier, same_both, always, releasing, loading, changing_access, taking_out}
use Rattle.queue.specs.Cases.{OutStart, OutDone, CancelAllCarrierOut}
use Rattle.wafers.specs.Outcome.{Brought}
use Rattle.hands.specs.State.{Handled, base_of, alarm_of, start}
use Rattle.hands.specs.Sound.{sound}
use Rattle.hands.specs.Outcome.{answer_in, state_after}
use Rattle.undo.specs.Undoing.{unloading}
use Rattle.hands.specs.Cases.{plain, manual, automatic, LoadStart, UnloadStart, smooth, after}

-- ── Pairs that are none ──
-- one of the pairs, without its condition
abbrev pub unconditional : Pair → Pair
unconditional p = record { row = p.row; undoing = p.undoing; alike = p.alike; when = always }

-- one the other way round
abbrev pub turned : ℕ → ℕ → (Input → Input → Bool) → Pair
turned row undoing alike = record { row = row; undoing = undoing; alike = alike; when = always }

unfoldable pub anything : Input → Input → Bool
anything i j = true

-- ── Lines ──
-- A pair, a sound state, the two inputs, and a number that is read off the state before and after them: the second input is refused, or the
-- number is another.
pub record Line : Type 0 where
  pub pair : Pair
  pub state : Handled
  pub input : Brought
  pub undoing : Brought
  pub answer : ℕ
  pub reads : Handled → ℕ
  pub was : ℕ
  pub is : ℕ

unfoldable pub given : Line → Bool
given l = sound l.state && is_pair l.pair l.input.timed.input l.undoing.timed.input
    && l.pair.when (see (base_of l.state) l.input.timed.input) && eqb (answer_in l.state l.input) 0

unfoldable pub shows : Line → Bool
shows l = given l && eqb (answer_in (state_after l.state l.input) l.undoing) l.answer && eqb (l.reads l.state) l.was
    && eqb (l.reads (state_after (state_after l.state l.input) l.undoing)) l.is && (not (eqb l.answer 0) || not (eqb l.was l.is))

-- what is given back, but for a number that was one and is another
abbrev other : Pair → Handled → Brought → Brought → (Handled → ℕ) → ℕ → ℕ → Line
other pair state input undoing reads was is =
    record { pair = pair; state = state; input = input; undoing = undoing; answer = 0; reads = reads; was = was; is = is }

abbrev refused : Pair → Handled → Brought → Brought → ℕ → Line
refused pair state input undoing answer =
    record { pair = pair; state = state; input = input; undoing = undoing; answer = answer; reads = λ s. 0; was = 0; is = 0 }

-- one port and two places, after a run
abbrev ran : List Brought → Handled
ran run = after (start 1 2 0 0) run

-- what is read: of port 1, of A's record, of the queue
abbrev reserved_here : Handled → ℕ
reserved_here s = (port_of (base_of s) 1).reserved

abbrev access_here : Handled → ℕ
access_here s = (port_of (base_of s) 1).access

abbrev transfer_here : Handled → ℕ
transfer_here s = (port_of (base_of s) 1).transfer

abbrev alarm_here : Handled → ℕ
alarm_here s = (alarm_of s 1).on

abbrev stands_a : Handled → ℕ
stands_a s = name_stands (base_of s) (in_bytes A)

abbrev requests : Handled → ℕ
requests s = length s.predicted.queued.queue

-- a port that is BLOCKED and yet reserved: sound, though no run leads there
abbrev blocked_reserved : Handled
blocked_reserved = record {
  predicted = record {
    queued = record {
      mapped = record { base = record { ports = with_transfer 3 (with_reserved 1 new_port) ∷ []; carriers = []; places = 2 }; maps = [] };
      queue = [];
    };
    times = record { now = 0; setting = 0; timeout = 0 };
    predictions = [];
  };
  alarms = record { on = 0; held = 0 } ∷ [];
}

abbrev auto : List Brought
auto = plain (ChangeAccess 1 1) ∷ []

abbrev pub lines : List Line
lines =
    -- LoadStart ends the reservation, and LoadFail doesn't bring it back
    other (unconditional loading) (ran (plain (ReserveAtPort 1) ∷ [])) (LoadStart 1 manual) (plain (LoadFail 1)) reserved_here 1 0
    -- a start by hand in AUTO raises the alarm, and UnloadFail leaves it on
    ∷ other (unconditional unloading) (ran (map plain cancelled ++ auto)) (UnloadStart 1 manual) (plain (UnloadFail 1)) alarm_here 0 1
    -- the value held already is accepted, and the other one is another
    ∷ other (unconditional changing_access) (ran []) (plain (ChangeAccess 1 0)) (plain (ChangeAccess 1 1)) access_here 0 1
    ∷ other (unconditional taking_out) (ran (plain (ChangeServiceStatus 1 0) ∷ [])) (plain (ChangeServiceStatus 1 0)) (plain (ChangeServiceStatus 1 1))
    transfer_here 0 1
    -- a record that is made again is the last
    ∷ other (turned 2 1 same_both) (ran (plain (Bind 1 A) ∷ plain (CarrierNotification B) ∷ [])) (plain (CancelBind 1 A)) (plain (Bind 1 A)) stands_a 0 1
    ∷ other (turned 4 3 same_carrier) (ran (plain (CarrierNotification A) ∷ plain (CarrierNotification B) ∷ [])) (plain (CancelCarrierNotification A))
    (plain (CarrierNotification A)) stands_a 0 1
    -- a reservation can be made only where the port is READY TO LOAD
    ∷ refused (unconditional releasing) blocked_reserved (plain (CancelReservationAtPort 1)) (plain (ReserveAtPort 1)) 5
    -- a carrier that was accessed isn't opened again
    ∷ refused (turned 23 19 same_carrier) (after (start 1 0 0 0) (map plain (accessed ++ AccessEnd A 0 ∷ []))) (plain (Close A)) (plain (Open A)) 5
    -- a vehicle began to unload; after it failed, hands begin
    ∷ other (turned 26 24 same_port) (ran (map plain cancelled ++ auto ++ UnloadStart 1 automatic ∷ [])) (plain (UnloadFail 1)) (UnloadStart 1 manual)
    alarm_here 0 1
    -- CancelAllCarrierOut drops the requests of others, too
    ∷ other (turned 7 30 anything) (ran (map plain (stored A 1 ++ stored B 2 ++ CarrierOut B 1 ∷ []))) (plain (CarrierOut A 1)) (plain CancelAllCarrierOut)
    requests 1 0
    ∷ []

-- ── Out of the buffer, and back ──
-- A comes out to port 1, is taken back, and moved in
abbrev pub out_and_in : ℕ → List Brought
out_and_in place = map plain (CarrierOut A 1 ∷ OutStart 1 ∷ OutDone 1 ∷ CarrierIn A ∷ MoveIn 1 place ∷ [])

-- from place 1
abbrev pub in_place : Handled
in_place = ran (map plain (stored A 1))

-- what is read: where A is, and the tag of port 1
abbrev pub spot_a : Handled → ℕ
spot_a s = (record_of (base_of s) 0).spot

abbrev pub tag_here : Handled → ℕ
tag_here s = (port_of (base_of s) 1).tag

-- the same with a tag that reads as read at the empty port: sound, though no run leads there
abbrev pub read_tag : Handled → Handled
read_tag s = record {
  predicted = record {
    queued = record {
      mapped = record { base = record { ports = with_tag 1 (port_of (base_of s) 1) ∷ []; carriers = (base_of s).carriers; places = 2 }; maps = s.predicted.queued.mapped.maps };
      queue = s.predicted.queued.queue;
    };
    times = s.predicted.times;
    predictions = s.predicted.predictions;
  };
  alarms = s.alarms;
}

-- Back to its place it is the very state; to another place, or where the empty port's tag was read, it isn't.
pub record Round : Type 0 where
  pub accepted : smooth in_place (out_and_in 1) ≡ true
  pub comes_back : after in_place (out_and_in 1) ≡ in_place
  pub other_place : (smooth in_place (out_and_in 2) && eqb (spot_a in_place) 1 && eqb (spot_a (after in_place (out_and_in 2))) 2) ≡ true
  pub other_tag : (sound (read_tag in_place) && smooth (read_tag in_place) (out_and_in 1) && eqb (tag_here (read_tag in_place)) 1
      && eqb (tag_here (after (read_tag in_place) (out_and_in 1))) 0) ≡ true
