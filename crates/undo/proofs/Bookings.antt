-- Bind and CarrierNotification make a record, and it goes with its booking.
use Prim.Native.Nat.{ℕ, ◌<◌}
use native.Mathlib.Omega.{arith}
use mathlib.Core.Path.{◌≡◌, refl, ap, ◌∙◌}
use mathlib.Core.Bool.{true, false}
use lib.ListN.{length, length-set, get_or, set}
use lib.Dec.{eqb}
use Rattle.lists.proofs.Bools.{and_r}
use Rattle.lists.proofs.Tests.{list_is}
use Rattle.records.specs.declared.port.Port.{Port}
use Rattle.records.specs.declared.carrier.Carrier.{Carrier}
use Rattle.records.specs.Ports.{no_port, bound_to}
use Rattle.records.specs.Carriers.{no_carrier, new_carrier}
use Rattle.rules.specs.declared.row.Seen.{Seen}
use Rattle.rules.specs.declared.row.Effect.{Effect}
use Rattle.rules.specs.State.{State, spot_of, port_of}
use Rattle.rules.specs.Seen.{narrow, see}
use Rattle.rules.specs.Row as row
use Rattle.rules.specs.Row.{lowest}
use Rattle.rules.specs.Booking.{meant_stands}
use Rattle.rules.specs.Rows as base-rows
use Rattle.rules.specs.Undoing as base-pairs
use Rattle.rules.specs.Undoing.{same_port, same_carrier, same_both, binding, announcing}
use Rattle.rules.proofs.SoundParts.{facts}
use Rattle.rules.proofs.Undone.{paired}
use Rattle.rules.proofs.UndoneBookings as base-bookings
use Rattle.rules.proofs.UndoneBookings.{making, with_made, made_enacted, Met, met, New, bind_new, announce_found}
use Rattle.queue.specs.Rows as queue-rows
use Rattle.queue.specs.Outcome as queue
use Rattle.prediction.specs.Sound.{is_ready}
use Rattle.wafers.specs.Outcome.{Brought}
use Rattle.hands.specs.State.{Handled, base_of, alarm_of}
use Rattle.hands.specs.Sound.{sound}
use Rattle.hands.specs.Rows as hands-rows
use Rattle.hands.specs.Outcome.{row_in, answer_in, state_after}
use Rattle.hands.proofs.Sounds.{alarms_part}
use Rattle.undo.specs.Undoing.{TakenBack, Undoes}
use Rattle.undo.proofs.Stepped.{effect, after, base_is}
use Rattle.undo.proofs.Passing.{Sent, kept_alarm, Undoing, bind_sent, notification_sent, cancel_bind_undoing, cancel_notification_undoing}
use Rattle.undo.proofs.Turned.{Turns, all_turn, ready_before, settled_back}
use Rattle.undo.proofs.Paired.{t, first_effect, second_effect, record_goes}
use Rattle.undo.proofs.Ports.{base_sound_of, unqueued, below_yes}

module _ (s : Handled) (i j : Brought) (h : sound s ≡ true) (n m : ℕ) (is : i.timed.input.number ≡ n) (js : j.timed.input.number ≡ m)
    (sent : Sent n) (undoing : Undoing m) (a : answer_in s i ≡ 0) where
  abbrev x : Seen
  x = see (base_of s) i.timed.input

  abbrev between : State
  between = base_of (state_after s i)

  -- a new record of the name that is given, and the port p turns to q
  module _ (pair : base-pairs.TakenBack (base_of s) i.timed.input j.timed.input)
      (free : lowest (queue.row_in (state_after s i).predicted.queued j.timed.input).grounds ≡ 0)
      (p : ℕ) (q : Port) (is-new : (base-rows.row_of n x).effect ≡ making x.count p q (new_carrier x.name p))
      (same : i.timed.input.name ≡ j.timed.input.name) (new : New x)
      (goes : (y : Seen) → Met x y (with_made (base_of s) p q (new_carrier x.name p)) j.timed.input (new_carrier x.name p)
      → (base-rows.row_of m y).effect.goes ≡ x.count)
      (makes : (y : Seen) → (base-rows.row_of m y).effect.made ≡ false)
      (turns : spot_of p < length (base_of s).ports → Turns (get_or (base_of s).ports (spot_of p) no_port) q)
      (own : (row_in s i).alarm ≡ alarm_of s (narrow i.timed.input.port)) where
    abbrev c : Carrier
    c = new_carrier x.name p

    abbrev then : State
    then = with_made (base_of s) p q c

    effect_new : effect s i (t s i j h n m is js sent undoing a) ≡ making x.count p q c
    effect_new = first_effect s i j h n m is js sent undoing a ∙ is-new

    after_new : after s i (t s i j h n m is js sent undoing a) ≡ then
    unfolding see
    after_new = ap (λ w. row.enact w (base_of s)) effect_new ∙ made_enacted (base_of s) p q c

    each_turns : (k : ℕ) → Turns (get_or (base_of s).ports k no_port) (get_or (set (base_of s).ports (spot_of p) q) k no_port)
    each_turns = all_turn (base_of s).ports (spot_of p) q turns

    ready : (k : ℕ) → is_ready then (get_or (base_of s).carriers k no_carrier) ≡ true → is_ready (base_of s) (get_or (base_of s).carriers k no_carrier) ≡ true
    unfolding port_of
    ready k = let d = get_or (base_of s).carriers k no_carrier in ready_before (base_of s) then d d refl refl (each_turns (spot_of d.port))

    unready : is_ready then c ≡ false
    unfolding is_ready
    unready = refl

    last_goes : (base-rows.row_of m (see between j.timed.input)).effect.goes ≡ length (base_of s).carriers
    unfolding see
    last_goes =
        ap (λ b. (base-rows.row_of m (see b j.timed.input)).effect.goes) (base_is s i (t s i j h n m is js sent undoing a) a ∙ after_new)
        ∙ goes (see then j.timed.input) (met (base_of s) i.timed.input j.timed.input same new p q c refl)

    pub booking_goes : TakenBack s i j
    unfolding see alarm_of
    booking_goes =
        record_goes s i j h n m is js sent undoing a pair free c (ap (λ (e : Effect). e.goes) effect_new) (ap (λ (e : Effect). e.made) effect_new)
        (ap (λ (e : Effect). e.goes) (second_effect s i j h n m is js sent undoing a) ∙ last_goes)
        (ap (λ (e : Effect). e.made) (second_effect s i j h n m is js sent undoing a) ∙ makes _)
        (ap (λ (b : State). b.carriers) after_new) (rw after_new unready) (rw after_new ready)
        (rw (own, after_new)
        (settled_back (base_of s).ports (set (base_of s).ports (spot_of p) q) s.alarms (spot_of (narrow i.timed.input.port)) (alarms_part s h)
        (length-set (base_of s).ports (spot_of p) q) each_turns))

-- no port stands where 0 does
pub announcing_undone : Undoes announcing
unfolding base-rows.row_of queue-rows.row_of hands-rows.row_of lowest same_carrier
announcing_undone s i j h p w a =
    let r = paired announcing i.timed.input j.timed.input p in
    let b = below_yes s i 3 r.row notification_sent a in
    let few = (facts (base_of s) (base_sound_of s h)).few_ports in
    booking_goes s i j h 3 4 r.row r.undoing notification_sent cancel_notification_undoing a
    (base-bookings.announcing_undone (base_of s) i.timed.input j.timed.input (base_sound_of s h) p w b)
    (unqueued 4 (state_after s i) j r.undoing refl)
    0 no_port refl (list_is _ _ r.alike) (announce_found (base_of s) (base_sound_of s h) i.timed.input b r.row) (λ y o. o.stands) (λ y. refl)
    (λ l. absurd (omega arith)) (kept_alarm s i 3 r.row (λ x a. refl))

pub binding_undone : Undoes binding
unfolding base-rows.row_of queue-rows.row_of hands-rows.row_of lowest same_both same_port same_carrier meant_stands see port_of
binding_undone s i j h p w a =
    let r = paired binding i.timed.input j.timed.input p in
    let b = below_yes s i 1 r.row bind_sent a in
    let x = see (base_of s) i.timed.input in
    booking_goes s i j h 1 2 r.row r.undoing bind_sent cancel_bind_undoing a
    (base-bookings.binding_undone (base_of s) i.timed.input j.timed.input (base_sound_of s h) p w b)
    (unqueued 2 (state_after s i) j r.undoing refl)
    x.port (bound_to x.name x.here) refl (list_is _ _ (and_r (eqb i.timed.input.port j.timed.input.port) _ r.alike))
    (bind_new (base_of s) (base_sound_of s h) i.timed.input b r.row) (λ y o. rw o.blank o.stands) (λ y. refl)
    (λ _. record { unload = λ e. e; load = λ e. e; loads = λ e. e }) (kept_alarm s i 1 r.row (λ x a. refl))
