-- Pairs of rows that change only a port.
use Prim.Native.Nat.{ℕ}
use mathlib.Core.Path.{◌≡◌, refl, ap, sym, ◌∙◌}
use mathlib.Core.Bool.{Bool, true, false, not, cond, ◌&&◌}
use mathlib.Core.List.{List}
use lib.ListN.{length, length-set, get_or, set}
use lib.Dec.{eqb}
use borrow.Author.Tests.{eqb-true, eq-eqb}
use Rattle.lists.specs.Lists.{any}
use Rattle.lists.proofs.Bools.{clash, and_l, and_r}
use Rattle.lists.proofs.Parts.{any_found}
use Rattle.records.specs.declared.port.Port.{Port}
use Rattle.records.specs.Names.{no_name, same_name}
use Rattle.records.specs.Ports.{no_port, reserved, ready_to_load, start_load, start_unload}
use Rattle.records.specs.Ports as port
use Rattle.records.specs.Carriers.{no_carrier}
use Rattle.records.specs.Fields.{with_access, with_transfer, with_reserved}
use Rattle.rules.specs.declared.row.Seen.{Seen}
use Rattle.rules.specs.declared.row.Effect.{Effect}
use Rattle.rules.specs.State.{State, spot_of, port_of}
use Rattle.rules.specs.Sound as base_sound
use Rattle.rules.specs.Seen.{narrow, see}
use Rattle.rules.specs.Row as row
use Rattle.rules.specs.Row.{lower, lowest, on_port}
use Rattle.rules.specs.Rows as base-rows
use Rattle.rules.specs.Outcome as base
use Rattle.rules.specs.Undoing as base-pairs
use Rattle.rules.specs.Undoing.{same_port, always, reserving, releasing, loading, changing_access, taking_out}
use Rattle.rules.proofs.Undone.{paired}
use Rattle.rules.proofs.UndonePorts as base-ports
use Rattle.rules.proofs.UndonePorts.{with_port_at, port_enacted, reserve_found, unload_found, load_found}
use Rattle.queue.specs.Requests.{no_request, started_to}
use Rattle.queue.specs.Sound.{kept_free}
use Rattle.queue.specs.Rows as queue-rows
use Rattle.queue.specs.Outcome as queue
use Rattle.queue.specs.declared.request.Request.{Request}
use Rattle.queue.proofs.Lines.{Line, kept_at}
use Rattle.queue.proofs.SoundRuns as queue-sound
use Rattle.prediction.specs.Sound.{is_ready}
use Rattle.prediction.proofs.Sounds.{queue_part}
use Rattle.wafers.specs.Outcome.{Brought}
use Rattle.hands.specs.declared.alarm.Alarm.{Alarm}
use Rattle.hands.specs.Alarms.{raised}
use Rattle.hands.specs.State.{Handled, base_of, alarm_of}
use Rattle.hands.specs.Sound.{sound}
use Rattle.hands.specs.Rows as hands-rows
use Rattle.hands.specs.Rows.{manual, in_auto}
use Rattle.hands.specs.Outcome.{row_in, answer_in, state_after}
use Rattle.hands.proofs.Sounds.{predicted_part, alarms_part, base_part}
use Rattle.undo.specs.Undoing.{no_violation, unloading, TakenBack, Undoes}
use Rattle.undo.proofs.Stepped.{effect, after, queue_is}
use Rattle.undo.proofs.Passing.{Sent, passes, no_map_fact, kept_alarm, Undoing, access_sent, service_sent, reserve_sent}
use Rattle.undo.proofs.Passing.{cancel_reservation_sent, load_sent, unload_sent, reserve_undoing}
use Rattle.undo.proofs.Passing.{access_undoing, service_undoing, cancel_reservation_undoing, load_fail_undoing, unload_fail_undoing}
use Rattle.undo.proofs.Lifted.{base_yes}
use Rattle.undo.proofs.Turned.{Turns, all_turn, ready_before, settled_back, raised_back}
use Rattle.undo.proofs.Paired.{t, first_effect, second_effect, AlarmsBack, records_stay}

pub base_sound_of : (s : Handled) → sound s ≡ true → base_sound.sound (base_of s) ≡ true
base_sound_of s h = base_part s.predicted (predicted_part s h)

-- ── One port turns, and turns back ──
module _ (s : Handled) (i j : Brought) (h : sound s ≡ true) (n m : ℕ) (is : i.timed.input.number ≡ n) (js : j.timed.input.number ≡ m)
    (sent : Sent n) (undoing : Undoing m) (yes : answer_in s i ≡ 0) where
  abbrev x : Seen
  x = see (base_of s) i.timed.input

  module _ (pair : base-pairs.TakenBack (base_of s) i.timed.input j.timed.input)
      (free : lowest (queue.row_in (state_after s i).predicted.queued j.timed.input).grounds ≡ 0)
      (q : Port) (is-port : (base-rows.row_of n x).effect ≡ on_port x.count x.port q)
      (leaves : (y : Seen) → (base-rows.row_of m y).effect.goes ≡ y.count) (makes : (y : Seen) → (base-rows.row_of m y).effect.made ≡ false)
      (turns : Turns x.here q) where
    abbrev Back : Type 0
    Back = AlarmsBack s i j h n m is js sent undoing yes pair free

    effect_port : effect s i (t s i j h n m is js sent undoing yes) ≡ on_port x.count x.port q
    effect_port = first_effect s i j h n m is js sent undoing yes ∙ is-port

    after_port : after s i (t s i j h n m is js sent undoing yes) ≡ with_port_at (base_of s) x.port q
    unfolding see
    after_port = ap (λ w. row.enact w (base_of s)) effect_port ∙ port_enacted (base_of s) x.port q

    each_turns : (k : ℕ) → Turns (get_or (base_of s).ports k no_port) (get_or (set (base_of s).ports (spot_of x.port) q) k no_port)
    unfolding see port_of
    each_turns = all_turn (base_of s).ports (spot_of x.port) q (λ _. turns)

    ready : (k : ℕ) → is_ready (with_port_at (base_of s) x.port q) (get_or (base_of s).carriers k no_carrier) ≡ true
        → is_ready (base_of s) (get_or (base_of s).carriers k no_carrier) ≡ true
    unfolding port_of
    ready k = let c = get_or (base_of s).carriers k no_carrier in
        ready_before (base_of s) (with_port_at (base_of s) x.port q) c c refl refl (each_turns (spot_of c.port))

    turns_back : Back → TakenBack s i j
    unfolding see
    turns_back =
        records_stay s i j h n m is js sent undoing yes pair free (ap (λ (e : Effect). e.goes) effect_port) (ap (λ (e : Effect). e.made) effect_port)
        (ap (λ (e : Effect). e.goes) (second_effect s i j h n m is js sent undoing yes) ∙ leaves _)
        (ap (λ (e : Effect). e.made) (second_effect s i j h n m is js sent undoing yes) ∙ makes _)
        (ap (λ (b : State). length b.carriers) after_port) (rw after_port ready)

    abbrev k : ℕ
    k = spot_of (narrow i.timed.input.port)

    -- a row that leaves the alarm of its port
    pub alarm_left : (row_in s i).alarm ≡ alarm_of s (narrow i.timed.input.port) → TakenBack s i j
    unfolding see alarm_of
    alarm_left own =
        turns_back
        (rw (own, after_port)
        (settled_back (base_of s).ports (set (base_of s).ports k q) s.alarms k (alarms_part s h) (length-set (base_of s).ports k q) each_turns))

    -- one that may raise it, at a port READY TO LOAD
    pub alarm_cleared : ready_to_load x.here ≡ true → port.loading x.here ≡ false → TakenBack s i j
    unfolding see port_of
    alarm_cleared e f =
        turns_back
        (rw after_port
        (raised_back (base_of s).ports (set (base_of s).ports k q) s.alarms k (alarms_part s h) (length-set (base_of s).ports k q) each_turns (row_in s i).alarm e f))

-- ── Rows that the queue leaves alone, and CancelReservationAtPort ──
pub unqueued : (m : ℕ) (s : Handled) (j : Brought) → j.timed.input.number ≡ m
    → lowest (queue-rows.row_of m (base_of s) s.predicted.queued.queue (see (base_of s) j.timed.input) j.timed.input).grounds ≡ 0
    → lowest (queue.row_in s.predicted.queued j.timed.input).grounds ≡ 0
unqueued m s j e z =
    ap (λ k. lowest (queue-rows.row_of k (base_of s) s.predicted.queued.queue (see (base_of s) j.timed.input) j.timed.input).grounds) e ∙ z

-- no request is started to a port that isn't reserved
none_started : (s : Handled) → sound s ≡ true → (p : ℕ) → (port_of (base_of s) p).reserved ≡ 0 → any (started_to p) s.predicted.queued.queue ≡ false
unfolding kept_free
none_started s h p e = go (any (started_to p) q) refl
  where
    q : List Request
    q = s.predicted.queued.queue

    l : Line (base_of s) q
    l = (queue-sound.sound_parts s.predicted.queued (queue_part s.predicted (predicted_part s h))).line

    go : (w : Bool) → any (started_to p) q ≡ w → w ≡ false
    go true f =
        let k = any_found (started_to p) q no_request f in
        let r = get_or q k.0 no_request in
        let z : r.port ≡ p = eqb-true _ _ (and_l _ _ k.2) in
        let c = kept_at (base_of s) q l k.0 k.1 (and_r (eqb r.port p) _ k.2) in
        clash (and_r (same_name (port_of (base_of s) r.port).tie no_name) _ (and_l _ (ready_to_load (port_of (base_of s) r.port)) c)) (rw (z, e))
    go false f = refl

-- ── The pairs ──
-- document 01 accepts the first, too
pub below_yes : (s : Handled) (i : Brought) (n : ℕ) → i.timed.input.number ≡ n → Sent n → answer_in s i ≡ 0 → base.answer_in (base_of s) i.timed.input ≡ 0
below_yes s i n is sent a = base_yes s i (passes s i n is sent) (no_map_fact s i n is sent) a

pub reserving_undone : Undoes reserving
unfolding base-rows.row_of queue-rows.row_of hands-rows.row_of lowest lower same_port see
reserving_undone s i j h p w a =
    let r = paired reserving i.timed.input j.timed.input p in
    let b = below_yes s i 11 r.row reserve_sent a in
    let x = see (base_of s) i.timed.input in
    let g = reserve_found (base_of s) (base_sound_of s h) i.timed.input b r.row in
    let same : j.timed.input.port ≡ i.timed.input.port = sym (eqb-true _ _ r.alike) in
    alarm_left s i j h 11 12 r.row r.undoing reserve_sent cancel_reservation_undoing a
    (base-ports.reserving_undone (base_of s) i.timed.input j.timed.input (base_sound_of s h) p w b)
    (unqueued 12 (state_after s i) j r.undoing
    (rw (same, queue_is s i (passes s i 11 r.row reserve_sent) a, none_started s h x.port g.reserved)))
    (with_reserved 1 x.here) refl (λ y. refl) (λ y. refl) (record { unload = λ e. e; load = λ e. e; loads = λ e. e })
    (kept_alarm s i 11 r.row (λ x a. refl))

pub releasing_undone : Undoes releasing
unfolding base-rows.row_of queue-rows.row_of hands-rows.row_of lowest
releasing_undone s i j h p w a =
    let r = paired releasing i.timed.input j.timed.input p in
    let b = below_yes s i 12 r.row cancel_reservation_sent a in
    let x = see (base_of s) i.timed.input in
    alarm_left s i j h 12 11 r.row r.undoing cancel_reservation_sent reserve_undoing a
    (base-ports.releasing_undone (base_of s) i.timed.input j.timed.input (base_sound_of s h) p w b)
    (unqueued 11 (state_after s i) j r.undoing refl)
    (with_reserved 0 x.here) refl (λ y. refl) (λ y. refl) (record { unload = λ e. e; load = λ e. e; loads = λ e. e })
    (kept_alarm s i 12 r.row (λ x a. refl))

pub changing_access_undone : Undoes changing_access
unfolding base-rows.row_of queue-rows.row_of hands-rows.row_of lowest
changing_access_undone s i j h p w a =
    let r = paired changing_access i.timed.input j.timed.input p in
    let b = below_yes s i 9 r.row access_sent a in
    let x = see (base_of s) i.timed.input in
    alarm_left s i j h 9 9 r.row r.undoing access_sent access_undoing a
    (base-ports.changing_access_undone (base_of s) i.timed.input j.timed.input (base_sound_of s h) p w b)
    (unqueued 9 (state_after s i) j r.undoing refl)
    (with_access x.value x.here) refl (λ y. refl) (λ y. refl) (record { unload = λ e. e; load = λ e. e; loads = λ e. e })
    (kept_alarm s i 9 r.row (λ x a. refl))

-- out of service it is neither READY TO LOAD nor READY TO UNLOAD
pub taking_out_undone : Undoes taking_out
unfolding base-rows.row_of queue-rows.row_of hands-rows.row_of lowest
taking_out_undone s i j h p w a =
    let r = paired taking_out i.timed.input j.timed.input p in
    let b = below_yes s i 10 r.row service_sent a in
    let x = see (base_of s) i.timed.input in
    alarm_left s i j h 10 10 r.row r.undoing service_sent service_undoing a
    (base-ports.taking_out_undone (base_of s) i.timed.input j.timed.input (base_sound_of s h) p w b)
    (unqueued 10 (state_after s i) j r.undoing refl)
    (with_transfer 0 x.here) (rw w) (λ y. refl) (λ y. refl) (record { unload = λ e. clash e refl; load = λ e. clash e refl; loads = λ e. e })
    (kept_alarm s i 10 r.row (λ x a. refl))

-- BLOCKED it is neither; and an idle port isn't loading
not_loading : (q : Port) → q.movement ≡ 0 → port.loading q ≡ false
not_loading q e = rw e

-- with no start by hand in AUTO no alarm is raised
unraised : (b : Bool) (a : Alarm) → not b ≡ true → cond b (raised a) a ≡ a
unraised true a e = clash e refl
unraised false a e = refl

pub unloading_undone : Undoes unloading
unfolding base-rows.row_of queue-rows.row_of hands-rows.row_of lowest no_violation always base-pairs.is_pair
unloading_undone s i j h p w a =
    let r = paired unloading i.timed.input j.timed.input p in
    let b = below_yes s i 24 r.row unload_sent a in
    let x = see (base_of s) i.timed.input in
    let g = unload_found (base_of s) (base_sound_of s h) i.timed.input b r.row in
    alarm_left s i j h 24 26 r.row r.undoing unload_sent unload_fail_undoing a
    (base-ports.unloading_undone (base_of s) i.timed.input j.timed.input (base_sound_of s h) p refl b)
    (unqueued 26 (state_after s i) j r.undoing refl)
    (start_unload x.here) refl (λ y. refl) (λ y. refl)
    (record { unload = λ e. clash e refl; load = λ e. clash e refl; loads = λ e. clash e (not_loading x.here g.movement) })
    (ap (λ k. (hands-rows.row_of k x (alarm_of s (narrow i.timed.input.port)) i).alarm) r.row ∙ unraised (manual x && in_auto x) _ w)

-- the alarm that LoadStart may raise clears again at READY TO LOAD
pub loading_undone : Undoes loading
unfolding base-rows.row_of queue-rows.row_of hands-rows.row_of lowest
loading_undone s i j h p w a =
    let r = paired loading i.timed.input j.timed.input p in
    let b = below_yes s i 13 r.row load_sent a in
    let x = see (base_of s) i.timed.input in
    let g = load_found (base_of s) (base_sound_of s h) i.timed.input b r.row in
    alarm_cleared s i j h 13 15 r.row r.undoing load_sent load_fail_undoing a
    (base-ports.loading_undone (base_of s) i.timed.input j.timed.input (base_sound_of s h) p w b)
    (unqueued 15 (state_after s i) j r.undoing refl)
    (start_load x.here) refl (λ y. refl) (λ y. refl)
    (record { unload = λ e. clash e refl; load = λ e. clash e refl; loads = λ e. refl })
    (eq-eqb x.here.transfer 1 g.transfer) (not_loading x.here g.movement)
