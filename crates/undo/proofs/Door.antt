-- Open and Close: only the carrier's door changes.
use Prim.Native.Nat.{ℕ, ◌<◌}
use native.Mathlib.Decide.{ℕ_discrete}
use mathlib.Core.Path.{◌≡◌, refl, ap, ◌∙◌}
use mathlib.Core.Bool.{true}
use lib.ListN.{length, length-set, get_or}
use lib.Seq.{get_or-set_same, get_or-set_other}
use Rattle.records.specs.declared.carrier.Carrier.{Carrier}
use Rattle.records.specs.Ports.{no_port}
use Rattle.records.specs.Carriers.{no_carrier}
use Rattle.records.specs.Fields.{with_opened}
use Rattle.rules.specs.declared.row.Seen.{Seen}
use Rattle.rules.specs.declared.row.Effect.{Effect}
use Rattle.rules.specs.State.{State, spot_of, port_of, record_of}
use Rattle.rules.specs.Seen.{narrow, see}
use Rattle.rules.specs.Row as row
use Rattle.rules.specs.Row.{lowest, on_record}
use Rattle.rules.specs.Rows as base-rows
use Rattle.rules.specs.Undoing.{opening_door}
use Rattle.rules.proofs.SoundParts.{facts}
use Rattle.rules.proofs.KeepSeen.{found_live}
use Rattle.rules.proofs.Undone.{paired}
use Rattle.rules.proofs.UndoneDoor as base-door
use Rattle.rules.proofs.UndoneDoor.{with_record_at, record_enacted, open_found}
use Rattle.queue.specs.Rows as queue-rows
use Rattle.prediction.specs.Sound.{is_ready}
use Rattle.wafers.specs.Outcome.{Brought}
use Rattle.hands.specs.State.{Handled, base_of, alarm_of}
use Rattle.hands.specs.Sound.{sound}
use Rattle.hands.specs.Rows as hands-rows
use Rattle.hands.specs.Outcome.{answer_in, state_after}
use Rattle.hands.proofs.Sounds.{alarms_part}
use Rattle.undo.specs.Undoing.{Undoes}
use Rattle.undo.proofs.Stepped.{effect, after}
use Rattle.undo.proofs.Passing.{kept_alarm, open_sent, close_undoing}
use Rattle.undo.proofs.Turned.{as_it_was, ready_before, settled_back}
use Rattle.undo.proofs.Paired.{t, first_effect, second_effect, records_stay}
use Rattle.undo.proofs.Ports.{base_sound_of, unqueued, below_yes}

-- a carrier whose door is open is where it was
module _ (s : State) (k : ℕ) (live : k < length s.carriers) where
  abbrev opened : Carrier
  opened = with_opened 1 (get_or s.carriers k no_carrier)

  abbrev then : State
  then = with_record_at s k opened

  stays_put : (j : ℕ) → is_ready then (get_or then.carriers j no_carrier) ≡ true → is_ready s (get_or s.carriers j no_carrier) ≡ true
  unfolding port_of
  stays_put j = go (ℕ_discrete j k)
    where
      same : (o d : Carrier) → d.place ≡ o.place → d.port ≡ o.port → is_ready then d ≡ true → is_ready s o ≡ true
      same o d p q = ready_before s then o d p q (as_it_was (port_of s o.port))

      go : Dec (j ≡ k) → is_ready then (get_or then.carriers j no_carrier) ≡ true → is_ready s (get_or s.carriers j no_carrier) ≡ true
      go (yes z) = rw (z, get_or-set_same s.carriers k opened no_carrier live) (same (get_or s.carriers k no_carrier) opened refl refl)
      go (no d) = rw (get_or-set_other s.carriers k j opened no_carrier d) (same (get_or s.carriers j no_carrier) (get_or s.carriers j no_carrier) refl refl)

module _ (s : Handled) (i j : Brought) (h : sound s ≡ true) (is : i.timed.input.number ≡ 19) (js : j.timed.input.number ≡ 23) (a : answer_in s i ≡ 0) where
  abbrev x : Seen
  x = see (base_of s) i.timed.input

  abbrev between : State
  between = with_record_at (base_of s) x.stands (with_opened 1 x.found)

  effect_open : effect s i (t s i j h 19 23 is js open_sent close_undoing a) ≡ on_record x.count x.stands (with_opened 1 x.found)
  unfolding base-rows.row_of
  effect_open = first_effect s i j h 19 23 is js open_sent close_undoing a

  after_open : after s i (t s i j h 19 23 is js open_sent close_undoing a) ≡ between
  unfolding see
  after_open =
      ap (λ w. row.enact w (base_of s)) effect_open
      ∙ record_enacted (base_of s) (facts (base_of s) (base_sound_of s h)).few_ports x.stands (with_opened 1 x.found)

  still_ready : (k : ℕ) → is_ready between (get_or between.carriers k no_carrier) ≡ true → is_ready (base_of s) (get_or (base_of s).carriers k no_carrier) ≡ true
  unfolding see record_of
  still_ready =
      let b = below_yes s i 19 is open_sent a in
      let g = open_found (base_of s) (base_sound_of s h) i.timed.input b is in
      stays_put (base_of s) x.stands (found_live (base_of s) i.timed.input (facts (base_of s) (base_sound_of s h)) g.known)

pub opening_undone : Undoes opening_door
unfolding base-rows.row_of queue-rows.row_of hands-rows.row_of lowest see alarm_of
opening_undone s i j h p w a =
    let r = paired opening_door i.timed.input j.timed.input p in
    let b = below_yes s i 19 r.row open_sent a in
    let e = effect_open s i j h r.row r.undoing a in
    let f = after_open s i j h r.row r.undoing a in
    let x = see (base_of s) i.timed.input in
    records_stay s i j h 19 23 r.row r.undoing open_sent close_undoing a
    (base-door.opening_undone (base_of s) i.timed.input j.timed.input (base_sound_of s h) p w b)
    (unqueued 23 (state_after s i) j r.undoing refl)
    (ap (λ (e : Effect). e.goes) e) (ap (λ (e : Effect). e.made) e)
    (ap (λ (e : Effect). e.goes) (second_effect s i j h 19 23 r.row r.undoing open_sent close_undoing a))
    (ap (λ (e : Effect). e.made) (second_effect s i j h 19 23 r.row r.undoing open_sent close_undoing a))
    (ap (λ (b : State). length b.carriers) f ∙ length-set (base_of s).carriers x.stands (with_opened 1 x.found))
    (rw f (still_ready s i j h r.row r.undoing a))
    (rw (kept_alarm s i 19 r.row (λ x a. refl), f)
    (settled_back (base_of s).ports (base_of s).ports s.alarms (spot_of (narrow i.timed.input.port)) (alarms_part s h) refl
    (λ k. as_it_was (get_or (base_of s).ports k no_port))))
