-- CancelCarrier: no record goes, and of its port only transfer and tie change, the tie to the carrier that is named.
use Prim.Native.Nat.{ℕ, ◌≤◌}
use native.Mathlib.Omega.{arith}
use native.Mathlib.Decide.{ℕ_discrete}
use mathlib.Core.Path.{◌≡◌, refl, ◌∙◌}
use mathlib.Core.Logic.{◌≢◌}
use mathlib.Core.Bool.{Bool, true, false, not, cond}
use mathlib.Core.List.{[], ◌∷◌}
use lib.ListN.{length, length-append}
use lib.Dec.{eqb}
use borrow.Author.Tests.{eqb-true, eq-eqb}
use Rattle.records.specs.declared.name.Name.{Name}
use Rattle.records.specs.declared.port.Port.{Port}
use Rattle.records.specs.declared.carrier.Carrier.{Carrier}
use Rattle.records.specs.Names.{no_name, same_name, in_bytes}
use Rattle.records.specs.Ports.{no_port, to_unload}
use Rattle.records.specs.Carriers.{no_carrier, at_port}
use Rattle.records.specs.Fields.{tied_to}
use Rattle.rules.specs.declared.row.Seen.{Seen}
use Rattle.rules.specs.declared.row.Effect.{Effect}
use Rattle.rules.specs.State.{State, port_of, record_of}
use Rattle.rules.specs.Seen.{Input, see}
use Rattle.rules.specs.Row as row
use Rattle.rules.specs.Row.{placed}
use Rattle.rules.specs.Verdict.{cancel_at, cancel_port, cancel_carrier}
use Rattle.rules.specs.Rows as base-rows
use Rattle.rules.specs.Reports.{tie_number, differences}
use Rattle.rules.proofs.Apt.{Apt}
use Rattle.rules.proofs.SoundFacts.{few_ports, distinct}
use Rattle.rules.proofs.SoundParts.{Facts}
use Rattle.rules.proofs.Keep.{port_after, other_port_after}
use Rattle.rules.proofs.KeepSeen.{found_live, found_named, placed_known}
use Rattle.parts.specs.Told.{port_touched, record_touched, touched}
use Rattle.machine.proofs.Differ.{differences_touched}
use Rattle.machine.proofs.Seven.{one_or_none, change_none}
use Rattle.maps.specs.State.{Mapped}
use Rattle.maps.specs.Sound as maps-sound
use Rattle.maps.specs.Rows as maps-rows
use Rattle.maps.specs.Outcome as maps
use Rattle.maps.specs.Projection as maps-runs
use Rattle.maps.proofs.SoundRuns as maps-proofs
use Rattle.queue.specs.State.{Queued, base_of}
use Rattle.queue.specs.Sound.{sound}
use Rattle.queue.specs.Rows as queue-rows
use Rattle.queue.specs.Outcome.{row_in, answer_in, state_after, goes_in}
use Rattle.queue.proofs.Free.{none_zero, nobody_last}
use Rattle.queue.proofs.Below.{base_facts, state_below, apt_below}
use Rattle.queue.proofs.SoundRuns.{sound_parts, below_zero, last_zero}

-- ── How many reports of what it touches ──
port_two : (p : ℕ) (x q : Port) → x.access ≡ q.access → x.reserved ≡ q.reserved → length (port_touched p x q) ≤ 2
unfolding port_touched
port_two p x q u v =
    let a = one_or_none (not (eqb x.transfer q.transfer)) 1 p no_name x.transfer q.transfer in
    let b = change_none 2 p no_name x.access q.access u in
    let c = change_none 3 p no_name x.reserved q.reserved v in
    let d = one_or_none (not (same_name x.tie q.tie)) 4 p no_name (tie_number x.tie) (tie_number q.tie) in
    simp length-append (omega arith)

record_one : (m : ℕ) (gone n : Name) (old new : ℕ) → length (record_touched m gone 0 n old new) ≤ 1
unfolding record_touched
record_one m gone n old new =
    let a = change_none m 0 gone 0 0 refl in
    let b = one_or_none (not (eqb old new)) m 0 n old new in
    simp length-append (omega arith)

touched_five : (x : Port) (w : Carrier) (e : Effect) → x.access ≡ e.becomes.access → x.reserved ≡ e.becomes.reserved
    → length (touched x no_carrier w e) ≤ 5
unfolding touched
touched_five x w e u v =
    let a = port_two e.port x e.becomes u v in
    let b = record_one 5 no_name e.next.name w.id e.next.id in
    let c = record_one 6 no_name e.next.name w.slot e.next.slot in
    let d = record_one 7 no_name e.next.name w.accessing e.next.accessing in
    simp length-append (omega arith)

-- ── Its port ──
record PortSo (before after : Port) (n : Name) : Type 0 where
  access : before.access ≡ after.access
  reserved : before.reserved ≡ after.reserved
  tie : after.transfer ≡ 2 → after.tie ≡ n

module _ (s : State) (i : Input) (f : Facts s) where
  abbrev x : Seen
  x = see s i

  home_tie : x.known ≡ true → at_port x.found ≡ true → x.home.tie ≡ x.name
  unfolding see
  home_tie k a =
      let l = found_live s i f k in
      let o = (f.records x.stands l).stands.at_tied (eqb-true _ 1 a) in
      f.kept x.stands l (λ z. omega arith) ∙ found_named s i f k

  cancel_so : PortSo (port_of s (cancel_at x)) (cond (eqb (cancel_at x) 0) no_port (to_unload (cancel_port x))) x.name
  unfolding see cancel_at cancel_port
  cancel_so = go (placed x) refl (at_port x.found) refl
    where
      none : PortSo (port_of s 0) no_port x.name
      none = rw (none_zero s f) (record { access = refl; reserved = refl; tie = λ e. absurd (omega arith) })

      here : (w : Bool) → eqb x.port 0 ≡ w → PortSo (port_of s x.port) (cond w no_port (to_unload (tied_to x.name x.here))) x.name
      here true e = rw (eqb-true x.port 0 e) none
      here false e = record { access = refl; reserved = refl; tie = λ _. refl }

      home : (w : Bool) → eqb x.found.port 0 ≡ w → x.known ≡ true → at_port x.found ≡ true
          → PortSo (port_of s x.found.port) (cond w no_port (to_unload x.home)) x.name
      home true e k a = rw (eqb-true x.found.port 0 e) none
      home false e k a = record { access = refl; reserved = refl; tie = λ _. home_tie k a }

      go : (w : Bool) → placed x ≡ w → (v : Bool) → at_port x.found ≡ v
          → PortSo (port_of s (cond w (cond v x.found.port 0) x.port))
          (cond (eqb (cond w (cond v x.found.port 0) x.port) 0) no_port
          (to_unload (cond w (cond v x.home no_port) (tied_to x.name x.here)))) x.name
      go true e true a = home (eqb x.found.port 0) refl (placed_known s i f e) a
      go true e false a = none
      go false e v a = here (eqb x.port 0) refl

-- ── The state that follows ──
pub record Cancels (s t : State) (n : Name) : Type 0 where
  pub few : length (differences s t) ≤ 5
  -- a port that becomes READY TO UNLOAD is tied to the carrier that is named
  pub tie : (p : ℕ) → (port_of t p).transfer ≡ 2 → (port_of s p).transfer ≢ 2 → (port_of t p).tie ≡ n

module _ (s : Mapped) (i : Input) (h : maps-sound.sound s ≡ true) (a : eqb (maps.answer_in s i) 0 ≡ true) (z : i.number ≡ 6) where
  abbrev e : Effect
  e = (cancel_carrier (see s.base i)).effect

  abbrev f : Facts s.base
  f = base_facts s h

  row_six : (maps.row_in s i).effect ≡ e
  unfolding maps-rows.row_of base-rows.row_of
  row_six = rw z

  apt : Apt s.base e
  apt = rw row_six at (apt_below s i h a)

  name_is : (see s.base i).name ≡ in_bytes i.name
  unfolding see
  name_is = refl

  six_goes : (maps.row_in s i).effect.goes ≡ length s.base.carriers
  unfolding see
  six_goes = rw row_six

  so : PortSo (port_of s.base e.port) e.becomes (see s.base i).name
  so = cancel_so s.base i f

  six_few : length (differences s.base (row.enact e s.base)) ≤ 5
  unfolding see
  six_few =
      let b = (maps-proofs.sound_parts s h).base in
      rw (differences_touched s.base e (few_ports s.base b) (distinct s.base b) apt, nobody_last s.base)
      (touched_five (port_of s.base e.port) (record_of s.base e.changes) e so.access so.reserved)

  six_tie : (p : ℕ) → (port_of (row.enact e s.base) p).transfer ≡ 2 → (port_of s.base p).transfer ≢ 2
      → (port_of (row.enact e s.base) p).tie ≡ in_bytes i.name
  six_tie p = go (ℕ_discrete p e.port)
    where
      go : Dec (p ≡ e.port) → (port_of (row.enact e s.base) p).transfer ≡ 2 → (port_of s.base p).transfer ≢ 2
          → (port_of (row.enact e s.base) p).tie ≡ in_bytes i.name
      go (no d) o n = absurd (n (rw (other_port_after s.base f e apt p d) at o))
      go (yes q) o _ =
          let k = port_after s.base f e apt in
          rw (q, k) (so.tie (rw (q, k) at o)) ∙ name_is

  six_cancels : Cancels s.base (maps.state_after s i).base (in_bytes i.name)
  six_cancels = rw (state_below s i h a, row_six) (record { few = six_few; tie = six_tie })

module _ (s : Queued) (i : Input) (h : sound s ≡ true) (a : answer_in s i ≡ 0) (z : i.number ≡ 6) where
  stands_is : (row_in s i).stands ≡ i ∷ []
  unfolding queue-rows.row_of
  stands_is = rw z

  accepts : eqb (maps.answer_in s.mapped i) 0 ≡ true
  unfolding maps-runs.reached
  accepts = last_zero s.mapped i [] (rw stands_is at (below_zero s i (eq-eqb _ 0 a)))

  pub none_goes : goes_in s.mapped (row_in s i).stands ≡ length (base_of s).carriers
  unfolding goes_in maps-runs.reached
  none_goes = rw stands_is (six_goes s.mapped i (sound_parts s h).mapped accepts z)

  pub cancels : Cancels (base_of s) (base_of (state_after s i)) (in_bytes i.name)
  unfolding state_after maps-runs.reached
  cancels = rw (a, stands_is) (six_cancels s.mapped i (sound_parts s h).mapped accepts z)
