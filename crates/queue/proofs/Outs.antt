-- OutStart's and OutDone's inputs below: row 11 keeps the port free; rows 12 and 7 are accepted, and together they are one effect.
use Prim.Native.Nat.{ℕ, ◌-◌, ◌<◌, ◌≤◌}
use native.Mathlib.Omega.{arith}
use mathlib.Core.Path.{◌≡◌, refl, ap, sym, subst, ◌∙◌}
use mathlib.Core.Bool.{Bool, true, false, not}
use mathlib.Core.List.{List, []}
use lib.ListN.{length, set, length-set}
use lib.Seq.{set_out, set-set, get_or-set_same}
use lib.Dec.{eqb, leb}
use borrow.Author.Tests.{eqb-true, leb-true, eq-eqb, ne_eqb, lt-ltb}
use Rattle.lists.specs.Lists.{between}
use Rattle.lists.proofs.Bools.{clash, and_l, and_r, and_i, or_false_l, or_false_r}
use Rattle.lists.proofs.Tables.{without_out}
use Rattle.records.specs.declared.name.Name.{Name}
use Rattle.records.specs.declared.port.Port.{Port}
use Rattle.records.specs.Names.{no_name, same_name, holds_name}
use Rattle.records.specs.Ports.{no_port, reserved, handed_out}
use Rattle.records.specs.Carriers.{no_carrier, in_buffer, is_open, in_access, taken_out}
use Rattle.records.specs.Fields.{with_reserved}
use Rattle.rules.specs.declared.row.Seen.{Seen}
use Rattle.rules.specs.declared.row.Effect.{Effect}
use Rattle.rules.specs.State.{State, spot_of, port_of, record_of}
use Rattle.rules.specs.Seen.{Input, name_stands, tie_stands, narrow, see}
use Rattle.rules.specs.Row as row
use Rattle.rules.specs.Row.{judge, on_port, on_both}
use Rattle.rules.specs.Service.{reserve_at_port, cancel_reservation_at_port}
use Rattle.rules.specs.Buffer.{carrier_out}
use Rattle.rules.specs.Inputs.{ReserveAtPort, CancelReservationAtPort, CarrierOut}
use Rattle.rules.specs.Rows as base
use Rattle.rules.proofs.Names.{name_same}
use Rattle.rules.proofs.Accepts.{Clear, clear}
use Rattle.rules.proofs.Apt.{Apt}
use Rattle.rules.proofs.SoundParts.{Facts}
use Rattle.rules.proofs.KeepSeen.{given_range, held_live, held_tied, nobody_tied}
use Rattle.rules.proofs.Keep.{port_after}
use Rattle.follow.specs.Follow.{followed}
use Rattle.maps.specs.Expected.{carries, new_map}
use Rattle.maps.specs.State.{Mapped}
use Rattle.maps.specs.Sound as maps-sound
use Rattle.maps.specs.Rows as maps-rows
use Rattle.maps.specs.Outcome as maps
use Rattle.maps.proofs.SoundRuns as maps-runs
use Rattle.queue.specs.Requests.{carrier_of, may_leave}
use Rattle.queue.specs.Sound.{kept_free}
use Rattle.queue.specs.Rows.{text_of}
use Rattle.queue.proofs.Free.{Free, free_is, nobody_there}
use Rattle.queue.proofs.Texts.{text_in_bytes, text_is_name}
use Rattle.queue.proofs.After.{stored_live, name_held}
use Rattle.queue.proofs.Below.{base_facts, answer_below, state_below, apt_below}

accepted_then : (s : Mapped) (i : Input) → maps.answer_in s i ≡ 0
    → maps.state_after s i ≡ maps.enact (maps.row_in s i).effect (new_map i.number i.codes) s
unfolding maps.state_after
accepted_then s i e = rw e

-- ── OutStart: row 11 ──
module _ (s : Mapped) (port : ℕ) (h : maps-sound.sound s ≡ true) (a : eqb (maps.answer_in s (ReserveAtPort port)) 0 ≡ true) where
  abbrev i : Input
  i = ReserveAtPort port

  abbrev x : Seen
  x = see s.base i

  abbrev f : Facts s.base
  f = base_facts s h

  no_map_fact : carries 11 ≡ false
  unfolding carries
  no_map_fact = refl

  reserves : Clear (reserve_at_port x).grounds
  unfolding base.row_of
  reserves = clear (reserve_at_port x).grounds refl (sym (answer_below s i no_map_fact) ∙ eqb-true _ 0 a)

  -- nobody is tied there, and so the port is tied to none
  no_tie : x.tied ≡ false → x.isport ≡ true → same_name x.here.tie no_name ≡ true
  unfolding see
  no_tie t p = go (same_name (port_of s.base x.port).tie no_name) refl
    where
      go : (w : Bool) → same_name (port_of s.base x.port).tie no_name ≡ w → w ≡ true
      go true e = refl
      go false e =
          let r = (given_range s.base i f p).0 in
          let k = f.held x.port r (λ z. clash (name_same _ _ z) e) in
          absurd (nobody_tied s.base i f t r k.0 k.1 k.2)

  effect_is : (maps.row_in s i).effect ≡ on_port x.count x.port (with_reserved 1 x.here)
  unfolding maps-rows.row_of base.row_of
  effect_is = refl

  pub start_frees : kept_free (port_of (maps.state_after s i).base (narrow port)) ≡ true
  unfolding kept_free see
  start_frees =
      let e = (maps.row_in s i).effect in
      let c = reserves in
      rw (state_below s i h a, effect_is)
      (subst (λ q. kept_free q ≡ true)
      (sym (port_after s.base f _ (subst (λ e. Apt s.base e) effect_is (apt_below s i h a))))
      (and_i (and_i (no_tie (or_false_r (reserved x.here) _ c.1.0) c.0) refl) c.1.1.0))

  -- it wasn't reserved before
  pub was_free : kept_free (port_of s.base (narrow port)) ≡ true → ⊥
  unfolding see
  was_free k =
      clash (eq-eqb _ 1 (free_is (port_of s.base (narrow port)) k).reserved)
      (or_false_l (reserved x.here) _ reserves.1.0)

-- ── OutDone: rows 12 and 7 ──
-- only a port changes
port_only : (s : State) (p : ℕ) (q : Port)
    → row.enact (on_port (length s.carriers) p q) s
    ≡ record { ports = set s.ports (spot_of p) q; carriers = s.carriers; places = s.places }
unfolding row.enact
port_only s p q =
    let n = length s.carriers in
    rw (set_out s.carriers n no_carrier (omega arith), without_out s.carriers n (omega arith))

-- what comes out, as one effect: the reservation ends, and row 7's
abbrev pub hands_out : State → ℕ → Name → Effect
hands_out s p n =
    on_both (length s.carriers) p (handed_out n (with_reserved 0 (port_of s p))) (name_stands s n) (taken_out p (carrier_of s n))

-- what makes both of them accepted: a port of the tool that is kept free, a carrier in the buffer that is closed and not in access
pub record CanComeOut (s : State) (p : ℕ) (n : Name) : Type 0 where
  pub within : between 1 p (length s.ports) ≡ true
  pub wide : length n.bytes ≡ 16
  pub stored : in_buffer (carrier_of s n) ≡ true
  pub shut : may_leave (carrier_of s n) ≡ true
  pub kept : kept_free (port_of s p) ≡ true

-- a port of the tool stands in its list
pub spot_in : (p m : ℕ) → between 1 p m ≡ true → spot_of p < m
spot_in p m w =
    let a = leb-true 1 p (and_l _ _ w) in
    let b = leb-true p m (and_r (leb 1 p) _ w) in
    let z : spot_of p ≡ p - 1 = rw (ne_eqb p 0 (λ e. omega arith)) in
    omega arith

module _ (s : Mapped) (port : ℕ) (n : Name) (h : maps-sound.sound s ≡ true) (c : CanComeOut s.base (narrow port) n) where
  abbrev p : ℕ
  p = narrow port

  abbrev done : Facts s.base
  done = base_facts s h

  abbrev ends : Input
  ends = CancelReservationAtPort port

  abbrev comes : Input
  comes = CarrierOut (text_of n) port

  free : Free (port_of s.base p)
  free = free_is (port_of s.base p) c.kept

  no_map_12 : carries 12 ≡ false
  unfolding carries
  no_map_12 = refl

  no_map_7 : carries 7 ≡ false
  unfolding carries
  no_map_7 = refl

  held_there : (see s.base ends).tied ≡ true → (record_of s.base (see s.base ends).holds).port ≡ p
  unfolding see
  held_there t = held_tied s.base ends done t

  untied_there : (see s.base ends).tied ≡ false
  untied_there = go (see s.base ends).tied refl
    where
      go : (w : Bool) → (see s.base ends).tied ≡ w → w ≡ false
      go true t =
          absurd (nobody_there s.base ends done p c.kept (see s.base ends).holds (held_live s.base ends done t) (held_there t))
      go false t = refl

  first_accepts : judge (cancel_reservation_at_port (see s.base ends)).grounds ≡ 0
  unfolding see
  first_accepts = rw (c.within, untied_there, free.reserved)

  pub first_zero : maps.answer_in s ends ≡ 0
  unfolding base.row_of
  first_zero = answer_below s ends no_map_12 ∙ first_accepts

  -- between the two
  abbrev left : Port
  left = with_reserved 0 (port_of s.base p)

  abbrev mid : State
  mid = record { ports = set s.base.ports (spot_of p) left; carriers = s.base.carriers; places = s.base.places }

  first_effect : (maps.row_in s ends).effect ≡ on_port (length s.base.carriers) p left
  unfolding maps-rows.row_of base.row_of see
  first_effect = refl

  mid_is : (maps.state_after s ends).base ≡ mid
  mid_is = state_below s ends h (eq-eqb _ 0 first_zero) ∙ rw first_effect (port_only s.base p left)

  abbrev y : Seen
  y = see mid comes

  holds_name_fact : holds_name n ≡ true
  holds_name_fact = name_held s.base n c.stored done

  name_then : y.name ≡ n
  unfolding see
  name_then = text_in_bytes n holds_name_fact c.wide

  named_then : y.named ≡ true
  unfolding see
  named_then = text_is_name n holds_name_fact c.wide

  port_then_fact : y.isport ≡ true
  unfolding see
  port_then_fact = rw length-set c.within

  here_then : y.here ≡ left
  unfolding see port_of
  here_then = get_or-set_same s.base.ports (spot_of p) left no_port (spot_in p _ c.within)

  stands_then : y.stands ≡ name_stands s.base n
  unfolding see name_stands
  stands_then = rw name_then

  found_then : y.found ≡ carrier_of s.base n
  unfolding see carrier_of record_of
  found_then = rw stands_then

  known_then : y.known ≡ true
  unfolding see
  known_then = rw stands_then (lt-ltb (name_stands s.base n) (length s.base.carriers) (stored_live s.base n c.stored))

  tied_then : y.tied ≡ false
  unfolding see tie_stands
  tied_then = untied_there

  second_accepts : judge (carrier_out y).grounds ≡ 0
  unfolding may_leave
  second_accepts =
      let d = carrier_of s.base n in
      let o : not (is_open d) ≡ true = and_l _ _ c.shut in
      let a : not (in_access d) ≡ true = and_r (not (is_open d)) _ c.shut in
      rw (named_then, port_then_fact, known_then, here_then, tied_then, found_then, c.stored, o, a, free.ready)

  pub second_zero : maps.answer_in (maps.state_after s ends) comes ≡ 0
  unfolding base.row_of
  second_zero = answer_below (maps.state_after s ends) comes no_map_7 ∙ rw mid_is second_accepts

  second_effect : (maps.row_in (maps.state_after s ends) comes).effect
      ≡ on_both y.count y.port (handed_out y.name y.here) y.stands (taken_out y.port y.found)
  unfolding maps-rows.row_of base.row_of
  second_effect = rw mid_is

  count_then : y.count ≡ length s.base.carriers
  unfolding see
  count_then = refl

  at_port_fact : y.port ≡ p
  unfolding see
  at_port_fact = refl

  pub hands_out_fact : (maps.row_in (maps.state_after s ends) comes).effect ≡ hands_out s.base p n
  hands_out_fact = second_effect ∙ rw (count_then, at_port_fact, name_then, here_then, stands_then, found_then)

  -- both together are the one effect
  pub together : (maps.state_after (maps.state_after s ends) comes).base ≡ row.enact (hands_out s.base p n) s.base
  unfolding row.enact
  together =
      state_below (maps.state_after s ends) comes (maps-runs.sound_after s ends h) (eq-eqb _ 0 second_zero)
      ∙ rw (hands_out_fact, mid_is, set-set s.base.ports (spot_of p) left (handed_out n left))

  -- no record goes and none is made, and so the maps stay as they are
  still : (k : ℕ) (map : List ℕ) → length s.base.carriers ≤ k → followed k false map s.maps ≡ s.maps
  unfolding followed
  still k map b = let e = (maps-runs.sound_parts s h).many in without_out s.maps k (omega arith)

  first_maps : (maps.state_after s ends).maps ≡ s.maps
  unfolding maps.state_after
  first_maps = rw (first_zero, first_effect) (still (length s.base.carriers) _ (omega arith))

  abbrev second : Effect
  second = (maps.row_in (maps.state_after s ends) comes).effect

  then_maps : (maps.state_after (maps.state_after s ends) comes).maps
      ≡ followed second.goes second.made (new_map 7 []) (maps.state_after s ends).maps
  then_maps = ap (λ (m : Mapped). m.maps) (accepted_then (maps.state_after s ends) comes second_zero)

  pub maps_still : (maps.state_after (maps.state_after s ends) comes).maps ≡ s.maps
  maps_still = then_maps ∙ rw (hands_out_fact, first_maps) (still (length s.base.carriers) _ (omega arith))
