-- What a row sees of a port and of a carrier, where the count asks for it.
use Prim.Native.Nat.{◌≤◌}
use native.Mathlib.Omega.{arith}
use mathlib.Core.Path.{◌≡◌, refl, ap, sym}
use mathlib.Core.Logic.{◌≢◌}
use mathlib.Core.Bool.{Bool, true, false, not, cond, ◌&&◌}
use lib.ListN.{length, get_or-eq_default}
use borrow.Author.Tests.{eqb-true, ne_eqb, ltb-false}
use Rattle.lists.proofs.Bools.{not_false}
use Rattle.records.specs.Ports.{no_port}
use Rattle.records.specs.Carriers.{no_carrier, expected, in_buffer}
use Rattle.rules.specs.declared.row.Seen.{Seen}
use Rattle.rules.specs.State.{State, port_of, record_of}
use Rattle.rules.specs.Seen.{Input, see}
use Rattle.rules.specs.Row.{placed}
use Rattle.rules.specs.Booking.{meant, meant_port, meant_stands}
use Rattle.rules.proofs.SoundParts.{Facts}
use Rattle.rules.proofs.KeepSeen.{held_live, held_tied, held_none, held_there}

module _ (s : State) (i : Input) (f : Facts s) where
  abbrev x : Seen
  x = see s i

  -- no port is none of the tool's
  pub zero_port_fact : port_of s 0 ≡ no_port
  unfolding port_of
  zero_port_fact = let z = f.few_ports in get_or-eq_default s.ports no_port z

  -- CancelBind: the port that is meant is the port of the carrier that is meant
  pub meant_port_fact : (meant x).port ≢ 0 → meant_port x ≡ port_of s (meant x).port
  unfolding meant meant_port see
  meant_port_fact n = go x.blank n
    where
      go : (w : Bool) → (cond w x.held x.found).port ≢ 0 → cond w x.here x.home ≡ port_of s (cond w x.held x.found).port
      go true n = sym (ap (port_of s) (held_tied s i f (held_there s i f n)))
      go false n = refl

  pub meant_record : record_of s (meant_stands x) ≡ meant x
  unfolding meant meant_stands see
  meant_record = go x.blank
    where
      go : (w : Bool) → record_of s (cond w x.holds x.stands) ≡ cond w x.held x.found
      go true = refl
      go false = refl

  -- nobody stands past the last record
  pub nobody : in_buffer (record_of s x.count) ≡ false
  unfolding see record_of
  nobody = ap in_buffer (get_or-eq_default s.carriers no_carrier (omega arith))

  -- a carrier that isn't placed isn't in the buffer
  pub not_placed : placed x ≡ false → in_buffer x.found ≡ false
  unfolding see placed record_of
  not_placed n = go x.known refl n
    where
      go : (w : Bool) → x.known ≡ w → (w && not (expected x.found)) ≡ false → in_buffer x.found ≡ false
      go true e n = let z = eqb-true x.found.place 0 (not_false _ n) in ne_eqb x.found.place 2 (λ y. omega arith)
      go false e n = ap in_buffer (get_or-eq_default s.carriers no_carrier (ltb-false x.stands (length s.carriers) e))

  -- nor is one that is tied to a port
  pub held_away : 1 ≤ x.port → in_buffer x.held ≡ false
  unfolding see
  held_away a = go x.tied refl
    where
      go : (w : Bool) → x.tied ≡ w → in_buffer x.held ≡ false
      go true e =
          ne_eqb x.held.place 2
          (λ z. let o = (f.records x.holds (held_live s i f e)).stands.in_free z in let t = held_tied s i f e in omega arith)
      go false e = ap in_buffer (held_none s i f e)
