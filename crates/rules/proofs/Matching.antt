-- What row 16 takes for a matching read is one: the name was announced, and its port had no tie or was tied to it.
use Prim.Native.Nat.{◌≤◌}
use native.Mathlib.Omega.{arith}
use mathlib.Core.Path.{◌≡◌, refl, ap, sym, subst, ◌∙◌}
use mathlib.Core.Bool.{Bool, true, false, not, cond, ◌||◌}
use lib.ListN.{length}
use lib.Dec.{eqb, ltb}
use borrow.Author.Tests.{eqb-true, lt-ltb}
use Rattle.lists.proofs.Bools.{clash, and_r, and_i, or_l, or_r, not_true}
use Rattle.lists.proofs.Tests.{any_here}
use Rattle.records.specs.Names.{no_name, same_name}
use Rattle.records.specs.Carriers.{no_carrier}
use Rattle.rules.specs.declared.row.Seen.{Seen}
use Rattle.rules.specs.State.{State, port_of, record_of}
use Rattle.rules.specs.Sound.{sound}
use Rattle.rules.specs.Seen.{Input, narrow, is_named, see}
use Rattle.rules.specs.Reading.{matching}
use Rattle.rules.specs.Outcome.{answer_in}
use Rattle.rules.specs.History.{Event, is_live, announced_there}
use Rattle.rules.proofs.Names.{name_same}
use Rattle.rules.proofs.SoundParts.{Facts, facts}
use Rattle.rules.proofs.KeepSeen.{given_range, found_live, held_tied, nobody_tied}

module _ (s : State) (i : Input) (h : sound s ≡ true) where
  abbrev x : Seen
  x = see s i

  abbrev read : Event
  read = record { before = s; input = i; answer = answer_in s i }

  f : Facts s
  f = facts s h

  -- a port of the tool is as it was sent
  pub port_sent : x.isport ≡ true → x.port ≡ i.port
  unfolding see narrow
  port_sent e =
      let b = (given_range s i f e).1 in
      let l = f.few_ports in
      go (ltb i.port 255) refl (omega arith)
    where
      go : (w : Bool) → ltb i.port 255 ≡ w → narrow i.port ≤ 4 → cond w i.port 255 ≡ i.port
      go true q b = refl
      go false q b = absurd (far (rw q at b))
        where
          far : cond false i.port 255 ≤ 4 → ⊥
          far c = omega arith

  live_before : x.known ≡ true → is_live s x.found.name ≡ true
  unfolding see record_of is_live
  live_before u =
      any_here (is_named x.found.name) s.carriers x.stands no_carrier (found_live s i f u) (name_same _ _ refl)

  -- a port that no record names isn't tied
  untied_port : 1 ≤ x.port → x.tied ≡ false → same_name (port_of s x.port).tie no_name ≡ true
  untied_port a e = go (same_name (port_of s x.port).tie no_name) refl
    where
      go : (w : Bool) → same_name (port_of s x.port).tie no_name ≡ w → w ≡ true
      go true q = refl
      go false q =
          let r = f.held x.port a (λ z. clash (name_same _ _ z) q) in
          absurd (nobody_tied s i f e a r.0 r.1 r.2)

  -- the named record is the one that the port holds
  own_port : x.known ≡ true → x.holds ≡ x.stands → x.found.port ≡ x.port
  unfolding see
  own_port u q =
      let b = found_live s i f u in
      ap (λ k. (record_of s k).port) (sym q) ∙ held_tied s i f (lt-ltb x.holds (length s.carriers) (omega arith))

  tied_port : 1 ≤ x.port → x.known ≡ true → x.holds ≡ x.stands → (port_of s x.port).tie ≡ x.found.name
  unfolding see
  tied_port a u q =
      let o = own_port u q in
      ap (λ p. (port_of s p).tie) (sym o) ∙ f.kept x.stands (found_live s i f u) (λ z. absurd (omega arith))

  pub read_matches : x.isport ≡ true → x.known ≡ true → matching x ≡ true → announced_there x.found.name read ≡ true
  unfolding announced_there matching
  read_matches p u m =
      and_i (live_before u)
      (subst (λ k. (same_name (port_of s k).tie no_name || same_name (port_of s k).tie x.found.name) ≡ true) (port_sent p)
      (tie (given_range s i f p).0 (eqb x.holds x.stands) refl (and_r x.known _ m)))
    where
      tie : 1 ≤ x.port → (w : Bool) → eqb x.holds x.stands ≡ w → (w || not x.tied) ≡ true
          → (same_name (port_of s x.port).tie no_name || same_name (port_of s x.port).tie x.found.name) ≡ true
      tie a true q v = or_r (same_name (port_of s x.port).tie no_name) (name_same _ _ (tied_port a u (eqb-true _ _ q)))
      tie a false q v = or_l (same_name (port_of s x.port).tie x.found.name) (untied_port a (not_true x.tied v))
