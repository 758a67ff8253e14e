-- Seven reports are enough with expected maps too.
use Prim.Native.Nat.{◌≤◌}
use native.Mathlib.Omega.{arith}
use mathlib.Core.Path.{◌≡◌, refl, sym, ◌∙◌}
use mathlib.Core.Bool.{Bool, true, false, ◌&&◌}
use lib.ListN.{length}
use lib.Dec.{eqb}
use borrow.Author.Tests.{eq-eqb, eqb-true}
use Rattle.lists.proofs.Bools.{and_l}
use Rattle.rules.specs.State.{State}
use Rattle.rules.specs.Sound.{sound}
use Rattle.rules.specs.Seen.{Input, see}
use Rattle.rules.specs.Row as row
use Rattle.rules.specs.Row.{judge}
use Rattle.rules.specs.Opening.{slot_map}
use Rattle.rules.specs.Rows as base
use Rattle.rules.specs.Outcome as base-outcome
use Rattle.rules.specs.Reports.{differences}
use Rattle.rules.proofs.Lowest.{row_first_is_lowest}
use Rattle.rules.proofs.Apt.{Apt}
use Rattle.rules.proofs.SoundFacts.{few_ports, distinct}
use Rattle.machine.proofs.Differ.{differences_touched}
use Rattle.machine.proofs.Seven as machine
use Rattle.maps.specs.State.{Mapped}
use Rattle.maps.specs.Rows.{codes_in}
use Rattle.maps.specs.Outcome.{row_in, answer_in, state_after}
use Rattle.maps.proofs.Amended.{row_twenty, effect_is, accepted_there, apt_amended}
use Rattle.maps.proofs.SoundRuns.{base_step}

-- no record goes where a slot map is kept
none_goes : (s : State) (i : Input) → length s.carriers ≤ (slot_map (see s i)).effect.goes
unfolding see
none_goes s i = omega arith

answer_zero : (s : State) (i : Input) → judge (base.row_of i.number (see s i)).grounds ≡ 0 → base-outcome.answer_in s i ≡ 0
unfolding base-outcome.answer_in
answer_zero s i z = sym (row_first_is_lowest i.number (see s i)) ∙ z

module _ (s : Mapped) (i : Input) (h : sound s.base ≡ true) (z : answer_in s i ≡ 0) where
  abbrev asked : Bool
  asked = eqb i.number 20 && (codes_in s i).equal

  there : judge (base.row_of i.number (see s.base i)).grounds ≡ 0
  there = accepted_there s i (eq-eqb (answer_in s i) 0 z)

  apt : Apt s.base (row_in s i).effect
  apt = apt_amended s.base i h i.number (codes_in s i) there

  next_is : (state_after s i).base ≡ row.enact (row_in s i).effect s.base
  unfolding state_after
  next_is = rw z

  -- OK at once: one record changes, and none goes
  equal_seven : asked ≡ true → length (differences s.base (row.enact (row_in s i).effect s.base)) ≤ 7
  equal_seven q =
      let n = eqb-true i.number 20 (and_l (eqb i.number 20) (codes_in s i).equal q) in
      rw (differences_touched s.base (row_in s i).effect (few_ports s.base h) (distinct s.base h) apt)
      (machine.told_seven s.base (row_in s i) (machine.none_goes (gone n)))
    where
      gone : i.number ≡ 20 → length s.base.carriers ≤ (row_in s i).effect.goes
      gone n =
          rw (effect_is i.number (see s.base i) (codes_in s i), q, row_twenty i.number (see s.base i) n) (none_goes s.base i)

  -- any other input: as in document 01
  other_seven : asked ≡ false → length (differences s.base (row.enact (row_in s i).effect s.base)) ≤ 7
  other_seven q =
      rw (effect_is i.number (see s.base i) (codes_in s i), q, ← base_step s.base i there)
      (machine.seven s.base i h (answer_zero s.base i there))

  pub seven : length (differences s.base (state_after s i).base) ≤ 7
  seven = rw next_is (go asked refl)
    where
      go : (b : Bool) → asked ≡ b → length (differences s.base (row.enact (row_in s i).effect s.base)) ≤ 7
      go true q = equal_seven q
      go false q = other_seven q
