-- What the code finds is whether the tool is sound.
use Prim.Native.Nat.{ℕ, zero, suc, ◌+◌, ◌-◌, ◌*◌, ◌≤◌}
use native.Mathlib.Omega.{arith}
use mathlib.Core.Path.{◌≡◌, refl, ap, sym, ◌∙◌}
use mathlib.Core.Bool.{Bool, true, false, ◌&&◌}
use mathlib.Core.List.{List}
use lib.ListN.{length, take, drop}
use lib.Dec.{leb}
use borrow.Author.Tests.{le-leb, leb-true}
use Rattle.lists.specs.Lists.{every, every_two, between}
use Rattle.lists.proofs.Bools.{clash, and_l, and_r, and_i, same_test}
use Rattle.rules.specs.State.{State}
use Rattle.rules.specs.Sound.{in_range, other_name, sound, zero_port, zero_carrier, unused_zero, sound_tool}
use Rattle.image.specs.Image.{table, byte_at, bytes_from, tool_from}
use Rattle.image.proofs.Table.{length_table}
use Rattle.passes.specs.Passes.{is_zero, record_on, named_by, fields_fit, latest}
use Rattle.soundness.specs.Seats.{port_on, port_key, tie_fits, seats_fit, port_fits}
use Rattle.passes.proofs.Turns.{take_table}
use Rattle.soundness.proofs.Unused.{unused_ports, unused_carriers}
use Rattle.soundness.proofs.Judged.{state_on}
use Rattle.soundness.proofs.Clauses.{Passed, passed_sound, sound_passed}

-- the sizes, and the passes in the code's order
abbrev pub sized : ℕ → ℕ → ℕ → Bool
sized P B n = (between 1 P 4 && leb B 16) && leb n 36

pub size_in : (P B n : ℕ) → 1 ≤ P → P ≤ 4 → B ≤ 16 → n ≤ 36 → sized P B n ≡ true
size_in P B n a b c d = and_i (and_i (and_i (le-leb 1 P a) (le-leb P 4 b)) (le-leb B 16 c)) (le-leb n 36 d)

pub size_out : (P B n : ℕ) → (1 ≤ P → P ≤ 4 → B ≤ 16 → n ≤ 36 → ⊥) → sized P B n ≡ false
size_out P B n h = go (sized P B n) refl
  where
    go : (b : Bool) → sized P B n ≡ b → b ≡ false
    go true e =
        absurd (h (leb-true 1 P (search (and_l, and_r) depth 5)) (leb-true P 4 (search (and_l, and_r) depth 5))
        (leb-true B 16 (search (and_l, and_r) depth 5)) (leb-true n 36 (search (and_l, and_r) depth 5)))
    go false e = refl

abbrev pub fits : List ℕ → ℕ → ℕ → ℕ → Bool
fits m P B n =
    (((((every is_zero (bytes_from m (3 + 22 * P) (88 - 22 * P)) && every is_zero (bytes_from m (91 + 50 * n) (1800 - 50 * n)))
    && every port_fits (table P (port_on m))) && every fields_fit (table n (record_on m))) && every named_by (table n (record_on m)))
    && seats_fit m P B n) && every_two other_name (table n (record_on m))

module _ (m : List ℕ) where
  abbrev P : ℕ
  P = byte_at m 0

  abbrev B : ℕ
  B = byte_at m 1

  abbrev n : ℕ
  n = byte_at m 2

  -- the tool as it is read off the bytes
  abbrev read : State
  read = record { ports = take P (table 4 (port_on m)); carriers = take n (table 36 (record_on m)); places = B }

  abbrev tested : Bool
  tested =
      ((leb P 4 && leb n 36) && (every zero_port (drop P (table 4 (port_on m))) && every zero_carrier (drop n (table 36 (record_on m)))))
      && sound read

  spelt : sound_tool (tool_from m) ≡ tested
  unfolding sound_tool unused_zero tool_from
  spelt = refl

  state_is : P ≤ 4 → n ≤ 36 → read ≡ state_on m P B n
  state_is a b = rw (take_table P 4 (port_on m) a, take_table n 36 (record_on m) b)

  fits_passed : fits m P B n ≡ true → Passed m P B n
  unfolding seats_fit
  fits_passed e = record {
    ports = search (and_l, and_r) depth 9;
    fields = search (and_l, and_r) depth 9;
    named = search (and_l, and_r) depth 9;
    seats = search (and_l, and_r) depth 9;
    spots = search (and_l, and_r) depth 9;
    alone = search (and_l, and_r) depth 9;
    few = search (and_l, and_r) depth 9;
    ties = ties;
    names = search (and_l, and_r) depth 9;
  }
    where
      ties : (p : ℕ) → 1 ≤ p → p ≤ 4 → tie_fits m (p - 1) (latest (port_key m) p n) ≡ true
      ties zero a b = absurd (omega arith)
      ties (suc zero) a b = search (and_l, and_r) depth 9
      ties (suc (suc zero)) a b = search (and_l, and_r) depth 9
      ties (suc (suc (suc zero))) a b = search (and_l, and_r) depth 9
      ties (suc (suc (suc (suc zero)))) a b = search (and_l, and_r) depth 9
      ties (suc (suc (suc (suc (suc p))))) a b = absurd (omega arith)

  passed_fits : every is_zero (bytes_from m (3 + 22 * P) (88 - 22 * P)) ≡ true
      → every is_zero (bytes_from m (91 + 50 * n) (1800 - 50 * n)) ≡ true
      → Passed m P B n → fits m P B n ≡ true
  unfolding seats_fit
  passed_fits a b x =
      and_i (and_i (and_i (and_i (and_i (and_i a b) x.ports) x.fields) x.named)
      (and_i (and_i (and_i (and_i x.seats x.spots) x.alone) x.few)
      (and_i (and_i (x.ties 1 (omega arith) (omega arith)) (x.ties 2 (omega arith) (omega arith)))
      (and_i (x.ties 3 (omega arith) (omega arith)) (x.ties 4 (omega arith) (omega arith))))))
      x.names

  pub judged : sized P B n ≡ true → fits m P B n ≡ sound_tool (tool_from m)
  judged e = same_test _ _ there back ∙ sym spelt
    where
      some : 1 ≤ P
      some = leb-true 1 P (search (and_l, and_r) depth 5)

      four : P ≤ 4
      four = leb-true P 4 (search (and_l, and_r) depth 5)

      small : B ≤ 16
      small = leb-true B 16 (search (and_l, and_r) depth 5)

      many : n ≤ 36
      many = leb-true n 36 (search (and_l, and_r) depth 5)

      there : fits m P B n ≡ true → tested ≡ true
      there f =
          and_i (and_i (and_i (le-leb P 4 four) (le-leb n 36 many))
          (and_i (unused_ports m P four ∙ search (and_l, and_r) depth 9) (unused_carriers m n many ∙ search (and_l, and_r) depth 9)))
          (ap sound (state_is four many) ∙ passed_sound m P B n some four small (fits_passed f))

      back : tested ≡ true → fits m P B n ≡ true
      back f =
          let ports : every zero_port (drop P (table 4 (port_on m))) ≡ true = search (and_l, and_r) depth 5 in
          let rows : every zero_carrier (drop n (table 36 (record_on m))) ≡ true = search (and_l, and_r) depth 5 in
          let state : sound read ≡ true = search (and_l, and_r) depth 5 in
          passed_fits (sym (unused_ports m P four) ∙ ports) (sym (unused_carriers m n many) ∙ rows)
          (sound_passed m P B n some four small ports (ap sound (sym (state_is four many)) ∙ state))

  -- a tool of another size is not sound
  sound_sized : n ≤ 36 → sound (state_on m P B n) ≡ true → sized P B n ≡ true
  unfolding sound in_range
  sound_sized b e =
      let ports : between 1 (length (table P (port_on m))) 4 ≡ true = search (and_l, and_r) depth 12 in
      let places : leb B 16 ≡ true = search (and_l, and_r) depth 12 in
      and_i (and_i (rw (length_table P (port_on m)) at ports) places) (le-leb n 36 b)

  pub refused : sized P B n ≡ false → sound_tool (tool_from m) ≡ false
  refused e = spelt ∙ go tested refl
    where
      go : (b : Bool) → tested ≡ b → b ≡ false
      go true f =
          let four = leb-true P 4 (search (and_l, and_r) depth 5) in
          let many = leb-true n 36 (search (and_l, and_r) depth 5) in
          let state : sound read ≡ true = search (and_l, and_r) depth 5 in
          clash (sound_sized many (ap sound (sym (state_is four many)) ∙ state)) e
      go false f = refl
