-- Seven reports always suffice.
use Prim.Native.Nat.{ℕ, ◌+◌, ◌≤◌}
use native.Mathlib.Omega.{arith}
use mathlib.Core.Path.{◌≡◌, refl, ap, sym, ◌∙◌}
use mathlib.Core.Bool.{Bool, true, false, not}
use mathlib.Core.List.{List}
use lib.ListN.{length, length-append, get_or-eq_default}
use lib.Dec.{eqb}
use Rattle.records.specs.declared.name.Name.{Name}
use Rattle.records.specs.declared.port.Port.{Port}
use Rattle.records.specs.declared.carrier.Carrier.{Carrier}
use Rattle.records.specs.Names.{no_name, same_name}
use Rattle.records.specs.Carriers.{no_carrier}
use Rattle.rules.specs.declared.row.Effect.{Effect}
use Rattle.rules.specs.declared.report.Report.{Report}
use Rattle.rules.specs.State.{State, port_of, record_of}
use Rattle.rules.specs.Sound.{sound}
use Rattle.rules.specs.Seen.{Input, see}
use Rattle.rules.specs.Row.{Row, judge}
use Rattle.rules.specs.Rows.{row_of}
use Rattle.rules.specs.Reports.{report_if, change, tie_number, differences}
use Rattle.rules.specs.Outcome.{row_in, answer_in, state_after}
use Rattle.rules.proofs.Walk.{walk}
use Rattle.rules.proofs.Lowest.{row_first_is_lowest}
use Rattle.rules.proofs.SoundFacts.{few_ports, distinct}
use Rattle.rules.proofs.Apt.{apt}
use Rattle.parts.specs.Told.{port_touched, record_touched, touched}
use Rattle.machine.proofs.Each.{unchanged}
use Rattle.machine.proofs.Differ.{differences_touched}

-- a report or none
pub one_or_none : (b : Bool) (m p : ℕ) (n : Name) (x y : ℕ) → length (report_if b m p n x y) ≤ 1
unfolding report_if
one_or_none true m p n x y = omega arith
one_or_none false m p n x y = omega arith

change_one : (m p : ℕ) (n : Name) (x y : ℕ) → length (change m p n x y) ≤ 1
change_one m p n x y = one_or_none (not (eqb x y)) m p n x y

pub change_none : (m p : ℕ) (n : Name) (x y : ℕ) → x ≡ y → length (change m p n x y) ≡ 0
change_none m p n x y e = ap length (unchanged m p n x y e)

-- at most four of a port, and one where only its tie differs
module _ (p : ℕ) (x q : Port) where
  port_four : length (port_touched p x q) ≤ 4
  unfolding port_touched
  port_four =
      let a = change_one 1 p no_name x.transfer q.transfer in
      let b = change_one 2 p no_name x.access q.access in
      let c = change_one 3 p no_name x.reserved q.reserved in
      let d = one_or_none (not (same_name x.tie q.tie)) 4 p no_name (tie_number x.tie) (tie_number q.tie) in
      simp length-append (omega arith)

  port_one : x.transfer ≡ q.transfer → x.access ≡ q.access → x.reserved ≡ q.reserved → length (port_touched p x q) ≤ 1
  unfolding port_touched
  port_one t u v =
      let a = change_none 1 p no_name x.transfer q.transfer t in
      let b = change_none 2 p no_name x.access q.access u in
      let c = change_none 3 p no_name x.reserved q.reserved v in
      let d = one_or_none (not (same_name x.tie q.tie)) 4 p no_name (tie_number x.tie) (tie_number q.tie) in
      simp length-append (omega arith)

-- at most two of each other model, and one where no record goes, or none changes and none is made
module _ (m : ℕ) (gone : Name) (lost : ℕ) (n : Name) (old new : ℕ) where
  record_two : length (record_touched m gone lost n old new) ≤ 2
  unfolding record_touched
  record_two =
      let a = change_one m 0 gone lost 0 in
      let b = change_one m 0 n old new in
      simp length-append (omega arith)

  none_gone : lost ≡ 0 → length (record_touched m gone lost n old new) ≤ 1
  unfolding record_touched
  none_gone e =
      let a = change_none m 0 gone lost 0 e in
      let b = change_one m 0 n old new in
      simp length-append (omega arith)

  none_changed : old ≡ new → length (record_touched m gone lost n old new) ≤ 1
  unfolding record_touched
  none_changed e =
      let a = change_one m 0 gone lost 0 in
      let b = change_none m 0 n old new e in
      simp length-append (omega arith)

-- Of every row: no record goes, or none changes and none is made, or only the tie of the port is reported.
pub data Small (s : State) (r : Row) : Type 0 where
  none_goes : length s.carriers ≤ r.effect.goes → Small s r
  none_changes : length s.carriers ≤ r.effect.changes → r.effect.next ≡ no_carrier → Small s r
  only_tie : (port_of s r.effect.port).transfer ≡ r.effect.becomes.transfer
      → (port_of s r.effect.port).access ≡ r.effect.becomes.access
      → (port_of s r.effect.port).reserved ≡ r.effect.becomes.reserved → Small s r

module _ (s : State) (i : Input) where
  counted : length s.carriers ≤ (see s i).count
  unfolding see
  counted = omega arith

  rows_small : (n : ℕ) → Small s (row_of n (see s i))
  unfolding see
  rows_small = walk (λ _. Small s) (see s i) (record {
    bind = none_goes counted;
    cancel_bind = none_changes counted refl;
    carrier_notification = none_goes counted;
    cancel_carrier_notification = none_changes counted refl;
    proceed_with_carrier = none_goes counted;
    cancel_carrier = none_goes counted;
    carrier_out = none_goes counted;
    carrier_in = none_goes counted;
    change_access = none_goes counted;
    change_service_status = none_goes counted;
    reserve_at_port = none_goes counted;
    cancel_reservation_at_port = none_goes counted;
    load_start = none_goes counted;
    load_done = none_goes counted;
    load_fail = none_goes counted;
    id_read = only_tie refl refl refl;
    id_read_failed = none_goes counted;
    move_in = none_goes counted;
    open_row = none_goes counted;
    slot_map = none_goes counted;
    access_start = none_goes counted;
    access_end = none_goes counted;
    close_row = none_goes counted;
    unload_start = none_goes counted;
    unload_done = none_changes counted refl;
    unload_fail = none_goes counted;
    none = λ _. none_goes counted;
  })

-- what an effect touches, in numbers
module _ (s : State) (r : Row) where
  abbrev e : Effect
  e = r.effect

  abbrev on_port : List Report
  on_port = port_touched e.port (port_of s e.port) e.becomes

  abbrev in_model : ℕ → (Carrier → ℕ) → List Report
  in_model m f =
      record_touched m (record_of s e.goes).name (f (record_of s e.goes))
      e.next.name (f (record_of s e.changes)) (f e.next)

  abbrev told : List Report
  told = touched (port_of s e.port) (record_of s e.goes) (record_of s e.changes) e

  told_length : length told
      ≡ length on_port + length (in_model 5 (λ c. c.id)) + length (in_model 6 (λ c. c.slot)) + length (in_model 7 (λ c. c.accessing))
  unfolding touched
  told_length = simp length-append

  past_end : (k : ℕ) → length s.carriers ≤ k → record_of s k ≡ no_carrier
  unfolding record_of
  past_end k h = get_or-eq_default s.carriers no_carrier h

  module _ (m : ℕ) (f : Carrier → ℕ) (zeroed : f no_carrier ≡ 0) where
    one_if_none_goes : length s.carriers ≤ e.goes → length (in_model m f) ≤ 1
    one_if_none_goes h = none_gone m _ _ _ _ _ (ap f (past_end e.goes h) ∙ zeroed)

    one_if_none_changes : length s.carriers ≤ e.changes → e.next ≡ no_carrier → length (in_model m f) ≤ 1
    one_if_none_changes h n = none_changed m _ _ _ _ _ (ap f (past_end e.changes h ∙ sym n))

  told_at_most : (p n : ℕ) → length on_port ≤ p → ((m : ℕ) (f : Carrier → ℕ) → f no_carrier ≡ 0 → length (in_model m f) ≤ n)
      → length told ≤ p + n + n + n
  told_at_most p n h each =
      let l = told_length in
      let a = each 5 (λ c. c.id) refl in
      let b = each 6 (λ c. c.slot) refl in
      let c = each 7 (λ c. c.accessing) refl in
      omega arith

  pub told_seven : Small s r → length told ≤ 7
  told_seven (none_goes h) = told_at_most 4 1 (port_four _ _ _) (λ m f z. one_if_none_goes m f z h)
  told_seven (none_changes h n) = told_at_most 4 1 (port_four _ _ _) (λ m f z. one_if_none_changes m f z h n)
  told_seven (only_tie t u v) = told_at_most 1 2 (port_one _ _ _ t u v) (λ m f z. record_two m _ _ _ _ _)

pub seven : (s : State) (i : Input) → sound s ≡ true → answer_in s i ≡ 0 → length (differences s (state_after s i)) ≤ 7
unfolding state_after answer_in
seven s i h z =
    let k : judge (row_in s i).grounds ≡ 0 = row_first_is_lowest i.number (see s i) ∙ z in
    rw (z, differences_touched s (row_in s i).effect (few_ports s h) (distinct s h) (apt s i h i.number k))
    (told_seven s (row_in s i) (rows_small s i i.number))
