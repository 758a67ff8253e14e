-- Four ports, one after the other: the table that all of them leave, and what is told.
use Prim.Native.Nat.{ℕ, zero, suc, ◌-◌}
use native.Mathlib.Omega.{arith}
use mathlib.Core.Path.{◌≡◌, refl, ap, ap₂, sym, ◌∙◌}
use mathlib.Core.Bool.{cond}
use mathlib.Core.List.{List, [], ◌∷◌, ◌++◌, append_assoc, append-nil}
use lib.ListN.{length, get_or, set}
use lib.Dec.{eqb}
use borrow.Author.Tests.{ne_eqb}
use Rattle.records.specs.declared.port.Port.{Port}
use Rattle.rules.specs.declared.report.Report.{Report}
use Rattle.rules.specs.declared.report.Reports.{Reports}
use Rattle.rules.specs.declared.tool.Tool.{Tool}
use Rattle.rules.specs.State.{spot_of, port_at}
use Rattle.parts.specs.Told.{note_all}
use Rattle.predicted.proofs.Movers.{noted_twice}
use Rattle.hands.specs.declared.alarm.Alarm.{Alarm}
use Rattle.hands.specs.Alarms.{no_alarm}
use Rattle.hands.specs.Outcome.{all_settled, alarm_change, alarms_told}
use Rattle.handled.specs.Settling.{settled_at, settled_table}

-- an alarm that is set by the number of its port
pub set_port : (w x y z a : Alarm) (port : ℕ)
    → set (w ∷ x ∷ y ∷ z ∷ []) (spot_of port) a ≡ cond (eqb port 1) a w ∷ cond (eqb port 2) a x ∷ cond (eqb port 3) a y ∷ cond (eqb port 4) a z ∷ []
set_port w x y z a zero = refl
set_port w x y z a (suc zero) = refl
set_port w x y z a (suc (suc zero)) = refl
set_port w x y z a (suc (suc (suc zero))) = refl
set_port w x y z a (suc (suc (suc (suc zero)))) = refl
set_port w x y z a (suc (suc (suc (suc (suc k))))) =
    let p = suc (suc (suc (suc (suc k)))) in
    let z : p - 1 ≡ suc (suc (suc (suc k))) = omega arith in
    rw (
      ne_eqb p 0 (λ e. omega arith),
      ne_eqb p 1 (λ e. omega arith),
      ne_eqb p 2 (λ e. omega arith),
      ne_eqb p 3 (λ e. omega arith),
      ne_eqb p 4 (λ e. omega arith),
      z,
    )

-- a list of four, by its elements
pub four : {A : Type 0} (Q : List A → Type 0) → ((w x y z : A) → Q (w ∷ x ∷ y ∷ z ∷ [])) → (l : List A) → length l ≡ 4 → Q l
four Q h [] e = absurd (omega arith)
four Q h (w ∷ []) e = absurd (omega arith)
four Q h (w ∷ x ∷ []) e = absurd (omega arith)
four Q h (w ∷ x ∷ y ∷ []) e = absurd (omega arith)
four Q h (w ∷ x ∷ y ∷ z ∷ []) e = h w x y z
four Q h (w ∷ x ∷ y ∷ z ∷ u ∷ l) e = absurd (omega arith)

assoc4 : (a b c d : List Report) → ((a ++ b) ++ c) ++ d ≡ a ++ (b ++ (c ++ (d ++ [])))
assoc4 a b c d = append_assoc (a ++ b) c d ∙ append_assoc a b (c ++ d) ∙ ap (λ e. a ++ (b ++ (c ++ e))) (sym (append-nil d))

module _ (t : Tool) (port : ℕ) (a : Alarm) where
  -- the tables that the ports leave, one after the other
  abbrev pub after1 : List Alarm → List Alarm
  after1 l = settled_table t l port a 1

  abbrev pub after2 : List Alarm → List Alarm
  after2 l = settled_table t (after1 l) port a 2

  abbrev pub after3 : List Alarm → List Alarm
  after3 l = settled_table t (after2 l) port a 3

  abbrev pub after4 : List Alarm → List Alarm
  after4 l = settled_table t (after3 l) port a 4

  -- what is told at port p
  abbrev pub told_at : List Alarm → ℕ → List Report
  told_at l p = alarm_change p (get_or l (spot_of p) no_alarm) (settled_at t l port a p)

  abbrev Both : List Port → List Alarm → Type 0
  Both qs l = t.ports ≡ qs
      → (after4 l ≡ all_settled qs (set l (spot_of port) a))
      × (((told_at l 1 ++ told_at (after1 l) 2) ++ told_at (after2 l) 3) ++ told_at (after3 l) 4 ≡ alarms_told 1 l (all_settled qs (set l (spot_of port) a)))

  both_of : (p q r s : Port) (w x y z : Alarm) → Both (p ∷ q ∷ r ∷ s ∷ []) (w ∷ x ∷ y ∷ z ∷ [])
  unfolding port_at all_settled alarms_told
  both_of p q r s w x y z e =
      let l = w ∷ x ∷ y ∷ z ∷ [] in (
        rw (e, set_port w x y z a port),
        assoc4 (told_at l 1) (told_at (after1 l) 2) (told_at (after2 l) 3) (told_at (after3 l) 4) ∙ rw (e, set_port w x y z a port),
      )

  pub all_four : length t.ports ≡ 4 → (l : List Alarm) → length l ≡ 4
      → (after4 l ≡ all_settled t.ports (set l (spot_of port) a))
      × (((told_at l 1 ++ told_at (after1 l) 2) ++ told_at (after2 l) 3) ++ told_at (after3 l) 4
      ≡ alarms_told 1 l (all_settled t.ports (set l (spot_of port) a)))
  all_four h l k =
      four (λ qs. Both qs l) (λ p q r s. four (λ l. Both (p ∷ q ∷ r ∷ s ∷ []) l) (λ w x y z. both_of p q r s w x y z) l k) t.ports h refl

  -- one port after the other, each with the tool and the table that the one before it left
  module _ (t1 t2 t3 : Tool) (b1 : t1 ≡ t) (b2 : t2 ≡ t) (b3 : t3 ≡ t) (l l1 l2 l3 l4 : List Alarm) (e1 : l1 ≡ after1 l)
      (e2 : l2 ≡ settled_table t1 l1 port a 2) (e3 : l3 ≡ settled_table t2 l2 port a 3) (e4 : l4 ≡ settled_table t3 l3 port a 4) where
    is2 : l2 ≡ after2 l
    is2 = e2 ∙ ap₂ (λ t k. settled_table t k port a 2) b1 e1

    is3 : l3 ≡ after3 l
    is3 = e3 ∙ ap₂ (λ t k. settled_table t k port a 3) b2 is2

    pub table_left : length t.ports ≡ 4 → length l ≡ 4 → l4 ≡ all_settled t.ports (set l (spot_of port) a)
    table_left h k = e4 ∙ ap₂ (λ t k. settled_table t k port a 4) b3 is3 ∙ (all_four h l k).0

    pub told_left : length t.ports ≡ 4 → length l ≡ 4 → (r r1 r2 r3 r4 : Reports) → r1 ≡ note_all r (told_at l 1)
        → r2 ≡ note_all r1 (alarm_change 2 (get_or l1 (spot_of 2) no_alarm) (settled_at t1 l1 port a 2))
        → r3 ≡ note_all r2 (alarm_change 3 (get_or l2 (spot_of 3) no_alarm) (settled_at t2 l2 port a 3))
        → r4 ≡ note_all r3 (alarm_change 4 (get_or l3 (spot_of 4) no_alarm) (settled_at t3 l3 port a 4))
        → r4 ≡ note_all r (alarms_told 1 l (all_settled t.ports (set l (spot_of port) a)))
    told_left h k r r1 r2 r3 r4 f1 f2 f3 f4 =
        let g2 = f2 ∙ ap (note_all r1) (ap₂ (λ t k. alarm_change 2 (get_or k (spot_of 2) no_alarm) (settled_at t k port a 2)) b1 e1) in
        let g3 = f3 ∙ ap (note_all r2) (ap₂ (λ t k. alarm_change 3 (get_or k (spot_of 3) no_alarm) (settled_at t k port a 3)) b2 is2) in
        let g4 = f4 ∙ ap (note_all r3) (ap₂ (λ t k. alarm_change 4 (get_or k (spot_of 4) no_alarm) (settled_at t k port a 4)) b3 is3) in
        noted_twice r r3 r4 ((told_at l 1 ++ told_at (after1 l) 2) ++ told_at (after2 l) 3) (told_at (after3 l) 4)
        (noted_twice r r2 r3 (told_at l 1 ++ told_at (after1 l) 2) (told_at (after2 l) 3) (noted_twice r r1 r2 (told_at l 1) (told_at (after1 l) 2) f1 g2) g3) g4
        ∙ ap (note_all r) (all_four h l k).1
