-- Where one port and its alarm change, one report of model 9 tells all.
use Prim.Native.Nat.{ℕ, zero, suc, ◌≤◌}
use native.Mathlib.Omega.{arith}
use mathlib.Core.Path.{◌≡◌, refl, ap, sym, ◌∙◌}
use mathlib.Core.Bool.{Bool, true, false, not, cond, ◌&&◌, ◌||◌}
use mathlib.Core.List.{List, [], ◌∷◌}
use lib.ListN.{length, length-append, set}
use lib.Dec.{eqb, leb}
use borrow.Author.Tests.{eq-eqb, eqb-false, leb-true}
use Rattle.lists.proofs.Bools.{clash, and_l, and_r, not_true}
use Rattle.records.specs.declared.port.Port.{Port}
use Rattle.records.specs.Names.{no_name}
use Rattle.records.specs.Ports.{ready_to_load, loading}
use Rattle.rules.specs.declared.report.Report.{Report}
use Rattle.rules.specs.Reports.{report_if}
use Rattle.hands.specs.declared.alarm.Alarm.{Alarm}
use Rattle.hands.specs.Alarms.{is_on, is_held, settled}
use Rattle.hands.specs.Sound.{agrees, each_agrees}
use Rattle.hands.specs.Outcome.{all_settled, alarm_change, alarms_told}

-- ── An alarm that agrees with its port stays ──
pub alarm_of : {a b c d : ℕ} → a ≡ b → c ≡ d → ◌≡◌ {A = Alarm} (record { on = a; held = c }) (record { on = b; held = d })
alarm_of p q = rw (p, q)

nought : (n : ℕ) → leb n 1 ≡ true → eqb n 1 ≡ false → 0 ≡ n
nought n l e = let b = leb-true n 1 l in let z = eqb-false n 1 e in omega (arith, z)

module _ (q : Port) (a : Alarm) (h : agrees q a ≡ true) where
  three : (leb a.on 1 && leb a.held 1 && (not (is_held a) || (loading q && is_on a))) ≡ true
  unfolding agrees
  three = and_l _ (not (is_on a && ready_to_load q)) h

  two : (leb a.on 1 && leb a.held 1) ≡ true
  two = and_l _ (not (is_held a) || (loading q && is_on a)) three

  -- at READY TO LOAD it is off
  pub off : ready_to_load q ≡ true → 0 ≡ a.on
  unfolding agrees
  off e =
      nought a.on (and_l _ _ two)
      (both (is_on a) (ready_to_load q) (and_r (leb a.on 1 && leb a.held 1 && (not (is_held a) || (loading q && is_on a))) _ h) e)
    where
      both : (u v : Bool) → not (u && v) ≡ true → v ≡ true → u ≡ false
      both true v e f = sym f ∙ not_true v e
      both false v e f = refl

  -- and no pod is held at a port that isn't loading
  pub unheld : loading q ≡ false → 0 ≡ a.held
  unheld e =
      nought a.held (and_r (leb a.on 1) _ two)
      (none (is_held a) (loading q) (is_on a) (and_r (leb a.on 1 && leb a.held 1) _ three) e)
    where
      none : (u v w : Bool) → (not u || (v && w)) ≡ true → v ≡ false → u ≡ false
      none true true w e f = f
      none true false w e f = clash e refl
      none false v w e f = refl

  settled_stays : settled q a ≡ a
  unfolding settled
  settled_stays = alarm_of (clears (ready_to_load q) refl) (holds (loading q) refl)
    where
      clears : (w : Bool) → ready_to_load q ≡ w → cond w 0 a.on ≡ a.on
      clears true e = off e
      clears false e = refl

      holds : (w : Bool) → loading q ≡ w → cond w a.held 0 ≡ a.held
      holds true e = refl
      holds false e = unheld e

pub all_stay : (qs : List Port) (l : List Alarm) → each_agrees qs l ≡ true → all_settled qs l ≡ l
unfolding each_agrees all_settled
all_stay [] [] h = refl
all_stay [] (a ∷ l) h = clash h refl
all_stay (q ∷ qs) [] h = clash h refl
all_stay (q ∷ qs) (a ∷ l) h = rw (settled_stays q a (and_l _ _ h), all_stay qs l (and_r (agrees q a) _ h))

-- ── What is told ──
none_changed : (n : ℕ) (a : Alarm) → alarm_change n a a ≡ []
unfolding report_if
none_changed n a = rw (eq-eqb a.on a.on refl)

none_told : (n : ℕ) (l : List Alarm) → alarms_told n l l ≡ []
unfolding alarms_told
none_told n [] = refl
none_told n (a ∷ l) = rw (none_changed n a) (none_told (suc n) l)

one_change : (n : ℕ) (a b : Alarm) → length (alarm_change n a b) ≤ 1
unfolding report_if
one_change n a b = go (eqb a.on b.on)
  where
    go : (w : Bool) → length {A = Report} (cond (not w) (record { model = 9; port = n; name = no_name; old = a.on; new = b.on } ∷ []) []) ≤ 1
    go true = omega arith
    go false = omega arith

pub one_told : (qs : List Port) (l : List Alarm) → each_agrees qs l ≡ true → (n k : ℕ) (q : Port) (a : Alarm)
    → length (alarms_told n l (all_settled (set qs k q) (set l k a))) ≤ 1
unfolding each_agrees all_settled alarms_told
one_told [] [] h n k q a = omega arith
one_told [] (b ∷ l) h n k q a = clash h refl
one_told (p ∷ qs) [] h n k q a = clash h refl
one_told (p ∷ qs) (b ∷ l) h n zero q a =
    let e = length-append (alarm_change n b (settled q a)) (alarms_told (suc n) l (all_settled qs l)) in
    let c = one_change n b (settled q a) in
    let z : length (alarms_told (suc n) l (all_settled qs l)) ≡ 0 =
    ap (λ m. length (alarms_told (suc n) l m)) (all_stay qs l (and_r (agrees p b) _ h)) ∙ ap length (none_told (suc n) l) in
    omega arith
one_told (p ∷ qs) (b ∷ l) h n (suc k) q a =
    rw (settled_stays p b (and_l _ _ h), none_changed n b) (one_told qs l (and_r (agrees p b) _ h) (suc n) k q a)
