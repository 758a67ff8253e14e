-- What is done to a table of four is done to the list that it holds.
use Prim.Native.Nat.{ℕ, zero, suc, ◌≤◌}
use native.Mathlib.Omega.{arith}
use mathlib.Core.Path.{◌≡◌, refl, ap, ◌∙◌}
use mathlib.Core.List.{List, [], ◌∷◌, ◌++◌}
use lib.ListN.{length, set}
use Rattle.lists.specs.Lists.{fill}
use Rattle.records.specs.declared.port.Port.{Port}
use Rattle.records.specs.Ports.{no_port}
use Rattle.rules.specs.Reports.{report_if}
use Rattle.hands.specs.declared.alarm.Alarm.{Alarm}
use Rattle.hands.specs.Alarms.{no_alarm, settled}
use Rattle.hands.specs.Outcome.{all_settled, alarm_change, alarms_told}

pub set_fill : (n : ℕ) (l : List Alarm) (k : ℕ) (a : Alarm) → (length l ≤ k → a ≡ no_alarm)
    → set (fill n no_alarm l) k a ≡ fill n no_alarm (set l k a)
unfolding fill
set_fill zero l k a h = refl
set_fill (suc n) [] zero a h = ap (λ x. x ∷ fill n no_alarm []) (h (omega arith))
set_fill (suc n) [] (suc k) a h = ap (λ r. no_alarm ∷ r) (set_fill n [] k a (λ _. h (omega arith)))
set_fill (suc n) (x ∷ l) zero a h = refl
set_fill (suc n) (x ∷ l) (suc k) a h = ap (λ r. x ∷ r) (set_fill n l k a (λ b. h (omega arith)))

none_settled : settled no_port no_alarm ≡ no_alarm
unfolding settled
none_settled = refl

pub settled_fill : (n : ℕ) (qs : List Port) (l : List Alarm) → length l ≡ length qs
    → all_settled (fill n no_port qs) (fill n no_alarm l) ≡ fill n no_alarm (all_settled qs l)
unfolding fill all_settled
settled_fill zero qs l e = refl
settled_fill (suc n) [] [] e = rw none_settled (ap (λ r. no_alarm ∷ r) (settled_fill n [] [] refl))
settled_fill (suc n) [] (a ∷ l) e = absurd (omega arith)
settled_fill (suc n) (q ∷ qs) [] e = absurd (omega arith)
settled_fill (suc n) (q ∷ qs) (a ∷ l) e = ap (λ r. settled q a ∷ r) (settled_fill n qs l (omega arith))

nothing_told : (p : ℕ) → alarm_change p no_alarm no_alarm ≡ []
unfolding report_if
nothing_told p = refl

pub told_fill : (n p : ℕ) (l k : List Alarm) → length l ≤ n → length k ≡ length l → alarms_told p (fill n no_alarm l) (fill n no_alarm k) ≡ alarms_told p l k
unfolding fill alarms_told
told_fill zero p [] k h e = refl
told_fill zero p (a ∷ l) k h e = absurd (omega arith)
told_fill (suc n) p [] [] h e = ap (λ r. r ++ alarms_told (suc p) (fill n no_alarm []) (fill n no_alarm [])) (nothing_told p) ∙ told_fill n (suc p) [] [] (omega arith) refl
told_fill (suc n) p [] (b ∷ k) h e = absurd (omega arith)
told_fill (suc n) p (a ∷ l) [] h e = absurd (omega arith)
told_fill (suc n) p (a ∷ l) (b ∷ k) h e = ap (λ r. alarm_change p a b ++ r) (told_fill n (suc p) l k (omega arith) (omega arith))
