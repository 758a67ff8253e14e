-- The alarms in the bytes: one by one, written, and where no byte of theirs is.
use Prim.Native.Nat.{ℕ, ◌+◌, ◌<◌, ◌≤◌}
use native.Mathlib.Omega.{arith}
use mathlib.Core.Path.{◌≡◌, refl, ap, sym, ◌∙◌}
use mathlib.Core.Logic.{◌≢◌}
use mathlib.Core.Bool.{Bool, true, false}
use mathlib.Core.List.{List, [], ◌∷◌}
use lib.ListN.{length, get_or, set, get_or-eq_default}
use lib.Seq.{sets}
use lib.Dec.{ltb}
use borrow.Author.Tests.{ltb-true, ltb-false}
use Rattle.image.specs.Image.{byte_at}
use Rattle.image.proofs.Table.{getD_table, length_table, table_same, table_set}
use Rattle.image.proofs.Written.{before_stays, after_stays, stands_there}
use Rattle.hands.specs.declared.alarm.Alarm.{Alarm}
use Rattle.hands.specs.Alarms.{no_alarm}
use Rattle.handled.specs.Bytes.{alarm_start, alarm_from, alarms_from}

pub alarms_long : (m : List ℕ) → length (alarms_from m) ≡ 4
unfolding alarms_from
alarms_long m = length_table 4 (λ k. alarm_from m (alarm_start k))

pub alarm_is : (m : List ℕ) (k : ℕ) → k < 4 → get_or (alarms_from m) k no_alarm ≡ alarm_from m (alarm_start k)
unfolding alarms_from
alarm_is m k h = getD_table 4 (λ k. alarm_from m (alarm_start k)) k no_alarm h

pub alarm_out : (m : List ℕ) (k : ℕ) → 4 ≤ k → get_or (alarms_from m) k no_alarm ≡ no_alarm
alarm_out m k h = let l = alarms_long m in get_or-eq_default (alarms_from m) no_alarm (omega arith)

-- the same two bytes are the same alarm
alarm_of : {a b c d : ℕ} → a ≡ b → c ≡ d → ◌≡◌ {A = Alarm} (record { on = a; held = c }) (record { on = b; held = d })
alarm_of p q = rw (p, q)

pub alarms_same : (m n : List ℕ) → ((i : ℕ) → 1597 ≤ i → i < 1605 → byte_at n i ≡ byte_at m i) → alarms_from n ≡ alarms_from m
unfolding alarms_from
alarms_same m n h =
    table_same 4 (λ k. alarm_from n (alarm_start k)) (λ k. alarm_from m (alarm_start k))
    (λ k b. alarm_of (h (alarm_start k) (omega arith) (omega arith)) (h (alarm_start k + 1) (omega arith) (omega arith)))

-- written
module _ (m : List ℕ) (l : length m ≡ 1891) (k : ℕ) (b : k < 4) (a : Alarm) where
  abbrev written : List ℕ
  written = sets m (alarm_start k) (a.on ∷ a.held ∷ [])

  there : alarm_from written (alarm_start k) ≡ a
  there =
      let z : alarm_start k + 0 ≡ alarm_start k = omega arith in
      alarm_of (ap (byte_at written) (sym z) ∙ stands_there m (alarm_start k) (a.on ∷ a.held ∷ []) 0 (omega arith) (omega arith))
      (stands_there m (alarm_start k) (a.on ∷ a.held ∷ []) 1 (omega arith) (omega arith))

  pub alarm_put : alarms_from written ≡ set (alarms_from m) k a
  unfolding alarms_from
  alarm_put = table_set 4 (λ k. alarm_from m (alarm_start k)) (λ k. alarm_from written (alarm_start k)) k a there other
    where
      other : (j : ℕ) → j < 4 → j ≢ k → alarm_from written (alarm_start j) ≡ alarm_from m (alarm_start j)
      other j c n = go (ltb j k) refl
        where
          go : (w : Bool) → ltb j k ≡ w → alarm_from written (alarm_start j) ≡ alarm_from m (alarm_start j)
          go true e =
              let d = ltb-true j k e in
              alarm_of (before_stays m (alarm_start k) (a.on ∷ a.held ∷ []) (alarm_start j) (omega arith))
              (before_stays m (alarm_start k) (a.on ∷ a.held ∷ []) (alarm_start j + 1) (omega arith))
          go false e =
              let d = ltb-false j k e in
              let o : k < j = omega (arith, n) in
              alarm_of (after_stays m (alarm_start k) (a.on ∷ a.held ∷ []) (alarm_start j) (omega arith))
              (after_stays m (alarm_start k) (a.on ∷ a.held ∷ []) (alarm_start j + 1) (omega arith))
