-- The alarm of a port after an accepted input: as the row has it at the row's port, as it was at any other, and then settled.
use Prim.Native.Nat.{ℕ, zero, suc, ◌-◌, ◌≤◌, ◌<◌}
use native.Mathlib.Omega.{arith}
use mathlib.Core.Path.{◌≡◌, refl, ap, sym, ◌∙◌}
use mathlib.Core.Logic.{◌≢◌}
use mathlib.Core.Bool.{Bool, true, false, cond}
use mathlib.Core.List.{List, [], ◌∷◌}
use lib.ListN.{length, length-set, length-replicate, get_or, set, replicate}
use lib.Seq.{get_or-set_same, get_or-set_other}
use lib.Dec.{eqb}
use borrow.Author.Tests.{ne_eqb}
use Rattle.records.specs.declared.port.Port.{Port}
use Rattle.records.specs.Ports.{no_port, new_port}
use Rattle.rules.specs.State.{spot_of, port_of}
use Rattle.rules.specs.Seen.{narrow}
use Rattle.wafers.specs.Outcome.{Brought}
use Rattle.hands.specs.declared.alarm.Alarm.{Alarm}
use Rattle.hands.specs.Alarms.{no_alarm, settled}
use Rattle.hands.specs.State.{Handled, base_of, alarm_of, start}
use Rattle.hands.specs.Outcome.{row_in, answer_in, all_settled, enact, state_after, reached}
use Rattle.hands.proofs.Settled.{settled_long}
use Rattle.hands.proofs.Below.{ports_stay}

-- ── Where a port stands ──
spot_is : (p : ℕ) → 1 ≤ p → spot_of p ≡ p - 1
spot_is p a = rw (ne_eqb p 0 (λ e. omega arith))

pub in_list : (p n : ℕ) → 1 ≤ p → p ≤ n → spot_of p < n
in_list p n a b = let z = spot_is p a in omega arith

-- no two in one spot
same_spot : (p q : ℕ) → 1 ≤ p → p ≤ 4 → spot_of p ≡ spot_of q → q ≡ p
same_spot p zero a b e = let z = spot_is p a in absurd (omega arith)
same_spot p (suc q) a b e = let z = spot_is p a in let y = spot_is (suc q) (omega arith) in omega arith

-- ── Each port settles its alarm ──
settled_at : (qs : List Port) (l : List Alarm) → length l ≡ length qs → (k : ℕ)
    → get_or (all_settled qs l) k no_alarm ≡ settled (get_or qs k no_port) (get_or l k no_alarm)
unfolding all_settled settled
settled_at [] [] e k = refl
settled_at [] (a ∷ l) e k = absurd (omega arith)
settled_at (q ∷ qs) [] e k = absurd (omega arith)
settled_at (q ∷ qs) (a ∷ l) e zero = refl
settled_at (q ∷ qs) (a ∷ l) e (suc k) = settled_at qs l (omega arith) k

-- an alarm for each port
abbrev pub Each : Handled → Type 0
Each s = length s.alarms ≡ length (base_of s).ports

module _ (s : Handled) (i : Brought) (each : Each s) where
  abbrev port : ℕ
  port = narrow i.timed.input.port

  abbrev written : List Alarm
  written = set s.alarms (spot_of port) (row_in s i).alarm

  written_each : length written ≡ length (base_of (enact s i)).ports
  written_each = length-set s.alarms _ _ ∙ each ∙ sym (ports_stay s.predicted (row_in s i).stands)

  pub after_is : (p : ℕ) → alarm_of (enact s i) p ≡ settled (port_of (base_of (enact s i)) p) (get_or written (spot_of p) no_alarm)
  unfolding alarm_of port_of
  after_is p = settled_at (base_of (enact s i)).ports written written_each (spot_of p)

  pub here_after : (p : ℕ) → spot_of p < length s.alarms → port ≡ p
      → alarm_of (enact s i) p ≡ settled (port_of (base_of (enact s i)) p) (row_in s i).alarm
  here_after p b z =
      after_is p
      ∙ ap (settled (port_of (base_of (enact s i)) p))
      (ap (λ q. get_or (set s.alarms (spot_of q) (row_in s i).alarm) (spot_of p) no_alarm) z
      ∙ get_or-set_same s.alarms (spot_of p) (row_in s i).alarm no_alarm b)

  pub elsewhere_after : (p : ℕ) → 1 ≤ p → p ≤ 4 → port ≢ p
      → alarm_of (enact s i) p ≡ settled (port_of (base_of (enact s i)) p) (alarm_of s p)
  unfolding alarm_of
  elsewhere_after p a b n =
      after_is p
      ∙ ap (settled (port_of (base_of (enact s i)) p))
      (get_or-set_other s.alarms (spot_of port) (spot_of p) (row_in s i).alarm no_alarm (λ e. n (same_spot p port a b e)))

  pub each_after : Each (state_after s i)
  unfolding state_after
  each_after = go (eqb (answer_in s i) 0)
    where
      go : (w : Bool) → Each (cond w (enact s i) s)
      go true = settled_long (base_of (enact s i)).ports written written_each
      go false = each

  as_many_after : length (base_of (state_after s i)).ports ≡ length (base_of s).ports
  unfolding state_after
  as_many_after = go (eqb (answer_in s i) 0)
    where
      go : (w : Bool) → length (base_of (cond w (enact s i) s)).ports ≡ length (base_of s).ports
      go true = ports_stay s.predicted (row_in s i).stands
      go false = refl

-- ── From set-up ──
pub none_yet : (n k : ℕ) → get_or (replicate n no_alarm) k no_alarm ≡ no_alarm
none_yet zero k = refl
none_yet (suc n) zero = refl
none_yet (suc n) (suc k) = none_yet n k

module _ (P B setting timeout : ℕ) where
  pub record Counted (s : Handled) : Type 0 where
    pub each : Each s
    pub many : length (base_of s).ports ≡ P

  pub counted : (run : List Brought) → Counted (reached (start P B setting timeout) run)
  unfolding reached
  counted [] = record { each = length-replicate P no_alarm ∙ sym (length-replicate P new_port); many = length-replicate P new_port }
  counted (i ∷ earlier) =
      let c = counted earlier in
      let s = reached (start P B setting timeout) earlier in
      record { each = each_after s i c.each; many = as_many_after s i c.each ∙ c.many }
