-- An alarm that its port settles twice, after each input of a pair, is the one before.
use Prim.Native.Nat.{ℕ, suc, ◌<◌}
use native.Mathlib.Omega.{arith}
use mathlib.Core.Path.{◌≡◌, refl}
use mathlib.Core.Bool.{Bool, true, false, cond}
use mathlib.Core.List.{List, [], ◌∷◌}
use lib.ListN.{length, get_or}
use Rattle.lists.proofs.Bools.{clash}
use Rattle.records.specs.declared.port.Port.{Port}
use Rattle.records.specs.Ports.{no_port, ready_to_load, loading}
use Rattle.hands.specs.declared.alarm.Alarm.{Alarm}
use Rattle.hands.specs.Alarms.{no_alarm, settled}
use Rattle.hands.specs.Sound.{agrees}
use Rattle.hands.specs.Outcome.{all_settled}
use Rattle.ten.proofs.Told.{alarm_of, off, unheld}

-- the ports before and between, the alarms before and as the first row leaves them
pub twice : (qs between : List Port) (l left : List Alarm) → length between ≡ length qs → length l ≡ length qs → length left ≡ length qs
    → ((k : ℕ) → k < length qs → settled (get_or qs k no_port) (settled (get_or between k no_port) (get_or left k no_alarm)) ≡ get_or l k no_alarm)
    → all_settled qs (all_settled between left) ≡ l
unfolding all_settled
twice [] between [] left a b c f = refl
twice [] between (x ∷ l) left a b c f = absurd (omega arith)
twice (q ∷ qs) [] l left a b c f = absurd (omega arith)
twice (q ∷ qs) (r ∷ between) [] left a b c f = absurd (omega arith)
twice (q ∷ qs) (r ∷ between) (x ∷ l) [] a b c f = absurd (omega arith)
twice (q ∷ qs) (r ∷ between) (x ∷ l) (y ∷ left) a b c f =
    rw (f 0 (omega arith), twice qs between l left (omega arith) (omega arith) (omega arith) (λ k h. f (suc k) (omega arith)))

-- ── One alarm ──
module _ (q : Port) (a : Alarm) (h : agrees q a ≡ true) where
  -- Between, the port is READY TO LOAD only if it was, and loading if it was.
  pub settles_back : (r : Port) → (ready_to_load r ≡ true → ready_to_load q ≡ true) → (loading q ≡ true → loading r ≡ true) → settled q (settled r a) ≡ a
  unfolding settled
  settles_back r f g = alarm_of (on (ready_to_load q) refl (ready_to_load r) refl) (held (loading q) refl (loading r) refl)
    where
      on : (w : Bool) → ready_to_load q ≡ w → (v : Bool) → ready_to_load r ≡ v → cond w 0 (cond v 0 a.on) ≡ a.on
      on true e v d = off q a h e
      on false e true d = clash (f d) e
      on false e false d = refl

      held : (w : Bool) → loading q ≡ w → (v : Bool) → loading r ≡ v → cond w (cond v a.held 0) 0 ≡ a.held
      held false e v d = unheld q a h e
      held true e true d = refl
      held true e false d = clash (g e) d

  -- Whatever it was between, at READY TO LOAD without a load it is off again.
  pub clears : (b : Alarm) → ready_to_load q ≡ true → loading q ≡ false → settled q b ≡ a
  unfolding settled
  clears b e d = rw (e, d) (alarm_of (off q a h e) (unheld q a h d))
