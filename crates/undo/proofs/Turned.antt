-- The ports between the two inputs of a pair: what predictions and alarms ask of them.
use Prim.Native.Nat.{ℕ, ◌<◌}
use native.Mathlib.Decide.{ℕ_discrete}
use mathlib.Core.Path.{◌≡◌, refl, ◌∙◌}
use mathlib.Core.Bool.{Bool, true, false, ◌&&◌}
use mathlib.Core.List.{List}
use lib.ListN.{length, length-set, get_or, set}
use lib.Seq.{set_out, get_or-set_same, get_or-set_other, set-get_or}
use lib.Dec.{ltb}
use borrow.Author.Tests.{ltb-true, ltb-false}
use Rattle.lists.proofs.Bools.{and_l, and_r, and_i}
use Rattle.records.specs.declared.port.Port.{Port}
use Rattle.records.specs.declared.carrier.Carrier.{Carrier}
use Rattle.records.specs.Ports.{no_port, ready_to_load, ready_to_unload, loading}
use Rattle.records.specs.Carriers.{at_port}
use Rattle.rules.specs.State.{State, port_of}
use Rattle.prediction.specs.Sound.{is_ready}
use Rattle.hands.specs.declared.alarm.Alarm.{Alarm}
use Rattle.hands.specs.Alarms.{no_alarm, settled}
use Rattle.hands.specs.Sound.{each_agrees}
use Rattle.hands.specs.Outcome.{all_settled}
use Rattle.hands.proofs.Settled.{as_long}
use Rattle.hands.proofs.Held.{agrees_at}
use Rattle.undo.proofs.Alarms.{twice, settles_back, clears}

-- q before, r between: READY TO UNLOAD and READY TO LOAD only if it was, and loading if it was
pub record Turns (q r : Port) : Type 0 where
  pub unload : ready_to_unload r ≡ true → ready_to_unload q ≡ true
  pub load : ready_to_load r ≡ true → ready_to_load q ≡ true
  pub loads : loading q ≡ true → loading r ≡ true

pub as_it_was : (q : Port) → Turns q q
as_it_was q = record { unload = λ e. e; load = λ e. e; loads = λ e. e }

-- where one port turns, each does
module _ (qs : List Port) (k : ℕ) (r : Port) (t : k < length qs → Turns (get_or qs k no_port) r) where
  pub all_turn : (m : ℕ) → Turns (get_or qs m no_port) (get_or (set qs k r) m no_port)
  all_turn m = go (ℕ_discrete m k)
    where
      here : (w : Bool) → ltb k (length qs) ≡ w → Turns (get_or qs k no_port) (get_or (set qs k r) k no_port)
      here true e = rw (get_or-set_same qs k r no_port (ltb-true _ _ e)) (t (ltb-true _ _ e))
      here false e = rw (set_out qs k r (ltb-false _ _ e)) (as_it_was (get_or qs k no_port))

      go : Dec (m ≡ k) → Turns (get_or qs m no_port) (get_or (set qs k r) m no_port)
      go (yes e) = rw e (here (ltb k (length qs)) refl)
      go (no d) = rw (get_or-set_other qs k m r no_port d) (as_it_was (get_or qs m no_port))

-- a carrier in the same place at the same port is ready only if it was
pub ready_before : (s u : State) (old c : Carrier) → c.place ≡ old.place → c.port ≡ old.port
    → Turns (port_of s old.port) (port_of u old.port) → is_ready u c ≡ true → is_ready s old ≡ true
unfolding is_ready
ready_before s u old c p q t e =
    let a : (at_port old && ready_to_unload (port_of u old.port)) ≡ true = rw (p, q) at e in
    and_i {a = at_port old} (and_l _ (ready_to_unload (port_of u old.port)) a) (t.unload (and_r (at_port old) _ a))

-- ── The alarms ──
module _ (qs rs : List Port) (l : List Alarm) (k : ℕ) (h : each_agrees qs l ≡ true) (same : length rs ≡ length qs)
    (t : (m : ℕ) → Turns (get_or qs m no_port) (get_or rs m no_port)) where
  one_back : (m : ℕ) → settled (get_or qs m no_port) (settled (get_or rs m no_port) (get_or l m no_alarm)) ≡ get_or l m no_alarm
  one_back m = settles_back (get_or qs m no_port) (get_or l m no_alarm) (agrees_at qs l h m) (get_or rs m no_port) (t m).load (t m).loads

  -- a row that leaves the alarm of its port
  pub settled_back : all_settled qs (all_settled rs (set l k (get_or l k no_alarm))) ≡ l
  settled_back = rw (set-get_or l k no_alarm) (twice qs rs l l same (as_long qs l h) (as_long qs l h) (λ m b. one_back m))

  -- a row that raises it, at a port that was READY TO LOAD
  pub raised_back : (a : Alarm) → ready_to_load (get_or qs k no_port) ≡ true → loading (get_or qs k no_port) ≡ false
      → all_settled qs (all_settled rs (set l k a)) ≡ l
  raised_back a e f =
      twice qs rs l (set l k a) same (as_long qs l h) (length-set l k a ∙ as_long qs l h) (λ m b. go m (ℕ_discrete m k))
    where
      go : (m : ℕ) → Dec (m ≡ k) → settled (get_or qs m no_port) (settled (get_or rs m no_port) (get_or (set l k a) m no_alarm)) ≡ get_or l m no_alarm
      go m (yes z) = rw z (clears (get_or qs k no_port) (get_or l k no_alarm) (agrees_at qs l h k) _ e f)
      go m (no d) = rw (get_or-set_other l k m a no_alarm d) (one_back m)
