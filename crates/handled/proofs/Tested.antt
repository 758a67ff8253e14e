-- The alarms tested port by port are the alarms of a sound tool.
use Prim.Native.Nat.{ℕ, zero, suc, ◌≤◌}
use native.Mathlib.Omega.{arith}
use mathlib.Core.Path.{◌≡◌, refl, ap, sym, ◌∙◌}
use mathlib.Core.Bool.{Bool, true, false, cond, ◌&&◌}
use mathlib.Core.List.{List, [], ◌∷◌}
use lib.ListN.{length, get_or, take, drop}
use lib.Dec.{leb}
use Rattle.lists.specs.Lists.{every}
use Rattle.times.proofs.Fitting.{and_true}
use Rattle.records.specs.declared.port.Port.{Port}
use Rattle.rules.specs.declared.tool.Tool.{Tool}
use Rattle.rules.specs.State.{port_at}
use Rattle.image.specs.Image.{tool_from}
use Rattle.image.proofs.Laid.{ports_long}
use Rattle.mapped.specs.Bytes.{own_in}
use Rattle.prediction.specs.Sound as prediction
use Rattle.prediction.proofs.SoundTools.{tool_sound}
use Rattle.predicted.specs.Bytes.{predicted_in}
use Rattle.predicted.proofs.Held as predicted
use Rattle.hands.specs.declared.alarm.Alarm.{Alarm}
use Rattle.hands.specs.Sound.{agrees, each_agrees, sound, is_none, sound_tool}
use Rattle.handled.specs.Bytes.{alarms_from, handled_in}
use Rattle.handled.specs.Tests.{sound_at, sound_alarms}
use Rattle.handled.proofs.Laid.{alarms_long}
use Rattle.handled.proofs.Four.{four}

-- the first u agree with their ports, and there is none after them
unfoldable tested : ℕ → List Port → List Alarm → Bool
tested zero qs l = every is_none l
tested (suc u) [] l = true
tested (suc u) (q ∷ qs) [] = true
tested (suc u) (q ∷ qs) (a ∷ l) = agrees q a && tested u qs l

swapped : (a b c : Bool) → (a && (b && c)) ≡ (b && (a && c))
swapped true b c = refl
swapped false true c = refl
swapped false false c = refl

tested_is : (u : ℕ) (qs : List Port) (l : List Alarm) → length l ≡ length qs → u ≤ length qs
    → tested u qs l ≡ (every is_none (drop u l) && each_agrees (take u qs) (take u l))
unfolding tested each_agrees
tested_is zero qs l e b = sym (and_true (every is_none l))
tested_is (suc u) [] l e b = absurd (omega arith)
tested_is (suc u) (q ∷ qs) [] e b = absurd (omega arith)
tested_is (suc u) (q ∷ qs) (a ∷ l) e b =
    ap (λ t. agrees q a && t) (tested_is u qs l (omega arith) (omega arith)) ∙ swapped (agrees q a) (every is_none (drop u l)) _

-- by the four ports' numbers
module _ (t : Tool) where
  abbrev Same : List Port → List Alarm → Type 0
  Same qs l = t.ports ≡ qs → sound_alarms t l ≡ tested t.used qs l

  same_of : (p q r s : Port) (w x y z : Alarm) → t.used ≤ 4 → Same (p ∷ q ∷ r ∷ s ∷ []) (w ∷ x ∷ y ∷ z ∷ [])
  unfolding sound_alarms sound_at port_at tested every
  same_of p q r s w x y z b e = rw e (go t.used b)
    where
      go : (u : ℕ) → u ≤ 4
          → (cond (leb 1 u) (agrees p w) (is_none w) && (cond (leb 2 u) (agrees q x) (is_none x)
          && (cond (leb 3 u) (agrees r y) (is_none y) && cond (leb 4 u) (agrees s z) (is_none z))))
          ≡ tested u (p ∷ q ∷ r ∷ s ∷ []) (w ∷ x ∷ y ∷ z ∷ [])
      go zero b = ap (λ d. is_none w && (is_none x && (is_none y && d))) (sym (and_true (is_none z)))
      go (suc zero) b = ap (λ d. agrees p w && (is_none x && (is_none y && d))) (sym (and_true (is_none z)))
      go (suc (suc zero)) b = ap (λ d. agrees p w && (agrees q x && (is_none y && d))) (sym (and_true (is_none z)))
      go (suc (suc (suc zero))) b = ap (λ d. agrees p w && (agrees q x && (agrees r y && d))) (sym (and_true (is_none z)))
      go (suc (suc (suc (suc zero)))) b = ap (λ d. agrees p w && (agrees q x && (agrees r y && d))) (sym (and_true (agrees s z)))
      go (suc (suc (suc (suc (suc u))))) b = absurd (omega arith)

  same_tested : t.used ≤ 4 → length t.ports ≡ 4 → (l : List Alarm) → length l ≡ 4 → sound_alarms t l ≡ tested t.used t.ports l
  same_tested b h l k =
      four (λ qs. Same qs l) (λ p q r s. four (λ l. Same (p ∷ q ∷ r ∷ s ∷ []) l) (λ w x y z. same_of p q r s w x y z b) l k) t.ports h refl

module _ (m : List (List ℕ)) where
  abbrev tool : Tool
  tool = tool_from (get_or m 0 [])

  state_part : prediction.sound_tool (predicted_in m) ≡ true
      → sound_tool (handled_in m) ≡ (every is_none (drop tool.used (alarms_from (own_in m))) && each_agrees (take tool.used tool.ports) (take tool.used (alarms_from (own_in m))))
  unfolding sound_tool sound
  state_part h = rw (h, tool_sound (predicted_in m) h)

  unsound_below : prediction.sound_tool (predicted_in m) ≡ false → sound_tool (handled_in m) ≡ false
  unfolding sound_tool
  unsound_below e = rw e

  pub alarms_tested : (prediction.sound_tool (predicted_in m) && sound_alarms tool (alarms_from (own_in m))) ≡ sound_tool (handled_in m)
  alarms_tested = go (prediction.sound_tool (predicted_in m)) refl
    where
      go : (w : Bool) → prediction.sound_tool (predicted_in m) ≡ w → (w && sound_alarms tool (alarms_from (own_in m))) ≡ sound_tool (handled_in m)
      go true e =
          let few = (predicted.held m e).few_ports in
          let h = ports_long (get_or m 0 []) in
          let k = alarms_long (own_in m) in
          same_tested tool few h (alarms_from (own_in m)) k ∙ tested_is tool.used tool.ports (alarms_from (own_in m)) (k ∙ sym h) (omega arith)
          ∙ sym (state_part e)
      go false e = sym (unsound_below e)
