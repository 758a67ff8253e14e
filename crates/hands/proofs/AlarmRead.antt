-- Whether a port's alarm is on is what the run says.
use Prim.Native.Nat.{ℕ, ◌≤◌}
use native.Mathlib.Omega.{arith}
use native.Mathlib.Decide.{ℕ_discrete}
use mathlib.Core.Path.{◌≡◌, refl, ap, sym, ◌∙◌}
use mathlib.Core.Logic.{◌≢◌}
use mathlib.Core.Bool.{Bool, true, false, not, cond, ◌&&◌, ◌||◌}
use mathlib.Core.List.{List, [], ◌∷◌}
use lib.ListN.{length}
use lib.Dec.{eqb}
use borrow.Author.Tests.{eqb-true, eq-eqb, ne_eqb}
use Rattle.lists.proofs.Bools.{clash}
use Rattle.records.specs.declared.port.Port.{Port}
use Rattle.records.specs.Ports.{ready_to_load}
use Rattle.rules.specs.declared.row.Seen.{Seen}
use Rattle.rules.specs.State.{spot_of, port_of}
use Rattle.rules.specs.Seen.{narrow, see}
use Rattle.wafers.specs.Outcome.{Brought}
use Rattle.hands.specs.declared.alarm.Alarm.{Alarm}
use Rattle.hands.specs.Alarms.{is_on, raised, holding, settled}
use Rattle.hands.specs.State.{Handled, base_of, alarm_of, start}
use Rattle.hands.specs.Rows.{manual, in_auto, violated, row_of}
use Rattle.hands.specs.Outcome.{row_in, answer_in, enact, state_after, reached}
use Rattle.hands.specs.Host.{Step, step_of, steps, raises, frees, ends, alarm_read}
use Rattle.hands.proofs.AlarmAfter.{in_list, Each, here_after, elsewhere_after, none_yet, counted}
use Rattle.hands.proofs.LoadEnds.{fails_ready}

settled_on : (q : Port) (a : Alarm) → is_on (settled q a) ≡ (not (ready_to_load q) && is_on a)
unfolding settled
settled_on q a = go (ready_to_load q)
  where
    go : (w : Bool) → eqb (cond w 0 a.on) 1 ≡ (not w && is_on a)
    go true = refl
    go false = refl

-- a row's alarm: on if the row raises it, or if it was on and the row isn't Continue
abbrev on_then : Bool → Bool → Seen → Alarm → Bool
on_then starts continues x a = not continues && ((starts && manual x && in_auto x) || is_on a)

row_on : (n : ℕ) (x : Seen) (a : Alarm) (i : Brought) → is_on (row_of n x a i).alarm ≡ on_then (eqb n 13 || eqb n 24) (eqb n 36) x a
unfolding row_of
row_on n x a i = go (eqb n 13) refl (eqb n 14) refl (eqb n 24) refl (eqb n 36) refl
  where
    other : (k m : ℕ) → k ≢ m → eqb n k ≡ true → eqb n m ≡ true → {X : Type 0} → X
    other k m d e f = absurd (d (sym (eqb-true n k e) ∙ eqb-true n m f))

    starting : (w : Bool) → is_on (cond w (raised a) a) ≡ (w || is_on a)
    starting true = refl
    starting false = refl

    held : (w : Bool) → is_on (cond w (holding a) a) ≡ is_on a
    held true = refl
    held false = refl

    go : (u : Bool) → eqb n 13 ≡ u → (v : Bool) → eqb n 14 ≡ v → (w : Bool) → eqb n 24 ≡ w → (z : Bool) → eqb n 36 ≡ z
        → is_on (cond u (row_of 13 x a i) (cond v (row_of 14 x a i) (cond w (row_of 13 x a i) (cond z (row_of 36 x a i) (row_of 0 x a i))))).alarm
        ≡ on_then (u || w) z x a
    go true e v f w g true h = other 13 36 (λ o. omega arith) e h
    go true e v f w g false h = starting (manual x && in_auto x)
    go false e true f true g z h = other 14 24 (λ o. omega arith) f g
    go false e true f false g true h = other 14 36 (λ o. omega arith) f h
    go false e true f false g false h = held (violated x a)
    go false e false f true g true h = other 24 36 (λ o. omega arith) g h
    go false e false f true g false h = starting (manual x && in_auto x)
    go false e false f false g true h = refl
    go false e false f false g false h = refl

-- LoadFail ends the alarm because the port is READY TO LOAD then
either_way : (ready continues fails on : Bool) → (fails ≡ true → ready ≡ true)
    → (not ready && (not continues && on)) ≡ (not ((continues || fails) || ready) && on)
either_way true true fails on h = refl
either_way true false true on h = refl
either_way true false false on h = refl
either_way false continues true on h = clash (h refl) refl
either_way false true false on h = refl
either_way false false false on h = refl

-- ── One input ──
module _ (s : Handled) (i : Brought) (each : Each s) (p : ℕ) (lo : 1 ≤ p) (hi : p ≤ length (base_of s).ports) (few : length (base_of s).ports ≤ 4) where
  abbrev port : ℕ
  port = narrow i.timed.input.port

  abbrev number : ℕ
  number = i.timed.input.number

  abbrev e : Step
  e = step_of s i

  abbrev Reads : Handled → Type 0
  Reads t = is_on (alarm_of t p) ≡ (not (ends p e) && (raises p e || is_on (alarm_of s p)))

  refused_reads : eqb (answer_in s i) 0 ≡ false → Reads s
  unfolding ends frees raises
  refused_reads r = rw r

  module _ (a : answer_in s i ≡ 0) where
    after_is : base_of (state_after s i) ≡ base_of (enact s i)
    unfolding state_after
    after_is = rw a

    elsewhere_reads : port ≢ p → Reads (enact s i)
    unfolding ends frees raises
    elsewhere_reads n =
        rw (ne_eqb port p n, a, after_is, elsewhere_after s i each p lo (omega arith) n, settled_on (port_of (base_of (enact s i)) p) (alarm_of s p))

    -- an accepted LoadFail leaves the port READY TO LOAD
    fails : port ≡ p → eqb number 15 ≡ true → ready_to_load (port_of (base_of (enact s i)) p) ≡ true
    fails z f =
        ap (λ q. ready_to_load (port_of (base_of (enact s i)) q)) (sym z)
        ∙ fails_ready s i (eqb-true number 15 f) a (rw z (in_list p (length (base_of s).ports) lo hi))

    -- the step at this port, by what the row and the port make of the alarm
    abbrev then_on : Bool
    then_on = ((eqb number 13 || eqb number 24) && eqb (narrow i.timed.input.value) 0 && eqb (port_of (base_of s) p).access 1) || is_on (alarm_of s p)

    row_is : port ≡ p → is_on (row_in s i).alarm ≡ (not (eqb number 36) && then_on)
    unfolding see
    row_is z = rw (row_on number (see (base_of s) i.timed.input) (alarm_of s port) i, z)

    step_is : port ≡ p
        → (not ((eqb number 36 || eqb number 15) || ready_to_load (port_of (base_of (enact s i)) p)) && then_on) ≡ (not (ends p e) && (raises p e || is_on (alarm_of s p)))
    unfolding ends frees raises
    step_is z = rw (a, after_is, eq-eqb port p z)

    here_reads : port ≡ p → Reads (enact s i)
    here_reads z =
        let ready = ready_to_load (port_of (base_of (enact s i)) p) in
        ap is_on (here_after s i each p (let b = in_list p (length (base_of s).ports) lo hi in omega arith) z)
        ∙ settled_on (port_of (base_of (enact s i)) p) (row_in s i).alarm
        ∙ ap (λ b. not ready && b) (row_is z)
        ∙ either_way ready (eqb number 36) (eqb number 15) then_on (fails z)
        ∙ step_is z

  pub reads : Reads (state_after s i)
  unfolding state_after
  reads = go (eqb (answer_in s i) 0) refl (ℕ_discrete port p)
    where
      go : (w : Bool) → eqb (answer_in s i) 0 ≡ w → Dec (port ≡ p) → Reads (cond w (enact s i) s)
      go true r (yes z) = here_reads (eqb-true _ 0 r) z
      go true r (no n) = elsewhere_reads (eqb-true _ 0 r) n
      go false r d = refused_reads r

-- ── Runs ──
module _ (P B setting timeout : ℕ) (hi : P ≤ 4) where
  abbrev begin : Handled
  begin = start P B setting timeout

  pub alarm_read_fact : (run : List Brought) (p : ℕ) → 1 ≤ p → p ≤ P → is_on (alarm_of (reached begin run) p) ≡ alarm_read p (steps begin run)
  unfolding reached alarm_of steps alarm_read
  alarm_read_fact [] p a b = ap is_on (none_yet P (spot_of p))
  alarm_read_fact (i ∷ earlier) p a b =
      let c = counted P B setting timeout earlier in
      let m = c.many in
      reads (reached begin earlier) i c.each p a (omega arith) (omega arith)
      ∙ rw (alarm_read_fact earlier p a b)
