-- While a pod is held the port is loading, its alarm is on and it has no pod; only Continue and LoadFail there end that.
use Prim.Native.Nat.{ℕ, zero, suc, ◌≤◌, ◌<◌}
use native.Mathlib.Omega.{arith}
use native.Mathlib.Decide.{ℕ_discrete}
use mathlib.Core.Path.{◌≡◌, refl, ap, sym, ◌∙◌}
use mathlib.Core.Logic.{◌≢◌}
use mathlib.Core.Bool.{Bool, true, false, not, cond, ◌&&◌, ◌||◌}
use mathlib.Core.List.{List, [], ◌∷◌}
use lib.ListN.{length, get_or, get_or-eq_default}
use lib.Dec.{eqb, leb, ltb}
use borrow.Author.Tests.{eqb-true, eq-eqb, ne_eqb, ltb-true, ltb-false}
use Rattle.lists.proofs.Bools.{clash, cond_ind, and_l, and_r, and_i, or_false_l, or_false_r, or_other}
use Rattle.records.specs.declared.port.Port.{Port}
use Rattle.records.specs.Ports.{no_port, loading, has_pod}
use Rattle.rules.specs.declared.row.Seen.{Seen}
use Rattle.rules.specs.State.{spot_of, port_of}
use Rattle.rules.specs.Seen.{narrow, see}
use Rattle.rules.specs.Row.{when, lower, lowest}
use Rattle.maps.specs.Sound as maps-sound
use Rattle.maps.proofs.SoundRuns as maps-proofs
use Rattle.queue.proofs.Below.{base_facts}
use Rattle.queue.proofs.SoundRuns as queue-proofs
use Rattle.queue.proofs.SoundRuns.{lower_zero}
use Rattle.prediction.proofs.Sounds.{queue_part}
use Rattle.wafers.specs.Outcome as wafers
use Rattle.wafers.specs.Outcome.{Brought}
use Rattle.hands.specs.declared.alarm.Alarm.{Alarm}
use Rattle.hands.specs.Alarms.{no_alarm, is_on, is_held, raised, holding, settled}
use Rattle.hands.specs.State.{Handled, base_of, alarm_of}
use Rattle.hands.specs.Sound.{agrees, each_agrees, sound}
use Rattle.hands.specs.Rows.{row_of, LoadDone, violated, manual, in_auto}
use Rattle.hands.specs.Outcome.{row_in, answer_in, enact, state_after}
use Rattle.hands.specs.Host.{step_of, done_at, frees, Waits}
use Rattle.hands.proofs.Walk.{walk}
use Rattle.hands.proofs.Settled.{as_long}
use Rattle.hands.proofs.Below.{kept_below}
use Rattle.hands.proofs.Sounds.{predicted_part, alarms_part, sound_after}
use Rattle.hands.proofs.AlarmAfter.{Each, after_is, here_after, elsewhere_after, each_after}
use Rattle.hands.proofs.LoadEnds.{done_row}
use Rattle.hands.proofs.Loading.{Spares, Loads, below_loads}

-- ── What every input keeps, whatever the times ──
-- document 01's part and P1's maps are sound, each port has an alarm, and one where a pod is held is loading
pub record Steady (s : Handled) : Type 0 where
  pub sounds : maps-sound.sound s.predicted.queued.mapped ≡ true
  pub each : Each s
  pub loads : (p : ℕ) → is_held (alarm_of s p) ≡ true → loading (port_of (base_of s) p) ≡ true

pub settled_held : (q : Port) (a : Alarm) → is_held (settled q a) ≡ (loading q && is_held a)
unfolding settled
settled_held q a = go (loading q)
  where
    go : (w : Bool) → eqb (cond w a.held 0) 1 ≡ (w && is_held a)
    go true = refl
    go false = refl

pub steady_after : (s : Handled) (i : Brought) → Steady s → Steady (state_after s i)
unfolding state_after
steady_after s i st = record { sounds = sounds_go (eqb (answer_in s i) 0); each = each_after s i st.each; loads = loads_go (eqb (answer_in s i) 0) }
  where
    sounds_go : (w : Bool) → maps-sound.sound (cond w (enact s i) s).predicted.queued.mapped ≡ true
    sounds_go true =
        kept_below (λ m. maps-sound.sound m ≡ true) (λ m j h. maps-proofs.sound_after m j h) s.predicted (row_in s i).stands st.sounds
    sounds_go false = st.sounds

    loads_go : (w : Bool) (p : ℕ) → is_held (alarm_of (cond w (enact s i) s) p) ≡ true → loading (port_of (base_of (cond w (enact s i) s)) p) ≡ true
    loads_go true p h = and_l _ _ (sym (settled_held (port_of (base_of (enact s i)) p) _) ∙ ap is_held (sym (after_is s i st.each p)) ∙ h)
    loads_go false p h = st.loads p h

-- ── A sound state ──
pub agrees_at : (qs : List Port) (l : List Alarm) → each_agrees qs l ≡ true → (k : ℕ) → agrees (get_or qs k no_port) (get_or l k no_alarm) ≡ true
unfolding each_agrees agrees
agrees_at [] [] h k = refl
agrees_at [] (a ∷ l) h k = clash h refl
agrees_at (q ∷ qs) [] h k = clash h refl
agrees_at (q ∷ qs) (a ∷ l) h zero = and_l _ _ h
agrees_at (q ∷ qs) (a ∷ l) h (suc k) = agrees_at qs l (and_r (agrees q a) _ h) k

held_agrees : (q : Port) (a : Alarm) → agrees q a ≡ true → is_held a ≡ true → (loading q && is_on a) ≡ true
unfolding agrees
held_agrees q a h e =
    let one = and_l (leb a.on 1 && leb a.held 1 && (not (is_held a) || (loading q && is_on a))) _ h in
    let two = and_r (leb a.on 1 && leb a.held 1) _ one in
    or_other (not (is_held a)) _ two (ap not e)

pub no_pod_fact : (s : Handled) → Steady s → (p : ℕ) → is_held (alarm_of s p) ≡ true → has_pod (port_of (base_of s) p) ≡ false
no_pod_fact s st p h =
    ne_eqb (port_of (base_of s) p).pod 1
    (((base_facts s.predicted.queued.mapped st.sounds).ports p).load (eqb-true _ 1 (st.loads p h)))

module _ (s : Handled) (sounds : sound s ≡ true) where
  both : (p : ℕ) → is_held (alarm_of s p) ≡ true → (loading (port_of (base_of s) p) && is_on (alarm_of s p)) ≡ true
  unfolding alarm_of port_of
  both p h = held_agrees _ _ (agrees_at (base_of s).ports s.alarms (alarms_part s sounds) (spot_of p)) h

  pub sound_steady : Steady s
  sound_steady = record {
    sounds = (queue-proofs.sound_parts s.predicted.queued (queue_part s.predicted (predicted_part s sounds))).mapped;
    each = as_long (base_of s).ports s.alarms (alarms_part s sounds);
    loads = λ p h. and_l _ _ (both p h);
  }

  pub held_loading : (p : ℕ) → is_held (alarm_of s p) ≡ true → Waits s p
  held_loading p h = record {
    held = h;
    still_loading = and_l _ _ (both p h);
    alarm_on = and_r (loading (port_of (base_of s) p)) _ (both p h);
    no_pod = no_pod_fact s sound_steady p h;
  }

-- ── An input ──
row_held : (n : ℕ) (x : Seen) (a : Alarm) (i : Brought) → n ≢ 36 → is_held a ≡ true → is_held (row_of n x a i).alarm ≡ true
row_held n x a i c h = walk (λ r. is_held r.alarm ≡ true) n x a i (record {
  load_start = λ _. starting (manual x && in_auto x);
  load_done = λ _. done (violated x a);
  unload_start = λ _. starting (manual x && in_auto x);
  continue_row = λ e. absurd (c e);
  other = h;
})
  where
    starting : (w : Bool) → is_held (cond w (raised a) a) ≡ true
    starting true = h
    starting false = h

    done : (w : Bool) → is_held (cond w (holding a) a) ≡ true
    done true = refl
    done false = h

-- LoadDone on a held pod is refused
pub done_free : (s : Handled) (i : Brought) → answer_in s i ≡ 0 → i.timed.input.number ≡ 14
    → is_held (alarm_of s (narrow i.timed.input.port)) ≡ false
unfolding answer_in lowest lower
done_free s i a n =
    let h = alarm_of s (narrow i.timed.input.port) in
    let r = done_row i.timed.input.number (see (base_of s) i.timed.input) h i n in
    go (is_held h) (lower_zero _ _ (rw r at a)).0
  where
    go : (w : Bool) → lowest (when w 5 ∷ []) ≡ 0 → w ≡ false
    go true e = absurd (omega arith)
    go false e = refl

-- a port where a pod is held is one of the tool's
pub held_in : (s : Handled) → Steady s → (p : ℕ) → is_held (alarm_of s p) ≡ true → (1 ≤ p) × (p ≤ 4) × (spot_of p < length s.alarms)
unfolding alarm_of
held_in s st p h = let b = within (ltb (spot_of p) (length s.alarms)) refl in go p b
  where
    few : length s.alarms ≤ 4
    few = let e = st.each in let b = (base_facts s.predicted.queued.mapped st.sounds).few_ports in omega arith

    within : (w : Bool) → ltb (spot_of p) (length s.alarms) ≡ w → spot_of p < length s.alarms
    within true e = ltb-true _ _ e
    within false e = clash h (ap is_held (get_or-eq_default s.alarms no_alarm (ltb-false (spot_of p) (length s.alarms) e)))

    go : (q : ℕ) → spot_of q < length s.alarms → (1 ≤ q) × (q ≤ 4) × (spot_of q < length s.alarms)
    go zero b = let f = few in absurd (omega arith)
    go (suc q) b = let f = few in let z : spot_of (suc q) ≡ q = rw (ne_eqb (suc q) 0 (λ e. omega arith)) (omega arith) in (omega arith, omega arith, b)

module _ (s : Handled) (i : Brought) (st : Steady s) (p : ℕ) (h : is_held (alarm_of s p) ≡ true) (stay : frees p (step_of s i) ≡ false) where
  abbrev port : ℕ
  port = narrow i.timed.input.port

  abbrev number : ℕ
  number = i.timed.input.number

  module _ (a : answer_in s i ≡ 0) where
    -- neither Continue nor LoadFail, and so no LoadDone
    apart : (k : ℕ) → done_at k p (step_of s i) ≡ false → number ≡ k → port ≢ p
    apart k f n z = clash (and_i (and_i (eq-eqb _ 0 a) (eq-eqb port p z)) (eq-eqb number k n)) f

    no_continue : number ≡ 36 → port ≢ p
    unfolding frees
    no_continue = apart 36 (or_false_l (done_at 36 p (step_of s i)) _ stay)

    spares : Spares p i.timed.input
    unfolding frees
    spares = record {
      done = λ n z. clash h (ap (λ q. is_held (alarm_of s q)) (sym z) ∙ done_free s i a n);
      fails = apart 15 (or_false_r (done_at 36 p (step_of s i)) _ stay);
    }

    abbrev Leaves : List Brought → Type 0
    Leaves l = Loads p (wafers.reached s.predicted l).queued.mapped

    loads : Loads p s.predicted.queued.mapped
    loads = record { sounds = st.sounds; loads = st.loads p h }

    none_leaves : Leaves []
    unfolding wafers.reached
    none_leaves = loads

    itself_leaves : Leaves (i ∷ [])
    itself_leaves = below_loads p s.predicted i loads spares

    rows_leave : Leaves (row_in s i).stands
    rows_leave = walk (λ r. Leaves r.stands) number (see (base_of s) i.timed.input) (alarm_of s port) i (record {
      load_start = λ _. itself_leaves;
      load_done = λ _. cond_ind Leaves (violated (see (base_of s) i.timed.input) (alarm_of s port)) (λ _. none_leaves) (λ _. itself_leaves);
      unload_start = λ _. itself_leaves;
      continue_row = λ n.
          below_loads p s.predicted (LoadDone i.timed.input.port) loads (record { done = λ _. no_continue n; fails = λ z. absurd (omega arith) });
      other = itself_leaves;
    })

    accepted_stays : is_held (alarm_of (enact s i) p) ≡ true
    accepted_stays = go (ℕ_discrete port p)
      where
        q : Port
        q = port_of (base_of (enact s i)) p

        go : Dec (port ≡ p) → is_held (alarm_of (enact s i) p) ≡ true
        go (yes z) =
            ap is_held (here_after s i st.each p (held_in s st p h).2 z)
            ∙ settled_held q (row_in s i).alarm
            ∙ and_i rows_leave.loads
            (row_held number (see (base_of s) i.timed.input) (alarm_of s port) i (λ n. no_continue n z) (ap (λ r. is_held (alarm_of s r)) z ∙ h))
        go (no n) =
            ap is_held (elsewhere_after s i st.each p (held_in s st p h).0 (held_in s st p h).1 n)
            ∙ settled_held q (alarm_of s p)
            ∙ and_i rows_leave.loads h

  pub stays_held : is_held (alarm_of (state_after s i) p) ≡ true
  unfolding state_after
  stays_held = go (eqb (answer_in s i) 0) refl
    where
      go : (w : Bool) → eqb (answer_in s i) 0 ≡ w → is_held (alarm_of (cond w (enact s i) s) p) ≡ true
      go true e = accepted_stays (eqb-true _ 0 e)
      go false e = h

-- after any input but an accepted Continue or LoadFail there
pub held_stays : (s : Handled) → sound s ≡ true → (p : ℕ) → is_held (alarm_of s p) ≡ true
    → (i : Brought) → frees p (step_of s i) ≡ false → Waits (state_after s i) p
held_stays s sounds p h i stay =
    held_loading (state_after s i) (sound_after s i sounds) p (stays_held s i (sound_steady s sounds) p h stay)
