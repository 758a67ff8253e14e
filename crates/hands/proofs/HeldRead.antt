-- Whether a pod is held at a port is what the run says.
use Prim.Native.Nat.{ℕ, ◌≤◌}
use native.Mathlib.Omega.{arith}
use native.Mathlib.Decide.{ℕ_discrete}
use mathlib.Core.Path.{◌≡◌, refl, ap, sym, subst, ◌∙◌}
use mathlib.Core.Logic.{◌≢◌}
use mathlib.Core.Bool.{Bool, true, false, not, cond, ◌&&◌, ◌||◌}
use mathlib.Core.List.{List, [], ◌∷◌}
use lib.ListN.{length}
use lib.Dec.{eqb}
use borrow.Author.Tests.{eqb-true, eq-eqb}
use Rattle.lists.proofs.Bools.{clash, and_l, and_r, and_i, or_r, or_other}
use Rattle.records.specs.declared.port.Port.{Port}
use Rattle.records.specs.Ports.{loading}
use Rattle.rules.specs.declared.row.Seen.{Seen}
use Rattle.rules.specs.State.{spot_of, port_of}
use Rattle.rules.specs.Seen.{narrow, see}
use Rattle.queue.proofs.Below.{base_facts}
use Rattle.queue.proofs.SoundRuns.{lower_zero}
use Rattle.prediction.specs.State as prediction
use Rattle.wafers.specs.Outcome as wafers
use Rattle.wafers.specs.Outcome.{Brought}
use Rattle.hands.specs.declared.alarm.Alarm.{Alarm}
use Rattle.hands.specs.Alarms.{no_alarm, is_on, is_held, raised, holding}
use Rattle.hands.specs.State.{Handled, base_of, alarm_of, start}
use Rattle.hands.specs.Rows.{Row, manual, in_auto, violated, row_of}
use Rattle.hands.specs.Outcome.{row_in, answer_below, answer_in, enact, state_after, reached}
use Rattle.hands.specs.Host.{Step, step_of, steps, done_at, frees, held_read}
use Rattle.hands.proofs.Walk.{walk}
use Rattle.hands.proofs.AlarmAfter.{in_list, here_after, elsewhere_after, none_yet, counted}
use Rattle.hands.proofs.LoadEnds.{done_row, done_loading, fails_ready}
use Rattle.hands.proofs.AlarmRead.{alarm_read_fact}
use Rattle.hands.proofs.Held.{Steady, settled_held, steady_after, stays_held}
use Rattle.hands.proofs.Nobody.{steady}

never_both : (b : Bool) → (b && false) ≡ false
never_both true = refl
never_both false = refl

-- ── The alarm of a row ──
continue_row_fact : (n : ℕ) (x : Seen) (a : Alarm) (i : Brought) → n ≡ 36 → (row_of n x a i).alarm ≡ no_alarm
unfolding row_of
continue_row_fact n x a i e = rw e

-- only LoadDone holds a pod
row_free : (n : ℕ) (x : Seen) (a : Alarm) (i : Brought) → n ≢ 14 → is_held a ≡ false → is_held (row_of n x a i).alarm ≡ false
row_free n x a i d h = walk (λ r. is_held r.alarm ≡ false) n x a i (record {
  load_start = λ _. starting (manual x && in_auto x);
  load_done = λ e. absurd (d e);
  unload_start = λ _. starting (manual x && in_auto x);
  continue_row = λ _. refl;
  other = h;
})
  where
    starting : (w : Bool) → is_held (cond w (raised a) a) ≡ false
    starting true = h
    starting false = h

-- ── One input ──
module _ (s : Handled) (i : Brought) (st : Steady s) (p : ℕ) (lo : 1 ≤ p) (hi : p ≤ length (base_of s).ports) where
  abbrev port : ℕ
  port = narrow i.timed.input.port

  abbrev number : ℕ
  number = i.timed.input.number

  abbrev x : Seen
  x = see (base_of s) i.timed.input

  abbrev a : Alarm
  a = alarm_of s port

  abbrev e : Step
  e = step_of s i

  few : length (base_of s).ports ≤ 4
  few = (base_facts s.predicted.queued.mapped st.sounds).few_ports

  done_says : (k : ℕ) → done_at k p e ≡ true → (answer_in s i ≡ 0) × (port ≡ p) × (number ≡ k)
  done_says k d =
      let b = and_l (eqb (answer_in s i) 0 && eqb port p) _ d in
      (eqb-true _ 0 (and_l _ _ b), eqb-true port p (and_r (eqb (answer_in s i) 0) _ b), eqb-true number k (and_r (eqb (answer_in s i) 0 && eqb port p) _ d))

  module _ (z : answer_in s i ≡ 0) where
    state_is : state_after s i ≡ enact s i
    unfolding state_after
    state_is = rw z

    abbrev q : Port
    q = port_of (base_of (enact s i)) p

    -- at the input's port, and at another
    here_held : port ≡ p → is_held (alarm_of (enact s i) p) ≡ (loading q && is_held (row_in s i).alarm)
    here_held o =
        let b = in_list p (length (base_of s).ports) lo hi in
        let c = st.each in
        ap is_held (here_after s i st.each p (omega arith) o) ∙ settled_held q (row_in s i).alarm

    elsewhere_free : port ≢ p → is_held (alarm_of s p) ≡ false → is_held (alarm_of (enact s i) p) ≡ false
    elsewhere_free o h =
        let b = few in
        ap is_held (elsewhere_after s i st.each p lo (omega arith) o) ∙ settled_held q (alarm_of s p)
        ∙ ap (λ w. loading q && w) h ∙ never_both (loading q)

    here_free : port ≡ p → is_held (row_in s i).alarm ≡ false → is_held (alarm_of (enact s i) p) ≡ false
    here_free o h = here_held o ∙ ap (λ w. loading q && w) h ∙ never_both (loading q)

    -- READY TO LOAD, the port isn't loading
    fail_frees : port ≡ p → number ≡ 15 → is_held (alarm_of (enact s i) p) ≡ false
    fail_frees o n = here_held o ∙ ap (λ w. w && is_held (row_in s i).alarm) (go (loading q) refl)
      where
        ready : q.transfer ≡ 1
        ready =
            eqb-true _ 1
            (subst (λ r. eqb (port_of (base_of (enact s i)) r).transfer 1 ≡ true) o
            (fails_ready s i n z (rw o (in_list p (length (base_of s).ports) lo hi))))

        after : Steady (enact s i)
        after = subst Steady state_is (steady_after s i st)

        go : (w : Bool) → loading q ≡ w → w ≡ false
        go true l =
            let m = eqb-true q.movement 1 l in
            let t = ((base_facts (enact s i).predicted.queued.mapped after.sounds).ports p).moving (λ y. omega arith) in
            let r = ready in
            absurd (omega arith)
        go false l = refl

    -- LoadDone holds the pod exactly if the alarm is on: it is accepted only where a load goes on
    module _ (o : port ≡ p) (n : number ≡ 14) where
      alarm_is : (v : Bool) → violated x a ≡ v → (row_in s i).alarm ≡ cond v (holding a) a
      alarm_is v f = ap (λ (r : Row). r.alarm) (done_row number x a i n) ∙ ap (λ b. cond b (holding a) a) f

      stands_is : (v : Bool) → violated x a ≡ v → (row_in s i).stands ≡ cond v [] (i ∷ [])
      stands_is v f = ap (λ (r : Row). r.stands) (done_row number x a i n) ∙ ap (λ b. cond b [] (i ∷ [])) f

      on_is : is_on a ≡ is_on (alarm_of s p)
      on_is = ap (λ r. is_on (alarm_of s r)) o

      -- nothing went on below, so that the port is loading as before
      still_loading : violated x a ≡ true → loading q ≡ true
      unfolding wafers.reached see
      still_loading f =
          ap (λ l. loading (port_of (prediction.base_of (wafers.reached s.predicted l)) p)) (stands_is true f)
          ∙ ap (λ r. loading (port_of (base_of s) r)) (sym o) ∙ and_l _ _ f

      below_zero : violated x a ≡ false → answer_below s.predicted (i ∷ []) ≡ 0
      unfolding answer_in
      below_zero f = ap (answer_below s.predicted) (sym (stands_is false f)) ∙ (lower_zero _ _ z).1

      is_off : violated x a ≡ false → is_on a ≡ false
      unfolding see
      is_off f = go (is_on a) refl
        where
          go : (w : Bool) → is_on a ≡ w → w ≡ false
          go true g = clash (and_i (done_loading s i n (below_zero f)) g) f
          go false g = refl

      done_holds : is_held (alarm_of s p) ≡ false → is_held (alarm_of (enact s i) p) ≡ is_on (alarm_of s p)
      done_holds h = go (violated x a) refl
        where
          go : (v : Bool) → violated x a ≡ v → is_held (alarm_of (enact s i) p) ≡ is_on (alarm_of s p)
          go true f =
              here_held o ∙ and_i (still_loading f) (ap is_held (alarm_is true f)) ∙ sym (sym on_is ∙ and_r (loading x.here) _ f)
          go false f =
              here_free o (ap is_held (alarm_is false f) ∙ ap (λ r. is_held (alarm_of s r)) o ∙ h) ∙ sym (sym on_is ∙ is_off f)

  abbrev Reads : Bool → Bool → Bool → Type 0
  Reads f d h = is_held (alarm_of (state_after s i) p) ≡ (not f && ((d && is_on (alarm_of s p)) || h))

  -- Continue and LoadFail
  freed : frees p e ≡ true → is_held (alarm_of (state_after s i) p) ≡ false
  unfolding frees
  freed f = go (done_at 36 p e) refl
    where
      go : (w : Bool) → done_at 36 p e ≡ w → is_held (alarm_of (state_after s i) p) ≡ false
      go true d =
          let c = done_says 36 d in
          rw (state_is c.0) (here_free c.0 c.1 (ap is_held (continue_row_fact number x a i c.2)))
      go false d =
          let c = done_says 15 (or_other (done_at 36 p e) _ f d) in
          rw (state_is c.0) (fail_frees c.0 c.1 c.2)

  done_reads : done_at 14 p e ≡ true → is_held (alarm_of s p) ≡ false → is_held (alarm_of (state_after s i) p) ≡ is_on (alarm_of s p)
  done_reads d h = let c = done_says 14 d in rw (state_is c.0) (done_holds c.0 c.1 c.2 h)

  -- no other holds a pod
  still_free : done_at 14 p e ≡ false → is_held (alarm_of s p) ≡ false → is_held (alarm_of (state_after s i) p) ≡ false
  unfolding state_after
  still_free d h = go (eqb (answer_in s i) 0) refl (ℕ_discrete port p)
    where
      go : (w : Bool) → eqb (answer_in s i) 0 ≡ w → Dec (port ≡ p) → is_held (alarm_of (cond w (enact s i) s) p) ≡ false
      go true r (yes o) =
          here_free (eqb-true _ 0 r) o
          (row_free number x a i (λ n. clash (and_i (and_i r (eq-eqb port p o)) (eq-eqb number 14 n)) d) (ap (λ m. is_held (alarm_of s m)) o ∙ h))
      go true r (no o) = elsewhere_free (eqb-true _ 0 r) o h
      go false r b = h

  pub reads : Reads (frees p e) (done_at 14 p e) (is_held (alarm_of s p))
  reads = go (frees p e) refl (done_at 14 p e) refl (is_held (alarm_of s p)) refl
    where
      alone : (b : Bool) → b ≡ (b || false)
      alone true = refl
      alone false = refl

      go : (f : Bool) → frees p e ≡ f → (d : Bool) → done_at 14 p e ≡ d → (h : Bool) → is_held (alarm_of s p) ≡ h → Reads f d h
      go true u d v h w = freed u
      go false u d v true w = stays_held s i st p w u ∙ sym (or_r (d && is_on (alarm_of s p)) refl)
      go false u true v false w = done_reads v w ∙ alone (is_on (alarm_of s p))
      go false u false v false w = still_free v w

-- ── Runs ──
module _ (P B setting timeout : ℕ) (lo : 1 ≤ P) (hi : P ≤ 4) (few : B ≤ 16) where
  abbrev begin : Handled
  begin = start P B setting timeout

  pub held_read_fact : (run : List Brought) (p : ℕ) → 1 ≤ p → p ≤ P → is_held (alarm_of (reached begin run) p) ≡ held_read p (steps begin run)
  unfolding reached alarm_of steps held_read
  held_read_fact [] p a b = ap is_held (none_yet P (spot_of p))
  held_read_fact (i ∷ earlier) p a b =
      let m = (counted P B setting timeout earlier).many in
      reads (reached begin earlier) i (steady P B setting timeout lo hi few earlier) p a (omega arith)
      ∙ rw (alarm_read_fact P B setting timeout hi earlier p a b, held_read_fact earlier p a b)
