-- Whether a LoadDone is held is what the log says of the latest LoadStart at its port.
use Prim.Native.Nat.{ℕ, zero, suc, ◌≤◌, ◌<◌}
use native.Mathlib.Omega.{arith}
use mathlib.Core.Path.{◌≡◌, refl, ap, sym, ◌∙◌}
use mathlib.Core.Logic.{◌≢◌}
use mathlib.Core.Bool.{Bool, true, false, not, cond, ◌&&◌, ◌||◌}
use mathlib.Core.List.{List, [], ◌∷◌}
use lib.ListN.{length, get_or-eq_default}
use lib.Dec.{eqb, ltb}
use borrow.Author.Tests.{eqb-true, eq-eqb, ne_eqb, ltb-true, ltb-false}
use Rattle.lists.proofs.Bools.{clash, and_l, and_r, and_i}
use Rattle.records.specs.declared.port.Port.{Port}
use Rattle.records.specs.Ports.{no_port, ready_to_load, loading}
use Rattle.rules.specs.State.{State, spot_of, port_of}
use Rattle.rules.specs.Seen.{narrow, see}
use Rattle.rules.proofs.SoundParts.{Facts}
use Rattle.queue.proofs.Below.{base_facts}
use Rattle.wafers.specs.Outcome.{Brought}
use Rattle.hands.specs.declared.alarm.Alarm.{Alarm}
use Rattle.hands.specs.Alarms.{is_on, is_held, settled}
use Rattle.hands.specs.State.{Handled, base_of, alarm_of, start}
use Rattle.hands.specs.Rows.{Row}
use Rattle.hands.specs.Outcome.{row_in, answer_below, answer_in, enact, state_after, reached}
use Rattle.hands.specs.Host as host
use Rattle.hands.specs.Host.{step_of, raises, frees, ends}
use Rattle.hands.proofs.AlarmAfter.{Each, none_yet, after_is, counted}
use Rattle.hands.proofs.AlarmRead.{reads}
use Rattle.hands.proofs.Held.{done_free}
use Rattle.hands.proofs.HeldRead as held_read_fact
use Rattle.hands.proofs.LoadEnds.{done_row, done_loading}
use Rattle.hands.proofs.Nobody.{steady}
use Rattle.tally.specs.Count.{Entry, accepted}
use Rattle.counted.specs.Count.{entries, done_at, mode_of, by_hand, violating}
use Rattle.counted.proofs.Gathered.{gathered, loading_read}
use Rattle.counted.proofs.Lowered.{below_accepts, holds, kept, mode_kept, load_kept, mode_log}
use Rattle.counted.proofs.Loads.{start_ready, Loads, loads, not_done}

-- a port that is loading is one of the tool's, and isn't READY TO LOAD
module _ (s : State) (f : Facts s) (p : ℕ) (l : loading (port_of s p) ≡ true) where
  loading_in : (1 ≤ p) × (p ≤ length s.ports)
  unfolding port_of
  loading_in = let b = within (ltb (spot_of p) (length s.ports)) refl in go p b
    where
      within : (w : Bool) → ltb (spot_of p) (length s.ports) ≡ w → spot_of p < length s.ports
      within true e = ltb-true _ _ e
      within false e = clash l (ap loading (get_or-eq_default s.ports no_port (ltb-false (spot_of p) (length s.ports) e)))

      go : (q : ℕ) → spot_of q < length s.ports → (1 ≤ q) × (q ≤ length s.ports)
      go zero b = let c = f.few_ports in absurd (omega arith)
      go (suc q) b = let z : spot_of (suc q) ≡ q = rw (ne_eqb (suc q) 0 (λ e. omega arith)) (omega arith) in (omega arith, omega arith)

  not_ready : ready_to_load (port_of s p) ≡ false
  not_ready =
      let m = eqb-true (port_of s p).movement 1 l in
      let t = (f.ports p).moving (λ z. omega arith) in
      ne_eqb (port_of s p).transfer 1 (λ z. omega arith)

alone : (b : Bool) → (b || false) ≡ b
alone true = refl
alone false = refl

settled_off : (q : Port) (a : Alarm) → ready_to_load q ≡ true → is_on (settled q a) ≡ false
unfolding settled
settled_off q a r = rw r

-- no alarm is on at READY TO LOAD
abbrev Off : Handled → ℕ → Type 0
Off s p = ready_to_load (port_of (base_of s) p) ≡ true → is_on (alarm_of s p) ≡ false

off_after : (s : Handled) (i : Brought) → Each s → (p : ℕ) → Off s p → Off (state_after s i) p
unfolding state_after
off_after s i each p o = go (eqb (answer_in s i) 0)
  where
    go : (w : Bool) → Off (cond w (enact s i) s) p
    go true r = ap is_on (after_is s i each p) ∙ settled_off _ _ r
    go false r = o r

module _ (P B setting timeout : ℕ) (lo : 1 ≤ P) (hi : P ≤ 4) (few : B ≤ 16) where
  abbrev begin : Handled
  begin = start P B setting timeout

  facts_at : (run : List Brought) → Facts (base_of (reached begin run))
  facts_at run = base_facts (reached begin run).predicted.queued.mapped (steady P B setting timeout lo hi few run).sounds

  ready_off : (run : List Brought) (p : ℕ) → Off (reached begin run) p
  unfolding reached alarm_of
  ready_off [] p r = ap is_on (none_yet P (spot_of p))
  ready_off (i ∷ earlier) p r = off_after (reached begin earlier) i (counted P B setting timeout earlier).each p (ready_off earlier p) r

  -- ── One input more ──
  module _ (i : Brought) (earlier : List Brought) (p : ℕ) (l : loading (port_of (base_of (reached begin (i ∷ earlier))) p) ≡ true) where
    abbrev s : Handled
    s = reached begin earlier

    abbrev port : ℕ
    port = narrow i.timed.input.port

    abbrev number : ℕ
    number = i.timed.input.number

    abbrev log : List Entry
    log = entries begin earlier

    abbrev e : Entry
    e = record { input = i.timed.input; answer = answer_in s i }

    after_loading : loading (port_of (base_of (state_after s i)) p) ≡ true
    unfolding reached
    after_loading = l

    facts_after : Facts (base_of (state_after s i))
    unfolding reached
    facts_after = facts_at (i ∷ earlier)

    many : length (base_of (state_after s i)).ports ≡ P
    unfolding reached
    many = (counted P B setting timeout (i ∷ earlier)).many

    -- the alarm, by what the step does
    alarm_is : is_on (alarm_of (state_after s i) p) ≡ (not (ends p (step_of s i)) && (raises p (step_of s i) || is_on (alarm_of s p)))
    alarm_is =
        let c = counted P B setting timeout earlier in
        let m = c.many in
        let n = many in
        let r = loading_in (base_of (state_after s i)) facts_after p after_loading in
        reads s i c.each p r.0 (omega arith) (omega arith)

    -- a port that is loading isn't READY TO LOAD, so that nothing ends the alarm but Continue and LoadFail
    no_end : host.done_at 36 p (step_of s i) ≡ false → host.done_at 15 p (step_of s i) ≡ false → ends p (step_of s i) ≡ false
    unfolding ends frees
    no_end a b = rw (a, b, not_ready (base_of (state_after s i)) facts_after p after_loading) (never (eqb (answer_in s i) 0))
      where
        never : (w : Bool) → (w && false) ≡ false
        never true = refl
        never false = refl

    -- LoadStart there
    module _ (a : eqb (answer_in s i) 0 ≡ true) (n : number ≡ 13) (z : port ≡ p) where
      was_off : is_on (alarm_of s p) ≡ false
      was_off = ready_off earlier p (ap (λ q. ready_to_load (port_of (base_of s) q)) (sym z) ∙ start_ready s i n (eqb-true _ 0 a))

      raises_is : raises p (step_of s i) ≡ (by_hand e && eqb (mode_of p log) 1)
      unfolding raises
      raises_is =
          rw (a, eq-eqb port p z, eq-eqb number 13 n, mode_kept P B setting timeout lo hi few earlier p, mode_log begin p earlier)

      starts : is_on (alarm_of (state_after s i) p) ≡ (by_hand e && eqb (mode_of p log) 1)
      starts =
          let other : (k : ℕ) → 13 ≢ k → host.done_at k p (step_of s i) ≡ false = λ k d. not_done s i p log k (λ _ _ y. d (sym n ∙ y)) in
          alarm_is ∙ rw (no_end (other 36 (λ o. omega arith)) (other 15 (λ o. omega arith)), raises_is, was_off) (alone (by_hand e && eqb (mode_of p log) 1))

    -- any other input
    module _ (d : eqb (answer_in s i) 0 ≡ true → number ≡ 13 → port ≢ p) where
      still : Loads s i p (kept begin earlier)
      unfolding gathered
      still = loads s i p _ d (sym (load_kept P B setting timeout lo hi few (i ∷ earlier) p) ∙ l)

      was_loading : loading (port_of (base_of s) p) ≡ true
      was_loading = load_kept P B setting timeout lo hi few earlier p ∙ still.before

      leaves : is_on (alarm_of (state_after s i) p) ≡ is_on (alarm_of s p)
      unfolding raises
      leaves =
          let not15 = not_done s i p log 15 (λ a z. (still.away a z).0) in
          let not24 = not_done s i p log 24 (λ a z. (still.away a z).1) in
          let not36 = not_done s i p log 36 (λ a z. (still.away a z).2) in
          let not13 = not_done s i p log 13 (λ a z n. d a n z) in
          alarm_is ∙ rw (no_end not36 not15, not13, not24)

  -- ── Runs ──
  pub alarm_log : (run : List Brought) (p : ℕ) → loading (port_of (base_of (reached begin run)) p) ≡ true
      → is_on (alarm_of (reached begin run) p) ≡ violating p (entries begin run)
  unfolding reached entries violating gathered loading_read
  alarm_log [] p l = clash l (load_kept P B setting timeout lo hi few [] p)
  alarm_log (i ∷ earlier) p l = go (done_at 13 p (e i earlier p l)) refl (alarm_log earlier p)
    where
      go : (w : Bool) → done_at 13 p (e i earlier p l) ≡ w
          → (loading (port_of (base_of (reached begin earlier)) p) ≡ true → is_on (alarm_of (reached begin earlier) p) ≡ violating p (entries begin earlier))
          → is_on (alarm_of (state_after (reached begin earlier) i) p)
          ≡ cond w (by_hand (e i earlier p l) && eqb (mode_of p (entries begin earlier)) 1) (violating p (entries begin earlier))
      go true d r =
          let b = and_l (accepted 13 (e i earlier p l)) _ d in
          starts i earlier p l (and_l _ _ b) (eqb-true _ 13 (and_r (eqb (answer_in (reached begin earlier) i) 0) _ b))
          (eqb-true _ p (and_r (accepted 13 (e i earlier p l)) _ d))
      go false d r =
          let n : eqb (answer_in (reached begin earlier) i) 0 ≡ true → number i earlier p l ≡ 13 → port i earlier p l ≢ p =
          λ a n z. clash (and_i (and_i a (eq-eqb _ 13 n)) (eq-eqb _ p z)) d in
          leaves i earlier p l n ∙ r (was_loading i earlier p l n)

  -- ── An accepted LoadDone ──
  module _ (i : Brought) (earlier : List Brought) (a : answer_in (reached begin earlier) i ≡ 0) (n : i.timed.input.number ≡ 14) where
    abbrev was : Handled
    was = reached begin earlier

    abbrev there : ℕ
    there = narrow i.timed.input.port

    -- it finds the port loading: held it asks so, and else the row below does
    done_there : loading (port_of (base_of was) there) ≡ true
    unfolding see
    done_there = go (holds was i) refl
      where
        stands_is : holds was i ≡ false → (row_in was i).stands ≡ i ∷ []
        stands_is f =
            ap (λ (r : Row). r.stands) (done_row i.timed.input.number (see (base_of was) i.timed.input) (alarm_of was there) i n)
            ∙ ap (λ b. cond b [] (i ∷ [])) f

        go : (w : Bool) → holds was i ≡ w → loading (port_of (base_of was) there) ≡ true
        go true f = and_l _ _ f
        go false f = done_loading was i n (ap (answer_below was.predicted) (sym (stands_is f)) ∙ below_accepts was i a)

    -- the row holds the pod exactly if the log says so
    pub held_log : holds was i ≡ violating there (entries begin earlier)
    unfolding see
    held_log = ap (λ b. b && is_on (alarm_of was there)) done_there ∙ alarm_log earlier there done_there

    -- and so it is held afterwards
    pub held_after : is_held (alarm_of (state_after was i) there) ≡ violating there (entries begin earlier)
    unfolding frees
    held_after =
        let st = steady P B setting timeout lo hi few earlier in
        let r = loading_in (base_of was) (facts_at earlier) there done_there in
        let other : (k : ℕ) → 14 ≢ k → host.done_at k there (step_of was i) ≡ false =
        λ k d. not_done was i there (entries begin earlier) k (λ _ _ y. d (sym n ∙ y)) in
        held_read_fact.reads was i st there r.0 r.1
        ∙ rw (other 36 (λ o. omega arith), other 15 (λ o. omega arith), eq-eqb _ 0 a, eq-eqb there there refl, eq-eqb _ 14 n, done_free was i a n)
        (alone (is_on (alarm_of was there)) ∙ alarm_log earlier there done_there)
