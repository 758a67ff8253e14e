-- What a row's code finds is what the row looks at.
use Prim.Native.Nat.{ℕ, ◌≤◌, ◌<◌}
use mathlib.Core.Path.{◌≡◌, ap, ap₂, sym, ◌∙◌}
use mathlib.Core.Bool.{Bool, true, false, cond, ◌&&◌, ◌||◌}
use mathlib.Core.List.{List, [], ◌∷◌}
use mathlib.Core.Logic.{◌≢◌}
use native.Mathlib.Omega.{arith}
use lib.ListN.{get_or, set}
use lib.Dec.{eqb, leb}
use borrow.Author.Tests.{le-leb, lt-leb, eq-eqb, ne_eqb}
use Rattle.lists.specs.Lists.{any}
use Rattle.lists.proofs.Bools.{clash}
use Rattle.records.specs.declared.port.Port.{Port}
use Rattle.records.specs.Ports.{ready_to_load, ready_to_unload, loading}
use Rattle.rules.specs.declared.row.Seen.{Seen}
use Rattle.rules.specs.declared.tool.Tool.{Tool}
use Rattle.rules.specs.State.{spot_of}
use Rattle.rules.specs.Seen.{narrow, see}
use Rattle.rules.specs.Row.{when, unless, judge, is_choice}
use Rattle.rules.specs.Reports.{no_reports}
use Rattle.image.specs.Image.{tool_from, reports_from}
use Rattle.parts.specs.Told.{note_all}
use Rattle.follow.specs.Follow.{KeptOutside}
use Rattle.mapped.specs.Bytes.{own_in}
use Rattle.queue.specs.Requests.{started_to}
use Rattle.wafers.specs.Outcome.{Brought}
use Rattle.hands.specs.declared.alarm.Alarm.{Alarm}
use Rattle.hands.specs.Alarms.{no_alarm, is_held, raised, holding}
use Rattle.hands.specs.State.{Handled, HandledTool, state_of}
use Rattle.hands.specs.Rows.{manual, automatic, in_manual, in_auto, violated, LoadDone}
use Rattle.hands.specs.Outcome.{refused, all_settled, alarms_told, given_in}
use Rattle.hands.specs.Sound.{sound_tool}
use Rattle.handled.specs.Bytes.{alarms_from, handled_in, left}
use Rattle.handled.specs.Here.{seen_in, alarm_in}
use Rattle.handled.specs.Passing.{passed_in}
use Rattle.handled.proofs.Held.{none_elsewhere, no_port_elsewhere, held_is}
use Rattle.handled.proofs.Below.{alone_left}
use Rattle.handled.proofs.Rows.{never, refused_given, not_automatic_answers, no_choice_answers, start_given, held_answers, nothing_held_answers, done_given, holds_given, continue_given}

never_zero : (b c d : Bool) → judge (unless b 1 ∷ when c 4 ∷ unless d 5 ∷ when true 13 ∷ []) ≢ 0
never_zero true true d e = omega arith
never_zero true false true e = omega arith
never_zero true false false e = omega arith
never_zero false c d e = omega arith

judged_of : {b c d e f g : Bool} → b ≡ c → d ≡ e → f ≡ g
    → judge (unless b 1 ∷ when d 4 ∷ unless f 5 ∷ when true 13 ∷ []) ≡ judge (unless c 1 ∷ when e 4 ∷ unless g 5 ∷ when true 13 ∷ [])
judged_of x y z = rw (x, y, z)

module _ (m : List (List ℕ)) (h : sound_tool (handled_in m) ≡ true) (i : Brought) where
  abbrev t : HandledTool
  t = handled_in m

  abbrev x : Seen
  x = seen_in t i

  abbrev b : Alarm
  b = alarm_in t i

  abbrev p : ℕ
  p = narrow i.timed.input.port

  abbrev n : ℕ
  n = i.timed.input.number

  -- the port has no alarm where it isn't the tool's
  pub no_alarm_elsewhere : (tool_from (get_or m 0 [])).used ≤ spot_of p → b ≡ no_alarm
  no_alarm_elsewhere f = none_elsewhere m h p f

  -- ── LoadStart and UnloadStart ──
  module _ (start : (eqb n 13 || eqb n 24) ≡ true) (by : ℕ) (by_is : by ≡ x.value) where
    pub no_choice : 1 < by → refused t 1 ≡ given_in t i
    no_choice l = refused_given t i 1 (no_choice_answers (state_of t) i start (ap (λ v. leb v 1) (sym by_is) ∙ lt-leb _ 1 l)) (λ z. omega arith)

    module _ (q : Port) (q_is : q ≡ x.here) where
      choice : by ≤ 1 → is_choice x ≡ true
      choice l = ap (λ v. leb v 1) (sym by_is) ∙ le-leb _ 1 l

      tested : (eqb by 1 && eqb q.access 0) ≡ (automatic x && in_manual x)
      tested = ap₂ (λ v (q : Port). eqb v 1 && eqb q.access 0) by_is q_is

      pub automatic_in_manual : by ≤ 1 → (eqb by 1 && eqb q.access 0) ≡ true
          → (is_port started ready : Bool) → is_port ≡ x.isport
          → started ≡ (eqb n 13 && any (started_to x.port) (state_of t).predicted.queued.queue)
          → ready ≡ cond (eqb n 13) (eqb q.transfer 1) (eqb q.transfer 2)
          → (k : ℕ) → k ≡ judge (unless is_port 1 ∷ when started 4 ∷ unless ready 5 ∷ when true 13 ∷ [])
          → refused t k ≡ given_in t i
      automatic_in_manual l e is_port started ready e1 e2 e3 k e4 =
          let r = e3 ∙ ap (λ (q : Port). cond (eqb n 13) (ready_to_load q) (ready_to_unload q)) q_is in
          let f = e4 ∙ judged_of e1 e2 r in
          ap (refused t) f
          ∙ refused_given t i _ (not_automatic_answers (state_of t) i start (choice l) (sym tested ∙ e))
          (never_zero x.isport (eqb n 13 && any (started_to x.port) (state_of t).predicted.queued.queue)
          (cond (eqb n 13) (ready_to_load x.here) (ready_to_unload x.here)))

      module _ (a : Alarm) (a_is : a ≡ b) (c : Alarm) (c_is : c ≡ cond (eqb by 0 && eqb q.access 1) (raised a) a) where
        raises : c ≡ cond (manual x && in_auto x) (raised b) b
        raises = c_is ∙ rw (by_is, q_is, a_is)

        pub raised_elsewhere : (tool_from (get_or m 0 [])).used ≤ spot_of p → c ≡ no_alarm
        unfolding see
        raised_elsewhere f =
            let r : (manual x && in_auto x) ≡ false =
            ap (λ (q : Port). manual x && eqb q.access 1) (no_port_elsewhere m h p f) ∙ never (manual x) in
            raises ∙ rw r (no_alarm_elsewhere f)

        pub started : by ≤ 1 → (eqb by 1 && eqb q.access 0) ≡ false → passed_in t i p c ≡ given_in t i
        started l e = ap (passed_in t i p) raises ∙ start_given t i start (choice l) (sym tested ∙ e)

  -- ── LoadDone and Continue ──
  module _ (a : Alarm) (a_is : a ≡ b) where
    held_of : a.held ≡ 1 → is_held b ≡ true
    held_of e = ap (λ (y : Alarm). is_held y) (sym a_is) ∙ eq-eqb _ 1 e

    free_of : a.held ≢ 1 → is_held b ≡ false
    free_of e = ap (λ (y : Alarm). is_held y) (sym a_is) ∙ ne_eqb _ 1 e

    pub held_twice : n ≡ 14 → a.held ≡ 1 → refused t 5 ≡ given_in t i
    unfolding see
    held_twice z e = refused_given t i 5 (held_answers (state_of t) i z (held_of e) (held_is m h p (held_of e))) (λ w. omega arith)

    pub done : n ≡ 14 → a.held ≢ 1 → (q : Port) → q ≡ x.here → (eqb q.movement 1 && eqb a.on 1) ≡ false → passed_in t i p a ≡ given_in t i
    done z e q q_is v =
        let w = ap₂ (λ (q : Port) (a : Alarm). eqb q.movement 1 && eqb a.on 1) q_is a_is in
        ap (passed_in t i p) a_is ∙ done_given t i z (free_of e) (sym w ∙ v)

    -- the start raised the alarm: the pod is held
    module _ (z : n ≡ 14) (e : a.held ≢ 1) (q : Port) (q_is : q ≡ x.here) (v : (eqb q.movement 1 && eqb a.on 1) ≡ true) where
      was_violated : violated x b ≡ true
      was_violated = sym (ap₂ (λ (q : Port) (a : Alarm). eqb q.movement 1 && eqb a.on 1) q_is a_is) ∙ v

      abbrev alarms_held : List Alarm
      alarms_held = all_settled (tool_from (get_or m 0 [])).ports (set (alarms_from (own_in m)) (spot_of p) (holding b))

      pub held_back : (k : List (List ℕ)) (o r : List ℕ) → reports_from o ≡ no_reports → get_or k 0 [] ≡ get_or m 0 []
          → (spot : ℕ) → spot ≡ p
          → alarms_from (own_in k) ≡ all_settled (tool_from (get_or m 0 [])).ports (set (alarms_from (own_in m)) (spot_of spot) (holding a))
          → reports_from r ≡ note_all (reports_from o) (alarms_told 1 (alarms_from (own_in m)) (all_settled (tool_from (get_or m 0 [])).ports (set (alarms_from (own_in m)) (spot_of spot) (holding a))))
          → KeptOutside 1597 1605 (own_in m) (own_in k) → left k r 0 ≡ given_in t i
      held_back k o r f same spot s c d kept =
          let l = ap₂ (λ s a. all_settled (tool_from (get_or m 0 [])).ports (set (alarms_from (own_in m)) (spot_of s) (holding a))) s a_is in
          alone_left m h p (holding b) (λ y. clash was_violated (ap (violated x) (no_alarm_elsewhere y) ∙ never (loading x.here))) k o r f same (c ∙ l)
          (d ∙ ap (λ l. note_all (reports_from o) (alarms_told 1 (alarms_from (own_in m)) l)) l) kept
          ∙ holds_given t i z (free_of e) was_violated

    pub nothing_held : n ≡ 36 → a.held ≢ 1 → refused t (cond x.isport 5 1) ≡ given_in t i
    nothing_held z e = refused_given t i _ (nothing_held_answers (state_of t) i z (free_of e)) (five_or_one x.isport)
      where
        five_or_one : (b : Bool) → ◌≢◌ {A = ℕ} (cond b 5 1) 0
        five_or_one true e = omega arith
        five_or_one false e = omega arith

    pub freed : n ≡ 36 → a.held ≡ 1 → passed_in t (LoadDone i.timed.input.port) p no_alarm ≡ given_in t i
    freed z e = continue_given t i z (held_of e)
