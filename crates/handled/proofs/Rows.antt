-- What each row of the layer gives, by what the code finds.
use Prim.Native.Nat.{ℕ}
use native.Mathlib.Omega.{arith}
use mathlib.Core.Path.{◌≡◌, refl, ap, ap₂, sym, ◌∙◌}
use mathlib.Core.Logic.{◌≢◌}
use mathlib.Core.Bool.{Bool, true, false, cond, ◌&&◌, ◌||◌}
use mathlib.Core.List.{List, [], ◌∷◌, ◌++◌}
use lib.ListN.{set}
use lib.Dec.{eqb, leb}
use borrow.Author.Tests.{eqb-true, eqb-false, ne_eqb, le-leb}
use Rattle.lists.specs.Lists.{any}
use Rattle.lists.proofs.Bools.{clash}
use Rattle.records.specs.Ports.{ready_to_load, ready_to_unload, loading}
use Rattle.rules.specs.declared.row.Seen.{Seen}
use Rattle.rules.specs.State.{spot_of}
use Rattle.rules.specs.Seen.{narrow, see}
use Rattle.rules.specs.Row.{when, unless, is_choice, lower, lowest, judge}
use Rattle.rules.specs.Rows as base
use Rattle.maps.specs.Rows as maps-rows
use Rattle.maps.specs.Outcome as maps
use Rattle.maps.specs.Projection as maps-runs
use Rattle.queue.specs.Requests.{started_to}
use Rattle.queue.specs.Rows as queue-rows
use Rattle.queue.specs.Outcome as queue
use Rattle.prediction.specs.Outcome as prediction
use Rattle.wafers.specs.Outcome as wafers
use Rattle.wafers.specs.Outcome.{Brought}
use Rattle.hands.specs.declared.alarm.Alarm.{Alarm}
use Rattle.hands.specs.Alarms.{no_alarm, is_held, raised, holding}
use Rattle.hands.specs.State.{Handled, base_of, alarm_of, HandledTool, state_of}
use Rattle.hands.specs.Rows.{Row, passed_on, starts, manual, automatic, in_manual, in_auto, violated, load_done, LoadDone, continue_row, row_of}
use Rattle.hands.specs.Outcome.{row_in, answer_below, reports_below, answer_in, all_settled, alarms_told, alarms_then, enact, state_after, reports_in, refused, accepted, given_in}
use Rattle.handled.specs.Passing.{alarms_after, passed_to, passed_in}

pub never : (b : Bool) → (b && false) ≡ false
never true = refl
never false = refl

-- no number is lower than 1
one_lower : (k : ℕ) → lower 1 k ≡ 1
unfolding lower
one_lower k = go (eqb k 0) refl
  where
    go : (w : Bool) → eqb k 0 ≡ w → cond w 1 (cond (leb 1 k) 1 k) ≡ 1
    go true e = refl
    go false e = let z = eqb-false k 0 e in rw (le-leb 1 k (omega (arith, z)))

module _ (t : HandledTool) (i : Brought) where
  abbrev s : Handled
  s = state_of t

  pub refused_given : (n : ℕ) → answer_in s i ≡ n → n ≢ 0 → refused t n ≡ given_in t i
  unfolding given_in
  refused_given n e z = rw (e, ne_eqb n 0 z)

  -- a row that passes an input on
  module _ (j : Brought) (a : Alarm) (grounds : lowest (row_in s i).grounds ≡ 0) (stands : (row_in s i).stands ≡ j ∷ [])
      (alarm : (row_in s i).alarm ≡ a) where
    answers : answer_in s i ≡ wafers.answer_in s.predicted j
    unfolding answer_in answer_below lower
    answers = rw (grounds, stands)

    abbrev p : ℕ
    p = narrow i.timed.input.port

    leads : passed_to s j p a ≡ enact s i
    unfolding wafers.reached
    leads = rw (stands, alarm)

    tells : wafers.reports_in s.predicted j ++ alarms_told 1 s.alarms (alarms_after s j p a)
        ≡ reports_below s.predicted (row_in s i).stands ++ alarms_told 1 s.alarms (alarms_then s i)
    unfolding wafers.reached reports_below
    tells = rw (stands, alarm)

    pub passed_given : passed_in t j p a ≡ given_in t i
    unfolding given_in passed_in state_after reports_in
    passed_given = rw answers (go (eqb (wafers.answer_in s.predicted j) 0))
      where
        go : (w : Bool)
            → cond w (accepted (passed_to s j p a) (wafers.reports_in s.predicted j ++ alarms_told 1 s.alarms (alarms_after s j p a)))
            (refused t (wafers.answer_in s.predicted j))
            ≡ cond w (accepted (cond w (enact s i) s)
            (cond w (reports_below s.predicted (row_in s i).stands ++ alarms_told 1 s.alarms (alarms_then s i)) []))
            (refused t (wafers.answer_in s.predicted j))
        go true = ap₂ accepted leads tells
        go false = refl

  -- a row that stands for nothing below
  module _ (grounds : lowest (row_in s i).grounds ≡ 0) (stands : (row_in s i).stands ≡ []) where
    none_answers : answer_in s i ≡ 0
    unfolding answer_in answer_below lower
    none_answers = rw (grounds, stands)

    abbrev alarms_left : List Alarm
    alarms_left = all_settled (base_of s).ports (set s.alarms (spot_of (narrow i.timed.input.port)) (row_in s i).alarm)

    pub alone_given : accepted (record { predicted = s.predicted; alarms = alarms_left }) (alarms_told 1 s.alarms alarms_left) ≡ given_in t i
    unfolding given_in state_after reports_in reports_below wafers.reached
    alone_given = rw (none_answers, stands)

-- ── The rows ──
module _ (s : Handled) (i : Brought) where
  abbrev n : ℕ
  n = i.timed.input.number

  abbrev x : Seen
  x = see (base_of s) i.timed.input

  abbrev a : Alarm
  a = alarm_of s (narrow i.timed.input.port)

  pub other_row : (eqb n 13 || eqb n 14 || eqb n 24 || eqb n 36) ≡ false → row_in s i ≡ passed_on a i
  unfolding row_of
  other_row h = go (eqb n 13) (eqb n 14) (eqb n 24) (eqb n 36) h
    where
      go : (u v w z : Bool) → (u || v || w || z) ≡ false
          → cond u (starts x a i) (cond v (load_done x a i) (cond w (starts x a i) (cond z (continue_row a i) (passed_on a i)))) ≡ passed_on a i
      go true v w z e = clash refl e
      go false true w z e = clash refl e
      go false false true z e = clash refl e
      go false false false true e = clash refl e
      go false false false false e = refl

  pub start_row : (eqb n 13 || eqb n 24) ≡ true → row_in s i ≡ starts x a i
  unfolding row_of
  start_row h = go (eqb n 13) refl (eqb n 24) refl h
    where
      go : (u : Bool) → eqb n 13 ≡ u → (w : Bool) → eqb n 24 ≡ w → (u || w) ≡ true
          → cond (eqb n 13) (starts x a i) (cond (eqb n 14) (load_done x a i) (cond (eqb n 24) (starts x a i) (cond (eqb n 36) (continue_row a i) (passed_on a i)))) ≡ starts x a i
      go true e w f g = rw e
      go false e true f g = rw (eqb-true n 24 f)
      go false e false f g = clash g refl

  -- ── What a start is answered below ──
  abbrev started : Bool
  started = any (started_to x.port) s.predicted.queued.queue

  load_below : n ≡ 13 → wafers.answer_in s.predicted i
      ≡ lower (lowest (when started 4 ∷ [])) (lower 0 (lowest (unless x.isport 1 ∷ unless (ready_to_load x.here) 5 ∷ [])))
  unfolding wafers.answer_in prediction.answer_in queue.answer_in queue.answers_in queue-rows.row_of maps-runs.reached maps.answer_in maps-rows.row_of base.row_of
  load_below e = rw e

  unload_below : n ≡ 24 → wafers.answer_in s.predicted i
      ≡ lower 0 (lower 0 (lowest (unless x.isport 1 ∷ unless (ready_to_unload x.here) 5 ∷ [])))
  unfolding wafers.answer_in prediction.answer_in queue.answer_in queue.answers_in queue-rows.row_of maps-runs.reached maps.answer_in maps-rows.row_of base.row_of lowest
  unload_below e = rw e

  -- an automatic start in MANUAL: 13, unless something lower holds
  pub not_automatic_answers : (eqb n 13 || eqb n 24) ≡ true → is_choice x ≡ true → (automatic x && in_manual x) ≡ true
      → answer_in s i
      ≡ judge (unless x.isport 1 ∷ when (eqb n 13 && started) 4 ∷ unless (cond (eqb n 13) (ready_to_load x.here) (ready_to_unload x.here)) 5 ∷ when true 13 ∷ [])
  unfolding answer_in answer_below lower lowest
  not_automatic_answers h c m = rw (start_row h, c, m) (go (eqb n 13) refl (eqb n 24) refl h)
    where
      loads : (u v w : Bool)
          → lower 13 (lower (lowest (when v 4 ∷ [])) (lower 0 (lowest (unless u 1 ∷ unless w 5 ∷ []))))
          ≡ judge (unless u 1 ∷ when v 4 ∷ unless w 5 ∷ when true 13 ∷ [])
      loads true true true = refl
      loads true true false = refl
      loads true false true = refl
      loads true false false = refl
      loads false true true = refl
      loads false true false = refl
      loads false false true = refl
      loads false false false = refl

      go : (u : Bool) → eqb n 13 ≡ u → (w : Bool) → eqb n 24 ≡ w → (u || w) ≡ true
          → lower 13 (wafers.answer_in s.predicted i)
          ≡ judge (unless x.isport 1 ∷ when (eqb n 13 && started) 4 ∷ unless (cond (eqb n 13) (ready_to_load x.here) (ready_to_unload x.here)) 5 ∷ when true 13 ∷ [])
      go true e w f g = rw (e, load_below (eqb-true n 13 e)) (loads x.isport started (ready_to_load x.here))
      go false e true f g = rw (e, unload_below (eqb-true n 24 f)) (loads x.isport false (ready_to_unload x.here))
      go false e false f g = clash g refl

  -- any other second number than 0 and 1
  pub no_choice_answers : (eqb n 13 || eqb n 24) ≡ true → is_choice x ≡ false → answer_in s i ≡ 1
  unfolding answer_in lower lowest
  no_choice_answers h c = rw (start_row h, c) (go (automatic x && in_manual x) (answer_below s.predicted (i ∷ [])))
    where
      go : (w : Bool) (k : ℕ) → lower (lower 1 (lower (cond w 13 0) 0)) k ≡ 1
      go true k = one_lower k
      go false k = one_lower k

  -- ── LoadDone and Continue ──
  pub done_row : n ≡ 14 → row_in s i ≡ load_done x a i
  unfolding row_of
  done_row e = rw e

  pub continue_row_fact : n ≡ 36 → row_in s i ≡ continue_row a i
  unfolding row_of
  continue_row_fact e = rw e

  -- a held pod: with its port loading and the alarm on, as it is in a sound state
  pub held_answers : n ≡ 14 → is_held a ≡ true → violated x a ≡ true → answer_in s i ≡ 5
  unfolding answer_in answer_below lower lowest
  held_answers e h v = rw (done_row e, h, v)

  done_below : (port : ℕ) → wafers.answer_in s.predicted (LoadDone port)
      ≡ lower 0 (lower 0 (lowest (unless (see (base_of s) (LoadDone port).timed.input).isport 1
      ∷ unless (loading (see (base_of s) (LoadDone port).timed.input).here) 5 ∷ [])))
  unfolding wafers.answer_in prediction.answer_in queue.answer_in queue.answers_in queue-rows.row_of maps-runs.reached maps.answer_in maps-rows.row_of base.row_of lowest
  done_below port = refl

  pub nothing_held_answers : n ≡ 36 → is_held a ≡ false → answer_in s i ≡ cond x.isport 5 1
  unfolding answer_in answer_below lower lowest see
  nothing_held_answers e h = rw (continue_row_fact e, h, done_below i.timed.input.port) (go x.isport (loading x.here))
    where
      go : (u v : Bool) → lower 5 (lower 0 (lower 0 (lowest (unless u 1 ∷ unless v 5 ∷ [])))) ≡ cond u 5 1
      go true true = refl
      go true false = refl
      go false true = refl
      go false false = refl

-- ── What each of them gives, by what the code finds ──
module _ (t : HandledTool) (i : Brought) where
  abbrev u : Handled
  u = state_of t

  abbrev q : ℕ
  q = narrow i.timed.input.port

  abbrev b : Alarm
  b = alarm_of u q

  abbrev y : Seen
  y = see (base_of u) i.timed.input

  abbrev k : ℕ
  k = i.timed.input.number

  none_zero : lowest [] ≡ 0
  unfolding lowest
  none_zero = refl

  pub other_given : (eqb k 13 || eqb k 14 || eqb k 24 || eqb k 36) ≡ false → passed_in t i q b ≡ given_in t i
  other_given h =
      let e = other_row u i h in
      passed_given t i i b (ap (λ (r : Row). lowest r.grounds) e ∙ none_zero) (ap (λ (r : Row). r.stands) e) (ap (λ (r : Row). r.alarm) e)

  start_zero : (c m : Bool) → c ≡ true → m ≡ false → lowest (unless c 1 ∷ when m 13 ∷ []) ≡ 0
  unfolding lowest lower
  start_zero c m e f = rw (e, f)

  pub start_given : (eqb k 13 || eqb k 24) ≡ true → is_choice y ≡ true → (automatic y && in_manual y) ≡ false
      → passed_in t i q (cond (manual y && in_auto y) (raised b) b) ≡ given_in t i
  start_given h c m =
      let e = start_row u i h in
      passed_given t i i _ (ap (λ (r : Row). lowest r.grounds) e ∙ start_zero (is_choice y) (automatic y && in_manual y) c m)
      (ap (λ (r : Row). r.stands) e) (ap (λ (r : Row). r.alarm) e)

  free_zero : (w : Bool) → w ≡ false → lowest (when w 5 ∷ []) ≡ 0
  unfolding lowest lower
  free_zero w e = rw e

  module _ (z : k ≡ 14) (h : is_held b ≡ false) where
    done_zero : lowest (row_in u i).grounds ≡ 0
    done_zero = ap (λ (r : Row). lowest r.grounds) (done_row u i z) ∙ free_zero (is_held b) h

    pub done_given : violated y b ≡ false → passed_in t i q b ≡ given_in t i
    done_given v =
        let e = done_row u i z in
        passed_given t i i b done_zero (ap (λ (r : Row). r.stands) e ∙ rw v) (ap (λ (r : Row). r.alarm) e ∙ rw v)

    abbrev alarms_held : List Alarm
    alarms_held = all_settled (base_of u).ports (set u.alarms (spot_of q) (holding b))

    pub holds_given : violated y b ≡ true
        → accepted (record { predicted = u.predicted; alarms = alarms_held }) (alarms_told 1 u.alarms alarms_held) ≡ given_in t i
    holds_given v =
        let e = done_row u i z in
        let f : (row_in u i).alarm ≡ holding b = ap (λ (r : Row). r.alarm) e ∙ rw v in
        ap (λ a. let l = all_settled (base_of u).ports (set u.alarms (spot_of q) a) in
        accepted (record { predicted = u.predicted; alarms = l }) (alarms_told 1 u.alarms l)) (sym f)
        ∙ alone_given t i done_zero (ap (λ (r : Row). r.stands) e ∙ rw v)

  held_zero : (w : Bool) → w ≡ true → lowest (unless w 5 ∷ []) ≡ 0
  unfolding lowest lower
  held_zero w e = rw e

  pub continue_given : k ≡ 36 → is_held b ≡ true → passed_in t (LoadDone i.timed.input.port) q no_alarm ≡ given_in t i
  continue_given z h =
      let e = continue_row_fact u i z in
      passed_given t i (LoadDone i.timed.input.port) no_alarm (ap (λ (r : Row). lowest r.grounds) e ∙ held_zero (is_held b) h)
      (ap (λ (r : Row). r.stands) e) (ap (λ (r : Row). r.alarm) e)
