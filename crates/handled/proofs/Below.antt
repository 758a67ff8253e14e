-- An input below, and then the alarms: what is left is what the definitions give.
use Prim.Native.Nat.{ℕ}
use native.Mathlib.Omega.{arith}
use mathlib.Core.Path.{◌≡◌, refl, ap, ap₂, sym, ◌∙◌}
use mathlib.Core.Logic.{◌≢◌}
use mathlib.Core.Bool.{Bool, true, false, cond}
use mathlib.Core.List.{List, [], ◌∷◌, ◌++◌}
use lib.ListN.{length, length-set, get_or, set}
use lib.Dec.{eqb}
use borrow.Author.Tests.{eq-eqb, ne_eqb}
use Rattle.lists.specs.Lists.{fill}
use Rattle.lists.proofs.Bools.{clash}
use Rattle.rules.specs.declared.report.Reports.{Reports}
use Rattle.records.specs.Ports.{no_port}
use Rattle.rules.specs.State as base
use Rattle.rules.specs.State.{spot_of}
use Rattle.rules.specs.Reports.{listed, no_reports}
use Rattle.image.specs.Image.{tool_from, reports_from}
use Rattle.image.proofs.Table.{table_same}
use Rattle.parts.specs.Told.{note_all}
use Rattle.follow.specs.Follow.{KeptOutside}
use Rattle.line.proofs.Changed.{kept_wider}
use Rattle.mapped.specs.Bytes.{own_in}
use Rattle.maps.specs.State as maps
use Rattle.queue.specs.State as queue
use Rattle.prediction.specs.State as prediction
use Rattle.prediction.specs.State.{Predicted, PredictedTool}
use Rattle.prediction.specs.Outcome as below
use Rattle.times.specs.Bytes.{prediction_start, predictions_from}
use Rattle.times.proofs.Written.{prediction_same}
use Rattle.times.proofs.Kept.{times_before}
use Rattle.predicted.specs.Bytes.{predicted_in}
use Rattle.predicted.proofs.Clocked.{queued_same}
use Rattle.predicted.proofs.Held as predicted
use Rattle.parts.proofs.Notes.{all_noted}
use Rattle.predicted.proofs.Followed.{noted_on}
use Rattle.wafers.specs.Outcome as wafers
use Rattle.wafers.specs.Outcome.{Brought}
use Rattle.hands.specs.declared.alarm.Alarm.{Alarm}
use Rattle.hands.specs.Alarms.{no_alarm}
use Rattle.hands.specs.State.{Handled, base_of, state_of, in_tool}
use Rattle.hands.specs.Sound.{sound_tool}
use Rattle.hands.specs.Outcome.{Given, accepted, all_settled, alarms_told}
use Rattle.hands.proofs.Settled.{settled_long}
use Rattle.hands.proofs.Below.{ports_stay}
use Rattle.handled.specs.Bytes.{alarms_from, handled_in, left}
use Rattle.handled.specs.Passing.{NoneElsewhere, alarms_after, passed_in}
use Rattle.handled.proofs.Laid.{alarms_same}
use Rattle.handled.proofs.Held.{used_in, below_is, none_after, used_long, ports_long, held}
use Rattle.handled.proofs.Tables.{set_fill, settled_fill, told_fill}

-- ── The tool below is the same where only alarms were written ──
tool_of : {q u : queue.QueuedTool} {t v : _} {p k : List _} → q ≡ u → t ≡ v → p ≡ k
    → ◌≡◌ {A = PredictedTool} (record { queued = q; times = t; predictions = p }) (record { queued = u; times = v; predictions = k })
tool_of a b c = rw (a, b, c)

pub predicted_same : (m n : List (List ℕ)) → get_or n 0 [] ≡ get_or m 0 [] → KeptOutside 1597 1605 (own_in m) (own_in n) → predicted_in n ≡ predicted_in m
unfolding predictions_from
predicted_same m n same k =
    tool_of (queued_same m n same {e = 1605} (kept_wider (omega arith) (omega arith) k))
    (times_before 1597 1605 (own_in m) (own_in n) k (omega arith))
    (table_same 36 _ _ (λ j h. prediction_same (own_in n) (own_in m) (prediction_start j) (prediction_start j) (λ i c. k.before _ (omega arith))))

-- ── What is given below ──
module _ (t : PredictedTool) (i : Brought) where
  abbrev s : Predicted
  s = prediction.state_of t

  abbrev given_if : Bool → below.Given
  given_if w = cond w (below.accepted (wafers.state_after s i) (wafers.reports_in s i)) (below.refused t (wafers.answer_in s i))

  pub record Accepted : Type 0 where
    pub zero : eqb (wafers.answer_in s i) 0 ≡ true
    pub tool : (wafers.given_in t i).tool ≡ prediction.in_tool (wafers.state_after s i)
    pub reports : (wafers.given_in t i).reports ≡ listed (wafers.reports_in s i)

  pub accepted_below : (wafers.given_in t i).answer ≡ 0 → Accepted
  unfolding wafers.given_in
  accepted_below = go (eqb (wafers.answer_in s i) 0) refl
    where
      go : (w : Bool) → eqb (wafers.answer_in s i) 0 ≡ w → (given_if w).answer ≡ 0 → Accepted
      go true e z = record { zero = e; tool = rw e; reports = rw e }
      go false e z = clash (eq-eqb _ 0 z) e

  pub refused_below : (wafers.given_in t i).answer ≢ 0 → wafers.given_in t i ≡ below.refused t (wafers.answer_in s i)
  unfolding wafers.given_in
  refused_below = go (eqb (wafers.answer_in s i) 0) refl
    where
      go : (w : Bool) → eqb (wafers.answer_in s i) 0 ≡ w → (given_if w).answer ≢ 0 → given_if w ≡ below.refused t (wafers.answer_in s i)
      go true e z = absurd (z refl)
      go false e z = refl

-- ── With the alarms ──
given_of : {t v : PredictedTool} {x y : List Alarm} {r q : Reports} → t ≡ v → x ≡ y → r ≡ q
    → ◌≡◌ {A = Given} (record { tool = record { predicted = t; alarms = x }; answer = 0; reports = r })
    (record { tool = record { predicted = v; alarms = y }; answer = 0; reports = q })
given_of a b c = rw (a, b, c)

module _ (m : List (List ℕ)) (h : sound_tool (handled_in m) ≡ true) (i : Brought) (p : ℕ) (a : Alarm)
    (fit : NoneElsewhere (tool_from (get_or m 0 [])) p a) where
  abbrev u : Handled
  u = state_of (handled_in m)

  abbrev then : Predicted
  then = wafers.state_after u.predicted i

  one_step : wafers.reached u.predicted (i ∷ []) ≡ then
  unfolding wafers.reached
  one_step = refl

  as_many : length (set u.alarms (spot_of p) a) ≡ length (prediction.base_of then).ports
  as_many =
      length-set u.alarms (spot_of p) a ∙ used_long m h ∙ sym (ports_long m h) ∙ sym (ports_stay u.predicted (i ∷ []))
      ∙ ap (λ (s : Predicted). length (prediction.base_of s).ports) one_step

  ports_then : (prediction.in_tool then).queued.mapped.base.ports ≡ fill 4 no_port (prediction.base_of then).ports
  unfolding prediction.in_tool queue.in_tool maps.in_tool base.in_tool
  ports_then = refl

  -- the table of four, and the list
  pub table_then : (qs : List _) → qs ≡ (prediction.in_tool then).queued.mapped.base.ports → (l : List Alarm) → l ≡ alarms_from (own_in m)
      → all_settled qs (set l (spot_of p) a) ≡ fill 4 no_alarm (alarms_after u i p a)
  table_then qs e l f =
      let n = used_long m h in
      ap₂ all_settled (e ∙ ports_then)
      (ap (λ l. set l (spot_of p) a) (f ∙ none_after m h) ∙ set_fill 4 (used_in m h) (spot_of p) a (λ b. fit (omega arith)))
      ∙ settled_fill 4 (prediction.base_of then).ports (set u.alarms (spot_of p) a) as_many

  after_long : length (alarms_after u i p a) ≡ length u.alarms
  after_long = settled_long (prediction.base_of then).ports (set u.alarms (spot_of p) a) as_many ∙ sym as_many ∙ length-set u.alarms (spot_of p) a

  pub told_then : (l k : List Alarm) → l ≡ alarms_from (own_in m) → k ≡ fill 4 no_alarm (alarms_after u i p a)
      → alarms_told 1 l k ≡ alarms_told 1 u.alarms (alarms_after u i p a)
  told_then l k e f =
      let n = used_long m h in
      let b = (held m h).few_ports in
      ap₂ (alarms_told 1) (e ∙ none_after m h) f ∙ told_fill 4 1 u.alarms (alarms_after u i p a) (omega arith) after_long

  accepted_is : eqb (wafers.answer_in u.predicted i) 0 ≡ true → ◌≡◌ {A = Given} (record {
    tool = record { predicted = prediction.in_tool then; alarms = fill 4 no_alarm (alarms_after u i p a) };
    answer = 0;
    reports = listed (wafers.reports_in u.predicted i ++ alarms_told 1 u.alarms (alarms_after u i p a));
  }) (passed_in (handled_in m) i p a)
  unfolding passed_in in_tool
  accepted_is z = rw z

  -- n is left after the input below, and k after the alarms
  module _ (n k : List (List ℕ)) (o q : List ℕ)
      (e : record { tool = predicted_in n; answer = 0; reports = reports_from o } ≡ wafers.given_in (predicted_in m) i)
      (kept : KeptOutside 0 1597 (own_in m) (own_in n)) where
    found : Accepted (predicted_in m) i
    found = accepted_below (predicted_in m) i (sym (ap (λ (g : below.Given). g.answer) e))

    tool_then : predicted_in n ≡ prediction.in_tool then
    tool_then = ap (λ (g : below.Given). g.tool) e ∙ found.tool

    alarms_then : alarms_from (own_in n) ≡ alarms_from (own_in m)
    alarms_then = alarms_same (own_in m) (own_in n) (λ j b c. kept.after j b)

    settled_then : all_settled (tool_from (get_or n 0 [])).ports (set (alarms_from (own_in n)) (spot_of p) a) ≡ fill 4 no_alarm (alarms_after u i p a)
    settled_then = table_then _ (ap (λ (t : PredictedTool). t.queued.mapped.base.ports) tool_then) _ alarms_then

    pub accepted_left : get_or k 0 [] ≡ get_or n 0 []
        → alarms_from (own_in k) ≡ all_settled (tool_from (get_or n 0 [])).ports (set (alarms_from (own_in n)) (spot_of p) a)
        → reports_from q ≡ note_all (reports_from o) (alarms_told 1 (alarms_from (own_in n)) (all_settled (tool_from (get_or n 0 [])).ports (set (alarms_from (own_in n)) (spot_of p) a)))
        → KeptOutside 1597 1605 (own_in n) (own_in k)
        → left k q 0 ≡ passed_in (handled_in m) i p a
    accepted_left b c d f =
        given_of (predicted_same n k b f ∙ tool_then) (c ∙ settled_then)
        (d ∙ ap₂ note_all (ap (λ (g : below.Given). g.reports) e ∙ found.reports) (told_then _ _ alarms_then settled_then) ∙ noted_on _ _)
        ∙ accepted_is found.zero

  -- refused below: nothing is written
  pub refused_left : (n : List (List ℕ)) (o : List ℕ) (answer : ℕ)
      → record { tool = predicted_in n; answer = answer; reports = reports_from o } ≡ wafers.given_in (predicted_in m) i → answer ≢ 0
      → KeptOutside 0 1597 (own_in m) (own_in n) → left n o answer ≡ passed_in (handled_in m) i p a
  unfolding passed_in
  refused_left n o answer e z kept =
      let g = e ∙ refused_below (predicted_in m) i (λ w. z (ap (λ (g : below.Given). g.answer) e ∙ w)) in
      let y : answer ≡ wafers.answer_in u.predicted i = ap (λ (g : below.Given). g.answer) g in
      let x = alarms_same (own_in m) (own_in n) (λ j b c. kept.after j b) in
      rw (ne_eqb _ 0 (λ w. z (y ∙ w)), ap (λ (g : below.Given). g.tool) g, ap (λ (g : below.Given). g.reports) g, x, y)

-- ── The alarms alone ──
module _ (m : List (List ℕ)) (h : sound_tool (handled_in m) ≡ true) (p : ℕ) (a : Alarm) (fit : NoneElsewhere (tool_from (get_or m 0 [])) p a) where
  abbrev v : Handled
  v = state_of (handled_in m)

  abbrev alarms_left : List Alarm
  alarms_left = all_settled (base_of v).ports (set v.alarms (spot_of p) a)

  -- P8's tool holds its state
  below_again : prediction.in_tool v.predicted ≡ predicted_in m
  unfolding prediction.in_tool
  below_again = rw (predicted.queued_again m (below_is m h), sym (predicted.none_after m (below_is m h)))

  set_long : length (set v.alarms (spot_of p) a) ≡ length (base_of v).ports
  set_long = length-set v.alarms (spot_of p) a ∙ used_long m h ∙ sym (ports_long m h)

  table_alone : all_settled (tool_from (get_or m 0 [])).ports (set (alarms_from (own_in m)) (spot_of p) a) ≡ fill 4 no_alarm alarms_left
  table_alone =
      let n = used_long m h in
      ap₂ all_settled (held m h).ports
      (ap (λ l. set l (spot_of p) a) (none_after m h) ∙ set_fill 4 (used_in m h) (spot_of p) a (λ b. fit (omega arith)))
      ∙ settled_fill 4 (base_of v).ports (set v.alarms (spot_of p) a) set_long

  left_long : length alarms_left ≡ length v.alarms
  left_long = settled_long (base_of v).ports (set v.alarms (spot_of p) a) set_long ∙ sym set_long ∙ length-set v.alarms (spot_of p) a

  pub alone_left : (k : List (List ℕ)) (o q : List ℕ) → reports_from o ≡ no_reports → get_or k 0 [] ≡ get_or m 0 []
      → alarms_from (own_in k) ≡ all_settled (tool_from (get_or m 0 [])).ports (set (alarms_from (own_in m)) (spot_of p) a)
      → reports_from q ≡ note_all (reports_from o) (alarms_told 1 (alarms_from (own_in m)) (all_settled (tool_from (get_or m 0 [])).ports (set (alarms_from (own_in m)) (spot_of p) a)))
      → KeptOutside 1597 1605 (own_in m) (own_in k)
      → left k q 0 ≡ accepted (record { predicted = v.predicted; alarms = alarms_left }) (alarms_told 1 v.alarms alarms_left)
  unfolding in_tool
  alone_left k o q e b c d f =
      let n = used_long m h in
      let w = (held m h).few_ports in
      given_of (predicted_same m k b f ∙ sym below_again) (c ∙ table_alone)
      (d ∙ ap₂ note_all e (ap₂ (alarms_told 1) (none_after m h) table_alone ∙ told_fill 4 1 v.alarms alarms_left (omega arith) left_long) ∙ all_noted _)
