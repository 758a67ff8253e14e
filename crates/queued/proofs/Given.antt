-- What the code puts together is what an input gives.
use Prim.Native.Nat.{ℕ, ◌<◌, ◌≤◌}
use native.Mathlib.Omega.{arith}
use mathlib.Core.Path.{◌≡◌, refl, ap, sym, subst⁻¹, ◌∙◌}
use mathlib.Core.Logic.{◌≢◌}
use mathlib.Core.Bool.{Bool, true, false, cond, true≢false}
use mathlib.Core.List.{List, [], ◌∷◌}
use lib.ListN.{length, get_or, set, take}
use lib.Seq.{take_all, get_or-set_same, get_or-set_other}
use lib.Dec.{eqb}
use borrow.Author.Tests.{eqb-true, ne_eqb}
use Rattle.lists.specs.Lists.{fill}
use Rattle.std.specs.Prelude.{Result, Ok, Err}
use Rattle.std.specs.Result.{is_err, result_and}
use Rattle.records.specs.declared.name.Name.{Name}
use Rattle.records.specs.declared.refusal.Refusal.{Refusal}
use Rattle.records.specs.Names.{no_name}
use Rattle.records.specs.declared.refusal.Refusal.TheVariants.{Conditions}
use Rattle.records.specs.Refusals.{number, answer}
use Rattle.rules.specs.declared.row.Seen.{Seen}
use Rattle.rules.specs.declared.report.Reports.{Reports}
use Rattle.rules.specs.State.{State}
use Rattle.rules.specs.Seen.{Input, input_of, see}
use Rattle.rules.specs.Row.{Ground, lower, lowest}
use Rattle.rules.specs.Reports.{no_reports}
use Rattle.rules.proofs.Holding as holding
use Rattle.image.specs.Image.{tool_from, reports_from}
use Rattle.machine.proofs.Refused.{never_zero}
use Rattle.follow.specs.Follow.{KeptOutside}
use Rattle.follow.proofs.Entries.{kept_all}
use Rattle.maps.specs.State as maps-state
use Rattle.maps.specs.State.{MappedTool}
use Rattle.maps.specs.Outcome as maps
use Rattle.maps.specs.Projection as maps-runs
use Rattle.mapped.specs.declared.step.Moved.{Moved}
use Rattle.mapped.specs.Bytes.{own_in, mapped_in}
use Rattle.queue.specs.declared.request.Request.{Request}
use Rattle.queue.specs.Requests.{no_request}
use Rattle.queue.specs.State.{Queued, base_of, QueuedTool, state_of, in_tool}
use Rattle.queue.specs.Sound.{sound_tool}
use Rattle.queue.specs.Rows.{Row, passed_on}
use Rattle.queue.specs.Outcome.{row_in, answers_in, answer_in, state_after, goes_in, made_in, Given, beside, given_in}
use Rattle.queue.proofs.HeldBack.{or_five}
use Rattle.queue.proofs.Free.{nobody_last}
use Rattle.queue.proofs.SoundRuns.{sound_parts, sound_after}
use Rattle.queue.proofs.Ended.{accepted_is}
use Rattle.queue.proofs.Passed.{taken_given, refused_given, passed_given}
use Rattle.line.specs.Bytes.{waiting_in, queue_from, queue_of, Holds}
use Rattle.line.proofs.Laid.{queue_long}
use Rattle.line.proofs.Changed as line
use Rattle.line.proofs.Changed.{kept_wider}
use Rattle.queued.specs.Bytes.{queued_in, left}
use Rattle.queued.proofs.Held.{tool, base_is, mapped_again, count_is, state_sound, maps_stay}
use Rattle.queued.proofs.Seven.{no_difference}

-- the same parts, the same Given
pub given_of : {t u : MappedTool} {w x : ℕ} {q p : List Request} {a b : ℕ} {r s : Reports} {g j : ℕ} {c d : Bool} {n v : Name}
    → t ≡ u → w ≡ x → q ≡ p → a ≡ b → r ≡ s → g ≡ j → c ≡ d → n ≡ v → ◌≡◌ {A = Given}
    (record { tool = record { mapped = t; waiting = w; queue = q }; answer = a; reports = r; goes = g; made = c; gone = n })
    (record { tool = record { mapped = u; waiting = x; queue = p }; answer = b; reports = s; goes = j; made = d; gone = v })
given_of a b c d e f g h = rw (a, b, c, d, e, f, g, h)

pub lower_none : (n : ℕ) → lower n 0 ≡ n
unfolding lower
lower_none n = go (eqb n 0) refl
  where
    go : (w : Bool) → eqb n 0 ≡ w → cond w 0 n ≡ n
    go true e = sym (eqb-true n 0 e)
    go false e = refl

-- what is answered, by whether it is refused
pub zero_of : (said : Result Unit Refusal) → is_err said ≡ false → answer said ≡ 0
zero_of (Ok u) e = refl
zero_of (Err r) e = absurd (true≢false e)

pub not_zero_of : (said : Result Unit Refusal) → is_err said ≡ true → answer said ≢ 0
not_zero_of (Ok u) e z = true≢false (sym e)
not_zero_of (Err r) e z = never_zero r z

-- what a row sees doesn't depend on the input's number
pub see_number : (s : State) (n k p v : ℕ) (a b : List ℕ) (x : Seen) → x ≡ see s (input_of k p v a b) → x ≡ see s (input_of n p v a b)
unfolding see
see_number s n k p v a b x e = e

-- the number that is given below is the answer there
below_answer : (t : MappedTool) (j : Input) → (maps.given_in t j).answer ≡ maps.answer_in (maps-state.state_of t) j
unfolding maps.given_in
below_answer t j = go (eqb (maps.answer_in (maps-state.state_of t) j) 0) refl
  where
    Answers : maps.Given → Type 0
    Answers g = g.answer ≡ maps.answer_in (maps-state.state_of t) j

    go : (w : Bool) → eqb (maps.answer_in (maps-state.state_of t) j) 0 ≡ w
        → Answers (cond w (maps.accepted (maps-state.state_of t) (maps.state_after (maps-state.state_of t) j)
        (maps.row_in (maps-state.state_of t) j).effect) (maps.refused t (maps.answer_in (maps-state.state_of t) j)))
    go true e = sym (eqb-true _ 0 e)
    go false e = refl

-- ── The second block is another, with another queue ──
module _ (m : List (List ℕ)) (w : List ℕ) (two : 1 < length m) (k : KeptOutside 900 1189 (own_in m) w) where
  pub own_then : own_in (set m 1 w) ≡ w
  own_then = get_or-set_same m 1 w [] two

  pub base_then : get_or (set m 1 w) 0 [] ≡ get_or m 0 []
  base_then = get_or-set_other m 1 0 w [] (omega arith)

  mapped_then : mapped_in (set m 1 w) ≡ mapped_in m
  mapped_then = rw (base_then, own_then, maps_stay k)

  pub kept_then : KeptOutside 0 1189 (own_in m) (own_in (set m 1 w))
  kept_then = subst⁻¹ (KeptOutside 0 1189 (own_in m)) own_then (kept_wider (omega arith) (omega arith) k)

  queued_then : (q : List Request) → Holds w q → length q ≤ 16
      → queued_in (set m 1 w) ≡ record { mapped = mapped_in m; waiting = length (take 16 q); queue = fill 16 no_request q }
  queued_then q h f = rw (mapped_then, own_then, h.waiting, h.queue, take_all 16 q f)

-- ── What an input gives ──
module _ (m : List (List ℕ)) (h : sound_tool (queued_in m) ≡ true) (i : Input) where
  abbrev t : QueuedTool
  t = queued_in m

  abbrev s : Queued
  s = state_of t

  -- what is left where nothing moves
  abbrev Stays : Result Unit Refusal → Moved (Result Unit Refusal) → Type 0
  Stays a r = r ≡ record { answer = a; goes = (tool m h).count; made = false; gone = no_name }

  pub refused_left : (a : Refusal) (o : List ℕ) (r : Moved (Result Unit Refusal)) → answer_in s i ≡ number a → Stays (Err a) r → reports_from o ≡ no_reports
      → (left m o r ≡ given_in t i) × KeptOutside 0 1189 (own_in m) (own_in m)
  unfolding given_in
  refused_left a o r e p q = (rw (p, q, e, ne_eqb (number a) 0 (never_zero a)), kept_all 0 1189 (own_in m))

  -- refused with what refuses it, or else with 5
  pub conditions_left : (said : Result Unit Refusal) (o : List ℕ) (r : Moved (Result Unit Refusal)) → answer_in s i ≡ or_five (answer said)
      → Stays (result_and said (Err Conditions)) r → reports_from o ≡ no_reports
      → (left m o r ≡ given_in t i) × KeptOutside 0 1189 (own_in m) (own_in m)
  conditions_left (Ok u) o r e p q = refused_left Conditions o r e p q
  conditions_left (Err a) o r e p q = refused_left a o r (rw (ne_eqb (number a) 0 (never_zero a)) at e) p q

  -- refused below with the same number
  pub below_refused : (a : ℕ) (n : List (List ℕ)) (o : List ℕ) (r : Moved (Result Unit Refusal)) → maps.answer_in s.mapped i ≡ a → answer_in s i ≡ a → a ≢ 0
      → left n o r ≡ beside (waiting_in (own_in m)) (queue_from (own_in m)) (maps.given_in (mapped_in m) i)
      → KeptOutside 0 900 (own_in m) (own_in n) → (left n o r ≡ given_in t i) × KeptOutside 0 1189 (own_in m) (own_in n)
  unfolding given_in maps.given_in
  below_refused a n o r b c d e k = (e ∙ rw (b, c, ne_eqb a 0 d), kept_wider (omega arith) (omega arith) k)

  -- the queue that follows an accepted input is no longer than the table
  few_then : (r : Row) → row_in s i ≡ r → answer_in s i ≡ 0 → length r.queue ≤ 16
  few_then r e z =
      rw (ap (λ (x : Queued). x.queue) (accepted_is s i z) ∙ ap (λ (r : Row). r.queue) e) at
      (sound_parts (state_after s i) (sound_after s i (state_sound m h))).line.few

  -- ── A row that stands for no input below ──
  module _ (gs : List Ground) (q : List Request) (row : row_in s i ≡ record { grounds = gs; stands = []; queue = q }) where
    pub alone_answer : answer_in s i ≡ lowest gs
    unfolding answer_in answers_in
    alone_answer = rw row (lower_none (lowest gs))

    alone_is : lowest gs ≡ 0 → record {
      tool = record { mapped = mapped_in m; waiting = length (take 16 q); queue = fill 16 no_request q };
      answer = 0;
      reports = no_reports;
      goes = (tool m h).count;
      made = false;
      gone = no_name;
    } ≡ given_in t i
    unfolding given_in state_after in_tool goes_in made_in maps-runs.reached
    alone_is z =
        rw (
          alone_answer,
          z,
          row,
          mapped_again m h,
          no_difference (base_of s) (holding.tool_sound (tool m h) (base_is m h)),
          nobody_last (base_of s),
          count_is m h,
        )

    -- accepted: another queue in the second block
    pub alone_left : lowest gs ≡ 0 → (w o : List ℕ) (r : Moved (Result Unit Refusal)) → 1 < length m → KeptOutside 900 1189 (own_in m) w → Holds w q
        → r ≡ record { answer = Ok tt; goes = (tool_from (get_or (set m 1 w) 0 [])).count; made = false; gone = no_name }
        → reports_from o ≡ no_reports
        → (left (set m 1 w) o r ≡ given_in t i) × KeptOutside 0 1189 (own_in m) (own_in (set m 1 w))
    alone_left z w o r two k l p e =
        let f = few_then _ row (alone_answer ∙ z) in (
          rw (queued_then m w two k q l f, p, base_then m w two k, e) (alone_is z),
          kept_then m w two k,
        )

  -- ── A row that stands for one input below, which has left the bytes n ──
  module _ (j : Input) (gs : List Ground) (q : List Request)
      (row : row_in s i ≡ record { grounds = gs; stands = j ∷ []; queue = q }) (clear : lowest gs ≡ 0)
      (n : List (List ℕ)) (o : List ℕ) (r : Moved (Result Unit Refusal))
      (e : left n o r ≡ beside (waiting_in (own_in m)) (queue_from (own_in m)) (maps.given_in (mapped_in m) j))
      (k : KeptOutside 0 900 (own_in m) (own_in n)) where
    answer_below : maps.answer_in s.mapped j ≡ answer r.answer
    answer_below = sym (below_answer (mapped_in m) j) ∙ sym (ap (λ (g : Given). g.answer) e)

    pub one_refused : answer r.answer ≢ 0 → (left n o r ≡ given_in t i) × KeptOutside 0 1189 (own_in m) (own_in n)
    one_refused d = (
      e ∙ refused_given t h (queue_long (own_in m)) i j gs q row clear (rw answer_below (ne_eqb _ 0 d)),
      kept_wider (omega arith) (omega arith) k,
    )

    answer_zero : answer r.answer ≡ 0 → answer_in s i ≡ 0
    unfolding answer_in answers_in lower maps-runs.reached
    answer_zero z = rw (row, clear, answer_below, z)

    -- accepted: the queue that follows
    pub one_left : answer r.answer ≡ 0 → (w : List ℕ) → 1 < length n → KeptOutside 900 1189 (own_in n) w → Holds w q
        → (left (set n 1 w) o r ≡ given_in t i) × KeptOutside 0 1189 (own_in m) (own_in (set n 1 w))
    one_left z w two kw l =
        let f = few_then _ row (answer_zero z) in (
          rw (queued_then n w two kw q l f) (besides ∙ taken_given t h (queue_long (own_in m)) i j gs q row clear (answer_below ∙ z)),
          line.kept_then (kept_wider (omega arith) (omega arith) k) (kept_then n w two kw),
        )
      where
        besides : record {
          tool = record { mapped = mapped_in n; waiting = length (take 16 q); queue = fill 16 no_request q };
          answer = answer r.answer;
          reports = reports_from o;
          goes = r.goes;
          made = r.made;
          gone = r.gone;
        } ≡ beside (length (take 16 q)) (fill 16 no_request q) (maps.given_in (mapped_in m) j)
        besides =
            given_of (ap (λ (g : Given). g.tool.mapped) e) refl refl (ap (λ (g : Given). g.answer) e)
            (ap (λ (g : Given). g.reports) e) (ap (λ (g : Given). g.goes) e) (ap (λ (g : Given). g.made) e)
            (ap (λ (g : Given). g.gone) e)

  -- the same input, with the queue as it is
  pub passed_left : (gs : List Ground) → row_in s i ≡ passed_on gs (queue_of (own_in m)) i → lowest gs ≡ 0
      → (n : List (List ℕ)) (o : List ℕ) (r : Moved (Result Unit Refusal))
      → left n o r ≡ beside (waiting_in (own_in m)) (queue_from (own_in m)) (maps.given_in (mapped_in m) i)
      → KeptOutside 0 900 (own_in m) (own_in n) → (left n o r ≡ given_in t i) × KeptOutside 0 1189 (own_in m) (own_in n)
  passed_left gs row clear n o r e k =
      (e ∙ passed_given t h (queue_long (own_in m)) i gs row clear, kept_wider (omega arith) (omega arith) k)
