-- What is gathered of a run of P8's layer is what is gathered of the run of document 01 that it stands for.
use Prim.Native.Nat.{ℕ, ◌≤◌}
use native.Mathlib.Omega.{arith}
use mathlib.Core.Path.{◌≡◌, refl, ap, sym, ◌∙◌}
use mathlib.Core.Bool.{Bool, true, false, cond, ◌&&◌}
use mathlib.Core.List.{List, [], ◌∷◌, ◌++◌}
use lib.ListN.{get_or}
use lib.Dec.{eqb}
use borrow.Author.Tests.{eqb-true, eq-eqb, leb-true}
use Rattle.lists.specs.Lists.{any}
use Rattle.lists.proofs.Bools.{and_l}
use Rattle.rules.specs.State as base-state
use Rattle.rules.specs.State.{State}
use Rattle.rules.specs.Seen.{Input, see}
use Rattle.rules.specs.Outcome as base
use Rattle.rules.specs.History as base-runs
use Rattle.rules.proofs.Lowest.{row_first_is_lowest}
use Rattle.maps.specs.State as maps-state
use Rattle.maps.specs.State.{Mapped}
use Rattle.maps.specs.Outcome as maps
use Rattle.maps.specs.Projection as maps-runs
use Rattle.maps.proofs.Amended.{accepted_there}
use Rattle.maps.proofs.Projected as maps-below
use Rattle.queue.specs.declared.request.Request.{Request}
use Rattle.queue.specs.Requests.{no_request, started_to, started_stands}
use Rattle.queue.specs.State as queue-state
use Rattle.queue.specs.State.{Queued}
use Rattle.queue.specs.Rows as queue-rows
use Rattle.queue.specs.Outcome as queue
use Rattle.queue.specs.Projection as queue-runs
use Rattle.queue.proofs.Walk as queue-walk
use Rattle.queue.proofs.SoundRuns.{last_zero, below_zero}
use Rattle.queue.proofs.Projected as queue-below
use Rattle.prediction.specs.State as prediction-state
use Rattle.prediction.specs.State.{Predicted, Timed}
use Rattle.prediction.specs.Outcome as prediction
use Rattle.prediction.specs.Outcome.{is_timed}
use Rattle.prediction.specs.Projection as prediction-runs
use Rattle.prediction.proofs.Projected as prediction-below
use Rattle.wafers.specs.Outcome as wafers
use Rattle.wafers.specs.Outcome.{Brought, is_wafers}
use Rattle.wafers.specs.Projection as wafers-runs
use Rattle.wafers.proofs.Projected as wafers-below
use Rattle.tally.specs.Count.{Entry}
use Rattle.counted.proofs.Gathered.{gathered, one_gathered, same_gathered, matters, taken, taken_aside, taken_refused, late_aside}
use Rattle.counted.proofs.Modes.{adds}

-- ── What an input adds after a run from s ──
abbrev maps_adds : Mapped → List Input → Input → List Entry
maps_adds s earlier i = taken (eqb (maps.answer_in (maps-runs.reached s earlier) i) 0) i

abbrev queue_adds : Queued → List Input → Input → List Entry
queue_adds s earlier i = taken (eqb (queue.answer_in (queue-runs.reached s earlier) i) 0) i

abbrev timed_adds : Predicted → List Timed → Timed → List Entry
timed_adds s earlier i = taken (eqb (prediction.answer_in (prediction.reached s earlier) i) 0) i.input

abbrev pub brought_adds : Predicted → List Brought → Brought → List Entry
brought_adds s earlier i = taken (eqb (wafers.answer_in (wafers.reached s earlier) i) 0) i.timed.input

-- ── P1's layer on document 01 ──
module _ (P B : ℕ) (lo : 1 ≤ P) (hi : P ≤ 4) (few : B ≤ 16) where
  module _ (earlier : List Input) (i : Input) where
    abbrev m : Mapped
    m = maps-runs.reached (maps-state.start P B) earlier

    abbrev maps_cut : List Input
    maps_cut = maps-runs.cut_down (maps-state.start P B) earlier

    abbrev base_then : List Input → Input → List Entry
    base_then l j = adds (base-state.start P B) (l ++ maps_cut) j

    -- what is accepted there is accepted here
    base_accepts : eqb (maps.answer_in m i) 0 ≡ true → eqb (base.answer_in (base-runs.reached (base-state.start P B) maps_cut) i) 0 ≡ true
    unfolding base.answer_in
    base_accepts a =
        ap (λ (s : State). eqb (base.answer_in s i) 0) (maps-below.projected P B lo hi few earlier)
        ∙ eq-eqb _ 0 (sym (row_first_is_lowest i.number (see m.base i)) ∙ accepted_there m i a)

    base_same : gathered base_then (maps-runs.stands_for m i) ≡ taken (eqb (maps.answer_in m i) 0) i
    unfolding maps-runs.stands_for gathered
    base_same = go (eqb (maps.answer_in m i) 0) refl (maps-runs.equal_map m i) refl
      where
        go : (w : Bool) → eqb (maps.answer_in m i) 0 ≡ w → (q : Bool) → maps-runs.equal_map m i ≡ q
            → gathered base_then (cond w (cond q (maps-runs.proceed i ∷ i ∷ []) (i ∷ [])) []) ≡ taken w i
        go true a true e =
            let k : matters i.number ≡ false = ap matters (maps-below.equal_twenty m i e) in
            rw (taken_aside _ i k, taken_aside true i k) (ap (λ l. l ++ []) (taken_aside _ (maps-runs.proceed i) refl))
        go true a false e = one_gathered base_then i ∙ ap (λ w. taken w i) (base_accepts a)
        go false a q e = sym (taken_refused i)

-- ── P5's layer on P1's ──
module _ (begin : Queued) (earlier : List Input) (i : Input) where
  abbrev q : Queued
  q = queue-runs.reached begin earlier

  abbrev maps_then : List Input → Input → List Entry
  maps_then l j = maps_adds begin.mapped (l ++ queue-runs.cut_down begin earlier) j

  abbrev Adds : queue-rows.Row → Type 0
  Adds r = queue.answers_in q.mapped r.stands ≡ 0 → gathered maps_then r.stands ≡ taken true i

  -- for itself
  itself : queue.answers_in q.mapped (i ∷ []) ≡ 0 → gathered maps_then (i ∷ []) ≡ taken true i
  unfolding maps-runs.reached
  itself z =
      one_gathered maps_then i
      ∙ ap (λ w. taken w i)
      (ap (λ (s : Mapped). eqb (maps.answer_in s i) 0) (queue-below.below begin earlier) ∙ last_zero q.mapped i [] z)

  -- for none, or for inputs that don't matter: 7, 11 and 12
  aside_adds : (n : ℕ) → i.number ≡ n → matters n ≡ false → {l : List Entry} → l ≡ [] → l ≡ taken true i
  aside_adds n e k z = z ∙ sym (taken_aside true i (ap matters e ∙ k))

  out : (w : Bool) (r : Request) → gathered maps_then (cond w (queue-rows.comes_out r i) []) ≡ []
  unfolding gathered taken
  out true r = refl
  out false r = refl

  rows_add : Adds (queue.row_in q i)
  unfolding gathered taken
  rows_add =
      queue-walk.walk Adds i.number (queue-state.base_of q) q.queue (see (queue-state.base_of q) i) i (record {
        cancel_carrier = λ _. itself;
        carrier_out = λ e _. aside_adds 7 e refl refl;
        cancel_reservation_at_port = λ _. itself;
        load_start = λ _. itself;
        open_row = λ _. itself;
        out_start = λ e _. aside_adds 27 e refl refl;
        out_done = λ e _.
            aside_adds 28 e refl (out (any (started_to (see (queue-state.base_of q) i).port) q.queue)
            (get_or q.queue (started_stands (see (queue-state.base_of q) i).port q.queue) no_request));
        cancel_carrier_out = λ e _. aside_adds 29 e refl refl;
        cancel_all_carrier_out = λ e _. aside_adds 30 e refl refl;
        other = λ _. itself;
      })

  maps_same : gathered maps_then (queue-runs.stands_for q i) ≡ taken (eqb (queue.answer_in q i) 0) i
  unfolding queue-runs.stands_for gathered
  maps_same = go (eqb (queue.answer_in q i) 0) refl
    where
      go : (w : Bool) → eqb (queue.answer_in q i) 0 ≡ w → gathered maps_then (cond w (queue.row_in q i).stands []) ≡ taken w i
      go true a = rows_add (below_zero q i a)
      go false a = sym (taken_refused i)

-- ── P7's layer on P5's ──
-- an input without a clock stands for itself
abbrev plain : Timed → List Input
plain i = cond (is_timed i.input.number) [] (i.input ∷ [])

timed_cut : (earlier : List Timed) (i : Timed) → prediction-runs.cut_down (i ∷ earlier) ≡ plain i ++ prediction-runs.cut_down earlier
unfolding prediction-runs.cut_down
timed_cut earlier i = go (is_timed i.input.number)
  where
    go : (w : Bool)
        → cond w (prediction-runs.cut_down earlier) (i.input ∷ prediction-runs.cut_down earlier)
        ≡ cond w [] (i.input ∷ []) ++ prediction-runs.cut_down earlier
    go true = refl
    go false = refl

module _ (begin : Predicted) (earlier : List Timed) (i : Timed) where
  abbrev queue_then : List Input → Input → List Entry
  queue_then l j = queue_adds begin.queued (l ++ prediction-runs.cut_down earlier) j

  queue_same : gathered queue_then (plain i) ≡ timed_adds begin earlier i
  unfolding gathered
  queue_same = go (is_timed i.input.number) refl
    where
      go : (w : Bool) → is_timed i.input.number ≡ w → gathered queue_then (cond w [] (i.input ∷ [])) ≡ timed_adds begin earlier i
      go true t = let b = leb-true 31 i.input.number (and_l _ _ t) in sym (taken_aside _ i.input (late_aside i.input.number (omega arith)))
      go false t =
          one_gathered queue_then i.input
          ∙ ap (λ n. taken (eqb n 0) i.input)
          (ap (λ s. queue.answer_in s i.input) (prediction-below.below begin earlier)
          ∙ sym (prediction-below.plain_answers (prediction.reached begin earlier) i t))

-- ── P8's layer on P7's ──
module _ (begin : Predicted) (earlier : List Brought) (i : Brought) where
  abbrev timed_then : List Timed → Timed → List Entry
  timed_then l j = timed_adds begin (l ++ wafers-runs.cut_down earlier) j

  timed_same : gathered timed_then (wafers.stands_for i) ≡ brought_adds begin earlier i
  unfolding gathered wafers.stands_for taken
  timed_same = go (is_wafers i) refl (wafers.fits i && wafers.good i)
    where
      none : is_wafers i ≡ true → [] ≡ brought_adds begin earlier i
      none w =
          sym (taken_aside (eqb (wafers.answer_in (wafers.reached begin earlier) i) 0) i.timed.input
          (ap matters (eqb-true i.timed.input.number 35 w)))

      go : (w : Bool) → is_wafers i ≡ w → (g : Bool)
          → gathered timed_then (cond w (cond g (wafers.with_tp i (wafers.tp_of i) ∷ []) []) (i.timed ∷ [])) ≡ brought_adds begin earlier i
      go true w true = none w
      go true w false = none w
      go false w g =
          one_gathered timed_then i.timed
          ∙ ap (λ n. taken (eqb n 0) i.timed.input)
          (ap (λ s. prediction.answer_in s i.timed) (sym (wafers-below.below begin earlier))
          ∙ sym (wafers-below.answers_below (wafers.reached begin earlier) i i.timed (rw w)))

-- ── All ──
-- the run of document 01 that a run of P8's layer stands for
abbrev pub lowered : ℕ → ℕ → List Brought → List Input
lowered P B run =
    maps-runs.cut_down (maps-state.start P B) (queue-runs.cut_down (queue-state.start P B) (prediction-runs.cut_down (wafers-runs.cut_down run)))

pub same_below : (P B setting timeout : ℕ) → 1 ≤ P → P ≤ 4 → B ≤ 16 → (run : List Brought)
    → gathered (adds (base-state.start P B)) (lowered P B run) ≡ gathered (brought_adds (prediction-state.start P B setting timeout)) run
unfolding maps-runs.cut_down queue-runs.cut_down prediction-runs.cut_down wafers-runs.cut_down
same_below P B setting timeout lo hi few run =
    let m = maps-state.start P B in
    let q = queue-state.start P B in
    let p = prediction-state.start P B setting timeout in
    same_gathered (adds (base-state.start P B)) (maps_adds m)
    (maps-runs.cut_down m) (λ l i. maps-runs.stands_for (maps-runs.reached m l) i) refl (λ _ _. refl) (base_same P B lo hi few) _
    ∙ same_gathered (maps_adds m) (queue_adds q)
    (queue-runs.cut_down q) (λ l i. queue-runs.stands_for (queue-runs.reached q l) i) refl (λ _ _. refl) (maps_same q) _
    ∙ same_gathered (queue_adds q) (timed_adds p) prediction-runs.cut_down (λ _ i. plain i) refl timed_cut (queue_same p) _
    ∙ same_gathered (timed_adds p) (brought_adds p) wafers-runs.cut_down (λ _ i. wafers.stands_for i) refl (λ _ _. refl) (timed_same p) run
