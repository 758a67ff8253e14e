-- An input that P5, P7 and P8 leave as it is: P8's layer answers it and moves as P1's does.
use Prim.Native.Nat.{ℕ, ◌≤◌}
use native.Mathlib.Omega.{arith}
use mathlib.Core.Path.{◌≡◌, refl, ap, subst, sym, ◌∙◌}
use mathlib.Core.Bool.{Bool, true, false}
use mathlib.Core.List.{[], ◌∷◌}
use lib.Dec.{eqb}
use borrow.Author.Tests.{ne_eqb}
use Rattle.rules.specs.Seen.{Input}
use Rattle.rules.specs.Row.{lower, lowest}
use Rattle.maps.specs.Outcome as maps
use Rattle.maps.specs.Projection as maps-runs
use Rattle.queue.specs.State.{Queued}
use Rattle.queue.specs.Rows.{passed_on, row_of}
use Rattle.queue.specs.Outcome as queue
use Rattle.queue.proofs.Walk.{Plain}
use Rattle.prediction.specs.State.{Predicted}
use Rattle.prediction.specs.Outcome as prediction
use Rattle.prediction.specs.Outcome.{is_timed}
use Rattle.prediction.proofs.Projected.{plain_answers, plain_moves}
use Rattle.wafers.specs.Outcome as wafers
use Rattle.wafers.specs.Outcome.{Brought}

pub record Through (n : ℕ) : Type 0 where
  pub plain : Plain n
  pub no_clock : is_timed n ≡ false
  pub no_wafers : eqb n 35 ≡ false

-- LoadDone and LoadFail are such
load_plain : (n : ℕ) → 14 ≤ n → n ≤ 15 → Plain n
load_plain n a b = record {
  not_six = λ z. omega arith;
  not_seven = λ z. omega arith;
  not_twelve = λ z. omega arith;
  not_thirteen = λ z. omega arith;
  not_nineteen = λ z. omega arith;
  not_out_start = λ z. omega arith;
  not_out_done = λ z. omega arith;
  not_cancel = λ z. omega arith;
  not_cancel_all = λ z. omega arith;
}

pub load_done_fact : (n : ℕ) → n ≡ 14 → Through n
load_done_fact n e = subst Through (sym e) (record { plain = load_plain 14 (omega arith) (omega arith); no_clock = refl; no_wafers = refl })

pub load_fail_fact : (n : ℕ) → n ≡ 15 → Through n
load_fail_fact n e = subst Through (sym e) (record { plain = load_plain 15 (omega arith) (omega arith); no_clock = refl; no_wafers = refl })

module _ (q : Queued) (i : Input) (p : Plain i.number) where
  row_is : queue.row_in q i ≡ passed_on [] q.queue i
  unfolding row_of
  row_is =
      rw (
        ne_eqb i.number 6 p.not_six,
        ne_eqb i.number 7 p.not_seven,
        ne_eqb i.number 12 p.not_twelve,
        ne_eqb i.number 13 p.not_thirteen,
        ne_eqb i.number 19 p.not_nineteen,
        ne_eqb i.number 27 p.not_out_start,
        ne_eqb i.number 28 p.not_out_done,
        ne_eqb i.number 29 p.not_cancel,
        ne_eqb i.number 30 p.not_cancel_all,
      )

  queue_answers : queue.answer_in q i ≡ maps.answer_in q.mapped i
  unfolding queue.answer_in queue.answers_in lower lowest maps-runs.reached
  queue_answers = rw row_is

  accepted_moves : eqb (maps.answer_in q.mapped i) 0 ≡ true → (queue.state_after q i).mapped ≡ maps.state_after q.mapped i
  unfolding queue.state_after maps-runs.reached
  accepted_moves e = rw (queue_answers, e, row_is)

  refused_stays : eqb (maps.answer_in q.mapped i) 0 ≡ false → (queue.state_after q i).mapped ≡ maps.state_after q.mapped i
  unfolding queue.state_after maps.state_after
  refused_stays e = rw (queue_answers, e)

  queue_moves : (queue.state_after q i).mapped ≡ maps.state_after q.mapped i
  queue_moves = go (eqb (maps.answer_in q.mapped i) 0) refl
    where
      go : (w : Bool) → eqb (maps.answer_in q.mapped i) 0 ≡ w → (queue.state_after q i).mapped ≡ maps.state_after q.mapped i
      go true e = accepted_moves e
      go false e = refused_stays e

module _ (s : Predicted) (i : Brought) (t : Through i.timed.input.number) where
  pub answers : wafers.answer_in s i ≡ maps.answer_in s.queued.mapped i.timed.input
  unfolding wafers.answer_in
  answers = rw t.no_wafers (plain_answers s i.timed t.no_clock ∙ queue_answers s.queued i.timed.input t.plain)

  pub moves : (wafers.reached s (i ∷ [])).queued.mapped ≡ maps.state_after s.queued.mapped i.timed.input
  unfolding wafers.reached wafers.state_after wafers.stands_for prediction.reached
  moves =
      rw t.no_wafers
      (ap (λ (q : Queued). q.mapped) (plain_moves s i.timed t.no_clock) ∙ queue_moves s.queued i.timed.input t.plain)
