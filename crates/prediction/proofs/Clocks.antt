-- Time never runs back, and a refused input leaves everything as it was, the clock too.
use Prim.Native.Nat.{ℕ, ◌≤◌}
use native.Mathlib.Omega.{arith}
use mathlib.Core.Path.{◌≡◌, refl}
use mathlib.Core.Bool.{Bool, true, false, cond}
use mathlib.Core.List.{List, [], ◌∷◌, ◌++◌}
use lib.Dec.{eqb}
use borrow.Author.Tests.{eqb-true, ltb-false}
use Rattle.rules.specs.declared.row.Seen.{Seen}
use Rattle.rules.specs.Seen.{see}
use Rattle.rules.specs.Row.{lowest}
use Rattle.rules.proofs.Accepts.{clear}
use Rattle.queue.proofs.SoundRuns.{cleared}
use Rattle.prediction.specs.State.{Predicted, base_of, Timed}
use Rattle.prediction.specs.Outcome.{is_timed, answer_in, grounds_of, clock_grounds, tp_grounds, te_grounds, none_grounds, enact, state_after, reached}

pub refused_leaves : (s : Predicted) (i : Timed) → eqb (answer_in s i) 0 ≡ false → state_after s i ≡ s
unfolding state_after
refused_leaves s i e = rw e

module _ (s : Predicted) (i : Timed) where
  abbrev x : Seen
  x = see (base_of s) i.input

  abbrev number : ℕ
  number = i.input.number

  -- the last ground of all four: a clock earlier than the last accepted
  clock_later : lowest (grounds_of number s x i) ≡ 0 → s.times.now ≤ i.clock
  unfolding grounds_of
  clock_later = go (eqb number 31) (eqb number 32) (eqb number 33)
    where
      go : (u v w : Bool) → lowest (cond u (clock_grounds s i) (cond v (tp_grounds s x i) (cond w (te_grounds s x i) (none_grounds s x i)))) ≡ 0
          → s.times.now ≤ i.clock
      go true v w e = ltb-false _ _ (clear (clock_grounds s i) refl (cleared (clock_grounds s i) refl e)).1.0
      go false true w e = ltb-false _ _ (clear (tp_grounds s x i) refl (cleared (tp_grounds s x i) refl e)).1.1.1.1.1.1.1.0
      go false false true e = ltb-false _ _ (clear (te_grounds s x i) refl (cleared (te_grounds s x i) refl e)).1.1.1.1.1.1.0
      go false false false e = ltb-false _ _ (clear (none_grounds s x i) refl (cleared (none_grounds s x i) refl e)).1.1.1.1.1.0

  accepted_later : answer_in s i ≡ 0 → is_timed number ≡ true → s.times.now ≤ i.clock
  unfolding answer_in
  accepted_later a t = clock_later (rw t at a)

  pub onward : s.times.now ≤ (state_after s i).times.now
  unfolding state_after
  onward = go (eqb (answer_in s i) 0) refl
    where
      moved : answer_in s i ≡ 0 → (w : Bool) → is_timed number ≡ w
          → s.times.now ≤ (cond w (record { now = i.clock; setting = s.times.setting; timeout = s.times.timeout }) s.times).now
      moved a true t = accepted_later a t
      moved a false t = omega arith

      go : (w : Bool) → eqb (answer_in s i) 0 ≡ w → s.times.now ≤ (cond w (enact s i) s).times.now
      go true e = moved (eqb-true _ 0 e) (is_timed number) refl
      go false e = omega arith

-- whatever comes later in a run
pub never_back : (s : Predicted) (run later : List Timed) → (reached s run).times.now ≤ (reached s (later ++ run)).times.now
unfolding reached
never_back s run [] = omega arith
never_back s run (i ∷ later) =
    let before = never_back s run later in
    let then = onward (reached s (later ++ run)) i in
    omega arith
