-- How many states a course passes, whatever its conditions.
use Prim.Native.Nat.{ℕ, zero, suc, ◌+◌, ◌≤◌}
use native.Mathlib.Omega.{arith}
use mathlib.Core.Path.{◌≡◌, refl, ap, sym, ◌∙◌}
use mathlib.Core.Bool.{Bool, true, false, not, cond, ◌&&◌, ◌||◌}
use mathlib.Core.List.{List, [], ◌∷◌}
use lib.ListN.{length}
use lib.Dec.{eqb, leb}
use borrow.Author.Tests.{leb-true, leb-false, le-leb, eq-eqb, ne_eqb}
use Rattle.lists.specs.Lists.{every}
use Rattle.lists.proofs.Tests.{every_at}
use Rattle.lists.proofs.Bools.{or_r, or_other, not_true}
use Rattle.prediction.specs.declared.prediction.Facts.{Facts}
use Rattle.prediction.specs.Predictions.{as_it_is}
use Rattle.prediction.proofs.Modelled.{always, always_holds, states, at_own}
use Rattle.prediction.specs.Model.{transitions, next, passed, course, last_of, waiting_for_prediction, predicted, aborted}

-- no transition leads on from a number that is no state
another : (k s : ℕ) → k ≤ 6 → 7 ≤ s → eqb k s ≡ false
another k s a b = ne_eqb k s (λ e. omega arith)

beyond : (f : Facts) (s : ℕ) → 7 ≤ s → course f s ≡ []
unfolding passed next
beyond f s b =
    rw (
      another 2 s (omega arith) b,
      another 3 s (omega arith) b,
      another 4 s (omega arith) b,
      another 5 s (omega arith) b,
      eq-eqb s s refl,
    )

-- what is said of a state, of the course from it and of its conditions
module _ (P : ℕ → List ℕ → Facts → Bool) where
  abbrev of_state : ℕ → Bool
  of_state s = always (λ f. P s (course f s) f)

  of_each : every of_state states ≡ true → ((s : ℕ) → 7 ≤ s → (f : Facts) → P s [] f ≡ true) → (s : ℕ) (f : Facts) → P s (course f s) f ≡ true
  of_each h g s f = go (leb s 6) refl
    where
      go : (w : Bool) → leb s 6 ≡ w → P s (course f s) f ≡ true
      go true e =
          let b = leb-true s 6 e in
          always_holds (λ f. P s (course f s) f) (ap of_state (sym (at_own s b)) ∙ every_at of_state states 0 h s (omega arith)) f
      go false e = let b = leb-false s 6 e in rw (beyond f s b) (g s b f)

-- ── How many states a course passes ──
-- PREDICTED or ABORTED, with the port READY TO UNLOAD
abbrev pub is_overdue : Bool → ℕ → Bool
is_overdue ready s = (eqb s predicted || eqb s aborted) && ready

-- how many states are left to pass for whoever isn't taken
unfoldable pub left_from : Bool → ℕ → ℕ
left_from ready s = cond (eqb s waiting_for_prediction) 2 (cond (eqb s predicted || is_overdue ready s) 1 0)

pub left_two : (ready : Bool) (s : ℕ) → left_from ready s ≤ 2
unfolding left_from
left_two ready s = go (eqb s waiting_for_prediction) (eqb s predicted || is_overdue ready s)
  where
    go : (v w : Bool) → cond v 2 (cond w 1 0) ≤ 2
    go true w = omega arith
    go false true = omega arith
    go false false = omega arith

-- each that is passed is one less
abbrev wears_down : ℕ → List ℕ → Facts → Bool
wears_down s l f = f.taken || leb (length l + left_from f.ready (last_of s l)) (left_from f.ready s)

pub wears_down_fact : (s : ℕ) (f : Facts) → f.taken ≡ false
    → length (course f s) + left_from f.ready (last_of s (course f s)) ≤ left_from f.ready s
unfolding every passed next last_of left_from
wears_down_fact s f t =
    leb-true _ _ (or_other f.taken _ (of_each wears_down refl (λ s b f. or_r f.taken (same (left_from f.ready s))) s f) t)
  where
    same : (n : ℕ) → leb (0 + n) n ≡ true
    same n = le-leb (0 + n) n (omega arith)

-- whoever is ready isn't left overdue
abbrev not_left : ℕ → List ℕ → Facts → Bool
not_left s l f = not (is_overdue f.ready (last_of s l))

pub not_left_fact : (s : ℕ) (f : Facts) → is_overdue f.ready (last_of s (course f s)) ≡ false
unfolding every passed next last_of
not_left_fact s f =
    not_true _ (of_each not_left refl (λ s b f. rw (ne_eqb s predicted (λ e. omega arith), ne_eqb s aborted (λ e. omega arith))) s f)

-- a time is judged, or none is possible; where neither is so, one state is passed at most
abbrev pub is_judged : Facts → Bool
is_judged f = f.soon || f.late || f.impossible

abbrev only_one : ℕ → List ℕ → Facts → Bool
only_one s l f = is_judged f || leb (length l) 1

pub one : (s : ℕ) (f : Facts) → is_judged f ≡ false → length (course f s) ≤ 1
unfolding every passed next last_of
one s f e = leb-true _ _ (or_other (is_judged f) _ (of_each only_one refl (λ s b f. or_r (is_judged f) (le-leb 0 1 (omega arith))) s f) e)

-- and where nothing but ready is asked, only whoever is overdue does
abbrev only_overdue : ℕ → List ℕ → Facts → Bool
only_overdue s l f = (f.taken || is_judged f) || leb (length l) (cond (is_overdue f.ready s) 1 0)

pub only_overdue_fact : (s : ℕ) (ready : Bool) → length (course (as_it_is ready) s) ≤ cond (is_overdue ready s) 1 0
unfolding every passed next last_of
only_overdue_fact s ready =
    leb-true _ _ (of_each only_overdue refl (λ s b f. or_r (f.taken || is_judged f) (none (cond (is_overdue f.ready s) 1 0))) s (as_it_is ready))
  where
    none : (n : ℕ) → leb 0 n ≡ true
    none n = le-leb 0 n (omega arith)

-- a course passes three at most
passed_few : (n : ℕ) (f : Facts) (s : ℕ) → length (passed n f s) ≤ n
unfolding passed
passed_few zero f s = omega arith
passed_few (suc n) f s = go (eqb (next (transitions f) s) s) (passed_few n f (next (transitions f) s))
  where
    go : (w : Bool) → length (passed n f (next (transitions f) s)) ≤ n
        → length (cond w [] (next (transitions f) s ∷ passed n f (next (transitions f) s))) ≤ suc n
    go true b = omega arith
    go false b = omega arith

pub three : (s : ℕ) (f : Facts) → length (course f s) ≤ 3
three s f = passed_few 3 f s
