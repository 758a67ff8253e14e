-- No row gives an answer that isn't allowed for it.
use Prim.Native.Nat.{ℕ}
use native.Mathlib.Omega.{arith}
use mathlib.Core.Path.{◌≡◌, refl, sym, subst}
use mathlib.Core.Bool.{Bool, true, false, cond, ◌||◌}
use mathlib.Core.List.{List, [], ◌∷◌}
use lib.Dec.{eqb, leb}
use borrow.Author.Tests.{eqb-true, eqb-false, ne_eqb}
use Rattle.lists.specs.Lists.{every, any}
use Rattle.lists.proofs.Bools.{clash}
use Rattle.rules.specs.declared.row.Seen.{Seen}
use Rattle.rules.specs.Seen.{narrow, see}
use Rattle.rules.specs.Row.{Ground, lower, lowest}
use Rattle.rules.specs.Reachable as base
use Rattle.rules.proofs.Lowest.{rising_from, first_is_lowest}
use Rattle.rules.proofs.Allowed.{numbers_of, among}
use Rattle.queue.specs.Reachable as queue
use Rattle.prediction.specs.Reachable as prediction
use Rattle.wafers.specs.Outcome as wafers
use Rattle.wafers.specs.Outcome.{Brought}
use Rattle.wafers.specs.Reachable as below
use Rattle.wafers.proofs.Allowed as below-allowed
use Rattle.hands.specs.declared.alarm.Alarm.{Alarm}
use Rattle.hands.specs.State.{Handled, base_of, alarm_of}
use Rattle.hands.specs.Sound.{sound}
use Rattle.hands.specs.Rows.{Row, passed_on, starts, LoadDone, load_done, continue_row, violated, row_of}
use Rattle.hands.specs.Outcome.{row_in, answer_below, answer_in}
use Rattle.hands.specs.Reachable.{is_ours, may_answer}
use Rattle.hands.proofs.Sounds.{predicted_part}

-- ── The lower of two ──
lower_either : (f : ℕ → Bool) (m n : ℕ) → f m ≡ true → f n ≡ true → f (lower m n) ≡ true
unfolding lower
lower_either f m n a b = go (eqb m 0) (eqb n 0) (leb m n)
  where
    go : (u v w : Bool) → f (cond u n (cond v m (cond w m n))) ≡ true
    go true v w = b
    go false true w = a
    go false false true = a
    go false false false = b

-- what a row's own grounds give
own_may : (n : ℕ) (gs : List Ground) → rising_from 1 gs ≡ true → may_answer n 0 ≡ true → every (may_answer n) (numbers_of gs) ≡ true
    → may_answer n (lowest gs) ≡ true
own_may n gs r z e = rw (← first_is_lowest 1 gs (omega arith) r) (among (may_answer n) gs z e)

-- ── What is allowed below is allowed here ──
-- the list here may end in one number more
after_three : (a b c d : Bool) → a || (b || (c || false)) ≡ true → a || (b || (c || (d || false))) ≡ true
after_three true b c d h = refl
after_three false true c d h = refl
after_three false false true d h = refl
after_three false false false d h = clash h refl

after_four : (a b c d e : Bool) → a || (b || (c || (d || false))) ≡ true → a || (b || (c || (d || (e || false)))) ≡ true
after_four true b c d e h = refl
after_four false b c d e h = after_three b c d e h

load_start : (m : ℕ) → below.may_answer 13 m ≡ true → may_answer 13 m ≡ true
unfolding may_answer is_ours below.may_answer prediction.may_answer queue.may_answer queue.is_ours any
load_start m h = after_four (eqb 0 m) (eqb 1 m) (eqb 4 m) (eqb 5 m) (eqb 13 m) h

load_done_fact : (m : ℕ) → below.may_answer 14 m ≡ true → may_answer 14 m ≡ true
unfolding may_answer is_ours below.may_answer prediction.may_answer queue.may_answer queue.is_ours base.may_answer any
load_done_fact m h = go (eqb m 1) refl h
  where
    go : (w : Bool) → eqb m 1 ≡ w → (w || may_answer 14 m) ≡ true → may_answer 14 m ≡ true
    go true e g = rw (eqb-true m 1 e)
    go false e g = g

unload_start : (m : ℕ) → below.may_answer 24 m ≡ true → may_answer 24 m ≡ true
unfolding may_answer is_ours below.may_answer prediction.may_answer queue.may_answer queue.is_ours base.may_answer any
unload_start m h = go (eqb m 1) refl h
  where
    go : (w : Bool) → eqb m 1 ≡ w → (w || (eqb 0 m || (eqb 1 m || (eqb 5 m || false)))) ≡ true → may_answer 24 m ≡ true
    go true e g = rw (eqb-true m 1 e)
    go false e g = after_three (eqb 0 m) (eqb 1 m) (eqb 5 m) (eqb 13 m) g

-- ── Row by row ──
module _ (s : Handled) (i : Brought) (h : sound s ≡ true) where
  abbrev x : Seen
  x = see (base_of s) i.timed.input

  abbrev a : Alarm
  a = alarm_of s (narrow i.timed.input.port)

  abbrev number : ℕ
  number = i.timed.input.number

  abbrev May : ℕ → Row → Type 0
  May n r = may_answer n (lower (lowest r.grounds) (answer_below s.predicted r.stands)) ≡ true

  -- what is answered below, by the row's number
  below_may : (j : Brought) (k : ℕ) → j.timed.input.number ≡ k → below.may_answer k (wafers.answer_in s.predicted j) ≡ true
  below_may j k z = subst (λ n. below.may_answer n (wafers.answer_in s.predicted j) ≡ true) z
      (below-allowed.nothing_else s.predicted j (predicted_part s h))

  load_start_may : number ≡ 13 → May 13 (starts x a i)
  unfolding answer_below may_answer is_ours any every
  load_start_may z =
      lower_either (may_answer 13) (lowest (starts x a i).grounds) (wafers.answer_in s.predicted i)
      (own_may 13 (starts x a i).grounds refl refl refl)
      (load_start _ (below_may i 13 z))

  unload_start_may : number ≡ 24 → May 24 (starts x a i)
  unfolding answer_below may_answer is_ours any every
  unload_start_may z =
      lower_either (may_answer 24) (lowest (starts x a i).grounds) (wafers.answer_in s.predicted i)
      (own_may 24 (starts x a i).grounds refl refl refl)
      (unload_start _ (below_may i 24 z))

  -- a pod that is held stands for nothing
  load_done_may : number ≡ 14 → May 14 (load_done x a i)
  unfolding answer_below may_answer is_ours any every
  load_done_may z =
      lower_either (may_answer 14) (lowest (load_done x a i).grounds) (answer_below s.predicted (load_done x a i).stands)
      (own_may 14 (load_done x a i).grounds refl refl refl) (go (violated x a))
    where
      go : (w : Bool) → may_answer 14 (answer_below s.predicted (cond w [] (i ∷ []))) ≡ true
      go true = refl
      go false = load_done_fact _ (below_may i 14 z)

  -- Continue may answer what LoadDone may
  continue_may : May 36 (continue_row a i)
  unfolding answer_below may_answer is_ours any every
  continue_may =
      lower_either (may_answer 36) (lowest (continue_row a i).grounds) (wafers.answer_in s.predicted (LoadDone i.timed.input.port))
      (own_may 36 (continue_row a i).grounds refl refl refl)
      (load_done_fact _ (below_may (LoadDone i.timed.input.port) 14 refl))

  -- a row that the request leaves as it is
  plain : eqb number 13 ≡ false → eqb number 14 ≡ false → eqb number 24 ≡ false → eqb number 36 ≡ false → is_ours number ≡ false
  unfolding is_ours any
  plain p q r t =
      rw (
        ne_eqb 13 number (λ z. eqb-false number 13 p (sym z)),
        ne_eqb 14 number (λ z. eqb-false number 14 q (sym z)),
        ne_eqb 24 number (λ z. eqb-false number 24 r (sym z)),
        ne_eqb 36 number (λ z. eqb-false number 36 t (sym z)),
      )

  other_may : is_ours number ≡ false → May number (passed_on a i)
  unfolding answer_below lowest lower may_answer
  other_may e = rw e (below_may i number refl)

  rows_may : May number (row_in s i)
  unfolding row_of
  rows_may = go (eqb number 13) refl (eqb number 14) refl (eqb number 24) refl (eqb number 36) refl
    where
      at_number : (r : Row) (k : ℕ) → eqb number k ≡ true → May k r → May number r
      at_number r k e m = subst (λ n. May n r) (sym (eqb-true number k e)) m

      go : (u : Bool) → eqb number 13 ≡ u → (v : Bool) → eqb number 14 ≡ v → (w : Bool) → eqb number 24 ≡ w → (z : Bool) → eqb number 36 ≡ z
          → May number (cond u (starts x a i) (cond v (load_done x a i) (cond w (starts x a i) (cond z (continue_row a i) (passed_on a i)))))
      go true p v q w r z t = at_number (starts x a i) 13 p (load_start_may (eqb-true number 13 p))
      go false p true q w r z t = at_number (load_done x a i) 14 q (load_done_may (eqb-true number 14 q))
      go false p false q true r z t = at_number (starts x a i) 24 r (unload_start_may (eqb-true number 24 r))
      go false p false q false r true t = at_number (continue_row a i) 36 t continue_may
      go false p false q false r false t = other_may (plain p q r t)

pub nothing_else : (s : Handled) (i : Brought) → sound s ≡ true → may_answer i.timed.input.number (answer_in s i) ≡ true
unfolding answer_in
nothing_else s i h = rows_may s i h
