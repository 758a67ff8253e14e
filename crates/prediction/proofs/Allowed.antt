-- No row gives an answer that isn't allowed for it.
use Prim.Native.Nat.{ℕ}
use native.Mathlib.Omega.{arith}
use mathlib.Core.Path.{◌≡◌, refl, sym, subst}
use mathlib.Core.Bool.{Bool, true, false, cond}
use mathlib.Core.List.{List}
use lib.Dec.{eqb, leb}
use borrow.Author.Tests.{eqb-true, eqb-false, leb-true}
use Rattle.lists.specs.Lists.{every, any}
use Rattle.lists.proofs.Bools.{and_l, and_r}
use Rattle.rules.specs.declared.row.Seen.{Seen}
use Rattle.rules.specs.Seen.{see}
use Rattle.rules.specs.Row.{Ground, lowest}
use Rattle.rules.proofs.Lowest.{rising_from, first_is_lowest}
use Rattle.rules.proofs.Allowed.{numbers_of, among}
use Rattle.queue.specs.Outcome as queue
use Rattle.queue.proofs.Allowed as queue-allowed
use Rattle.prediction.specs.State.{Predicted, base_of, Timed}
use Rattle.prediction.specs.Sound.{sound}
use Rattle.prediction.specs.Outcome.{is_timed, answer_in, grounds_of, clock_grounds, tp_grounds, te_grounds, none_grounds}
use Rattle.prediction.specs.Reachable.{may_answer}
use Rattle.prediction.proofs.Sounds.{queue_part}

-- what the grounds of one of the four give
row_may : (n m : ℕ) (gs : List Ground) → n ≡ m → rising_from 1 gs ≡ true → may_answer m 0 ≡ true → every (may_answer m) (numbers_of gs) ≡ true
    → may_answer n (lowest gs) ≡ true
row_may n m gs q r z e = subst (λ k. may_answer k (lowest gs) ≡ true) (sym q) (rw (← first_is_lowest 1 gs (omega arith) r) (among (may_answer m) gs z e))

module _ (s : Predicted) (i : Timed) where
  abbrev number : ℕ
  number = i.input.number

  abbrev x : Seen
  x = see (base_of s) i.input

  last_one : is_timed number ≡ true → eqb number 31 ≡ false → eqb number 32 ≡ false → eqb number 33 ≡ false → number ≡ 34
  last_one t a b c =
      let l = leb-true 31 number (and_l _ _ t) in
      let m = leb-true number 34 (and_r (leb 31 number) _ t) in
      omega (arith, eqb-false number 31 a, eqb-false number 32 b, eqb-false number 33 c)

  timed_may : is_timed number ≡ true → may_answer number (lowest (grounds_of number s x i)) ≡ true
  unfolding grounds_of may_answer any every
  timed_may t = go (eqb number 31) refl (eqb number 32) refl (eqb number 33) refl
    where
      go : (u : Bool) → eqb number 31 ≡ u → (v : Bool) → eqb number 32 ≡ v → (w : Bool) → eqb number 33 ≡ w
          → may_answer number (lowest (cond u (clock_grounds s i) (cond v (tp_grounds s x i) (cond w (te_grounds s x i) (none_grounds s x i))))) ≡ true
      go true a v b w c = row_may number 31 (clock_grounds s i) (eqb-true number 31 a) refl refl refl
      go false a true b w c = row_may number 32 (tp_grounds s x i) (eqb-true number 32 b) refl refl refl
      go false a false b true c = row_may number 33 (te_grounds s x i) (eqb-true number 33 c) refl refl refl
      go false a false b false c = row_may number 34 (none_grounds s x i) (last_one t a b c) refl refl refl

plain_may : (s : Predicted) (i : Timed) → sound s ≡ true → is_timed i.input.number ≡ false
    → may_answer i.input.number (queue.answer_in s.queued i.input) ≡ true
unfolding may_answer
plain_may s i h t = rw t (queue-allowed.nothing_else s.queued i.input (queue_part s h))

pub nothing_else : (s : Predicted) (i : Timed) → sound s ≡ true → may_answer i.input.number (answer_in s i) ≡ true
unfolding answer_in
nothing_else s i h = go (is_timed i.input.number) refl
  where
    go : (w : Bool) → is_timed i.input.number ≡ w
        → may_answer i.input.number (cond w (lowest (grounds_of i.input.number s (see (base_of s) i.input) i)) (queue.answer_in s.queued i.input))
        ≡ true
    go true t = timed_may s i t
    go false t = plain_may s i h t
