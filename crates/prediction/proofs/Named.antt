-- With predictions too: a row that takes no name ignores the one that it is sent; a row that takes one answers 1 where it is no name.
use Prim.Native.Nat.{ℕ, ◌≤◌}
use native.Mathlib.Omega.{arith}
use mathlib.Core.Path.{◌≡◌, refl, ap, sym, ◌∙◌}
use mathlib.Core.Bool.{Bool, true, false, cond, ◌&&◌, ◌||◌}
use mathlib.Core.List.{List}
use lib.Dec.{eqb, leb}
use borrow.Author.Tests.{eqb-true, leb-true, leb-false, le-leb}
use Rattle.lists.specs.Lists.{any, between}
use Rattle.lists.proofs.Bools.{clash, and_l, and_r, and_i, or_r, or_false_l, or_false_r}
use Rattle.records.specs.Names.{is_name}
use Rattle.rules.specs.declared.row.Seen.{Seen}
use Rattle.rules.specs.Seen.{see}
use Rattle.rules.specs.Row.{unless, lowest}
use Rattle.rules.specs.Named as base
use Rattle.rules.specs.Named.{name_missing}
use Rattle.rules.proofs.Named.{gives_one, one_is_lowest}
use Rattle.queue.specs.Outcome as queue
use Rattle.queue.specs.Named as queue-named
use Rattle.queue.proofs.Named as queue-names
use Rattle.prediction.specs.State.{Predicted, base_of, PredictedTool, state_of, Timed}
use Rattle.prediction.specs.Outcome.{is_timed, says_of, tp_grounds, te_grounds, none_grounds, grounds_of, answer_in, below_in, state_after, reports_in, refused, given_in}
use Rattle.prediction.specs.Sound.{is_time}
use Rattle.prediction.specs.Named.{takes_name, called}

-- ── Ignored ──
module _ (i : Timed) (name : List ℕ) (f : takes_name i.input.number ≡ false) where
  abbrev n : ℕ
  n = i.input.number

  not_queue : queue-named.takes_name n ≡ false
  unfolding takes_name
  not_queue = or_false_l _ _ f

  not_named : between 32 n 34 ≡ false
  unfolding takes_name
  not_named = or_false_r (queue-named.takes_name n) _ f

  -- the only one of the four that brings no name
  the_clock : is_timed n ≡ true → n ≡ 31
  the_clock t =
      let a = leb-true 31 n (and_l (leb 31 n) _ t) in
      let b = leb-true n 34 (and_r (leb 31 n) _ t) in
      go (leb 32 n) refl (leb n 34) refl not_named a b
    where
      go : (u : Bool) → leb 32 n ≡ u → (v : Bool) → leb n 34 ≡ v → (u && v) ≡ false → 31 ≤ n → n ≤ 34 → n ≡ 31
      go true p true q e a b = clash refl e
      go true p false q e a b = let c = leb-false n 34 q in omega arith
      go false p v q e a b = let c = leb-false 32 n p in omega arith

  -- no row that says something of a carrier
  not_said : says_of n ≡ false
  unfolding says_of takes_name queue-named.takes_name base.takes_name
  not_said = rw (other 6 refl, other 21 refl) not_named
    where
      other : (k : ℕ) → takes_name k ≡ true → eqb n k ≡ false
      other k t = go (eqb n k) refl
        where
          go : (b : Bool) → eqb n k ≡ b → b ≡ false
          go true e = clash t (ap takes_name (sym (eqb-true n k e)) ∙ f)
          go false e = refl

  module _ (s : Predicted) where
    below_answers : queue.answer_in s.queued (base.called name i.input) ≡ queue.answer_in s.queued i.input
    unfolding queue.answer_in
    below_answers = let a = queue-names.rows_alike i.input name not_queue s.queued in rw (a.grounds, a.answers)

    pub answer_ignores : answer_in s (called name i) ≡ answer_in s i
    unfolding answer_in grounds_of
    answer_ignores = go (is_timed n) refl
      where
        go : (w : Bool) → is_timed n ≡ w → answer_in s (called name i) ≡ answer_in s i
        go true t = rw (the_clock t)
        go false t = rw t below_answers

    below_ignores : below_in s (base.called name i.input) ≡ below_in s i.input
    unfolding below_in queue.state_after queue.answer_in
    below_ignores =
        let a = queue-names.rows_alike i.input name not_queue s.queued in
        rw (a.grounds, a.queue, a.answers, a.leads, a.goes, a.made)

    pub state_ignores : state_after s (called name i) ≡ state_after s i
    unfolding state_after
    state_ignores = rw (answer_ignores, below_ignores, not_said)

    pub reports_ignore : reports_in s (called name i) ≡ reports_in s i
    unfolding reports_in
    reports_ignore = rw (answer_ignores, below_ignores, not_said)

  pub given_ignores : (t : PredictedTool) → given_in t (called name i) ≡ given_in t i
  unfolding given_in
  given_ignores t = rw (answer_ignores (state_of t), state_ignores (state_of t), reports_ignore (state_of t))

-- ── Refused ──
module _ (i : Timed) (h : is_name i.input.name ≡ false) (t : takes_name i.input.number ≡ true) (m : name_missing i.input ≡ false) where
  module _ (s : Predicted) where
    abbrev x : Seen
    x = see (base_of s) i.input

    unnamed : x.named ≡ false
    unfolding see
    unnamed = h

    -- each of the three that bring a name has a ground to answer 1
    asks_one : (v w : Bool) → any gives_one (cond v (tp_grounds s x i) (cond w (te_grounds s x i) (none_grounds s x i))) ≡ true
    unfolding any
    asks_one true w = rw unnamed (or_r (gives_one (unless (is_time i.clock) 1)) (or_r (gives_one (unless (is_time i.time) 1)) refl))
    asks_one false true = rw unnamed (or_r (gives_one (unless (is_time i.clock) 1)) (or_r (gives_one (unless (is_time i.time) 1)) refl))
    asks_one false false = rw unnamed (or_r (gives_one (unless (is_time i.clock) 1)) refl)

    -- the clock alone takes no name
    not_clock : eqb i.input.number 31 ≡ false
    unfolding takes_name queue-named.takes_name base.takes_name
    not_clock = go (eqb i.input.number 31) refl
      where
        go : (w : Bool) → eqb i.input.number 31 ≡ w → w ≡ false
        go true e = let z : takes_name 31 ≡ false = refl in clash (ap takes_name (sym (eqb-true i.input.number 31 e)) ∙ t) z
        go false e = refl

    timed_one : lowest (grounds_of i.input.number s x i) ≡ 1
    unfolding grounds_of
    timed_one = rw not_clock (one_is_lowest _ (asks_one (eqb i.input.number 32) (eqb i.input.number 33)))

    takes_below : is_timed i.input.number ≡ false → queue-named.takes_name i.input.number ≡ true
    unfolding takes_name
    takes_below e = go (queue-named.takes_name i.input.number) (leb 32 i.input.number) refl (leb i.input.number 34) refl t
      where
        n : ℕ
        n = i.input.number

        go : (q u : Bool) → leb 32 n ≡ u → (v : Bool) → leb n 34 ≡ v → (q || (u && v)) ≡ true → q ≡ true
        go true u p v r k = refl
        go false true p true r k =
            let a = leb-true 32 n p in clash (and_i (le-leb 31 n (omega arith)) r) e
        go false true p false r k = clash k refl
        go false false p v r k = clash k refl

    pub answers : answer_in s i ≡ 1
    unfolding answer_in
    answers = go (is_timed i.input.number) refl
      where
        go : (w : Bool) → is_timed i.input.number ≡ w → cond w (lowest (grounds_of i.input.number s x i)) (queue.answer_in s.queued i.input) ≡ 1
        go true e = timed_one
        go false e = queue-names.answers i.input h (takes_below e) m s.queued

  pub turned_away : (u : PredictedTool) → given_in u i ≡ refused u 1
  unfolding given_in
  turned_away u = rw (answers (state_of u))
