-- No row gives an answer that isn't allowed for it.
use Prim.Native.Nat.{ℕ}
use native.Mathlib.Omega.{arith}
use mathlib.Core.Path.{◌≡◌, refl, ap, sym, subst, ◌∙◌}
use mathlib.Core.Bool.{Bool, true, false, not, cond, ◌&&◌, ◌||◌}
use mathlib.Core.List.{List, [], ◌∷◌}
use lib.ListN.{get_or}
use lib.Dec.{eqb, leb}
use borrow.Author.Tests.{eqb-true, ne_eqb}
use Rattle.lists.specs.Lists.{every, any}
use Rattle.lists.proofs.Bools.{and_l, and_r, or_other}
use Rattle.lists.proofs.Tests.{every_at}
use Rattle.lists.proofs.Parts.{any_found}
use Rattle.rules.specs.declared.row.Seen.{Seen}
use Rattle.rules.specs.Seen.{Input, see}
use Rattle.rules.specs.Row.{Ground, judge, lower, lowest}
use Rattle.rules.specs.Rows as base-rows
use Rattle.rules.specs.Outcome as base-outcome
use Rattle.rules.specs.Reachable as base
use Rattle.rules.specs.Reachable.{Pair}
use Rattle.rules.specs.Inputs.{ReserveAtPort}
use Rattle.rules.proofs.Lowest.{rising_from, first_is_lowest, row_first_is_lowest}
use Rattle.rules.proofs.Named.{one_is_lowest}
use Rattle.rules.proofs.Allowed as base-allowed
use Rattle.rules.proofs.Allowed.{numbers_of, among}
use Rattle.maps.specs.Expected.{carries}
use Rattle.maps.specs.State.{Mapped}
use Rattle.maps.specs.Rows.{codes_in}
use Rattle.maps.specs.Outcome as maps
use Rattle.maps.specs.Projection as maps-runs
use Rattle.maps.proofs.Amended as amended
use Rattle.queue.specs.declared.request.Request.{Request}
use Rattle.queue.specs.Requests.{no_request, started_to, started_stands}
use Rattle.queue.specs.State.{Queued, base_of}
use Rattle.queue.specs.Sound.{sound}
use Rattle.queue.specs.Rows.{Row, passed_on, cancel_carrier, carrier_out, cancel_reservation_at_port, load_start, open_row}
use Rattle.queue.specs.Rows.{out_start, out_done, comes_out, cancel_carrier_out, cancel_all_carrier_out}
use Rattle.queue.specs.Outcome.{row_in, answers_in, answer_in}
use Rattle.queue.specs.Reachable.{is_ours, may_answer}
use Rattle.queue.proofs.SoundRuns.{Sound, sound_parts, done_zero}
use Rattle.queue.proofs.Walk.{Plain, walk}

-- ── Below ──
below_may : (s : Mapped) (i : Input) → base.may_answer i.number (maps.answer_in s i) ≡ true
unfolding maps.answer_in base-outcome.answer_in base.may_answer
below_may s i =
    let x = see s.base i in
    rw (← amended.first_is_lowest i.number x (codes_in s i), ← amended.amended_judge i.number x (codes_in s i))
    (go (carries i.number && not (codes_in s i).fine))
  where
    go : (w : Bool) → base.may_answer i.number (cond w 1 (judge (base-rows.row_of i.number (see s.base i)).grounds)) ≡ true
    go true = refl
    go false = rw (row_first_is_lowest i.number (see s.base i)) (base-allowed.nothing_else s.base i)

-- ── The lower of two ──
lower_either : (f : ℕ → Bool) (m n : ℕ) → f m ≡ true → f n ≡ true → f (lower m n) ≡ true
unfolding lower
lower_either f m n a b = go (eqb m 0) (eqb n 0) (leb m n)
  where
    go : (u v w : Bool) → f (cond u n (cond v m (cond w m n))) ≡ true
    go true v w = b
    go false true w = a
    go false false true = a
    go false false false = b

lower_none : (m : ℕ) → lower m 0 ≡ m
unfolding lower
lower_none m = go (eqb m 0) refl
  where
    go : (w : Bool) → eqb m 0 ≡ w → cond w 0 m ≡ m
    go true e = sym (eqb-true m 0 e)
    go false e = refl

-- what a row's own grounds give
own_may : (n : ℕ) (gs : List Ground) → rising_from 1 gs ≡ true → may_answer n 0 ≡ true → every (may_answer n) (numbers_of gs) ≡ true
    → may_answer n (lowest gs) ≡ true
own_may n gs r z e = rw (← first_is_lowest 1 gs (omega arith) r) (among (may_answer n) gs z e)

-- what a row of document 01 may answer, where all that it may is allowed for row n
module _ (row n m : ℕ) where
  abbrev fine : Pair → Bool
  fine p = not (eqb p.row row) || may_answer n p.answer

  picked : (l : List Pair) → every fine l ≡ true → any (λ p. eqb p.row row && eqb p.answer m) l ≡ true → may_answer n m ≡ true
  picked l e f =
      let none : Pair = record { row = 0; answer = 0 } in
      let t = any_found (λ p. eqb p.row row && eqb p.answer m) l none f in
      let p = get_or l t.0 none in
      rw (eqb-true p.answer m (and_r (eqb p.row row) _ t.2)) at
      (or_other (not (eqb p.row row)) _ (every_at fine l none e t.0 t.1) (rw (and_l (eqb p.row row) _ t.2)))

  from_base : may_answer n 1 ≡ true → every fine base.allowed ≡ true → base.may_answer row m ≡ true → may_answer n m ≡ true
  unfolding base.may_answer
  from_base one e f = go (eqb m 1) refl f
    where
      go : (w : Bool) → eqb m 1 ≡ w → (w || any (λ p. eqb p.row row && eqb p.answer m) base.allowed) ≡ true → may_answer n m ≡ true
      go true q f = rw (eqb-true m 1 q) one
      go false q f = picked base.allowed e f

-- a row that the request leaves as it is
plain_may : (n m : ℕ) → Plain n → base.may_answer n m ≡ true → may_answer n m ≡ true
unfolding may_answer is_ours any
plain_may n m p e =
    rw (
      ne_eqb 7 n (λ z. p.not_seven (sym z)),
      ne_eqb 12 n (λ z. p.not_twelve (sym z)),
      ne_eqb 13 n (λ z. p.not_thirteen (sym z)),
      ne_eqb 19 n (λ z. p.not_nineteen (sym z)),
      ne_eqb 27 n (λ z. p.not_out_start (sym z)),
      ne_eqb 28 n (λ z. p.not_out_done (sym z)),
      ne_eqb 29 n (λ z. p.not_cancel (sym z)),
      ne_eqb 30 n (λ z. p.not_cancel_all (sym z)),
    ) e

-- ── Row by row ──
module _ (s : Queued) (i : Input) (p : Sound s) where
  abbrev q : List Request
  q = s.queue

  abbrev x : Seen
  x = see (base_of s) i

  abbrev May : ℕ → Row → Type 0
  May n r = may_answer n (lower (lowest r.grounds) (answers_in s.mapped r.stands)) ≡ true

  -- one input below: its own answer
  one_below : (j : Input) → answers_in s.mapped (j ∷ []) ≡ maps.answer_in s.mapped j
  unfolding answers_in lower maps-runs.reached
  one_below j = refl

  passed_may : (n : ℕ) (gs : List Ground) (j : Input) → may_answer n (lowest gs) ≡ true → may_answer n (maps.answer_in s.mapped j) ≡ true
      → may_answer n (lower (lowest gs) (answers_in s.mapped (j ∷ []))) ≡ true
  passed_may n gs j a b = rw (one_below j) (lower_either (may_answer n) (lowest gs) (maps.answer_in s.mapped j) a b)

  other_may : Plain i.number → May i.number (passed_on [] q i)
  unfolding lowest lower
  other_may n = rw (one_below i) (plain_may i.number _ n (below_may s.mapped i))

  -- what is answered below, by the row's number
  below_at : (k : ℕ) → i.number ≡ k → base.may_answer k (maps.answer_in s.mapped i) ≡ true
  below_at k z = ap (λ n. base.may_answer n (maps.answer_in s.mapped i)) (sym z) ∙ below_may s.mapped i

  six_may : i.number ≡ 6 → May 6 (cancel_carrier q x i)
  unfolding lowest lower may_answer is_ours any
  six_may z = rw (one_below i) (below_at 6 z)

  twelve_may : i.number ≡ 12 → May 12 (cancel_reservation_at_port q x i)
  unfolding may_answer is_ours any every
  twelve_may z =
      passed_may 12 (cancel_reservation_at_port q x i).grounds i (own_may 12 (cancel_reservation_at_port q x i).grounds refl refl refl)
      (from_base 12 12 _ refl refl (below_at 12 z))

  thirteen_may : i.number ≡ 13 → May 13 (load_start q x i)
  unfolding may_answer is_ours any every
  thirteen_may z =
      passed_may 13 (load_start q x i).grounds i (own_may 13 (load_start q x i).grounds refl refl refl)
      (from_base 13 13 _ refl refl (below_at 13 z))

  open_may : i.number ≡ 19 → May 19 (open_row q x i)
  unfolding may_answer is_ours any every
  open_may z =
      passed_may 19 (open_row q x i).grounds i (own_may 19 (open_row q x i).grounds refl refl refl)
      (from_base 19 19 _ refl refl (below_at 19 z))

  start_may : May 27 (out_start (base_of s) q x i)
  unfolding may_answer is_ours any every
  start_may =
      let gs = (out_start (base_of s) q x i).grounds in
      passed_may 27 gs (ReserveAtPort i.port) (own_may 27 gs refl refl refl)
      (from_base 11 27 _ refl refl (below_may s.mapped (ReserveAtPort i.port)))

  -- none below, or none that is refused
  own_alone : (n : ℕ) (gs : List Ground) (z : ℕ) → may_answer n (lowest gs) ≡ true → z ≡ 0 → may_answer n (lower (lowest gs) z) ≡ true
  own_alone n gs z e o = rw (o, lower_none (lowest gs)) e

  out_may : May 7 (carrier_out q x)
  unfolding answers_in may_answer is_ours any every
  out_may = own_alone 7 (carrier_out q x).grounds 0 (own_may 7 (carrier_out q x).grounds refl refl refl) refl

  cancel_may : May 29 (cancel_carrier_out q x)
  unfolding answers_in may_answer is_ours any every
  cancel_may = own_alone 29 (cancel_carrier_out q x).grounds 0 (own_may 29 (cancel_carrier_out q x).grounds refl refl refl) refl

  cancel_all_may : May 30 (cancel_all_carrier_out q)
  unfolding answers_in lowest lower may_answer is_ours any
  cancel_all_may = refl

  -- a port that isn't the tool's is 1, the lowest of all; at any other the inputs below are accepted
  done_below : x.isport ≡ true → answers_in s.mapped (out_done q x i).stands ≡ 0
  unfolding answers_in
  done_below e = go (any (started_to x.port) q) refl
    where
      go : (w : Bool) → any (started_to x.port) q ≡ w
          → answers_in s.mapped (cond w (comes_out (get_or q (started_stands x.port q) no_request) i) []) ≡ 0
      go true f = done_zero s i p e f
      go false f = refl

  no_port_may : x.isport ≡ false → May 28 (out_done q x i)
  unfolding may_answer is_ours any
  no_port_may e =
      rw (one_is_lowest (out_done q x i).grounds (rw e), ← amended.lower_one (answers_in s.mapped (out_done q x i).stands))

  done_may : May 28 (out_done q x i)
  unfolding may_answer is_ours any every
  done_may = go x.isport refl
    where
      go : (w : Bool) → x.isport ≡ w → May 28 (out_done q x i)
      go true e =
          let gs = (out_done q x i).grounds in
          own_alone 28 gs _ (own_may 28 gs refl refl refl) (done_below e)
      go false e = no_port_may e

  rows_may : May i.number (row_in s i)
  rows_may = walk (May i.number) i.number (base_of s) q x i (record {
    cancel_carrier = λ z. at_number (cancel_carrier q x i) 6 z (six_may z);
    carrier_out = λ z. at_number (carrier_out q x) 7 z out_may;
    cancel_reservation_at_port = λ z. at_number (cancel_reservation_at_port q x i) 12 z (twelve_may z);
    load_start = λ z. at_number (load_start q x i) 13 z (thirteen_may z);
    open_row = λ z. at_number (open_row q x i) 19 z (open_may z);
    out_start = λ z. at_number (out_start (base_of s) q x i) 27 z start_may;
    out_done = λ z. at_number (out_done q x i) 28 z done_may;
    cancel_carrier_out = λ z. at_number (cancel_carrier_out q x) 29 z cancel_may;
    cancel_all_carrier_out = λ z. at_number (cancel_all_carrier_out q) 30 z cancel_all_may;
    other = other_may;
  })
    where
      at_number : (r : Row) (k : ℕ) → i.number ≡ k → May k r → May i.number r
      at_number r k z e = subst (λ n. May n r) (sym z) e

pub nothing_else : (s : Queued) (i : Input) → sound s ≡ true → may_answer i.number (answer_in s i) ≡ true
unfolding answer_in
nothing_else s i h = rows_may s i (sound_parts s h)
