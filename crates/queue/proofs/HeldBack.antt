-- Where a request is started, rows 12, 13 and 19 answer by it alone: what is below answers nothing lower. And OutStart with nothing to take.
use Prim.Native.Nat.{ℕ}
use native.Mathlib.Omega.{arith}
use mathlib.Core.Path.{◌≡◌, refl, ap, ◌∙◌}
use mathlib.Core.Logic.{◌≢◌}
use mathlib.Core.Bool.{Bool, true, false, not, cond}
use mathlib.Core.List.{List, [], ◌∷◌}
use lib.ListN.{length, get_or}
use lib.Dec.{eqb, ltb}
use borrow.Author.Tests.{eqb-true, eqb-false, lt-ltb}
use Rattle.lists.specs.Lists.{any}
use Rattle.lists.proofs.Bools.{and_l}
use Rattle.lists.proofs.Parts.{any_found}
use Rattle.records.specs.Ports.{reserved, ready_to_load}
use Rattle.rules.specs.declared.row.Seen.{Seen}
use Rattle.rules.specs.State.{State}
use Rattle.rules.specs.Seen.{Input, name_stands, see}
use Rattle.rules.specs.Row.{when, reserved_or_tied, judge, lower, lowest}
use Rattle.rules.specs.Inputs.{ReserveAtPort}
use Rattle.rules.specs.Service as service
use Rattle.rules.specs.Transfer as transfer
use Rattle.rules.specs.Opening as opening
use Rattle.rules.specs.Rows as base
use Rattle.rules.proofs.Names.{name_is}
use Rattle.maps.specs.Expected.{carries}
use Rattle.maps.specs.Outcome as maps
use Rattle.maps.specs.Projection as maps-runs
use Rattle.queue.specs.declared.request.Request.{Request}
use Rattle.queue.specs.Requests.{no_request, started_of, started_to, ready_stands}
use Rattle.queue.specs.State.{Queued, base_of}
use Rattle.queue.specs.Sound.{sound}
use Rattle.queue.specs.Rows.{row_of, cancel_reservation_at_port, load_start, open_row, out_start}
use Rattle.queue.specs.Outcome.{answers_in, answer_in}
use Rattle.queue.proofs.Lines.{Line, port_at, stored_at}
use Rattle.queue.proofs.After.{stored_live}
use Rattle.queue.proofs.Below.{answer_below}
use Rattle.queue.proofs.SoundRuns.{sound_parts}

-- 4 is the lower of itself, 5 and none; and so is 5 of itself, 7, 8 and none
four_lower : (a b : Bool) → lower 4 (cond a 4 (cond b 5 0)) ≡ 4
unfolding lower
four_lower true b = refl
four_lower false true = refl
four_lower false false = refl

five_lower : (a b c : Bool) → lower 5 (cond a 5 (cond b 7 (cond c 8 0))) ≡ 5
unfolding lower
five_lower true b c = refl
five_lower false true c = refl
five_lower false false true = refl
five_lower false false false = refl

one_lower : (a : Bool) → lower (lowest (when a 5 ∷ [])) 1 ≡ 1
unfolding lower lowest
one_lower true = refl
one_lower false = refl

-- 5 where nothing lower is given
abbrev pub or_five : ℕ → ℕ
or_five n = cond (eqb n 0) 5 n

pub some_number : (n : ℕ) → or_five n ≢ 0
some_number n e = go (eqb n 0) refl e
  where
    go : (w : Bool) → eqb n 0 ≡ w → cond w 5 n ≡ 0 → ⊥
    go true d z = omega arith
    go false d z = eqb-false n 0 d z

lower_five : (a b c : Bool) → lower 5 (cond a 1 (cond b 4 (cond c 5 0))) ≡ or_five (cond a 1 (cond b 4 (cond c 5 0)))
unfolding lower
lower_five true b c = refl
lower_five false true c = refl
lower_five false false true = refl
lower_five false false false = refl

-- the rows, by their numbers
module _ (n : ℕ) (s : State) (q : List Request) (x : Seen) (i : Input) where
  row_twelve : n ≡ 12 → row_of n s q x i ≡ cancel_reservation_at_port q x i
  unfolding row_of
  row_twelve e = rw e

  row_thirteen : n ≡ 13 → row_of n s q x i ≡ load_start q x i
  unfolding row_of
  row_thirteen e = rw e

  row_out_start : n ≡ 27 → row_of n s q x i ≡ out_start s q x i
  unfolding row_of
  row_out_start e = rw e

  row_nineteen : n ≡ 19 → row_of n s q x i ≡ open_row q x i
  unfolding row_of
  row_nineteen e = rw e

module _ (s : Queued) (i : Input) (h : sound s ≡ true) where
  abbrev q : List Request
  q = s.queue

  abbrev x : Seen
  x = see (base_of s) i

  abbrev l : Line (base_of s) q
  l = (sound_parts s h).line

  below_one : answers_in s.mapped (i ∷ []) ≡ maps.answer_in s.mapped i
  unfolding answers_in lower maps-runs.reached
  below_one = refl

  no_map_fact : (k : ℕ) → i.number ≡ k → carries k ≡ false → carries i.number ≡ false
  no_map_fact k z e = ap carries z ∙ e

  -- ── Rows 12 and 13 ──
  module _ (some : any (started_to x.port) q ≡ true) where
    -- the port is one of the tool's
    given : x.isport ≡ true
    unfolding see
    given =
        let t = any_found (started_to x.port) q no_request some in
        let e : (get_or q t.0 no_request).port ≡ x.port = eqb-true _ _ (and_l _ _ t.2) in
        rw e at (port_at (base_of s) q l t.0 t.1)

    cancel_below : i.number ≡ 12 → maps.answer_in s.mapped i ≡ judge (service.cancel_reservation_at_port x).grounds
    unfolding base.row_of carries
    cancel_below z = answer_below s.mapped i (no_map_fact 12 z refl) ∙ rw z

    load_below : i.number ≡ 13 → maps.answer_in s.mapped i ≡ judge (transfer.load_start x).grounds
    unfolding base.row_of carries
    load_below z = answer_below s.mapped i (no_map_fact 13 z refl) ∙ rw z

    own_four : lowest (when (any (started_to x.port) q) 4 ∷ []) ≡ 4
    unfolding lowest lower
    own_four = rw some

    pub cancel_held_back : i.number ≡ 12 → answer_in s i ≡ 4
    unfolding answer_in
    cancel_held_back z =
        rw (row_twelve i.number (base_of s) q x i z, own_four, below_one, cancel_below z, given)
        (four_lower x.tied (not (reserved x.here)))

    pub load_held_back : i.number ≡ 13 → answer_in s i ≡ 4
    unfolding answer_in
    load_held_back z =
        rw (row_thirteen i.number (base_of s) q x i z, own_four, below_one, load_below z, given)
        (four_lower false (not (ready_to_load x.here)))

  -- ── Row 19 ──
  open_below : i.number ≡ 19 → maps.answer_in s.mapped i ≡ judge (opening.open_row x).grounds
  unfolding base.row_of carries
  open_below z = answer_below s.mapped i (no_map_fact 19 z refl) ∙ rw z

  -- a text that is no name is refused below, too
  pub unnamed_below : i.number ≡ 19 → x.named ≡ false → maps.answer_in s.mapped i ≡ 1
  unnamed_below z named = open_below z ∙ rw named

  pub unnamed : i.number ≡ 19 → x.named ≡ false → answer_in s i ≡ 1
  unfolding answer_in
  unnamed z named =
      rw (row_nineteen i.number (base_of s) q x i z, below_one, unnamed_below z named) (one_lower (any (started_of x.name) q))

  module _ (some : any (started_of x.name) q ≡ true) (named : x.named ≡ true) where
    known : x.known ≡ true
    unfolding see
    known =
        let t = any_found (started_of x.name) q no_request some in
        let e : (get_or q t.0 no_request).name ≡ x.name = name_is _ _ (and_l _ _ t.2) in
        let b = stored_live (base_of s) x.name (rw e at (stored_at (base_of s) q l t.0 t.1)) in
        lt-ltb (name_stands (base_of s) x.name) (length (base_of s).carriers) b

    own_five : lowest (when (any (started_of x.name) q) 5 ∷ []) ≡ 5
    unfolding lowest lower
    own_five = rw some

    pub open_held_back : i.number ≡ 19 → answer_in s i ≡ 5
    unfolding answer_in
    open_held_back z =
        rw (row_nineteen i.number (base_of s) q x i z, own_five, below_one, open_below z, named, known)
        (five_lower (not (opening.can_open x)) (opening.not_verified x) (opening.opener_in_use x))

  -- ── Row 27 with nothing to take: what row 11 gives, or else 5 ──
  module _ (z : i.number ≡ 27) (none : ltb (ready_stands (base_of s) x.port q) (length q) ≡ false) where
    abbrev reserves : Seen
    reserves = see (base_of s) (ReserveAtPort i.port)

    reserve_below : maps.answer_in s.mapped (ReserveAtPort i.port) ≡ judge (service.reserve_at_port reserves).grounds
    unfolding base.row_of carries
    reserve_below = answer_below s.mapped (ReserveAtPort i.port) refl

    one_below : answers_in s.mapped (ReserveAtPort i.port ∷ []) ≡ maps.answer_in s.mapped (ReserveAtPort i.port)
    unfolding answers_in lower maps-runs.reached
    one_below = refl

    own_none : lowest (out_start (base_of s) q x i).grounds ≡ 5
    unfolding lowest lower
    own_none = rw none

    pub nothing_taken : answer_in s i ≡ or_five (judge (service.reserve_at_port reserves).grounds)
    unfolding answer_in
    nothing_taken =
        rw (row_out_start i.number (base_of s) q x i z, own_none, one_below, reserve_below)
        (lower_five (not reserves.isport) (reserved_or_tied reserves) (not (ready_to_load reserves.here)))
