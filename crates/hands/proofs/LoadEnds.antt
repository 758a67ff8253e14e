-- LoadDone and LoadFail as document 01 has them: the first is accepted below only where the port is loading, the second leaves it READY
-- TO LOAD.
use Prim.Native.Nat.{ℕ, ◌<◌}
use mathlib.Core.Path.{◌≡◌, refl, ap, sym, ◌∙◌}
use mathlib.Core.Bool.{true}
use mathlib.Core.List.{[], ◌∷◌}
use lib.ListN.{length}
use lib.Seq.{get_or-set_same}
use borrow.Author.Tests.{eq-eqb}
use Rattle.records.specs.Ports.{no_port, ready_to_load, loading, not_loaded}
use Rattle.rules.specs.declared.row.Seen.{Seen}
use Rattle.rules.specs.State.{spot_of, port_of}
use Rattle.rules.specs.Seen.{Input, narrow, see}
use Rattle.rules.specs.Row as row
use Rattle.rules.specs.Row.{judge}
use Rattle.rules.specs.Transfer.{load_done, load_fail}
use Rattle.rules.specs.Rows as base
use Rattle.rules.proofs.Accepts.{clear}
use Rattle.maps.specs.declared.codes.Codes.{Codes}
use Rattle.maps.specs.State.{Mapped}
use Rattle.maps.specs.Rows as maps-rows
use Rattle.maps.specs.Outcome as maps
use Rattle.maps.proofs.Amended.{accepted_there}
use Rattle.queue.proofs.SoundRuns.{lower_zero}
use Rattle.wafers.specs.Outcome.{Brought}
use Rattle.hands.specs.declared.alarm.Alarm.{Alarm}
use Rattle.hands.specs.State.{Handled, base_of, alarm_of}
use Rattle.hands.specs.Rows as rows
use Rattle.hands.specs.Rows.{row_of, passed_on}
use Rattle.hands.specs.Outcome.{answer_below, answer_in, enact}
use Rattle.hands.proofs.Through.{load_done_fact, load_fail_fact, answers, moves}

-- their rows, by number
base_done : (n : ℕ) (x : Seen) → n ≡ 14 → base.row_of n x ≡ load_done x
unfolding base.row_of
base_done n x e = rw e

base_fail : (n : ℕ) (x : Seen) (c : Codes) → n ≡ 15 → maps-rows.row_of n x c ≡ load_fail x
unfolding maps-rows.row_of base.row_of
base_fail n x c e = rw e

pub done_row : (n : ℕ) (x : Seen) (a : Alarm) (i : Brought) → n ≡ 14 → row_of n x a i ≡ rows.load_done x a i
unfolding row_of
done_row n x a i e = rw e

fail_row : (n : ℕ) (x : Seen) (a : Alarm) (i : Brought) → n ≡ 15 → row_of n x a i ≡ passed_on a i
unfolding row_of
fail_row n x a i e = rw e

-- ── In P1's layer ──
done_loads : (m : Mapped) (i : Input) → i.number ≡ 14 → maps.answer_in m i ≡ 0 → loading (port_of m.base (narrow i.port)) ≡ true
unfolding see
done_loads m i n a =
    let x = see m.base i in
    let z : judge (load_done x).grounds ≡ 0 = rw (base_done i.number x n) at (accepted_there m i (eq-eqb _ 0 a)) in
    (clear (load_done x).grounds refl z).1.0

fail_readies : (m : Mapped) (i : Input) → i.number ≡ 15 → spot_of (narrow i.port) < length m.base.ports → maps.answer_in m i ≡ 0
    → ready_to_load (port_of (maps.state_after m i).base (narrow i.port)) ≡ true
unfolding maps.state_after row.enact see port_of
fail_readies m i n b a =
    let x = see m.base i in
    rw (a, base_fail i.number x (maps-rows.codes_in m i) n)
    (ap ready_to_load (get_or-set_same m.base.ports (spot_of (narrow i.port)) (not_loaded x.here) no_port b))

-- ── In this layer ──
module _ (s : Handled) (i : Brought) where
  abbrev x : Seen
  x = see (base_of s) i.timed.input

  abbrev a : Alarm
  a = alarm_of s (narrow i.timed.input.port)

  -- a LoadDone that goes on below
  pub done_loading : i.timed.input.number ≡ 14 → answer_below s.predicted (i ∷ []) ≡ 0
      → loading (port_of (base_of s) (narrow i.timed.input.port)) ≡ true
  unfolding answer_below
  done_loading n z =
      done_loads s.predicted.queued.mapped i.timed.input n (sym (answers s.predicted i (load_done_fact _ n)) ∙ z)

  pub fails_ready : i.timed.input.number ≡ 15 → answer_in s i ≡ 0 → spot_of (narrow i.timed.input.port) < length (base_of s).ports
      → ready_to_load (port_of (base_of (enact s i)) (narrow i.timed.input.port)) ≡ true
  unfolding answer_in answer_below
  fails_ready n z b =
      let r = fail_row i.timed.input.number x a i n in
      let t = load_fail_fact i.timed.input.number n in
      rw r
      (ap (λ (m : Mapped). ready_to_load (port_of m.base (narrow i.timed.input.port))) (moves s.predicted i t)
      ∙ fail_readies s.predicted.queued.mapped i.timed.input n b (sym (answers s.predicted i t) ∙ (lower_zero _ _ (rw r at z)).1))
