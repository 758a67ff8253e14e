-- the records that are passed fit and share nothing, and each has left its position at its spot and at its port
use native.Mathlib.Omega.{arith}
use Prim.Native.Nat.{ℕ, ◌<◌, ◌≤◌}
use mathlib.Core.Path.{◌≡◌, refl, ap, sym, ◌∙◌}
use lib.ListN.{get_or}
use mir.Val.{bool_byte}
use mathlib.Core.List.{List}
use mathlib.Core.Bool.{Bool, true, false, cond}
use Rattle.std.proofs.Common.{rules}
use Rattle.records.specs.Carriers.{expected}
use Rattle.rules.specs.Sound.{other_spot}
use Rattle.image.proofs.Table.{getD_table}
use Rattle.passes.specs.Passes.{record_on, latest}
use Rattle.soundness.specs.Seats.{seat_fits, other_port, port_key, spot_key, seats_fit}
use Rattle.passes.proofs.Turns.{every_none, two_none, many_none, every_next, many_next}
use Rattle.passes.proofs.Latest.{marked, marked_none, marked_more, latest_low}
use Rattle.soundness.proofs.Seated.{key_more}
use Rattle.soundness.proofs.seats.seats.Goals as goal

pub loop-k-init : goal.loop-k-init
loop-k-init c =
    let a = c.args in
    let m = a.m.now in (
      marked_none (spot_key m) 256,
      marked_none (port_key m) 256,
      every_none (seat_fits a.used a.places) (record_on m),
      two_none other_spot (record_on m),
      two_none other_port (record_on m),
      omega arith,
      many_none expected (record_on m),
    )

-- a test as a number
counts : (b : Bool) → bool_byte b ≡ cond b 1 0
counts true = refl
counts false = refl

at_most_one : (b : Bool) → cond b 1 0 ≤ 1
at_most_one true = omega arith
at_most_one false = omega arith

pub loop-k-preserved : goal.loop-k-preserved
unfolding other_spot other_port
loop-k-preserved c =
    let a = c.args in
    let m = a.m.now in
    let k = c.loop-k.k in
    let h = c.loop-k.invariant in
    let spot : c.from-s.result ≡ spot_key m k = c.from-s.ensures in
    let port : c.from-p.result ≡ port_key m k = c.from-p.ensures in
    let low : spot_key m k < 256 = search rules in
    let near : port_key m k < 256 = search rules in
    let one : c.from-expected.result ≡ cond (expected (record_on m k)) 1 0 = c.from-expected.ensures ∙ counts (expected (record_on m k)) in
    let most = at_most_one (expected (record_on m k)) in
    let more = many_next expected (record_on m) k in (
      rw (spot, h.0) (marked_more (spot_key m) 256 k),
      rw (port, h.1) (marked_more (port_key m) 256 k),
      rw (every_next (seat_fits a.used a.places) (record_on m) k, c.seat-fit.ensures, h.2),
      rw (spot, h.0, h.3) (sym (key_more (λ c. c.spot) m k low)),
      rw (port, h.1, h.4) (sym (key_more (λ c. c.port) m k near)),
      omega arith,
      omega arith,
    )

-- where the carrier stands that names port v
held : (m ports : List ℕ) (n : ℕ) → ports ≡ marked (port_key m) 256 n → (v : ℕ) → v < 256 → get_or ports v 0 ≡ latest (port_key m) v n
held m ports n e v h = ap (λ l. get_or l v 0) e ∙ getD_table 256 (λ v. latest (port_key m) v n) v 0 h

few : (m ports : List ℕ) (n : ℕ) → ports ≡ marked (port_key m) 256 n → n ≤ 36 → (v : ℕ) → v < 256 → get_or ports v 0 ≤ 36
few m ports n e b v h =
    let l = latest_low (port_key m) v n in
    let e = held m ports n e v h in
    omega arith

pub tie-requires : goal.tie-requires
tie-requires c =
    let z : c.loop-k.k ≡ c.args.n = omega arith in
    record { p_bound = omega arith; a_bound = few c.args.m.now c.loop-k.ports c.args.n (rw z at c.loop-k.invariant.1) (omega arith) 1 (omega arith) }

pub tie-requires-2 : goal.tie-requires-2
tie-requires-2 c =
    let z : c.loop-k.k ≡ c.args.n = omega arith in
    record { p_bound = omega arith; a_bound = few c.args.m.now c.loop-k.ports c.args.n (rw z at c.loop-k.invariant.1) (omega arith) 2 (omega arith) }

pub tie-requires-3 : goal.tie-requires-3
tie-requires-3 c =
    let z : c.loop-k.k ≡ c.args.n = omega arith in
    record { p_bound = omega arith; a_bound = few c.args.m.now c.loop-k.ports c.args.n (rw z at c.loop-k.invariant.1) (omega arith) 3 (omega arith) }

pub tie-requires-4 : goal.tie-requires-4
tie-requires-4 c =
    let z : c.loop-k.k ≡ c.args.n = omega arith in
    record { p_bound = omega arith; a_bound = few c.args.m.now c.loop-k.ports c.args.n (rw z at c.loop-k.invariant.1) (omega arith) 4 (omega arith) }

pub returns : goal.returns
unfolding seats_fit
returns c =
    let z : c.loop-k.k ≡ c.args.n = omega arith in
    let m = c.args.m.now in
    let p = rw z at c.loop-k.invariant.1 in
    rw (
      rw z at c.loop-k.invariant.2,
      rw z at c.loop-k.invariant.3,
      rw z at c.loop-k.invariant.4,
      rw z at c.loop-k.invariant.6,
      c.tie.ensures,
      c.tie-2.ensures,
      c.tie-3.ensures,
      c.tie-4.ensures,
      held m c.loop-k.ports c.args.n p 1 (omega arith),
      held m c.loop-k.ports c.args.n p 2 (omega arith),
      held m c.loop-k.ports c.args.n p 3 (omega arith),
      held m c.loop-k.ports c.args.n p 4 (omega arith),
    )
