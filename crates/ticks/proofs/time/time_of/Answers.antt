-- A float that comes back from the way over 1024 is n / 1024; and what is n / 1024 passes every test on the way.
use Rattle.std.proofs.Common.{◌≡◌, ℕ, ◌*◌, ◌^◌, ◌<◌, true, false, T, pos, sym, ◌∙◌, subst, arith}
use lib.Ieee.{Float, fin, binary64, of_bits, neg, of_int, mul, div}
use Rattle.lists.proofs.Bools.{clash}
use Rattle.ticks.specs.Times.{Is, ticks, timely}
use Rattle.ticks.proofs.Rounds.{tick_pos, times_is, of_int_fact, over_is}
use Rattle.ticks.proofs.Compared.{same, found, cut_is, above_is, under_is}
use Rattle.ticks.proofs.Timely.{timely_is, timely_few, ticks_of, other}
use Rattle.ticks.proofs.time.time_of.Goals.{else-n-lt-TICKS_END-via-then-n-lt-TICKS_END+else-n-x, else-n-lt-TICKS_END-via-else-n-lt-TICKS_END, else-y-via-then-y+else-y-2, else-y-via-else-y}
use Rattle.ticks.proofs.time.time_of.Goals as goal

-- times 1024, and a whole number divided by 1024
abbrev up : Float → Float
up x = mul binary64 x (fin false 1 (pos 10))

abbrev back : ℕ → Float
back n = div binary64 (of_int binary64 (pos n)) (fin false 1 (pos 10))

below : (n : ℕ) → n < 1048576 * 1024 → (n < 2 ^ 53) × (n < 2 ^ 64)
below n h = (omega arith, omega arith)

back_is : (n : ℕ) → n < 1048576 * 1024 → Is 1024 (back n) n
back_is n l = let b = (below n l).0 in over_is (of_int binary64 (pos n)) n (of_int_fact n b) b

module _ (x : Float) (t : timely x ≡ true) where
  whole : Is 1 (up x) (ticks x)
  whole = times_is x (ticks x) (timely_is x t) (below (ticks x) (timely_few x t)).0

  wide : ticks x < 2 ^ 64
  wide = (below (ticks x) (timely_few x t)).1

pub truncating_f64_to_u64-n-requires : goal.truncating_f64_to_u64-n-requires
unfolding of_bits neg
truncating_f64_to_u64-n-requires c = record { lower_bound = subst T (sym c.if-y.true) tt; upper_bound = subst T (sym c.if-y-2.true) tt }

pub returns-then-n-x : goal.returns-then-n-x
unfolding of_bits
returns-then-n-x c =
    let x = c.args.x in
    let n = c.truncating_f64_to_u64-n.result in
    let l : n < 1048576 * 1024 = omega arith in
    ticks_of x n (found 1024 tick_pos (back n) x n (back_is n l) c.if-n-x.true) l

pub returns-else-n-lt-TICKS_END : goal.returns-else-n-lt-TICKS_END
unfolding of_bits
returns-else-n-lt-TICKS_END c =
    let x = c.args.x in
    let n = c.truncating_f64_to_u64-n.result in
    other x (λ t.
    let e : n ≡ ticks x = c.truncating_f64_to_u64-n.ensures ∙ cut_is (up x) (ticks x) (whole x t) (wide x t) in
    let l = timely_few x t in
    elim c.else-n-lt-TICKS_END.branch [
      | else-n-lt-TICKS_END-via-then-n-lt-TICKS_END+else-n-x w ↦ clash (same 1024 tick_pos (back n) x n (back_is n w.if-n-lt-TICKS_END.true) (rw e (timely_is x t))) w.if-n-x.false
      | else-n-lt-TICKS_END-via-else-n-lt-TICKS_END w ↦ absurd (omega arith)
    ])

pub returns-else-y : goal.returns-else-y
unfolding of_bits neg
returns-else-y c =
    let x = c.args.x in
    other x (λ t. elim c.else-y.branch [
      | else-y-via-then-y+else-y-2 w ↦ clash (under_is (up x) (ticks x) (whole x t) (wide x t)) w.if-y-2.false
      | else-y-via-else-y w ↦ clash (above_is (up x) (ticks x) (whole x t)) w.if-y.false
    ])
