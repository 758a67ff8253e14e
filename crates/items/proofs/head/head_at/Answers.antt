-- at most three bytes
use native.Mathlib.Omega.{arith}
use native.Mathlib.Nat.{pow-le-pow_right, lt_of_lt_of_le}
use Prim.Native.Nat.{ℕ, ◌^◌, ◌<◌, ◌≤◌}
use lib.Dec.{lit<}
use Rattle.items.proofs.head.head_at.Goals as goal

three : (v n : ℕ) → v < 256 ^ n → n < 4 → v < 2 ^ 24
three v n h l = let k : n ≤ 3 = omega arith in lt_of_lt_of_le h (pow-le-pow_right (lit< tt) k)

pub returns-clause-many_bound : goal.returns-clause-many_bound
returns-clause-many_bound c = (three c.number-many.result _ c.number-many.ensures.upper_bound (omega arith), omega arith)
