-- The bytes that are passed, high byte first; with at most seven of them there is room for another.
use native.Mathlib.Omega.{arith}
use native.Mathlib.Nat.{pow-suc, pow-le-pow_right, lt_of_lt_of_le}
use native.Mathlib.Numerals.{add-one}
use Prim.Native.Nat.{ℕ, ◌+◌, ◌*◌, ◌^◌, ◌<◌, ◌≤◌}
use mathlib.Core.Path.{refl}
use lib.Dec.{lit<}
use Rattle.items.specs.Heads.{number_at}
use Rattle.items.proofs.head.number.Goals as goal

room : (v i : ℕ) → v < 256 ^ i → i < 8 → v < 256 ^ 7
room v i h l = let k : i ≤ 7 = omega arith in lt_of_lt_of_le h (pow-le-pow_right (lit< tt) k)

more : (v b i : ℕ) → v < 256 ^ i → b < 256 → v * 256 + b < 256 ^ (i + 1)
more v b i h l = rw (add-one i, pow-suc 256 i) (omega arith)

pub loop-i-init : goal.loop-i-init
unfolding number_at
loop-i-init c = record { value = refl; room = omega arith }

pub overflow_mul-v : goal.overflow_mul-v
overflow_mul-v c = let h = room c.loop-i.v c.loop-i.i c.loop-i.invariant.room (omega arith) in omega arith

pub overflow_add-v : goal.overflow_add-v
overflow_add-v c =
    let h = room c.loop-i.v c.loop-i.i c.loop-i.invariant.room (omega arith) in
    omega arith

pub loop-i-preserved : goal.loop-i-preserved
unfolding number_at
loop-i-preserved c =
    let l = c.loop-i in
    record {
      value = rw (add-one l.i, c.from.ensures, c.byte.ensures, l.invariant.value);
      room = more l.v c.from.result l.i l.invariant.room (omega arith);
    }
