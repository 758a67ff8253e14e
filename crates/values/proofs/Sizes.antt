-- How much a format holds.
use Prim.Native.Nat.{ℕ, ◌+◌, ◌^◌, ◌≤◌, ◌<◌}
use native.Mathlib.Omega.{arith}
use mathlib.Core.Path.{◌≡◌, refl}
use mathlib.Core.Bool.{Bool, true, false, cond, ◌||◌}
use lib.Dec.{eqb, ltb}
use borrow.Author.Tests.{eqb-true, ltb-true, ltb-false}
use mir.Syntax.{w64}
use mir.Val.{SFits}
use Rattle.lists.proofs.Bools.{clash, cond_ind}
use Rattle.items.specs.Formats.{LIST, BINARY, BOOLEAN, ASCII, I8, I1, I2, I4, F8, F4, U8, U1, U2, U4, size_of}
use Rattle.values.specs.Values.{signed_of, is_signed, half_of}

chosen : (a b c d : Bool) → cond a 1 (cond b 2 (cond c 4 (cond d 8 0))) ≤ 8
chosen true b c d = omega arith
chosen false true c d = omega arith
chosen false false true d = omega arith
chosen false false false true = omega arith
chosen false false false false = omega arith

pub size_small : (code : ℕ) → size_of code ≤ 8
unfolding size_of
size_small code =
    chosen (eqb code LIST || eqb code BINARY || eqb code BOOLEAN || eqb code ASCII || eqb code I1 || eqb code U1)
    (eqb code I2 || eqb code U2) (eqb code I4 || eqb code F4 || eqb code U4) (eqb code I8 || eqb code F8 || eqb code U8)

pub half_small : (code : ℕ) → half_of code ≤ 2 ^ 63
unfolding half_of
half_small code =
    cond_ind (λ n. n ≤ 2 ^ 63) (eqb code I1) (λ t. omega arith)
    (λ t. cond_ind (λ n. n ≤ 2 ^ 63) (eqb code I2) (λ t. omega arith)
    (λ t. cond_ind (λ n. n ≤ 2 ^ 63) (eqb code I4) (λ t. omega arith) (λ t. omega arith)))

-- one half below zero, one half from it on
pub two_halves : (code : ℕ) → is_signed code ≡ true → 256 ^ size_of code ≡ half_of code + half_of code
unfolding size_of half_of
two_halves code t = go (eqb code I1) (eqb code I2) (eqb code I4) (eqb code I8) refl refl refl refl t
  where
    go : (a b c d : Bool) → eqb code I1 ≡ a → eqb code I2 ≡ b → eqb code I4 ≡ c → eqb code I8 ≡ d → (a || b || c || d) ≡ true
        → 256 ^ size_of code ≡ half_of code + half_of code
    go true b c d p q r s t = rw (eqb-true code I1 p)
    go false true c d p q r s t = rw (eqb-true code I2 q)
    go false false true d p q r s t = rw (eqb-true code I4 r)
    go false false false true p q r s t = rw (eqb-true code I8 s)
    go false false false false p q r s t = clash t refl

-- what two's complement gives is an i64
pub signed_fits : (bits half : ℕ) → half ≤ 2 ^ 63 → bits < half + half → SFits w64 (signed_of bits half)
unfolding signed_of
signed_fits bits half h l =
    cond_ind (SFits w64) (ltb bits half) (λ t. let b = ltb-true bits half t in record { sfits = omega arith })
    (λ t. let b = ltb-false bits half t in record { sfits = omega arith })
