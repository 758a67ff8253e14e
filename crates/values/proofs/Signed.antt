-- Below half the number itself, from half on it less twice half: -1 less what is missing to the top.
use native.Mathlib.Omega.{arith}
use Prim.Native.Nat.{ℕ, suc, ◌+◌, ◌-◌, ◌^◌, ◌≤◌, ◌<◌}
use mathlib.Core.Path.{◌≡◌, refl, ap, ◌∙◌}
use mathlib.Core.Bool.{Bool, true, false}
use lib.IntN.{ℤ, negsuc}
use lib.Signed.{mag}
use lib.Dec.{ltb}
use borrow.Author.Tests.{ltb-false}
use mir.Syntax.{Width, w64}
use mir.Val.{hbits, bits, to_z, of_z}
use mir.ValLaws.{to_z-of_z}
use Rattle.std.proofs.lemmas.Int.{of_z-to_z}
use Rattle.values.specs.Values.{signed_of}

turned : (w : Width) (n : ℕ) → 2 ^ bits w ≡ 2 ^ hbits w + 2 ^ hbits w → to_z w n ≡ signed_of n (2 ^ hbits w)
unfolding signed_of
turned w n e = go (ltb n (2 ^ hbits w)) refl
  where
    go : (t : Bool) → ltb n (2 ^ hbits w) ≡ t → to_z w n ≡ signed_of n (2 ^ hbits w)
    go true q = rw q
    go false q =
        let l : 2 ^ hbits w ≤ n = ltb-false n (2 ^ hbits w) q in
        let k : 2 ^ bits w - suc n ≡ 2 ^ hbits w - 1 - (n - 2 ^ hbits w) = omega arith in
        rw q (ap negsuc k)

-- a number that was cast, and then widened
module _ (w : Width) (n : ℕ) (e : 2 ^ bits w ≡ 2 ^ hbits w + 2 ^ hbits w) (x : ℤ) (p : x ≡ to_z w n) where
  pub cast_is : mag x < 2 ^ 63 → to_z w64 (of_z w64 x) ≡ signed_of n (2 ^ hbits w)
  cast_is f = to_z-of_z w64 x (record { sfits = f }) ∙ p ∙ turned w n e

  pub widened_is : n < 2 ^ bits w → (y : ℤ) → y ≡ to_z w (of_z w x) → mag y < 2 ^ 63 → to_z w64 (of_z w64 y) ≡ signed_of n (2 ^ hbits w)
  widened_is l y q f =
      to_z-of_z w64 y (record { sfits = f })
      ∙ q ∙ ap (λ (z : ℤ). to_z w (of_z w z)) p ∙ ap (to_z w) (of_z-to_z w n l) ∙ turned w n e
