-- Times and predictions are all of their bytes: two blocks that are read alike have the same, where each number is a byte.
use Prim.Native.Nat.{ℕ, zero, suc, ◌+◌, ◌*◌, ◌/◌, ◌%◌, ◌-◌, ◌<◌, ◌≤◌}
use native.Mathlib.Omega.{arith}
use mathlib.Core.Path.{◌≡◌, refl, ap, sym, ◌∙◌}
use mathlib.Core.Bool.{Bool, true, false}
use mathlib.Core.List.{List}
use lib.ListN.{get_or}
use lib.Dec.{ltb}
use borrow.Author.Tests.{ltb-true, ltb-false}
use Rattle.image.specs.Image.{byte_at}
use Rattle.prediction.specs.declared.prediction.Prediction.{Prediction}
use Rattle.prediction.specs.declared.prediction.Times.{Times}
use Rattle.prediction.specs.Predictions.{no_prediction}
use Rattle.times.specs.Bytes.{seconds_from, times_from, prediction_start, prediction_from, predictions_from}
use Rattle.times.proofs.Laid.{prediction_is}

abbrev pub Bytes : List ℕ → Type 0
Bytes m = (i : ℕ) → byte_at m i < 256

-- the digits of a number to the base 256
digits : {a b c d x y z w : ℕ} → a < 256 → b < 256 → c < 256 → x < 256 → y < 256 → z < 256
    → a + 256 * b + 65536 * c + 16777216 * d ≡ x + 256 * y + 65536 * z + 16777216 * w → (a ≡ x) × (b ≡ y) × (c ≡ z) × (d ≡ w)
digits i j k l m n e = (omega arith, omega arith, omega arith, omega arith)

module _ (m n : List ℕ) (f : Bytes m) (g : Bytes n) where
  seconds_byte : (o i : ℕ) → seconds_from m o ≡ seconds_from n o → i < 4 → byte_at m (o + i) ≡ byte_at n (o + i)
  unfolding seconds_from
  seconds_byte o i e h =
      let d = digits (f o) (f (o + 1)) (f (o + 2)) (g o) (g (o + 1)) (g (o + 2)) e in
      go i h d.0 d.1 d.2 d.3
    where
      go : (i : ℕ) → i < 4 → byte_at m o ≡ byte_at n o → byte_at m (o + 1) ≡ byte_at n (o + 1) → byte_at m (o + 2) ≡ byte_at n (o + 2)
          → byte_at m (o + 3) ≡ byte_at n (o + 3) → byte_at m (o + i) ≡ byte_at n (o + i)
      go zero h p q r s = let z : o + 0 ≡ o = omega arith in rw z p
      go (suc zero) h p q r s = q
      go (suc (suc zero)) h p q r s = r
      go (suc (suc (suc zero))) h p q r s = s
      go (suc (suc (suc (suc k)))) h p q r s = absurd (omega arith)

  pub times_byte : times_from m ≡ times_from n → (i : ℕ) → 1189 ≤ i → i < 1201 → byte_at m i ≡ byte_at n i
  unfolding times_from
  times_byte e i l h = go (ltb i 1193) refl (ltb i 1197) refl
    where
      at_offset : (o : ℕ) → seconds_from m o ≡ seconds_from n o → o ≤ i → i < o + 4 → byte_at m i ≡ byte_at n i
      at_offset o q a b = let z : o + (i - o) ≡ i = omega arith in rw z at (seconds_byte o (i - o) q (omega arith))

      go : (b : Bool) → ltb i 1193 ≡ b → (c : Bool) → ltb i 1197 ≡ c → byte_at m i ≡ byte_at n i
      go true p c q = let a = ltb-true i 1193 p in at_offset 1189 (ap (λ (t : Times). t.now) e) l (omega arith)
      go false p true q =
          let a = ltb-false i 1193 p in
          let b = ltb-true i 1197 q in
          at_offset 1193 (ap (λ (t : Times). t.setting) e) a (omega arith)
      go false p false q = let a = ltb-false i 1197 q in at_offset 1197 (ap (λ (t : Times). t.timeout) e) a (omega arith)

  prediction_byte : (o i : ℕ) → prediction_from m o ≡ prediction_from n o → i < 11 → byte_at m (o + i) ≡ byte_at n (o + i)
  unfolding prediction_from
  prediction_byte o i e h = go i refl
    where
      at_offset : (p : ℕ) → seconds_from m (o + p) ≡ seconds_from n (o + p) → p ≤ i → i < p + 4 → byte_at m (o + i) ≡ byte_at n (o + i)
      at_offset p q a b = let z : o + p + (i - p) ≡ o + i = omega arith in rw z at (seconds_byte (o + p) (i - p) q (omega arith))

      later : 3 ≤ i → byte_at m (o + i) ≡ byte_at n (o + i)
      later l = split (ltb i 7) refl
        where
          split : (b : Bool) → ltb i 7 ≡ b → byte_at m (o + i) ≡ byte_at n (o + i)
          split true p = let a = ltb-true i 7 p in at_offset 3 (ap (λ (p : Prediction). p.tp) e) l (omega arith)
          split false p = let a = ltb-false i 7 p in at_offset 7 (ap (λ (p : Prediction). p.te) e) a (omega arith)

      go : (j : ℕ) → i ≡ j → byte_at m (o + i) ≡ byte_at n (o + i)
      go zero z = let y : o + i ≡ o = omega arith in rw y (ap (λ (p : Prediction). p.state) e)
      go (suc zero) z = rw z (ap (λ (p : Prediction). p.known) e)
      go (suc (suc zero)) z = rw z (ap (λ (p : Prediction). p.estimated) e)
      go (suc (suc (suc k))) z = later (omega arith)

  pub predictions_byte : predictions_from m ≡ predictions_from n → (i : ℕ) → 1201 ≤ i → i < 1597 → byte_at m i ≡ byte_at n i
  predictions_byte e i l h =
      let j = i - 1201 in
      let k = j / 11 in
      let z : prediction_start k + j % 11 ≡ i = omega arith in
      let b : k < 36 = omega arith in
      let t : j % 11 < 11 = omega arith in
      let q = sym (prediction_is m k b) ∙ ap (λ l. get_or l k no_prediction) e ∙ prediction_is n k b in
      rw z at (prediction_byte (prediction_start k) (j % 11) q t)
