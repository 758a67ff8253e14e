-- Seconds and a prediction: what is written is read, and the bytes outside stay.
use Prim.Native.Nat.{ℕ, ◌+◌, ◌*◌, ◌/◌, ◌%◌, ◌<◌, ◌≤◌}
use native.Mathlib.Nat.{zero-add}
use native.Mathlib.Omega.{arith}
use mathlib.Core.Path.{◌≡◌, refl, ◌∙◌}
use mathlib.Core.List.{List, [], ◌∷◌, ◌++◌}
use lib.ListN.{length, set, replicate}
use lib.Seq.{sets}
use Rattle.image.specs.Image.{byte_at}
use Rattle.image.proofs.Written.{before_stays, after_stays, stands_there}
use Rattle.follow.specs.Follow.{KeptOutside}
use Rattle.prediction.specs.declared.prediction.Prediction.{Prediction}
use Rattle.times.specs.Bytes.{seconds_from, seconds_bytes, prediction_from, prediction_bytes}

-- ── The same bytes in another place are the same ──
module _ (m n : List ℕ) where
  abbrev pub Alike : ℕ → ℕ → ℕ → Type 0
  Alike k o p = (i : ℕ) → i < k → byte_at m (o + i) ≡ byte_at n (p + i)

  first_same : (k o p : ℕ) → 0 < k → Alike k o p → byte_at m o ≡ byte_at n p
  first_same k o p b h = let a : o + 0 ≡ o = omega arith in let d : p + 0 ≡ p = omega arith in rw (a, d) at (h 0 b)

  pub seconds_same : (o p : ℕ) → Alike 4 o p → seconds_from m o ≡ seconds_from n p
  unfolding seconds_from
  seconds_same o p h = rw (first_same 4 o p (omega arith) h, h 1 (omega arith), h 2 (omega arith), h 3 (omega arith))

  part : (k l s o p : ℕ) → s + l ≤ k → Alike k o p → Alike l (o + s) (p + s)
  part k l s o p b h i c =
      let a : o + s + i ≡ o + (s + i) = omega arith in let d : p + s + i ≡ p + (s + i) = omega arith in rw (a, d) (h (s + i) (omega arith))

  pub prediction_same : (o p : ℕ) → Alike 11 o p → prediction_from m o ≡ prediction_from n p
  unfolding prediction_from
  prediction_same o p h =
      rw (
        first_same 11 o p (omega arith) h,
        h 1 (omega arith),
        h 2 (omega arith),
        seconds_same (o + 3) (p + 3) (part 11 4 3 o p (omega arith) h),
        seconds_same (o + 7) (p + 7) (part 11 4 7 o p (omega arith) h),
      )

-- ── Read back ──
seconds_back : (n : ℕ) → n < 4294967296 → seconds_from (seconds_bytes n) 0 ≡ n
unfolding seconds_from seconds_bytes
seconds_back n h =
    let a : n ≡ n % 256 + 256 * (n / 256) = omega arith in
    let b : n / 256 ≡ n / 256 % 256 + 256 * (n / 65536) = omega arith in
    let c : n / 65536 ≡ n / 65536 % 256 + 256 * (n / 16777216) = omega arith in
    let d : n / 16777216 % 256 ≡ n / 16777216 = omega arith in
    omega arith

pub length_seconds : (n : ℕ) → length (seconds_bytes n) ≡ 4
unfolding seconds_bytes
length_seconds n = refl

pub seconds_there : (m : List ℕ) (o n : ℕ) → o + 4 ≤ length m → n < 4294967296 → seconds_from (sets m o (seconds_bytes n)) o ≡ n
seconds_there m o n b h =
    let l = length_seconds n in
    seconds_same (sets m o (seconds_bytes n)) (seconds_bytes n) o 0
    (λ i c. rw zero-add (stands_there m o (seconds_bytes n) i (omega arith) (omega arith))) ∙ seconds_back n h

pub length_prediction : (p : Prediction) → length (prediction_bytes p) ≡ 11
unfolding prediction_bytes seconds_bytes
length_prediction p = refl

-- how a prediction's bytes are put together
pub prediction_made : (s k e tp te : ℕ)
    → sets (sets (set (set (set (replicate 11 0) 0 s) 1 k) 2 e) 3 (seconds_bytes tp)) 7 (seconds_bytes te)
    ≡ (s ∷ k ∷ e ∷ []) ++ seconds_bytes tp ++ seconds_bytes te
unfolding seconds_bytes
prediction_made s k e tp te = refl

prediction_of : {s k e t u v w : ℕ} → t ≡ u → v ≡ w
    → ◌≡◌ {A = Prediction} (record { state = s; known = k; estimated = e; tp = t; te = v })
    (record { state = s; known = k; estimated = e; tp = u; te = w })
prediction_of a b = rw (a, b)

pub prediction_back : (p : Prediction) → p.tp < 4294967296 → p.te < 4294967296 → prediction_from (prediction_bytes p) 0 ≡ p
unfolding prediction_from prediction_bytes seconds_from seconds_bytes
prediction_back p a b = prediction_of (seconds_back p.tp a) (seconds_back p.te b)

-- ── The bytes outside those that are written stay ──
pub put_keeps : (m : List ℕ) (o : ℕ) (x : List ℕ) (a e : ℕ) → a ≤ o → o + length x ≤ e → KeptOutside a e m (sets m o x)
put_keeps m o x a e b c = record {
  before = λ i d. before_stays m o x i (omega arith);
  after = λ i d. after_stays m o x i (omega arith);
}
