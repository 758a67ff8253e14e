-- There is no prediction where its 11 bytes are zero, and none after the first n where the bytes after them are.
use Prim.Native.Nat.{ℕ, ◌+◌, ◌*◌, ◌-◌, ◌/◌, ◌%◌, ◌<◌, ◌≤◌}
use native.Mathlib.Omega.{arith}
use mathlib.Core.Path.{◌≡◌, refl, ap, sym, ◌∙◌}
use mathlib.Core.Bool.{Bool, true, false}
use mathlib.Core.List.{List}
use lib.ListN.{length, get_or, drop, length-drop, get_or-replicate}
use lib.Seq.{get_or-drop}
use lib.Dec.{ltb}
use borrow.Author.Tests.{ltb-true, ltb-false, eqb-true, eq-eqb}
use Rattle.lists.specs.Lists.{every}
use Rattle.lists.proofs.Bools.{same_test, and_l, and_r}
use Rattle.lists.proofs.Tests.{every_at}
use Rattle.lists.proofs.Parts.{every_all}
use Rattle.image.specs.Image.{byte_at, bytes_from}
use Rattle.passes.specs.Passes.{is_zero}
use Rattle.passes.proofs.Turns.{every_on, every_of}
use Rattle.passes.proofs.Marks.{four}
use Rattle.follow.specs.Follow.{blank}
use Rattle.prediction.specs.declared.prediction.Prediction.{Prediction}
use Rattle.prediction.specs.Predictions.{no_prediction}
use Rattle.prediction.specs.Sound.{is_none}
use Rattle.times.specs.Bytes.{seconds_from, prediction_start, prediction_from, predictions_from}
use Rattle.times.proofs.Laid.{predictions_long, prediction_is}
use Rattle.times.proofs.Written.{prediction_same}
use Rattle.times.proofs.Followed.{blank_read}

module _ (m : List ℕ) where
  seconds_zero : (o : ℕ) → seconds_from m o ≡ 0 → (i : ℕ) → i < 4 → byte_at m (o + i) ≡ 0
  unfolding seconds_from
  seconds_zero o e =
      let z : o + 0 ≡ o = omega arith in
      four (λ i. byte_at m (o + i) ≡ 0) (rw z (omega arith)) (omega arith) (omega arith) (omega arith)

  -- ── One prediction ──
  module _ (o : ℕ) where
    bytes_zero : is_none (prediction_from m o) ≡ true → (i : ℕ) → i < 11 → byte_at m (o + i) ≡ 0
    unfolding is_none prediction_from
    bytes_zero e i b = go (ltb i 3) refl (ltb i 7) refl
      where
        state : byte_at m o ≡ 0
        state = eqb-true _ _ (search (and_l, and_r) depth 7)

        known : byte_at m (o + 1) ≡ 0
        known = eqb-true _ _ (search (and_l, and_r) depth 7)

        estimated : byte_at m (o + 2) ≡ 0
        estimated = eqb-true _ _ (search (and_l, and_r) depth 7)

        tp : seconds_from m (o + 3) ≡ 0
        tp = eqb-true _ _ (search (and_l, and_r) depth 7)

        te : seconds_from m (o + 7) ≡ 0
        te = eqb-true _ _ (search (and_l, and_r) depth 7)

        go : (x : Bool) → ltb i 3 ≡ x → (y : Bool) → ltb i 7 ≡ y → byte_at m (o + i) ≡ 0
        go true p y q =
            let z : o + 0 ≡ o = omega arith in
            let w : o + 3 + 0 ≡ o + 3 = omega arith in
            let l = ltb-true i 3 p in
            four (λ i. byte_at m (o + i) ≡ 0) (rw z state) known estimated (rw w at (seconds_zero (o + 3) tp 0 (omega arith))) i (omega arith)
        go false p true q =
            let l = ltb-false i 3 p in
            let h = ltb-true i 7 q in
            let w : o + 3 + (i - 3) ≡ o + i = omega arith in
            rw w at (seconds_zero (o + 3) tp (i - 3) (omega arith))
        go false p false q =
            let l = ltb-false i 7 q in
            let w : o + 7 + (i - 7) ≡ o + i = omega arith in
            rw w at (seconds_zero (o + 7) te (i - 7) (omega arith))

    none_zero : ((i : ℕ) → i < 11 → byte_at m (o + i) ≡ 0) → is_none (prediction_from m o) ≡ true
    unfolding is_none
    none_zero h =
        ap is_none (prediction_same m (blank 11) o 0 (λ i b. h i b ∙ sym (get_or-replicate {A = ℕ} 11 (0 + i) 0 0 (omega arith))) ∙ blank_read)

  -- ── Those after the first n ──
  module _ (n : ℕ) (few : n ≤ 36) where
    abbrev start : ℕ
    start = 1201 + 11 * n

    abbrev bytes : ℕ
    bytes = 396 - 11 * n

    abbrev rest : List Prediction
    rest = drop n (predictions_from m)

    rest_long : length rest ≡ 36 - n
    rest_long = let l = predictions_long m in let d = length-drop n (predictions_from m) in omega arith

    here : (j : ℕ) → j < 36 - n → get_or rest j no_prediction ≡ prediction_from m (prediction_start (n + j))
    here j h = get_or-drop n (predictions_from m) j no_prediction ∙ prediction_is m (n + j) (omega arith)

    there : every is_none rest ≡ true → every is_zero (bytes_from m start bytes) ≡ true
    there e = every_of is_zero (λ k. byte_at m (start + k)) bytes (λ k h. eq-eqb (byte_at m (start + k)) 0 (at k h))
      where
        at : (k : ℕ) → k < bytes → byte_at m (start + k) ≡ 0
        at k h =
            let j = k / 11 in
            let i = k % 11 in
            let z : prediction_start (n + j) + i ≡ start + k = omega arith in
            let l = rest_long in
            let r = every_at is_none rest no_prediction e j (omega arith) in
            rw z at (bytes_zero (prediction_start (n + j)) (ap is_none (sym (here j (omega arith))) ∙ r) i (omega arith))

    back : every is_zero (bytes_from m start bytes) ≡ true → every is_none rest ≡ true
    back e = every_all is_none rest no_prediction (λ j h. at j (let l = rest_long in omega arith))
      where
        at : (j : ℕ) → j < 36 - n → is_none (get_or rest j no_prediction) ≡ true
        at j h =
            ap is_none (here j h) ∙ none_zero (prediction_start (n + j)) (λ i b.
            let z : start + (11 * j + i) ≡ prediction_start (n + j) + i = omega arith in
            rw z at (eqb-true (byte_at m (start + (11 * j + i))) 0 (every_on is_zero (λ k. byte_at m (start + k)) bytes e (11 * j + i) (omega arith))))

    pub none_after_is : every is_zero (bytes_from m start bytes) ≡ every is_none rest
    none_after_is = same_test _ _ back there
