-- Laws of tables: a list, and one value after it.
use Prim.Native.Nat.{ℕ, zero, suc, ◌+◌, ◌≤◌, ◌<◌}
use native.Mathlib.Nat.{le_of_suc-le-suc}
use native.Mathlib.Omega.{arith}
use native.Mathlib.Numerals.{add-one}
use mathlib.Core.Path.{◌≡◌, refl, ap, ap₂, sym, ◌∙◌}
use mathlib.Core.Bool.{Bool, true}
use mathlib.Core.List.{List, [], ◌∷◌, ◌++◌}
use lib.ListN.{length, get_or, set, take, drop, replicate}
use lib.Seq.{take-suc, take_all, length-take-le}
use Rattle.lists.specs.Lists.{every, without, fill, shifted}
use Rattle.lists.proofs.Bools.{and_l, and_r}

module _ {A : Type 0} where
  pub length_fill : (n : ℕ) (z : A) (l : List A) → length (fill n z l) ≡ n
  unfolding fill
  length_fill zero z l = refl
  length_fill (suc n) z [] = ap suc (length_fill n z [])
  length_fill (suc n) z (x ∷ l) = ap suc (length_fill n z l)

  pub getD_fill : (n : ℕ) (z : A) (l : List A) (k : ℕ) → length l ≤ n → get_or (fill n z l) k z ≡ get_or l k z
  unfolding fill
  getD_fill zero z [] k h = refl
  getD_fill zero z (x ∷ l) k h = absurd (omega arith)
  getD_fill (suc n) z [] zero h = refl
  getD_fill (suc n) z [] (suc k) h = getD_fill n z [] k (omega arith)
  getD_fill (suc n) z (x ∷ l) zero h = refl
  getD_fill (suc n) z (x ∷ l) (suc k) h = getD_fill n z l k (le_of_suc-le-suc h)

  pub fill_none : (n : ℕ) (z : A) → replicate n z ≡ fill n z []
  unfolding fill
  fill_none zero z = refl
  fill_none (suc n) z = ap (λ r. z ∷ r) (fill_none n z)

  -- an entry of the list is replaced
  pub set_fill : (n : ℕ) (z : A) (l : List A) (k : ℕ) (x : A) → k < length l → set (fill n z l) k x ≡ fill n z (set l k x)
  unfolding fill
  set_fill zero z l k x h = refl
  set_fill (suc n) z [] k x h = absurd (omega arith)
  set_fill (suc n) z (y ∷ l) zero x h = refl
  set_fill (suc n) z (y ∷ l) (suc k) x h = ap (λ r. y ∷ r) (set_fill n z l k x (le_of_suc-le-suc h))

  -- the list grows by one
  pub push_fill : (n : ℕ) (z : A) (l : List A) (x : A) → set (fill n z l) (length l) x ≡ fill n z (l ++ (x ∷ []))
  unfolding fill
  push_fill zero z l x = refl
  push_fill (suc n) z [] x = refl
  push_fill (suc n) z (y ∷ l) x = ap (λ r. y ∷ r) (push_fill n z l x)

  -- a list copied into a table: one element more, nothing more, all of it
  pub fill_more : (n : ℕ) (z d : A) (l : List A) (i : ℕ) → i < length l
      → set (fill n z (take i l)) i (get_or l i d) ≡ fill n z (take (i + 1) l)
  fill_more n z d l i h =
      let e : length (take i l) ≡ i = length-take-le i l (omega arith) in
      rw (add-one, take-suc l i d h) (ap (λ k. set (fill n z (take i l)) k (get_or l i d)) (sym e) ∙ push_fill n z (take i l) (get_or l i d))

  pub fill_past : (n : ℕ) (z : A) (l : List A) (i : ℕ) → length l ≤ i → fill n z (take i l) ≡ fill n z (take (i + 1) l)
  fill_past n z l i h = rw (take_all i l h, take_all (i + 1) l (omega arith))

  pub fill_whole : (n : ℕ) (z : A) (l : List A) → fill n z (take n l) ≡ fill n z l
  unfolding fill
  fill_whole zero z l = refl
  fill_whole (suc n) z [] = refl
  fill_whole (suc n) z (x ∷ l) = ap (λ r. x ∷ r) (fill_whole n z l)

  -- a value stored again and again
  replicate_more : (i : ℕ) (x : A) → replicate i x ++ (x ∷ []) ≡ replicate (suc i) x
  replicate_more zero x = refl
  replicate_more (suc i) x = ap (λ r. x ∷ r) (replicate_more i x)

  pub length_repeat : (i : ℕ) (x : A) → length (replicate i x) ≡ i
  length_repeat zero x = refl
  length_repeat (suc i) x = ap suc (length_repeat i x)

  pub fill_repeat : (n : ℕ) (z x : A) (i : ℕ) → set (fill n z (replicate i x)) i x ≡ fill n z (replicate (i + 1) x)
  fill_repeat n z x i =
      rw (add-one, ← replicate_more i x)
      (ap (λ k. set (fill n z (replicate i x)) k x) (sym (length_repeat i x)) ∙ push_fill n z (replicate i x) x)

  snoc_fill : (n : ℕ) (z : A) (l : List A) → length l ≤ n → fill n z l ++ (z ∷ []) ≡ fill (suc n) z l
  unfolding fill
  snoc_fill zero z [] h = refl
  snoc_fill zero z (y ∷ l) h = absurd (omega arith)
  snoc_fill (suc n) z [] h = ap (λ r. z ∷ r) (snoc_fill n z [] (omega arith))
  snoc_fill (suc n) z (y ∷ l) h = ap (λ r. y ∷ r) (snoc_fill n z l (le_of_suc-le-suc h))

  pub shift_fill : (n : ℕ) (z : A) (l : List A) (k : ℕ) → k < length l → length l ≤ n → shifted z (fill n z l) k ≡ fill n z (without k l)
  unfolding fill shifted without
  shift_fill n z [] k h f = absurd (omega arith)
  shift_fill zero z (y ∷ l) k h f = absurd (omega arith)
  shift_fill (suc n) z (y ∷ l) zero h f = snoc_fill n z l (le_of_suc-le-suc f)
  shift_fill (suc n) z (y ∷ l) (suc k) h f = ap (λ r. y ∷ r) (shift_fill n z l k (le_of_suc-le-suc h) (le_of_suc-le-suc f))

  pub without_out : (l : List A) (k : ℕ) → length l ≤ k → without k l ≡ l
  unfolding without
  without_out [] k h = refl
  without_out (x ∷ l) zero h = absurd (omega arith)
  without_out (x ∷ l) (suc k) h = ap (λ r. x ∷ r) (without_out l k (le_of_suc-le-suc h))

  pub length_without : (l : List A) (k : ℕ) → k < length l → suc (length (without k l)) ≡ length l
  unfolding without
  length_without [] k h = absurd (omega arith)
  length_without (x ∷ l) zero h = refl
  length_without (x ∷ l) (suc k) h = ap suc (length_without l k (le_of_suc-le-suc h))

  -- nothing but z after the first n
  pub tail_is : (f : A → Bool) (z : A) → ((x : A) → f x ≡ true → x ≡ z) → (n : ℕ) (l : List A) → every f (drop n l) ≡ true
      → l ≡ fill (length l) z (take n l)
  unfolding every fill
  tail_is f z g zero [] e = refl
  tail_is f z g (suc n) [] e = refl
  tail_is f z g zero (x ∷ l) e = ap₂ ◌∷◌ (g x (and_l (f x) _ e)) (tail_is f z g zero l (and_r (f x) _ e))
  tail_is f z g (suc n) (x ∷ l) e = ap (λ r. x ∷ r) (tail_is f z g n l e)

  -- a table of a list that fits is the list, and z after it
  pub take_fill : (n : ℕ) (z : A) (l : List A) → length l ≤ n → take (length l) (fill n z l) ≡ l
  unfolding fill
  take_fill n z [] h = refl
  take_fill zero z (x ∷ l) h = absurd (omega arith)
  take_fill (suc n) z (x ∷ l) h = ap (λ r. x ∷ r) (take_fill n z l (le_of_suc-le-suc h))

  pub rest_fill : (f : A → Bool) (n : ℕ) (z : A) (l : List A) → f z ≡ true → every f (drop (length l) (fill n z l)) ≡ true
  unfolding every fill
  rest_fill f zero z [] e = refl
  rest_fill f zero z (x ∷ l) e = refl
  rest_fill f (suc n) z [] e = rw e (rest_fill f n z [] e)
  rest_fill f (suc n) z (x ∷ l) e = rest_fill f n z l e
