-- What loops over lists cite: from the end, the rest grows by one element a turn.
use Prim.Native.Nat.{ℕ, suc, ◌+◌, ◌-◌, ◌≤◌, ◌<◌}
use native.Mathlib.Omega.{arith}
use mathlib.Core.Path.{◌≡◌, ap, ◌∙◌}
use mathlib.Core.Bool.{Bool, true, false, cond}
use mathlib.Core.List.{List, [], ◌∷◌}
use lib.ListN.{length, get_or, take, drop, drop_of_length-le}
use lib.Seq.{drop-cons, length-take-le, get_or-take}

module _ {ℓ} {A : Type ℓ} where
  -- a loop from the end begins with nothing
  pub ended : (l : List A) (n : ℕ) → length l ≡ n → drop n l ≡ []
  ended l n h = drop_of_length-le l {i = n} (omega arith)

  -- one turn
  pub back : (l : List A) (i : ℕ) (d : A) → 0 < i → i ≤ length l → drop (i - 1) l ≡ get_or l (i - 1) d ∷ drop i l
  back l i d p h =
      let e : suc (i - 1) ≡ i = omega arith in
      let b : i - 1 < length l = omega arith in
      drop-cons l (i - 1) d b ∙ rw e

  -- the same over the first n of an array
  pub ended_in : (a : List A) (n : ℕ) → n ≤ length a → drop n (take n a) ≡ []
  ended_in a n h = ended (take n a) n (length-take-le n a h)

  pub back_in : (a : List A) (n i : ℕ) (d : A) → 0 < i → i ≤ n → n ≤ length a
      → drop (i - 1) (take n a) ≡ get_or a (i - 1) d ∷ drop i (take n a)
  back_in a n i d p q h =
      let e : length (take n a) ≡ n = length-take-le n a h in
      back (take n a) i d p (omega arith) ∙ ap (λ x. x ∷ drop i (take n a)) (get_or-take n a (i - 1) d (omega arith))

-- a position in the rest, one element earlier
pub nearer : (b : Bool) (k w : ℕ) → 0 < k → cond b (k - 1) (k + w) ≡ (k - 1) + cond b 0 (suc w)
nearer true k w h = omega arith
nearer false k w h = omega arith

pub one_more : (b : Bool) {m : ℕ} (n : ℕ) → m ≡ cond b 1 0 + n → m ≤ 1 + n
one_more true n e = omega arith
one_more false n e = omega arith
