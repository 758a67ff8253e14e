-- Predictions are the entries of a table, read: what is done to the entries is done to them.
use Prim.Native.Nat.{ℕ, zero, suc, ◌+◌, ◌<◌}
use native.Mathlib.Nat.{zero-add}
use native.Mathlib.Omega.{arith}
use mathlib.Core.Path.{◌≡◌, refl, ap, sym, ◌∙◌}
use mathlib.Core.Bool.{Bool, true, false, cond}
use mathlib.Core.List.{List, [], ◌∷◌, ◌++◌, map}
use lib.ListN.{length, set}
use lib.Seq.{sets}
use lib.Dec.{ltb}
use Rattle.lists.specs.Lists.{shifted}
use Rattle.image.specs.Image.{table, byte_at, bytes_from}
use Rattle.image.proofs.Table.{table_same, getD_table}
use Rattle.follow.specs.Follow.{dropped, added, followed_in, entries_from, blank}
use Rattle.follow.proofs.Entries.{entry_put}
use Rattle.prediction.specs.declared.prediction.Prediction.{Prediction}
use Rattle.prediction.specs.Predictions.{no_prediction}
use Rattle.times.specs.Bytes.{seconds_from, prediction_start, prediction_from, predictions_from, prediction_bytes}
use Rattle.times.proofs.Written.{prediction_same, length_prediction, prediction_back}

-- ── A table that follows the records, read entry by entry ──
module _ {A B : Type 0} (f : A → B) where
  map_table : (n : ℕ) (g : ℕ → A) → map f (table n g) ≡ table n (λ k. f (g k))
  unfolding table
  map_table zero g = refl
  map_table (suc n) g = ap (λ l. f (g 0) ∷ l) (map_table n (λ k. g (suc k)))

  pub map_set : (l : List A) (k : ℕ) (x : A) → map f (set l k x) ≡ set (map f l) k (f x)
  map_set [] k x = refl
  map_set (y ∷ l) zero x = refl
  map_set (y ∷ l) (suc k) x = ap (λ l. f y ∷ l) (map_set l k x)

  map_last : (l : List A) (x : A) → map f (l ++ (x ∷ [])) ≡ map f l ++ (f x ∷ [])
  map_last [] x = refl
  map_last (y ∷ l) x = ap (λ l. f y ∷ l) (map_last l x)

  map_shifted : (z : A) (l : List A) (k : ℕ) → map f (shifted z l k) ≡ shifted (f z) (map f l) k
  unfolding shifted
  map_shifted z [] k = refl
  map_shifted z (x ∷ l) zero = map_last l z
  map_shifted z (x ∷ l) (suc k) = ap (λ l. f x ∷ l) (map_shifted z l k)

  map_dropped : (z : A) (n g : ℕ) (l : List A) → map f (dropped z n g l) ≡ dropped (f z) n g (map f l)
  unfolding dropped
  map_dropped z n g l = go (ltb g n)
    where
      go : (b : Bool) → map f (cond b (shifted z l g) l) ≡ cond b (shifted (f z) (map f l) g) (map f l)
      go true = map_shifted z l g
      go false = refl

  map_added : (k : ℕ) (b : Bool) (x : A) (l : List A) → map f (added k b x l) ≡ added k b (f x) (map f l)
  unfolding added
  map_added k true x l = map_set l k x
  map_added k false x l = refl

  pub map_followed : (z : A) (n g : ℕ) (b : Bool) (x : A) (l : List A)
      → map f (followed_in z n g b x l) ≡ followed_in (f z) n g b (f x) (map f l)
  map_followed z n g b x l = map_added _ b x (dropped z n g l) ∙ ap (added _ b (f x)) (map_dropped z n g l)

-- ── A prediction is an entry of 11 bytes, read ──
abbrev pub read : List ℕ → Prediction
read b = prediction_from b 0

pub predictions_read : (m : List ℕ) → predictions_from m ≡ map read (entries_from m 1201 11)
unfolding predictions_from entries_from
predictions_read m =
    table_same 36 _ _ (λ k h. prediction_same m (bytes_from m (prediction_start k) 11) (prediction_start k) 0
    (λ i b. rw zero-add (sym (getD_table 11 (λ i. byte_at m (prediction_start k + i)) i 0 b))))
    ∙ sym (map_table read 36 (λ k. bytes_from m (prediction_start k) 11))

pub blank_read : read (blank 11) ≡ no_prediction
unfolding prediction_from seconds_from
blank_read = refl

-- one is written
pub predictions_put : (m : List ℕ) → length m ≡ 1891 → (k : ℕ) → k < 36 → (p : Prediction) → p.tp < 4294967296 → p.te < 4294967296
    → predictions_from (sets m (prediction_start k) (prediction_bytes p)) ≡ set (predictions_from m) k p
predictions_put m l k h p a b =
    predictions_read (sets m (prediction_start k) (prediction_bytes p))
    ∙ ap (map read) (entry_put 1201 11 m l (omega arith) k h (prediction_bytes p) (length_prediction p))
    ∙ map_set read (entries_from m 1201 11) k (prediction_bytes p)
    ∙ rw (prediction_back p a b, predictions_read m)

-- the records are followed
pub predictions_follow : (m n : List ℕ) (k g : ℕ) (made : Bool) (p : Prediction) → p.tp < 4294967296 → p.te < 4294967296
    → entries_from n 1201 11 ≡ followed_in (blank 11) k g made (prediction_bytes p) (entries_from m 1201 11)
    → predictions_from n ≡ followed_in no_prediction k g made p (predictions_from m)
predictions_follow m n k g made p a b e =
    predictions_read n ∙ ap (map read) e
    ∙ map_followed read (blank 11) k g made (prediction_bytes p) (entries_from m 1201 11)
    ∙ rw (blank_read, prediction_back p a b, predictions_read m)
