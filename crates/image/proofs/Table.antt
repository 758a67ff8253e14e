-- Laws of tables.
use Prim.Native.Nat.{ℕ, zero, suc, ◌+◌, ◌<◌, ◌≤◌, suc-le-suc}
use native.Mathlib.Nat.{le_of_suc-le-suc}
use native.Mathlib.Omega.{arith}
use mathlib.Core.Path.{◌≡◌, refl, ap, sym, ◌∙◌}
use mathlib.Core.Logic.{◌≢◌}
use mathlib.Core.List.{List, [], ◌∷◌, ◌++◌}
use lib.ListN.{length, get_or, take, drop, set, replicate, length-drop}
use lib.Seq.{length-take-le}
use Rattle.std.proofs.lemmas.List.{get_or-take, get_or-drop}
use Rattle.lists.specs.Lists.{shifted}
use Rattle.image.specs.Image.{table}

module _ {A : Type 0} where
  pub length_table : (n : ℕ) (f : ℕ → A) → length (table n f) ≡ n
  unfolding table
  length_table zero f = refl
  length_table (suc n) f = ap suc (length_table n (λ k. f (suc k)))

  pub getD_table : (n : ℕ) (f : ℕ → A) (k : ℕ) (d : A) → k < n → get_or (table n f) k d ≡ f k
  unfolding table
  getD_table zero f k d h = absurd (none h)
    where
      none : k < 0 → ⊥
      none p = omega arith
  getD_table (suc n) f zero d h = refl
  getD_table (suc n) f (suc k) d h = getD_table n (λ k. f (suc k)) k d (le_of_suc-le-suc h)

  pub table_same : (n : ℕ) (f g : ℕ → A) → ((k : ℕ) → k < n → f k ≡ g k) → table n f ≡ table n g
  unfolding table
  table_same zero f g h = refl
  table_same (suc n) f g h = rw (h 0 (omega arith), table_same n (λ k. f (suc k)) (λ k. g (suc k)) (λ k b. h (suc k) (suc-le-suc b)))

  pub is_table : (l : List A) (n : ℕ) (d : A) → length l ≡ n → table n (λ k. get_or l k d) ≡ l
  unfolding table
  is_table [] zero d e = refl
  is_table [] (suc n) d e = absurd (omega arith)
  is_table (x ∷ l) zero d e = absurd (omega arith)
  is_table (x ∷ l) (suc n) d e = ap (λ t. x ∷ t) (is_table l n d (omega arith))

  -- a list whose entries are known
  pub is_filled : (l : List A) (n : ℕ) (f : ℕ → A) (d : A) → length l ≡ n → ((k : ℕ) → k < n → get_or l k d ≡ f k) → l ≡ table n f
  is_filled l n f d e h = sym (is_table l n d e) ∙ table_same n (λ k. get_or l k d) f h

  -- a part of a list is a table of its entries
  pub part_is : (l : List A) (o n : ℕ) (d : A) → o + n ≤ length l → take n (drop o l) ≡ table n (λ k. get_or l (o + k) d)
  part_is l o n d h =
      let r = length-drop o l in
      is_filled (take n (drop o l)) n _ d (length-take-le n (drop o l) (omega arith))
      (λ k b. get_or-take n (drop o l) k d b ∙ get_or-drop o l k d)

  -- one entry replaced
  pub table_set : (n : ℕ) (f g : ℕ → A) (k : ℕ) (x : A) → g k ≡ x → ((j : ℕ) → j < n → j ≢ k → g j ≡ f j) → table n g ≡ set (table n f) k x
  unfolding table
  table_set zero f g k x e h = refl
  table_set (suc n) f g zero x e h =
      rw (e, table_same n (λ k. g (suc k)) (λ k. f (suc k)) (λ j b. h (suc j) (suc-le-suc b) (omega arith)))
  table_set (suc n) f g (suc k) x e h =
      rw (
        h 0 (omega arith) (omega arith),
        table_set n (λ k. f (suc k)) (λ k. g (suc k)) k x e (λ j b n. h (suc j) (suc-le-suc b) (omega arith)),
      )

  table_last : (n : ℕ) (f : ℕ → A) → table (suc n) f ≡ table n f ++ (f n ∷ [])
  unfolding table
  table_last zero f = refl
  table_last (suc n) f = ap (λ t. f 0 ∷ t) (table_last n (λ k. f (suc k)))

  -- the entry at k goes, those after it move up, and the last is z
  pub table_shifted : (n : ℕ) (f g : ℕ → A) (k : ℕ) (z : A) → k < suc n
      → ((j : ℕ) → j < k → g j ≡ f j) → ((j : ℕ) → k ≤ j → j < n → g j ≡ f (suc j)) → g n ≡ z
      → table (suc n) g ≡ shifted z (table (suc n) f) k
  unfolding table shifted
  table_shifted n f g zero z b early late last =
      table_last n g ∙ rw (last, table_same n g (λ k. f (suc k)) (λ j c. late j (omega arith) c))
  table_shifted zero f g (suc k) z b early late last = absurd (omega arith)
  table_shifted (suc n) f g (suc k) z b early late last =
      rw (early 0 (omega arith))
      (ap (λ t. f 0 ∷ t) (table_shifted n (λ k. f (suc k)) (λ k. g (suc k)) k z (le_of_suc-le-suc b)
      (λ j c. early (suc j) (suc-le-suc c)) (λ j c d. late (suc j) (suc-le-suc c) (suc-le-suc d)) last))

  pub table_const : (n : ℕ) (x : A) → table n (λ k. x) ≡ replicate n x
  unfolding table
  table_const zero x = refl
  table_const (suc n) x = ap (λ t. x ∷ t) (table_const n x)
