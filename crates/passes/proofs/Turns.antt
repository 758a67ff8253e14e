-- What loops over positions cite: one position more, and what holds at each.
use Rattle.std.proofs.Common.{◌≡◌, ℕ, zero, suc, ◌+◌, ◌<◌, ◌≤◌, Bool, true, false, cond, ◌&&◌, eqb, List, ◌∷◌, length, get_or, take, replicate, sym, refl, ap, ◌∙◌, ap₂, suc-le-suc, le_of_suc-le-suc, add-one, arith}
use Rattle.lists.specs.Lists.{every, every_two, how_many, same_list}
use Rattle.lists.proofs.Bools.{and_l, and_r, and_i}
use Rattle.lists.proofs.Library.{every_more}
use Rattle.image.specs.Image.{table}

swap : (a b c : Bool) → (a && (b && c)) ≡ (b && (a && c))
swap true b c = refl
swap false true c = refl
swap false false c = refl

pub cross : (a b c d : Bool) → ((a && b) && (c && d)) ≡ ((a && c) && (b && d))
cross true true c d = refl
cross true false true d = refl
cross true false false d = refl
cross false b c d = refl

module _ {A : Type 0} where
  -- none yet; who cites these need not unfold `table`, which may be a long one
  pub every_none : (F : A → Bool) (f : ℕ → A) → true ≡ every F (table 0 f)
  unfolding every table
  every_none F f = refl

  pub two_none : (F : A → A → Bool) (f : ℕ → A) → true ≡ every_two F (table 0 f)
  unfolding every_two table
  two_none F f = refl

  pub many_none : (F : A → Bool) (f : ℕ → A) → 0 ≡ how_many F (table 0 f)
  unfolding how_many table
  many_none F f = refl

  pub every_suc : (F : A → Bool) (f : ℕ → A) (k : ℕ) → every F (table (suc k) f) ≡ (F (f k) && every F (table k f))
  unfolding every table
  every_suc F f zero = refl
  every_suc F f (suc k) = ap (λ b. F (f 0) && b) (every_suc F (λ j. f (suc j)) k)
      ∙ swap (F (f 0)) (F (f (suc k))) (every F (table k (λ j. f (suc j))))

  two_suc : (F : A → A → Bool) (f : ℕ → A) (k : ℕ)
      → every_two F (table (suc k) f) ≡ (every (λ x. F x (f k)) (table k f) && every_two F (table k f))
  unfolding every every_two table
  two_suc F f zero = refl
  two_suc F f (suc k) =
      ap₂ ◌&&◌ (every_suc (F (f 0)) (λ j. f (suc j)) k) (two_suc F (λ j. f (suc j)) k)
      ∙ cross (F (f 0) (f (suc k))) (every (F (f 0)) (table k (λ j. f (suc j)))) (every (λ x. F x (f (suc k))) (table k (λ j. f (suc j))))
      (every_two F (table k (λ j. f (suc j))))

  many_suc : (F : A → Bool) (f : ℕ → A) (k : ℕ) → how_many F (table (suc k) f) ≡ cond (F (f k)) 1 0 + how_many F (table k f)
  unfolding how_many table
  many_suc F f zero = refl
  many_suc F f (suc k) = let r = many_suc F (λ j. f (suc j)) k in omega arith

  pub every_next : (F : A → Bool) (f : ℕ → A) (k : ℕ) → every F (table (k + 1) f) ≡ (F (f k) && every F (table k f))
  every_next F f k = ap (λ n. every F (table n f)) (add-one k) ∙ every_suc F f k

  pub two_next : (F : A → A → Bool) (f : ℕ → A) (k : ℕ)
      → every_two F (table (k + 1) f) ≡ (every (λ x. F x (f k)) (table k f) && every_two F (table k f))
  two_next F f k = ap (λ n. every_two F (table n f)) (add-one k) ∙ two_suc F f k

  pub many_next : (F : A → Bool) (f : ℕ → A) (k : ℕ) → how_many F (table (k + 1) f) ≡ cond (F (f k)) 1 0 + how_many F (table k f)
  many_next F f k = ap (λ n. how_many F (table n f)) (add-one k) ∙ many_suc F f k

  pub take_table : (n w : ℕ) (f : ℕ → A) → n ≤ w → take n (table w f) ≡ table n f
  unfolding table
  take_table zero w f h = refl
  take_table (suc n) zero f h = absurd (omega arith)
  take_table (suc n) (suc w) f h = ap (λ l. f 0 ∷ l) (take_table n w (λ j. f (suc j)) (le_of_suc-le-suc h))

  pub every_on : (F : A → Bool) (f : ℕ → A) (n : ℕ) → every F (table n f) ≡ true → (k : ℕ) → k < n → F (f k) ≡ true
  unfolding every table
  every_on F f zero e k h = absurd (omega arith)
  every_on F f (suc n) e zero h = and_l (F (f 0)) _ e
  every_on F f (suc n) e (suc k) h = every_on F (λ j. f (suc j)) n (and_r (F (f 0)) _ e) k (le_of_suc-le-suc h)

  pub every_of : (F : A → Bool) (f : ℕ → A) (n : ℕ) → ((k : ℕ) → k < n → F (f k) ≡ true) → every F (table n f) ≡ true
  unfolding every table
  every_of F f zero h = refl
  every_of F f (suc n) h = and_i (h 0 (omega arith)) (every_of F (λ j. f (suc j)) n (λ k b. h (suc k) (suc-le-suc b)))

  pub two_on : (F : A → A → Bool) (f : ℕ → A) (n : ℕ) → every_two F (table n f) ≡ true → (i j : ℕ) → i < j → j < n → F (f i) (f j) ≡ true
  unfolding every_two table
  two_on F f zero e i j a b = absurd (omega arith)
  two_on F f (suc n) e i zero a b = absurd (omega arith)
  two_on F f (suc n) e zero (suc j) a b = every_on (F (f 0)) (λ k. f (suc k)) n
      (and_l (every (F (f 0)) (table n (λ k. f (suc k)))) _ e) j (le_of_suc-le-suc b)
  two_on F f (suc n) e (suc i) (suc j) a b =
      two_on F (λ k. f (suc k)) n (and_r (every (F (f 0)) (table n (λ k. f (suc k)))) _ e) i j (le_of_suc-le-suc a) (le_of_suc-le-suc b)

  pub two_of : (F : A → A → Bool) (f : ℕ → A) (n : ℕ) → ((i j : ℕ) → i < j → j < n → F (f i) (f j) ≡ true) → every_two F (table n f) ≡ true
  unfolding every_two table
  two_of F f zero h = refl
  two_of F f (suc n) h =
      and_i (every_of (F (f 0)) (λ k. f (suc k)) n (λ j b. h 0 (suc j) (omega arith) (suc-le-suc b)))
      (two_of F (λ k. f (suc k)) n (λ i j a b. h (suc i) (suc j) (suc-le-suc a) (suc-le-suc b)))

  -- one that fails
  pub failed : (F : A → Bool) (f : ℕ → A) (n k : ℕ) → k < n → F (f k) ≡ false → false ≡ every F (table n f)
  failed F f n k h e = go (every F (table n f)) refl
    where
      go : (b : Bool) → every F (table n f) ≡ b → false ≡ every F (table n f)
      go true q = sym e ∙ every_on F f n q k h ∙ sym q
      go false q = sym q

  -- one element more of a list
  pub every_turn : (F : A → Bool) (l : List A) (b : Bool) (k : ℕ) (d : A) → k < length l → b ≡ every F (take k l)
      → (b && F (get_or l k d)) ≡ every F (take (k + 1) l)
  every_turn F l b k d h e = rw (add-one k, every_more F l k d h, e)

  -- a table of one value
  pub table_none : (n : ℕ) (x : A) → replicate n x ≡ table n (λ _. x)
  unfolding table
  table_none zero x = refl
  table_none (suc n) x = ap (λ l. x ∷ l) (table_none n x)

same_suc : (f g : ℕ → ℕ) (k : ℕ) → same_list (table (suc k) f) (table (suc k) g) ≡ (eqb (f k) (g k) && same_list (table k f) (table k g))
unfolding same_list table
same_suc f g zero = refl
same_suc f g (suc k) =
    ap (λ b. eqb (f 0) (g 0) && b) (same_suc (λ j. f (suc j)) (λ j. g (suc j)) k)
    ∙ swap (eqb (f 0) (g 0)) (eqb (f (suc k)) (g (suc k))) (same_list (table k (λ j. f (suc j))) (table k (λ j. g (suc j))))

pub same_next : (f g : ℕ → ℕ) (k : ℕ) → same_list (table (k + 1) f) (table (k + 1) g) ≡ (eqb (f k) (g k) && same_list (table k f) (table k g))
same_next f g k = ap (λ n. same_list (table n f) (table n g)) (add-one k) ∙ same_suc f g k
