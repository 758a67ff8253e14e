-- The table of the latest position for each key.
use Rattle.std.proofs.Common.{◌≡◌, ℕ, zero, suc, ◌+◌, ◌<◌, ◌≤◌, Bool, true, false, cond, not, ◌&&◌, ◌||◌, eqb, ◌≢◌, List, get_or, set, replicate, sym, refl, ap, ◌∙◌, add-one, arith, eq-eqb, ne_eqb, eqb-true}
use borrow.Author.Tests.{eqb-false}
use Rattle.lists.specs.Lists.{every}
use Rattle.image.specs.Image.{table}
use Rattle.image.proofs.Table.{getD_table, table_set}
use Rattle.passes.specs.Passes.{latest}
use Rattle.passes.proofs.Turns.{every_suc, table_none}

module _ (key : ℕ → ℕ) where
  abbrev pub marked : ℕ → ℕ → List ℕ
  marked w k = table w (λ v. latest key v k)

  pub marked_none : (w : ℕ) → replicate w 0 ≡ marked w 0
  unfolding latest
  marked_none w = table_none w 0

  pub marked_more : (w k : ℕ) → set (marked w k) (key k) (k + 1) ≡ marked w (k + 1)
  unfolding latest
  marked_more w k =
      rw add-one
      (sym (table_set w (λ v. latest key v k) (λ v. latest key v (suc k)) (key k) (suc k) (rw (eq-eqb (key k) (key k) refl))
      (λ v h n. rw (ne_eqb (key k) v (λ e. n (sym e))))))

  -- what stands in such a table
  pub left_at : (w k h : ℕ) (marks : List ℕ) → marks ≡ marked w k → h < w → get_or marks h 0 ≡ latest key h k
  left_at w k h marks e b = ap (λ l. get_or l h 0) e ∙ getD_table w (λ v. latest key v k) h 0 b

  pub latest_low : (v n : ℕ) → latest key v n ≤ n
  unfolding latest
  latest_low v zero = omega arith
  latest_low v (suc n) = go (eqb (key n) v) (latest_low v n)
    where
      go : (b : Bool) → latest key v n ≤ n → cond b (suc n) (latest key v n) ≤ suc n
      go true h = omega arith
      go false h = omega arith

  -- none after it has the key
  pub later_others : (v n j : ℕ) → latest key v n ≤ j → j < n → key j ≢ v
  unfolding latest
  later_others v zero j h b e = omega arith
  later_others v (suc n) j h b e = go (eqb (key n) v) refl (later_others v n j) h
    where
      go : (c : Bool) → eqb (key n) v ≡ c → (latest key v n ≤ j → j < n → key j ≢ v) → cond c (suc n) (latest key v n) ≤ j → ⊥
      go true q r h = omega arith
      go false q r h = last (eqb j n) refl
        where
          last : (c : Bool) → eqb j n ≡ c → ⊥
          last true s = let z = eqb-true j n s in eqb-false (key n) v q (ap key (sym z) ∙ e)
          last false s = let z = eqb-false j n s in r h (omega arith) e

  -- it has the key
  pub latest_has : (v n j : ℕ) → latest key v n ≡ suc j → key j ≡ v
  unfolding latest
  latest_has v zero j e = absurd (omega arith)
  latest_has v (suc n) j e = go (eqb (key n) v) refl (latest_has v n j) e
    where
      go : (c : Bool) → eqb (key n) v ≡ c → (latest key v n ≡ suc j → key j ≡ v) → cond c (suc n) (latest key v n) ≡ suc j → key j ≡ v
      go true q r e = let z : n ≡ j = omega arith in ap key (sym z) ∙ eqb-true (key n) v q
      go false q r e = r e

-- no earlier one has the key of a new one, or the key is 0
module _ {A : Type 0} (g : A → ℕ) (f : ℕ → A) where
  pub fresh : (v k : ℕ) → every (λ x. eqb (g x) 0 || not (eqb (g x) v)) (table k f) ≡ (eqb v 0 || eqb (latest (λ j. g (f j)) v k) 0)
  unfolding latest every table
  fresh v zero = sym (or_true (eqb v 0))
    where
      or_true : (b : Bool) → (b || true) ≡ true
      or_true true = refl
      or_true false = refl
  fresh v (suc k) = every_suc (λ x. eqb (g x) 0 || not (eqb (g x) v)) f k ∙ go (eqb (g (f k)) v) refl (fresh v k)
    where
      go : (b : Bool) → eqb (g (f k)) v ≡ b
          → every (λ x. eqb (g x) 0 || not (eqb (g x) v)) (table k f) ≡ (eqb v 0 || eqb (latest (λ j. g (f j)) v k) 0)
          → ((eqb (g (f k)) 0 || not b) && every (λ x. eqb (g x) 0 || not (eqb (g x) v)) (table k f))
          ≡ (eqb v 0 || eqb (cond b (suc k) (latest (λ j. g (f j)) v k)) 0)
      go true q r = let z = eqb-true (g (f k)) v q in
          rw (z, r) (both (eqb v 0) (eqb (latest (λ j. g (f j)) v k) 0) (eqb (suc k) 0) (ne_eqb (suc k) 0 (λ e. omega arith)))
        where
          both : (a b c : Bool) → c ≡ false → ((a || false) && (a || b)) ≡ (a || c)
          both true b c e = refl
          both false b c e = sym e
      go false q r = rw r (free (eqb (g (f k)) 0) (eqb v 0 || eqb (latest (λ j. g (f j)) v k) 0))
        where
          free : (a b : Bool) → ((a || true) && b) ≡ b
          free true b = refl
          free false b = refl
