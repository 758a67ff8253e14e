-- Lanes: an array changed in place, one entry for each position; and lanes that gather over the records.
use Rattle.std.proofs.Common.{◌≡◌, ℕ, ◌+◌, ◌<◌, Bool, true, false, cond, ◌&&◌, ltb, ◌≢◌, List, get_or, set, replicate, sym, refl, ap, ◌∙◌, arith, ltb-false, ltb-true, le-ltb, lt-ltb}
use Rattle.lists.specs.Lists.{every}
use Rattle.lists.proofs.Bools.{and_comm, same_test}
use Rattle.image.specs.Image.{table}
use Rattle.image.proofs.Table.{getD_table, table_same, table_set}
use Rattle.passes.specs.Passes.{itself}
use Rattle.passes.proofs.Turns.{every_on, every_of, every_next, table_none}

module _ {A : Type 0} (a g : ℕ → A) where
  -- the first i entries are new
  abbrev pub partly : ℕ → ℕ → A
  partly i j = cond (ltb j i) (g j) (a j)

  pub still : (w i : ℕ) (d : A) → i < w → get_or (table w (partly i)) i d ≡ a i
  still w i d h = getD_table w (partly i) i d h ∙ rw (le-ltb i i (omega arith))

  pub none_new : (w : ℕ) → table w a ≡ table w (partly 0)
  none_new w = table_same w a (partly 0) (λ j h. rw (le-ltb j 0 (omega arith)))

  pub one_new : (w i : ℕ) → set (table w (partly i)) i (g i) ≡ table w (partly (i + 1))
  one_new w i =
      sym (table_set w (partly i) (partly (i + 1)) i (g i) (rw (lt-ltb i (i + 1) (omega arith))) (λ j h n. same j n (ltb j i) refl))
    where
      same : (j : ℕ) → j ≢ i → (b : Bool) → ltb j i ≡ b → partly (i + 1) j ≡ partly i j
      same j n true e = let h = ltb-true j i e in rw (e, lt-ltb j (i + 1) (omega arith))
      same j n false e = let h = ltb-false j i e in rw (e, le-ltb j (i + 1) (omega arith))

  pub all_new : (w : ℕ) → table w (partly w) ≡ table w g
  all_new w = table_same w (partly w) g (λ j h. rw (lt-ltb j w h))

-- lane i of record k passes P i k
module _ (P : ℕ → ℕ → Bool) where
  abbrev pub lanes : ℕ → ℕ → List Bool
  lanes w n = table w (λ i. every (λ k. P i k) (table n (λ k. k)))

  pub lanes_none : (w : ℕ) → replicate w true ≡ lanes w 0
  unfolding every table
  lanes_none w = table_none w true

  pub lanes_more : (w k : ℕ) → table w (λ i. get_or (lanes w k) i false && P i k) ≡ lanes w (k + 1)
  lanes_more w k =
      table_same w _ _ (λ i h. ap (λ b. b && P i k) (getD_table w _ i false h) ∙ and_comm _ (P i k) ∙ sym (every_next (P i) (λ k. k) k))

  -- every lane of every record is every record in every lane
  pub lanes_all : {A : Type 0} (w n : ℕ) (F : A → Bool) (f : ℕ → A) → ((k : ℕ) → k < n → every itself (table w (λ i. P i k)) ≡ F (f k))
      → every itself (lanes w n) ≡ every F (table n f)
  lanes_all w n F f h =
      same_test _ _
      (λ e. every_of F f n (λ k b. sym (h k b)
      ∙ every_of itself (λ i. P i k) w (λ i c. every_on (P i) (λ k. k) n
      (every_on itself (λ i. every (P i) (table n (λ k. k))) w e i c) k b)))
      (λ e. every_of itself (λ i. every (P i) (table n (λ k. k))) w
      (λ i c. every_of (P i) (λ k. k) n (λ k b. every_on itself (λ i. P i k) w (h k b ∙ every_on F f n e k b) i c)))
