-- Bytes that move up.
use Prim.Native.Nat.{ℕ, ◌+◌, ◌<◌, ◌≤◌}
use native.Mathlib.Omega.{arith}
use mathlib.Core.Path.{◌≡◌, refl, sym, ◌∙◌}
use mathlib.Core.Logic.{◌≢◌}
use mathlib.Core.Bool.{Bool, true, false, cond}
use mathlib.Core.List.{List}
use lib.ListN.{length, set}
use lib.Dec.{ltb}
use borrow.Author.Tests.{lt-ltb, le-ltb, ltb-true, ltb-false}
use Rattle.image.specs.Image.{table, byte_at, moved_up}
use Rattle.image.proofs.Table.{table_same, table_set, is_table}

module _ (m : List ℕ) (o : ℕ) where
  pub early_stays : (j i : ℕ) → i < o → moved_up m o j i ≡ byte_at m i
  unfolding moved_up
  early_stays j i b = rw (lt-ltb i o b)

  pub late_stays : (j i : ℕ) → j ≤ i → moved_up m o j i ≡ byte_at m i
  unfolding moved_up
  late_stays j i b = rw (le-ltb i j b) (either (ltb i o))
    where
      either : (b : Bool) → cond b (byte_at m i) (byte_at m i) ≡ byte_at m i
      either true = refl
      either false = refl

  pub moves : (j i : ℕ) → o ≤ i → i < j → moved_up m o j i ≡ byte_at m (i + 50)
  unfolding moved_up
  moves j i b c = rw (le-ltb i o b, lt-ltb i j c)

  -- before the first moves
  pub none_moved : length m ≡ 1891 → m ≡ table 1891 (moved_up m o o)
  none_moved l = sym (is_table m 1891 0 l) ∙ table_same 1891 (byte_at m) (moved_up m o o) (λ i b. sym (stays i (ltb i o) refl))
    where
      stays : (i : ℕ) (b : Bool) → ltb i o ≡ b → moved_up m o o i ≡ byte_at m i
      stays i true e = early_stays o i (ltb-true i o e)
      stays i false e = late_stays o i (ltb-false i o e)

  -- one more moves
  pub one_moved : (j : ℕ) → o ≤ j → set (table 1891 (moved_up m o j)) j (byte_at m (j + 50)) ≡ table 1891 (moved_up m o (j + 1))
  one_moved j b =
      sym (table_set 1891 (moved_up m o j) (moved_up m o (j + 1)) j (byte_at m (j + 50)) (moves (j + 1) j b (omega arith))
      (λ i c d. same i d (ltb i j) refl))
    where
      same : (i : ℕ) → i ≢ j → (b : Bool) → ltb i j ≡ b → moved_up m o (j + 1) i ≡ moved_up m o j i
      same i d true e = let h = ltb-true i j e in inside (ltb i o) refl h
        where
          inside : (b : Bool) → ltb i o ≡ b → i < j → moved_up m o (j + 1) i ≡ moved_up m o j i
          inside true e h = let a = ltb-true i o e in early_stays (j + 1) i a ∙ sym (early_stays j i a)
          inside false e h = let a = ltb-false i o e in moves (j + 1) i a (omega arith) ∙ sym (moves j i a h)
      same i d false e = let h = ltb-false i j e in late_stays (j + 1) i (omega arith) ∙ sym (late_stays j i h)
