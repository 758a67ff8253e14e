-- The entries in the bytes: one goes, one is written.
use Prim.Native.Nat.{ℕ, suc, ◌+◌, ◌*◌, ◌<◌, ◌≤◌}
use native.Mathlib.Nat.{mul-le-mul_left}
use native.Mathlib.Omega.{arith}
use mathlib.Core.Path.{◌≡◌, refl, ap, sym, ◌∙◌}
use mathlib.Core.Logic.{◌≢◌}
use mathlib.Core.Bool.{Bool, true, false}
use mathlib.Core.List.{List}
use lib.ListN.{length, get_or, set, get_or-eq_default}
use lib.Seq.{sets}
use lib.Dec.{ltb}
use borrow.Author.Tests.{ltb-true, ltb-false}
use Rattle.lists.specs.Lists.{shifted}
use Rattle.image.specs.Image.{table, byte_at, bytes_from}
use Rattle.image.proofs.Table.{table_same, table_set, table_shifted, table_const, getD_table, length_table, is_table}
use Rattle.image.proofs.Written.{before_stays, after_stays, stands_there}
use Rattle.image.proofs.Laid.{split}
use Rattle.follow.specs.Follow.{entries_from, blank, KeptOutside, closed_up}
use Rattle.follow.proofs.Closed.{before_in, before_out, early_stays, late_stays, moves}

-- an entry ends before the next begins
pub in_order : (w j k : ℕ) → j < k → w * j + w ≤ w * k
in_order w j k h = let e = mul-le-mul_left w h in omega arith

module _ (o w : ℕ) where
  abbrev entry : List ℕ → ℕ → List ℕ
  entry m k = bytes_from m (o + w * k) w

  pub entries_long : (m : List ℕ) → length (entries_from m o w) ≡ 36
  unfolding entries_from
  entries_long m = length_table 36 (entry m)

  pub entry_is : (m : List ℕ) (k : ℕ) → k < 36 → get_or (entries_from m o w) k (blank w) ≡ bytes_from m (o + w * k) w
  unfolding entries_from
  entry_is m k h = getD_table 36 (entry m) k (blank w) h

  pub entry_out : (m : List ℕ) (k : ℕ) → 36 ≤ k → get_or (entries_from m o w) k (blank w) ≡ blank w
  entry_out m k h = let l = entries_long m in get_or-eq_default (entries_from m o w) (blank w) (omega arith)

  -- the entry at k goes, and those after it move up
  module _ (m : List ℕ) (full : length m ≡ 1891) (fits : o + w * 36 ≤ 1891) (k : ℕ) (b : k < 36) where
    abbrev pub closed : List ℕ
    closed = table (length m) (closed_up m (o + w * k) w (o + w * 36) (o + w * 36))

    closed_is : (i : ℕ) → i < 1891 → byte_at closed i ≡ closed_up m (o + w * k) w (o + w * 36) (o + w * 36) i
    closed_is i d = getD_table (length m) (closed_up m (o + w * k) w (o + w * 36) (o + w * 36)) i 0 (omega arith)

    pub entry_gone : entries_from closed o w ≡ shifted (blank w) (entries_from m o w) k
    unfolding entries_from
    entry_gone = table_shifted 35 (entry m) (entry closed) k (blank w) b early late last
      where
        early : (j : ℕ) → j < k → entry closed j ≡ entry m j
        early j d =
            let p = in_order w j k d in
            let q = in_order w k 36 b in
            table_same w _ _ (λ i h. closed_is (o + w * j + i) (omega arith)
            ∙ early_stays m (o + w * k) w (o + w * 36) (o + w * 36) (o + w * j + i) (omega arith))

        late : (j : ℕ) → k ≤ j → j < 35 → entry closed j ≡ entry m (suc j)
        late j d f =
            let p = mul-le-mul_left w d in
            let q = in_order w (suc j) 36 (omega arith) in
            table_same w _ _ (λ i h.
            let z : o + w * j + i + w ≡ o + w * suc j + i = omega arith in
            closed_is (o + w * j + i) (omega arith)
            ∙ moves m (o + w * k) w (o + w * 36) (o + w * 36) (o + w * j + i) (omega arith) (omega arith)
            ∙ before_in m (o + w * 36) (o + w * j + i + w) (omega arith) ∙ ap (byte_at m) z)

        last : entry closed 35 ≡ blank w
        last =
            let p : w * k ≤ w * 35 = mul-le-mul_left w (omega arith) in
            table_same w _ (λ i. 0) (λ i h.
            closed_is (o + w * 35 + i) (omega arith)
            ∙ moves m (o + w * k) w (o + w * 36) (o + w * 36) (o + w * 35 + i) (omega arith) (omega arith)
            ∙ before_out m (o + w * 36) (o + w * 35 + i + w) (omega arith)) ∙ table_const w 0

    pub gone_keeps : KeptOutside o (o + w * 36) m closed
    gone_keeps = record {
      before = λ i d. at i (λ l. early_stays m (o + w * k) w (o + w * 36) (o + w * 36) i (omega arith));
      after = λ i d. at i (λ l. late_stays m (o + w * k) w (o + w * 36) (o + w * 36) i d);
    }
      where
        at : (i : ℕ) → (i < 1891 → closed_up m (o + w * k) w (o + w * 36) (o + w * 36) i ≡ byte_at m i) → byte_at closed i ≡ byte_at m i
        at i f = go (ltb i 1891) refl
          where
            go : (x : Bool) → ltb i 1891 ≡ x → byte_at closed i ≡ byte_at m i
            go true h = let l = ltb-true i 1891 h in closed_is i l ∙ f l
            go false h =
                let l = ltb-false i 1891 h in
                let n = length_table (length m) (closed_up m (o + w * k) w (o + w * 36) (o + w * 36)) in
                get_or-eq_default closed 0 (omega arith) ∙ sym (get_or-eq_default m 0 (omega arith))

  -- an entry is written
  module _ (m : List ℕ) (full : length m ≡ 1891) (fits : o + w * 36 ≤ 1891) (k : ℕ) (b : k < 36) (x : List ℕ) (long : length x ≡ w) where
    pub entry_put : entries_from (sets m (o + w * k) x) o w ≡ set (entries_from m o w) k x
    unfolding entries_from
    entry_put = table_set 36 (entry m) (entry (sets m (o + w * k) x)) k x there others
      where
        there : entry (sets m (o + w * k) x) k ≡ x
        there =
            let q = in_order w k 36 b in
            table_same w _ (λ i. byte_at x i) (λ i h. stands_there m (o + w * k) x i (omega arith) (omega arith)) ∙ is_table x w 0 long

        others : (j : ℕ) → j < 36 → j ≢ k → entry (sets m (o + w * k) x) j ≡ entry m j
        others j c d =
            split j k d
            (λ h. let p = in_order w j k h in table_same w _ _ (λ i l. before_stays m (o + w * k) x (o + w * j + i) (omega arith)))
            (λ h. let p = in_order w k j h in table_same w _ _ (λ i l. after_stays m (o + w * k) x (o + w * j + i) (omega arith)))

    pub put_keeps : KeptOutside o (o + w * 36) m (sets m (o + w * k) x)
    put_keeps =
        let q = in_order w k 36 b in
        record {
          before = λ i d. before_stays m (o + w * k) x i (omega arith);
          after = λ i d. after_stays m (o + w * k) x i (omega arith);
        }

pub kept_all : (o e : ℕ) (m : List ℕ) → KeptOutside o e m m
kept_all o e m = record { before = λ i d. refl; after = λ i d. refl }

pub kept_twice : (o e : ℕ) (l m n : List ℕ) → KeptOutside o e l m → KeptOutside o e m n → KeptOutside o e l n
kept_twice o e l m n p q = record { before = λ i d. q.before i d ∙ p.before i d; after = λ i d. q.after i d ∙ p.after i d }
