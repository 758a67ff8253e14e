-- Bytes that close up over an entry that goes.
use Prim.Native.Nat.{ℕ, ◌+◌, ◌-◌, ◌<◌, ◌≤◌}
use native.Mathlib.Omega.{arith}
use mathlib.Core.Path.{◌≡◌, refl, ap, sym, ◌∙◌}
use mathlib.Core.Logic.{◌≢◌}
use mathlib.Core.Bool.{Bool, true, false, cond}
use mathlib.Core.List.{List}
use lib.ListN.{length, set, take, drop, replicate, length-replicate, get_or-replicate}
use lib.Seq.{sets, sets-eq, length-sets}
use borrow.Rule.Slice.PartMut.{put_mid}
use Rattle.std.proofs.lemmas.Slice.{put_mid-paste}
use Rattle.std.proofs.lemmas.List.{append_assoc}
use Rattle.std.proofs.lemmas.List.Edits.{paste_all}
use lib.Dec.{ltb}
use borrow.Author.Tests.{lt-ltb, le-ltb, ltb-true, ltb-false}
use Rattle.image.specs.Image.{table, byte_at}
use Rattle.image.proofs.Table.{length_table, table_same, table_set, is_table, is_filled, getD_table}
use Rattle.image.proofs.Written.{before_stays, after_stays, stands_there}
use Rattle.follow.specs.Follow.{byte_before, closed_up}

either : {A : Type 0} (b : Bool) (x : A) → cond b x x ≡ x
either true x = refl
either false x = refl

pub before_in : (m : List ℕ) (e k : ℕ) → k < e → byte_before m e k ≡ byte_at m k
unfolding byte_before
before_in m e k h = rw (lt-ltb k e h)

pub before_out : (m : List ℕ) (e k : ℕ) → e ≤ k → byte_before m e k ≡ 0
unfolding byte_before
before_out m e k h = rw (le-ltb k e h)

module _ (m : List ℕ) (o w e : ℕ) where
  pub early_stays : (j i : ℕ) → i < o → closed_up m o w e j i ≡ byte_at m i
  unfolding closed_up
  early_stays j i b = rw (lt-ltb i o b)

  pub late_stays : (j i : ℕ) → j ≤ i → closed_up m o w e j i ≡ byte_at m i
  unfolding closed_up
  late_stays j i b = rw (le-ltb i j b) (either (ltb i o) (byte_at m i))

  pub moves : (j i : ℕ) → o ≤ i → i < j → closed_up m o w e j i ≡ byte_before m e (i + w)
  unfolding closed_up
  moves j i b c = rw (le-ltb i o b, lt-ltb i j c)

  -- before the first moves
  pub none_moved : m ≡ table (length m) (closed_up m o w e o)
  none_moved = sym (is_table m (length m) 0 refl)
      ∙ table_same (length m) (byte_at m) (closed_up m o w e o) (λ i b. sym (stays i (ltb i o) refl))
    where
      stays : (i : ℕ) (b : Bool) → ltb i o ≡ b → closed_up m o w e o i ≡ byte_at m i
      stays i true h = early_stays o i (ltb-true i o h)
      stays i false h = late_stays o i (ltb-false i o h)

  -- what is still to move is as it was
  pub unmoved : (j k : ℕ) → j ≤ k → e ≤ length m → byte_before (table (length m) (closed_up m o w e j)) e k ≡ byte_before m e k
  unmoved j k b f = go (ltb k e) refl
    where
      go : (d : Bool) → ltb k e ≡ d → byte_before (table (length m) (closed_up m o w e j)) e k ≡ byte_before m e k
      go true h =
          let l = ltb-true k e h in
          before_in _ e k l ∙ getD_table (length m) (closed_up m o w e j) k 0 (omega arith) ∙ late_stays j k b ∙ sym (before_in m e k l)
      go false h = let l = ltb-false k e h in before_out _ e k l ∙ sym (before_out m e k l)

  -- one more moves
  pub one_moved : (j : ℕ) → o ≤ j
      → set (table (length m) (closed_up m o w e j)) j (byte_before m e (j + w)) ≡ table (length m) (closed_up m o w e (j + 1))
  one_moved j b =
      sym (table_set (length m) (closed_up m o w e j) (closed_up m o w e (j + 1)) j (byte_before m e (j + w)) (moves (j + 1) j b (omega arith))
      (λ i c d. same i d (ltb i j) refl))
    where
      same : (i : ℕ) → i ≢ j → (b : Bool) → ltb i j ≡ b → closed_up m o w e (j + 1) i ≡ closed_up m o w e j i
      same i d true h = let l = ltb-true i j h in inside (ltb i o) refl l
        where
          inside : (b : Bool) → ltb i o ≡ b → i < j → closed_up m o w e (j + 1) i ≡ closed_up m o w e j i
          inside true h l = let a = ltb-true i o h in early_stays (j + 1) i a ∙ sym (early_stays j i a)
          inside false h l = let a = ltb-false i o h in moves (j + 1) i a (omega arith) ∙ sym (moves j i a l)
      same i d false h = let l = ltb-false i j h in late_stays (j + 1) i (omega arith) ∙ sym (late_stays j i l)

-- a part that is written over
part_written : (m : List ℕ) (o k : ℕ) (vs : List ℕ) → k ≡ length vs → o + length vs ≤ length m → put_mid o k m vs ≡ sets m o vs
part_written m o k vs e h =
    put_mid-paste o k m vs vs (length vs) refl (sym e) refl
    ∙ paste_all m o vs (length vs) refl
    ∙ sym (append_assoc (take o m) vs (drop (o + length vs) m))
    ∙ sym (sets-eq vs m o h)

-- what is moved as far as bytes follow, and zero from there on, has closed up
module _ (m : List ℕ) (o w e r : ℕ) (lo : o ≤ r) (hi : r ≤ e) (far : e ≤ r + w) where
  abbrev part : List ℕ
  part = table (length m) (closed_up m o w e r)

  part_at : (i : ℕ) → i < length m → byte_at part i ≡ closed_up m o w e r i
  part_at i b = getD_table (length m) (closed_up m o w e r) i 0 b

  -- where the bytes from there on are zero, and the others are as they were moved
  closed_as : (n : List ℕ) → length n ≡ length m → ((i : ℕ) → i < r → byte_at n i ≡ byte_at part i)
      → ((i : ℕ) → r ≤ i → i < e → byte_at n i ≡ 0) → ((i : ℕ) → e ≤ i → byte_at n i ≡ byte_at part i)
      → n ≡ table (length m) (closed_up m o w e e)
  closed_as n l before zeros after = is_filled n (length m) (closed_up m o w e e) 0 l (λ i b. go i b (ltb i r) refl (ltb i e) refl)
    where
      go : (i : ℕ) → i < length m → (x : Bool) → ltb i r ≡ x → (y : Bool) → ltb i e ≡ y → byte_at n i ≡ closed_up m o w e e i
      go i b true p y q =
          let k = ltb-true i r p in
          before i k ∙ part_at i b ∙ moved_both i k
        where
          moved_both : (i : ℕ) → i < r → closed_up m o w e r i ≡ closed_up m o w e e i
          moved_both i k = inside (ltb i o) refl
            where
              inside : (z : Bool) → ltb i o ≡ z → closed_up m o w e r i ≡ closed_up m o w e e i
              inside true s = let l = ltb-true i o s in early_stays m o w e r i l ∙ sym (early_stays m o w e e i l)
              inside false s = let l = ltb-false i o s in moves m o w e r i l k ∙ sym (moves m o w e e i l (omega arith))
      go i b false p true q =
          let k = ltb-false i r p in
          let l = ltb-true i e q in
          zeros i k l ∙ sym (moves m o w e e i (omega arith) l ∙ before_out m e (i + w) (omega arith))
      go i b false p false q =
          let k = ltb-false i r p in
          let l = ltb-false i e q in
          after i l ∙ part_at i b ∙ late_stays m o w e r i k ∙ sym (late_stays m o w e e i l)

  pub closed_whole : (vs : List ℕ) → e ≤ length m → vs ≡ replicate (e - r) 0
      → put_mid r (e - r) part vs ≡ table (length m) (closed_up m o w e e)
  closed_whole vs b z =
      let l = length_table (length m) (closed_up m o w e r) in
      let k = ap length z ∙ length-replicate {A = ℕ} (e - r) 0 in
      let s = length-sets part r vs in
      part_written part r (e - r) vs (sym k) (omega arith)
      ∙ closed_as (sets part r vs) (omega arith) (λ i c. before_stays part r vs i c)
      (λ i c d. let q : r + (i - r) ≡ i = omega arith in
      rw q at (stands_there part r vs (i - r) (omega arith) (omega arith))
      ∙ ap (λ t. byte_at t (i - r)) z ∙ get_or-replicate {A = ℕ} (e - r) (i - r) 0 0 (omega arith))
      (λ i c. after_stays part r vs i (omega arith))
