-- A name's own bytes in a report list: up to its first zero.
use Rattle.std.proofs.Common.{◌≡◌, ℕ, suc, ◌+◌, ◌≤◌, Bool, true, false, cond, not, eqb, ltb, List, [], ◌∷◌, length, get_or, take, drop, Some, None, refl, sym, ◌∙◌, arith, length-drop, ltb-false}
use Rattle.std.specs.List.{position_or_len}
use Rattle.std.specs.Option.{unwrap_or}
use lib.Seq.{get_or-take, get_or-drop, length-take-le}
use Rattle.lists.specs.Lists.{where_is}
use Rattle.image.specs.Image.{byte_at, name_from}
use Rattle.image.proofs.Table.{table_same, is_table}
use Rattle.logs.specs.Written.{text_of}

where_at : (f : ℕ → Bool) (l : List ℕ) → position_or_len f l ≡ where_is f l
unfolding where_is
where_at f [] = refl
where_at f (x ∷ l) = go (f x) (where_at f l)
  where
    go : (b : Bool) → position_or_len f l ≡ where_is f l → cond (not b) (1 + position_or_len f l) 0 ≡ cond b 0 (suc (where_is f l))
    go true e = refl
    go false e = rw e (omega arith)

where_within : (f : ℕ → Bool) (l : List ℕ) → where_is f l ≤ length l
unfolding where_is
where_within f [] = omega arith
where_within f (x ∷ l) = go (f x) (where_within f l)
  where
    go : (b : Bool) → where_is f l ≤ length l → cond b 0 (suc (where_is f l)) ≤ suc (length l)
    go true h = omega arith
    go false h = omega arith

or_end : (n k : ℕ) → n ≤ k → unwrap_or (cond (ltb n k) (Some n) None) k ≡ n
or_end n k h = go (ltb n k) refl
  where
    go : (b : Bool) → ltb n k ≡ b → unwrap_or (cond b (Some n) None) k ≡ n
    go true e = refl
    go false e = let g = ltb-false n k e in omega arith

module _ (o : List ℕ) (from : ℕ) (room : from + 16 ≤ length o) where
  abbrev zero_at : List ℕ → ℕ
  zero_at l = position_or_len (λ b. eqb b 0) l

  abbrev part : List ℕ
  part = take 16 (drop from o)

  part_long : length part ≡ 16
  part_long = let d = length-drop from o in length-take-le 16 (drop from o) (omega arith)

  name_is : (name_from o from).bytes ≡ part
  name_is =
      table_same 16 (λ i. byte_at o (from + i)) (λ i. get_or part i 0)
      (λ i h. sym (get_or-take 16 (drop from o) i 0 h ∙ get_or-drop from o i 0))
      ∙ is_table part 16 0 part_long

  text_of_part : (n : ℕ) → n ≡ unwrap_or (cond (ltb (zero_at part) (length part)) (Some (zero_at part)) None) 16
      → (take n part ≡ text_of (name_from o from)) × (length (take n part) ≤ 16)
  unfolding text_of
  text_of_part n e =
      let w = where_within (λ b. eqb b 0) part in
      let l = part_long in
      let q : n ≡ where_is (λ b. eqb b 0) part = e ∙ rw (where_at (λ b. eqb b 0) part, l) (or_end _ 16 (omega arith)) in
      let k = length-take-le n part (omega arith) in
      (rw (name_is, q), omega arith)

  -- of the part that w bytes are
  pub text_is : (w n : ℕ) → w ≡ 16
      → n ≡ unwrap_or (cond (ltb (zero_at (take w (drop from o))) (length (take w (drop from o)))) (Some (zero_at (take w (drop from o)))) None) 16
      → (take n (take w (drop from o)) ≡ text_of (name_from o from)) × (length (take n (take w (drop from o))) ≤ 16)
  text_is w n z = rw z (text_of_part n)
