-- Names that are the same leave the same mark.
use Rattle.std.proofs.Common.{◌≡◌, ℕ, zero, suc, ◌+◌, ◌-◌, ◌<◌, ◌≢◌, Bool, true, false, not, ltb, List, get_or, sym, refl, ap, ◌∙◌, suc-le-suc, le_of_suc-le-suc, arith, ltb-false, ltb-true}
use Rattle.std.specs.Int.{w64, from_le_bytes}
use Rattle.lists.specs.Lists.{every}
use Rattle.lists.proofs.Bools.{same_test}
use Rattle.lists.proofs.Tests.{list_is}
use Rattle.records.specs.declared.carrier.Carrier.{Carrier}
use Rattle.records.specs.Names.{same_name}
use Rattle.rules.specs.Sound.{other_name}
use Rattle.image.specs.Image.{table, byte_at, bytes_from, name_from, carrier_start}
use Rattle.rules.proofs.Names.{name_same}
use Rattle.image.proofs.Table.{getD_table, table_same}
use Rattle.passes.specs.Passes.{record_on, number, word, mark, mark_key, latest}
use Rattle.passes.proofs.Turns.{every_on, every_of}
use Rattle.passes.proofs.Latest.{latest_low, later_others}

-- numbers of the same bytes are the same, and back
number_same : (n : ℕ) (f g : ℕ → ℕ) → ((i : ℕ) → i < n → f i ≡ g i) → number n f ≡ number n g
unfolding number
number_same zero f g h = refl
number_same (suc n) f g h = rw (h 0 (omega arith), number_same n (λ i. f (suc i)) (λ i. g (suc i)) (λ i b. h (suc i) (suc-le-suc b)))

number_is : (n : ℕ) (f g : ℕ → ℕ) → ((i : ℕ) → i < n → f i < 256) → ((i : ℕ) → i < n → g i < 256) → number n f ≡ number n g
    → (i : ℕ) → i < n → f i ≡ g i
unfolding number
number_is zero f g a b e i h = absurd (omega arith)
number_is (suc n) f g a b e zero h = let x = a 0 (omega arith) in let y = b 0 (omega arith) in omega arith
number_is (suc n) f g a b e (suc i) h =
    let x = a 0 (omega arith) in
    let y = b 0 (omega arith) in
    number_is n (λ i. f (suc i)) (λ i. g (suc i)) (λ i c. a (suc i) (suc-le-suc c)) (λ i c. b (suc i) (suc-le-suc c)) (omega arith) i
    (le_of_suc-le-suc h)

-- eight bytes read as one number
pub word_read : (f : ℕ → ℕ) → from_le_bytes w64 (table 8 f) ≡ number 8 f
unfolding table number
word_read f = omega arith

-- what holds of each of four
pub four : (Q : ℕ → Type 0) → Q 0 → Q 1 → Q 2 → Q 3 → (i : ℕ) → i < 4 → Q i
four Q a b c d zero l = a
four Q a b c d (suc zero) l = b
four Q a b c d (suc (suc zero)) l = c
four Q a b c d (suc (suc (suc zero))) l = d
four Q a b c d (suc (suc (suc (suc i)))) l = absurd (omega arith)

module _ (m : List ℕ) where
  abbrev pub Small : ℕ → Type 0
  Small o = (i : ℕ) → i < 8 → byte_at m (o + i) < 256

  words_same : (o p : ℕ) → same_name (name_from m o) (name_from m p) ≡ true → (word m o ≡ word m p) × (word m (o + 8) ≡ word m (p + 8))
  unfolding same_name
  words_same o p e = (
    number_same 8 (λ i. byte_at m (o + i)) (λ i. byte_at m (p + i)) (λ i h. each i (omega arith)),
    number_same 8 (λ i. byte_at m (o + 8 + i)) (λ i. byte_at m (p + 8 + i))
        (λ i h. let x : o + 8 + i ≡ o + (8 + i) = omega arith in let y : p + 8 + i ≡ p + (8 + i) = omega arith in
        rw (x, y) (each (8 + i) (omega arith))),
  )
    where
      each : (i : ℕ) → i < 16 → byte_at m (o + i) ≡ byte_at m (p + i)
      each i h =
          sym (getD_table 16 (λ i. byte_at m (o + i)) i 0 h) ∙ ap (λ l. get_or l i 0) (list_is (bytes_from m o 16) (bytes_from m p 16) e)
          ∙ getD_table 16 (λ i. byte_at m (p + i)) i 0 h

  mark_same : (o p : ℕ) → same_name (name_from m o) (name_from m p) ≡ true → mark m o ≡ mark m p
  unfolding mark
  mark_same o p e = let w = words_same o p e in rw (w.0, w.1)

  -- names are compared as words
  pub names_apart : (o p : ℕ) → (word m o ≡ word m p → word m (o + 8) ≢ word m (p + 8)) → not (same_name (name_from m o) (name_from m p)) ≡ true
  names_apart o p h = go (same_name (name_from m o) (name_from m p)) refl
    where
      go : (b : Bool) → same_name (name_from m o) (name_from m p) ≡ b → not b ≡ true
      go true e = absurd (let w = words_same o p e in h w.0 w.1)
      go false e = refl

  pub names_alike : (o p : ℕ) → Small o → Small (o + 8) → Small p → Small (p + 8) → word m o ≡ word m p → word m (o + 8) ≡ word m (p + 8)
      → same_name (name_from m o) (name_from m p) ≡ true
  names_alike o p a b c d e f = name_same (name_from m o) (name_from m p)
      (ap (λ l. record { bytes = l }) (table_same 16 (λ i. byte_at m (o + i)) (λ i. byte_at m (p + i)) (λ i h. half i h (ltb i 8) refl)))
    where
      half : (i : ℕ) → i < 16 → (b : Bool) → ltb i 8 ≡ b → byte_at m (o + i) ≡ byte_at m (p + i)
      half i h true q = number_is 8 (λ i. byte_at m (o + i)) (λ i. byte_at m (p + i)) a c e i (ltb-true i 8 q)
      half i h false q =
          let l = ltb-false i 8 q in
          let x : o + 8 + (i - 8) ≡ o + i = omega arith in
          let y : p + 8 + (i - 8) ≡ p + i = omega arith in
          rw (x, y) at (number_is 8 (λ i. byte_at m (o + 8 + i)) (λ i. byte_at m (p + 8 + i)) b d f (i - 8) (omega arith))

  -- it is enough to look at those up to the latest with the same mark
  pub marked_enough : (k : ℕ) → every (λ c. other_name c (record_on m k)) (table (latest (mark_key m) (mark_key m k) k) (record_on m))
      ≡ every (λ c. other_name c (record_on m k)) (table k (record_on m))
  unfolding other_name
  marked_enough k =
      same_test _ _
      (λ e. every_of other (record_on m) k (λ i h. near i h e (ltb i j) refl))
      (λ e. every_of other (record_on m) j (λ i h. every_on other (record_on m) k e i
      (let b = latest_low (mark_key m) (mark_key m k) k in omega arith)))
    where
      other : Carrier → Bool
      other c = other_name c (record_on m k)

      j : ℕ
      j = latest (mark_key m) (mark_key m k) k

      near : (i : ℕ) → i < k → every other (table j (record_on m)) ≡ true → (b : Bool) → ltb i j ≡ b → other (record_on m i) ≡ true
      near i h e true q = every_on other (record_on m) j e i (ltb-true i j q)
      near i h e false q = go (same_name (name_from m (carrier_start i)) (name_from m (carrier_start k))) refl
        where
          go : (b : Bool) → same_name (name_from m (carrier_start i)) (name_from m (carrier_start k)) ≡ b → not b ≡ true
          go true t = absurd (later_others (mark_key m) (mark_key m k) k i (ltb-false i j q) h
              (mark_same (carrier_start i) (carrier_start k) t))
          go false t = refl
