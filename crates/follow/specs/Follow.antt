-- A table beside the records: it follows them.
use Rattle.std.specs.Prelude.{ℕ, ◌+◌, ◌*◌, ◌-◌, ◌<◌, ◌≤◌, ◌≡◌, Bool, cond, List, replicate, set, ltb}
use Rattle.lists.specs.Lists.{without, with_new, shifted}
use Rattle.image.specs.Image.{table, byte_at, bytes_from}

module _ {A : Type 0} where
  -- What an effect does to the records, done to a list beside them: the entry at position g goes, and x is put last if a
  -- record is made. Where g is the number of records, none goes.
  unfoldable pub followed : ℕ → Bool → A → List A → List A
  followed g made x l = with_new made x (without g l)

  -- The same in a table whose first n entries are in use, with z in the others.
  unfoldable pub dropped : A → ℕ → ℕ → List A → List A
  dropped z n g t = cond (ltb g n) (shifted z t g) t

  unfoldable pub added : ℕ → Bool → A → List A → List A
  added k made x t = cond made (set t k x) t

-- how many are left when the one at g goes
unfoldable pub left_of : ℕ → ℕ → ℕ
left_of n g = cond (ltb g n) (n - 1) n

abbrev pub followed_in : {A : Type 0} → A → ℕ → ℕ → Bool → A → List A → List A
followed_in z n g made x t = added (left_of n g) made x (dropped z n g t)

-- ── In the bytes ──
-- one entry for each of 36 records, of w bytes each, from o on
unfoldable pub entries_from : List ℕ → ℕ → ℕ → List (List ℕ)
entries_from m o w = table 36 (λ k. bytes_from m (o + w * k) w)

-- no entry
abbrev pub blank : ℕ → List ℕ
blank w = replicate w 0

-- the bytes before o and those from e on are as they were
pub record KeptOutside (o e : ℕ) (m n : List ℕ) : Type 0 where
  pub before : (i : ℕ) → i < o → byte_at n i ≡ byte_at m i
  pub after : (i : ℕ) → e ≤ i → byte_at n i ≡ byte_at m i

-- byte k of those before e, else 0
unfoldable pub byte_before : List ℕ → ℕ → ℕ → ℕ
byte_before m e k = cond (ltb k e) (byte_at m k) 0

-- byte i when each from o to j has given way to the one w after it, and past e to 0
unfoldable pub closed_up : List ℕ → ℕ → ℕ → ℕ → ℕ → ℕ → ℕ
closed_up m o w e j i = cond (ltb i o) (byte_at m i) (cond (ltb i j) (byte_before m e (i + w)) (byte_at m i))
