-- A row that accepts: none of its grounds applies.
use Prim.Native.Nat.{ℕ, ◌≤◌}
use native.Mathlib.Omega.{arith}
use mathlib.Core.Path.{◌≡◌, refl}
use mathlib.Core.Bool.{Bool, true, false, ◌&&◌}
use mathlib.Core.List.{List, [], ◌∷◌}
use lib.Dec.{leb}
use borrow.Author.Tests.{leb-true, le-leb}
use Rattle.lists.proofs.Bools.{clash, and_l, and_r, and_i}
use Rattle.rules.specs.declared.row.Seen.{Seen}
use Rattle.rules.specs.declared.row.Effect.{Effect}
use Rattle.rules.specs.Row.{Ground, when, unless, judge, Row}
use Rattle.rules.specs.Rows.{row_of}
use Rattle.rules.proofs.Walk.{EachRow, walk}
use Rattle.rules.proofs.Lowest.{number_of, rising_from, rows_rise}

abbrev pub Clear : List Ground → Type 0
Clear [] = Unit {0}
Clear (when b n ∷ gs) = (b ≡ false) × Clear gs
Clear (unless b n ∷ gs) = (b ≡ true) × Clear gs

-- every number is 1 or more, so that only an answer of 0 is no refusal
abbrev positive : List Ground → Bool
positive [] = true
positive (when b n ∷ gs) = leb 1 n && positive gs
positive (unless b n ∷ gs) = leb 1 n && positive gs

pub clear : (gs : List Ground) → positive gs ≡ true → judge gs ≡ 0 → Clear gs
clear [] h e = tt
clear (when true n ∷ gs) h e = let p = leb-true 1 n (and_l (leb 1 n) (positive gs) h) in absurd (omega arith)
clear (when false n ∷ gs) h e = (refl, clear gs (and_r (leb 1 n) (positive gs) h) e)
clear (unless true n ∷ gs) h e = (refl, clear gs (and_r (leb 1 n) (positive gs) h) e)
clear (unless false n ∷ gs) h e = let p = leb-true 1 n (and_l (leb 1 n) (positive gs) h) in absurd (omega arith)

rising_positive : (m : ℕ) (gs : List Ground) → 1 ≤ m → rising_from m gs ≡ true → positive gs ≡ true
rising_positive m [] p h = refl
rising_positive m (g ∷ gs) p h =
    let q = leb-true m (number_of g) (and_l (leb m (number_of g)) _ h) in
    go g (omega arith) (rising_positive (number_of g) gs (omega arith) (and_r (leb m (number_of g)) _ h))
  where
    go : (g : Ground) → 1 ≤ number_of g → positive gs ≡ true → positive (g ∷ gs) ≡ true
    go (when b n) q r = and_i (le-leb 1 n q) r
    go (unless b n) q r = and_i (le-leb 1 n q) r

-- where no ground applies, the answer is 0
pub judge_clear : (gs : List Ground) → Clear gs → judge gs ≡ 0
judge_clear [] c = refl
judge_clear (when b n ∷ gs) c = rw c.0 (judge_clear gs c.1)
judge_clear (unless b n ∷ gs) c = rw c.0 (judge_clear gs c.1)

pub row_clear : (n : ℕ) (x : Seen) → judge (row_of n x).grounds ≡ 0 → Clear (row_of n x).grounds
row_clear n x = let gs = (row_of n x).grounds in clear gs (rising_positive 1 gs (omega arith) (rows_rise n x))

-- ── The walk over rows that accept ──
-- P of a row's number and of its effect, where none of its grounds applies
abbrev pub Accepting : (ℕ → Effect → Type 0) → ℕ → Row → Type 0
Accepting P n r = Clear r.grounds → P n r.effect

pub walk_accepting : (P : ℕ → Effect → Type 0) (x : Seen) → EachRow (Accepting P) x
    → (n : ℕ) → judge (row_of n x).grounds ≡ 0 → P n (row_of n x).effect
walk_accepting P x each n e = walk (Accepting P) x each n (row_clear n x e)

-- what is no row's number never accepts
pub never : {X : Type 0} → Clear (when true 1 ∷ []) → X
never k = clash refl k.0
