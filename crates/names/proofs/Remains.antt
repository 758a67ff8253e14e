-- What remains of a text when trailing blanks are dropped: the front of it that blanks alone follow.
use Prim.Native.Nat.{ℕ, zero, suc, ◌-◌, ◌≤◌, ◌<◌}
use native.Mathlib.Nat.{le_of_suc-le-suc}
use native.Mathlib.Omega.{arith}
use mathlib.Core.Path.{◌≡◌, refl, ap}
use mathlib.Core.Bool.{Bool, true, false, cond, ◌&&◌}
use mathlib.Core.List.{List, [], ◌∷◌, ◌++◌}
use lib.ListN.{length, get_or, take, drop, replicate}
use borrow.Author.Tests.{eqb-true}
use Rattle.lists.specs.Lists.{every, any}
use Rattle.lists.proofs.Bools.{and_l, and_r, and_comm, or_false_l, or_false_r}
use Rattle.names.specs.Check.{is_blank, remains}

-- ── The byte before the blanks isn't blank ──
-- there is none, or it isn't blank
unfoldable pub Ends : List ℕ → ℕ → Type 0
Ends text zero = Unit {0}
Ends text (suc k) = is_blank (get_or text k 0) ≡ false

pub none_before : (text : List ℕ) (n : ℕ) → n ≡ 0 → Ends text n
unfolding Ends
none_before text n e = rw e tt

pub ends_at : (text : List ℕ) (n : ℕ) → 0 < n → is_blank (get_or text (n - 1) 0) ≡ false → Ends text n
unfolding Ends
ends_at text zero h e = absurd (omega arith)
ends_at text (suc k) h e = let z : suc k - 1 ≡ k = omega arith in rw z at e

pub not_all : (l : List ℕ) (k : ℕ) → suc k ≤ length l → is_blank (get_or l k 0) ≡ false → every is_blank l ≡ false
unfolding every
not_all [] k h e = absurd (omega arith)
not_all (b ∷ l) zero h e = rw e
not_all (b ∷ l) (suc k) h e = rw (not_all l k (le_of_suc-le-suc h) e) (and_comm (is_blank b) false)

all_blank : (l : List ℕ) → every is_blank l ≡ true → remains l ≡ []
unfolding every remains
all_blank [] e = refl
all_blank (b ∷ l) e = rw e

pub remains_at : (l : List ℕ) (n : ℕ) → n ≤ length l → Ends l n → every is_blank (drop n l) ≡ true → remains l ≡ take n l
unfolding remains Ends every
remains_at l zero h t e = all_blank l e
remains_at [] (suc n) h t e = absurd (omega arith)
remains_at (b ∷ l) (suc zero) h t e = rw (t, all_blank l e)
remains_at (b ∷ l) (suc (suc n)) h t e =
    let k = le_of_suc-le-suc h in
    rw (not_all l n k t, and_comm (is_blank b) false) (ap (λ r. b ∷ r) (remains_at l (suc n) k t e))

-- ── The front, and the blanks after it ──
pub remains_front : (l : List ℕ) → take (length (remains l)) l ≡ remains l
unfolding remains
remains_front [] = refl
remains_front (b ∷ l) = go (is_blank b && every is_blank l) (remains_front l)
  where
    go : (w : Bool) → take (length (remains l)) l ≡ remains l
        → take (length (cond w [] (b ∷ remains l))) (b ∷ l) ≡ cond w [] (b ∷ remains l)
    go true e = refl
    go false e = ap (λ r. b ∷ r) e

all_alike : (l : List ℕ) → every is_blank l ≡ true → l ≡ replicate (length l) 0x20
unfolding every
all_alike [] e = refl
all_alike (b ∷ l) e = rw (eqb-true b 0x20 (and_l (is_blank b) _ e)) (ap (λ r. 0x20 ∷ r) (all_alike l (and_r (is_blank b) _ e)))

-- a text is what remains of it and then blanks
pub text_is : (l : List ℕ) → (n : ℕ) × (l ≡ remains l ++ replicate n 0x20)
unfolding remains every
text_is [] = (0, refl)
text_is (b ∷ l) = go (is_blank b && every is_blank l) refl (text_is l)
  where
    go : (w : Bool) → (is_blank b && every is_blank l) ≡ w → (n : ℕ) × (l ≡ remains l ++ replicate n 0x20)
        → (n : ℕ) × (b ∷ l ≡ cond w [] (b ∷ remains l) ++ replicate n 0x20)
    go true e p = (length (b ∷ l), all_alike (b ∷ l) e)
    go false e p = (p.0, ap (λ r. b ∷ r) p.1)

-- ── Padding ──
blanks_blank : (n : ℕ) → every is_blank (replicate n 0x20) ≡ true
unfolding every
blanks_blank zero = refl
blanks_blank (suc n) = blanks_blank n

every_padded : (l : List ℕ) (n : ℕ) → every is_blank (l ++ replicate n 0x20) ≡ every is_blank l
unfolding every
every_padded [] n = blanks_blank n
every_padded (b ∷ l) n = rw (every_padded l n)

-- blanks after a text leave what remains of it
pub remains_padded : (l : List ℕ) (n : ℕ) → remains (l ++ replicate n 0x20) ≡ remains l
unfolding remains
remains_padded [] n = all_blank (replicate n 0x20) (blanks_blank n)
remains_padded (b ∷ l) n = rw (every_padded l n, remains_padded l n)

-- a text without blanks remains as it is
pub no_blank_remains : (l : List ℕ) → any is_blank l ≡ false → remains l ≡ l
unfolding remains any
no_blank_remains [] e = refl
no_blank_remains (b ∷ l) e = rw (or_false_l (is_blank b) _ e) (ap (λ r. b ∷ r) (no_blank_remains l (or_false_r (is_blank b) _ e)))
