-- The format of a code, and a code that is none's.
use Prim.Native.Nat.{ℕ, zero, suc, ◌<◌}
use native.Mathlib.Omega.{arith}
use mathlib.Core.Path.{◌≡◌, refl}
use mathlib.Core.Bool.{Bool, true, false, cond}
use mathlib.Core.List.{List, [], ◌∷◌}
use lib.ListN.{length, get_or}
use lib.Dec.{eqb}
use borrow.Author.Tests.{eqb-true}
use Rattle.std.specs.Prelude.{Some, None}
use Rattle.items.specs.Formats.{code, formats, coded, format_of, size_of, is_unsigned, is_number}
use Rattle.items.specs.declared.formats.Format.{Format}
use Rattle.items.specs.declared.formats.Format.TheVariants as format

coded_some : (c : ℕ) (l : List Format) (f : Format) → coded c l ≡ Some f → c ≡ code f
unfolding coded
coded_some c [] f e = cc
coded_some c (g ∷ l) f e = go (eqb c (code g)) refl e (coded_some c l f)
  where
    go : (b : Bool) → eqb c (code g) ≡ b → cond b (Some g) (coded c l) ≡ Some f → (coded c l ≡ Some f → c ≡ code f) → c ≡ code f
    go true q e more = let s : g ≡ f = cc in rw (← s) (eqb-true c (code g) q)
    go false q e more = more e

coded_none : (c : ℕ) (l : List Format) → coded c l ≡ None → (i : ℕ) (d : Format) → i < length l → eqb c (code (get_or l i d)) ≡ false
unfolding coded
coded_none c [] e i d h = absurd (omega arith)
coded_none c (g ∷ l) e i d h = go (eqb c (code g)) refl e i h (λ k. coded_none c l k)
  where
    go : (b : Bool) → eqb c (code g) ≡ b → cond b (Some g) (coded c l) ≡ None → (i : ℕ) → i < suc (length l)
        → (coded c l ≡ None → (k : ℕ) (d : Format) → k < length l → eqb c (code (get_or l k d)) ≡ false)
        → eqb c (code (get_or (g ∷ l) i d)) ≡ false
    go true q e i h more = cc
    go false q e zero h more = q
    go false q e (suc i) h more = more e i d (omega arith)

pub of_some : (c : ℕ) (f : Format) → format_of c ≡ Some f → c ≡ code f
of_some c f e = coded_some c formats f e

module _ (c : ℕ) (e : format_of c ≡ None) where
  pub other : (i : ℕ) → i < 14 → eqb c (code (get_or formats i format.List)) ≡ false
  other i h = coded_none c formats e i format.List h

  pub none_size : size_of c ≡ 0
  unfolding size_of
  none_size = rw (
    other 0 (omega arith),
    other 1 (omega arith),
    other 2 (omega arith),
    other 3 (omega arith),
    other 4 (omega arith),
    other 5 (omega arith),
    other 6 (omega arith),
    other 7 (omega arith),
    other 8 (omega arith),
    other 9 (omega arith),
    other 10 (omega arith),
    other 11 (omega arith),
    other 12 (omega arith),
    other 13 (omega arith),
  )

  pub none_unsigned : is_unsigned c ≡ false
  none_unsigned = rw (other 10 (omega arith), other 11 (omega arith), other 12 (omega arith), other 13 (omega arith))

  pub none_number : is_number c ≡ false
  unfolding is_number
  none_number = rw (none_size, other 0 (omega arith), other 1 (omega arith), other 3 (omega arith))
