-- Laws of bytes written over others.
use Prim.Native.Nat.{ℕ, zero, suc, ◌+◌, ◌<◌, ◌≤◌}
use native.Mathlib.Nat.{le_of_suc-le-suc}
use native.Mathlib.Omega.{arith}
use mathlib.Core.Path.{◌≡◌, refl, ap, sym, ◌∙◌}
use mathlib.Core.List.{List, [], ◌∷◌, ◌++◌}
use lib.ListN.{length, get_or, take, set, length-set}
use lib.Seq.{sets, take-suc, length-take-le, get_or-set_same, get_or-set_other}
use Rattle.image.specs.Image.{byte_at}

module _ {A : Type 0} where
  -- one more is written after those before it
  sets_last : (l : List A) (o : ℕ) (vs : List A) (v : A) → sets l o (vs ++ (v ∷ [])) ≡ set (sets l o vs) (o + length vs) v
  sets_last l o [] v = ap (λ k. set l k v) (sym e)
    where
      e : o + 0 ≡ o
      e = omega arith
  sets_last l o (x ∷ vs) v = sets_last (set l o x) (suc o) vs v ∙ ap (λ k. set (sets (set l o x) (suc o) vs) k v) e
    where
      e : suc o + length vs ≡ o + suc (length vs)
      e = omega arith

  pub writes : (l : List A) (o : ℕ) (vs : List A) (i : ℕ) (d : A) → i < length vs
      → set (sets l o (take i vs)) (o + i) (get_or vs i d) ≡ sets l o (take (i + 1) vs)
  writes l o vs i d h =
      let e : i + 1 ≡ suc i = omega arith in
      let n = length-take-le i vs (omega arith) in
      rw (e, take-suc vs i d h, sets_last l o (take i vs) (get_or vs i d), n)

-- bytes written from o on: those before and after stay, and those there are the ones written
pub before_stays : (m : List ℕ) (o : ℕ) (vs : List ℕ) (i : ℕ) → i < o → byte_at (sets m o vs) i ≡ byte_at m i
before_stays m o [] i h = refl
before_stays m o (x ∷ vs) i h = before_stays (set m o x) (suc o) vs i (omega arith) ∙ get_or-set_other m o i x 0 (omega arith)

pub after_stays : (m : List ℕ) (o : ℕ) (vs : List ℕ) (i : ℕ) → o + length vs ≤ i → byte_at (sets m o vs) i ≡ byte_at m i
after_stays m o [] i h = refl
after_stays m o (x ∷ vs) i h = after_stays (set m o x) (suc o) vs i (omega arith) ∙ get_or-set_other m o i x 0 (omega arith)

pub stands_there : (m : List ℕ) (o : ℕ) (vs : List ℕ) (i : ℕ) → o + length vs ≤ length m → i < length vs
    → byte_at (sets m o vs) (o + i) ≡ byte_at vs i
stands_there m o [] i h b = absurd (none b)
  where
    none : i < 0 → ⊥
    none p = omega arith
stands_there m o (x ∷ vs) zero h b =
    let e : o + 0 ≡ o = omega arith in
    rw e (before_stays (set m o x) (suc o) vs o (omega arith) ∙ get_or-set_same m o x 0 (omega arith))
stands_there m o (x ∷ vs) (suc i) h b =
    let e : o + suc i ≡ suc o + i = omega arith in
    let l = length-set m o x in
    rw e (stands_there (set m o x) (suc o) vs i (omega arith) (le_of_suc-le-suc b))
