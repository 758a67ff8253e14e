-- What stands at a position: the head of an item that is written there.
use Prim.Native.Nat.{ℕ, zero, suc, ◌+◌, ◌*◌, ◌/◌, ◌%◌, ◌^◌, ◌≤◌, ◌<◌}
use native.Mathlib.Omega.{arith}
use native.Mathlib.Nat.{pow-suc, zero-add, add-zero}
use mathlib.Core.Path.{◌≡◌, refl, sym, ap, ap₂, ◌∙◌}
use mathlib.Core.List.{List, [], ◌∷◌, ◌++◌, append_assoc}
use lib.ListN.{length, get_or, drop, length-append, length-drop}
use lib.Seq.{get_or-drop, get_or_at, drop-drop, drop_at}
use borrow.Author.Tests.{lt-leb}
use Rattle.items.specs.Heads.{number_at, head_at}
use Rattle.items.specs.Written.{in_bytes, heading}

pub length_in_bytes : (k n : ℕ) → length (in_bytes k n) ≡ k
unfolding in_bytes
length_in_bytes zero n = refl
length_in_bytes (suc k) n = simp (length-append, length_in_bytes k (n / 256)) (omega arith)

-- a number is read at a position as where the message begins there
from_there : (m : List ℕ) (at k : ℕ) → number_at m at k ≡ number_at (drop at m) 0 k
unfolding number_at
from_there m at zero = refl
from_there m at (suc k) =
    ap₂ (λ (x y : ℕ). x * 256 + y) (from_there m at k) (sym (get_or-drop at m (0 + k) 0 ∙ ap (λ i. get_or m (at + i) 0) (zero-add k)))

number_back : (k n : ℕ) (rest : List ℕ) → n < 256 ^ k → number_at (in_bytes k n ++ rest) 0 k ≡ n
unfolding number_at in_bytes
number_back zero n rest h = omega arith
number_back (suc k) n rest h =
    let q : n < 256 ^ k * 256 = rw (pow-suc 256 k) at h in
    let l : n / 256 < 256 ^ k = omega arith in
    let a : in_bytes (suc k) n ++ rest ≡ in_bytes k (n / 256) ++ (n % 256 ∷ rest) = append_assoc (in_bytes k (n / 256)) (n % 256 ∷ []) rest in
    let b : number_at (in_bytes (suc k) n ++ rest) 0 k ≡ n / 256 = ap (λ m. number_at m 0 k) a ∙ number_back k (n / 256) (n % 256 ∷ rest) l in
    let c : get_or (in_bytes (suc k) n ++ rest) (0 + k) 0 ≡ n % 256 =
    rw (zero-add k) (ap (λ m. get_or m k 0) a ∙ get_or_at (in_bytes k (n / 256)) (n % 256) rest 0 k (length_in_bytes k (n / 256))) in
    ap₂ (λ (x y : ℕ). x * 256 + y) b c ∙ omega arith

-- ── The head that is written at a position ──
module _ (m : List ℕ) (at code k n : ℕ) (rest : List ℕ) (e : drop at m ≡ heading code k n ++ rest) (l : k ≤ 3) (f : n < 256 ^ k) where
  pub what_follows : drop (at + 1 + k) m ≡ rest
  what_follows =
      let z : at + 1 + k ≡ at + suc k = omega arith in
      rw z (sym (drop-drop (suc k) at m) ∙ ap (drop (suc k)) e ∙ drop_at (heading code k n) rest (suc k) (ap suc (length_in_bytes k n)))

  pub room : length m ≡ at + 1 + k + length rest
  room =
      let a = length-drop at m in
      let b : length (drop at m) ≡ suc k + length rest = ap length e ∙ simp (length-append, length_in_bytes k n) in
      omega arith

  number_is : number_at m (at + 1) k ≡ n
  number_is =
      let d : drop (at + 1) m ≡ in_bytes k n ++ rest = sym (drop-drop 1 at m) ∙ ap (drop 1) e in
      from_there m (at + 1) k ∙ rw d (number_back k n rest f)

  pub head_is : head_at m at ≡ record { code = code; lengths = k; body = at + 1 + k; many = n }
  unfolding head_at
  head_is =
      let b : get_or m at 0 ≡ code * 4 + k =
      ap (λ i. get_or m i 0) (sym (add-zero at)) ∙ sym (get_or-drop at m 0 0) ∙ ap (λ t. get_or t 0 0) e in
      let c : (code * 4 + k) / 4 ≡ code = omega arith in
      let d : (code * 4 + k) % 4 ≡ k = omega arith in
      let r = room in
      rw (lt-leb (length m) at (omega arith), b, c, d, number_is)
