-- The lanes of one record are its tests.
use Rattle.std.proofs.Common.{◌≡◌, ℕ, zero, suc, ◌+◌, ◌*◌, Bool, true, false, not, ◌&&◌, ◌||◌, eqb, leb, List, [], ◌∷◌, get_or, refl, ap, ◌∙◌, ap₂, arith, eqb-true, le-leb}
use lib.Dec.{leb-zero}
use borrow.Author.Tests.{lt-leb, eqb-false}
use Rattle.lists.specs.Lists.{every, between}
use Rattle.records.specs.Names.{graphic, zero_ended, head_or0, holds_name}
use Rattle.records.specs.Maps.{is_code}
use Rattle.rules.specs.Sound.{status_in_range}
use Rattle.image.specs.Image.{table, byte_at, carrier_from, carrier_start}
use Rattle.image.proofs.Table.{table_same}
use Rattle.passes.specs.Passes.{itself, name_lane, named_by, fields_fit, record_on}
use Rattle.passes.proofs.Turns.{cross}

and_true : (b : Bool) → (b && true) ≡ b
and_true true = refl
and_true false = refl

no_zero : (b : ℕ) → (leb 1 b && true) ≡ not (eqb b 0)
no_zero b = and_true (leb 1 b) ∙ go (eqb b 0) refl
  where
    go : (t : Bool) → eqb b 0 ≡ t → leb 1 b ≡ not t
    go true e = let z = eqb-true b 0 e in lt-leb 1 b (omega arith)
    go false e = let z = eqb-false b 0 e in le-leb 1 b (omega arith)

abbrev pub firsts : List ℕ
firsts = 1 ∷ 0 ∷ 0 ∷ 0 ∷ 0 ∷ 0 ∷ 0 ∷ 0 ∷ 0 ∷ 0 ∷ 0 ∷ 0 ∷ 0 ∷ 0 ∷ 0 ∷ 0 ∷ []

abbrev pub lasts : List ℕ
lasts = 0 ∷ 0 ∷ 0 ∷ 0 ∷ 0 ∷ 0 ∷ 0 ∷ 0 ∷ 0 ∷ 0 ∷ 0 ∷ 0 ∷ 0 ∷ 0 ∷ 0 ∷ 1 ∷ []

abbrev pub leasts : List ℕ
leasts = 0 ∷ 0 ∷ 0 ∷ 0 ∷ 0 ∷ 0 ∷ 0 ∷ 0 ∷ 0 ∷ 0 ∷ 0 ∷ 0 ∷ 0 ∷ 0 ∷ 0 ∷ 0
    ∷ 0 ∷ 0 ∷ 0 ∷ 0 ∷ 0 ∷ 0 ∷ 0 ∷ 0 ∷ 0 ∷ 0 ∷ 0 ∷ 0 ∷ 0 ∷ 1 ∷ 1 ∷ 1 ∷ []

abbrev pub mosts : List ℕ
mosts = 4 ∷ 1 ∷ 1 ∷ 1 ∷ 5 ∷ 5 ∷ 5 ∷ 5 ∷ 5 ∷ 5 ∷ 5 ∷ 5 ∷ 5 ∷ 5 ∷ 5 ∷ 5
    ∷ 5 ∷ 5 ∷ 5 ∷ 5 ∷ 5 ∷ 5 ∷ 5 ∷ 5 ∷ 5 ∷ 5 ∷ 5 ∷ 5 ∷ 5 ∷ 4 ∷ 4 ∷ 4 ∷ []

module _ (f : ℕ → ℕ) where
  abbrev ended : ℕ → Bool
  ended i = (eqb (f i) 0 && (eqb (get_or lasts i 0) 1 || eqb (f (suc i)) 0)) || graphic (f i)

  zero_ended_fact : every itself (table 16 ended) ≡ zero_ended (table 16 f)
  unfolding every table zero_ended head_or0
  zero_ended_fact = refl

  begins : every itself (table 16 (λ i. leb (get_or firsts i 0) (f i))) ≡ not (eqb (f 0) 0)
  unfolding every table
  begins = simp leb-zero (no_zero (f 0))

  head : not (eqb (f 0) 0) ≡ not (eqb (head_or0 (table 16 f)) 0)
  unfolding table head_or0
  head = refl

lanes_and : (w : ℕ) (a b : ℕ → Bool) → every itself (table w (λ i. a i && b i)) ≡ (every itself (table w a) && every itself (table w b))
unfolding every table
lanes_and zero a b = refl
lanes_and (suc w) a b =
    ap (λ t. (a 0 && b 0) && t) (lanes_and w (λ i. a (suc i)) (λ i. b (suc i)))
    ∙ cross (a 0) (b 0) (every itself (table w (λ i. a (suc i)))) (every itself (table w (λ i. b (suc i))))

pub name_tests : (m : List ℕ) (o : ℕ)
    → every itself (table 16 (λ i. name_lane (get_or firsts i 0) (get_or lasts i 0) (byte_at m (o + i)) (byte_at m (o + i + 1))))
    ≡ named_by (carrier_from m o)
unfolding named_by holds_name head_or0
name_tests m o =
    let f : ℕ → ℕ = λ i. byte_at m (o + i) in
    ap (every itself)
    (table_same 16 (λ i. name_lane (get_or firsts i 0) (get_or lasts i 0) (byte_at m (o + i)) (byte_at m (o + i + 1)))
    (λ i. ended f i && leb (get_or firsts i 0) (f i))
    (λ i h. ap (λ j. name_lane (get_or firsts i 0) (get_or lasts i 0) (f i) (byte_at m j)) (next i)))
    ∙ lanes_and 16 (ended f) (λ i. leb (get_or firsts i 0) (f i)) ∙ ap₂ ◌&&◌ (zero_ended_fact f) (begins f ∙ head f)
  where
    next : (i : ℕ) → o + i + 1 ≡ o + suc i
    next i = omega arith

-- a test over a list, and one more after it
then : (ℕ → Bool) → List ℕ → Bool → Bool
then F [] b = b
then F (x ∷ l) b = F x && then F l b

then_is : (F : ℕ → Bool) (l : List ℕ) (b : Bool) → then F l b ≡ (every F l && b)
unfolding every then
then_is F [] b = refl
then_is F (x ∷ l) b = ap (λ t. F x && t) (then_is F l b) ∙ assoc (F x) (every F l) b
  where
    assoc : (a b c : Bool) → (a && (b && c)) ≡ ((a && b) && c)
    assoc true b c = refl
    assoc false b c = refl

-- the fields of which `fields_fit` speaks, as 32 bytes
fields_all : (f : ℕ → ℕ) → every itself (table 32 (λ i. between (get_or leasts i 0) (f i) (get_or mosts i 0)))
    ≡ (leb (f 0) 4 && (leb (f 1) 1 && (leb (f 2) 1 && (leb (f 3) 1 && (every is_code (table 25 (λ i. f (4 + i)))
    && (status_in_range (f 29) && (status_in_range (f 30) && status_in_range (f 31))))))))
unfolding every table status_in_range then
fields_all f =
    simp leb-zero (ap (λ b. leb (f 0) 4 && (leb (f 1) 1 && (leb (f 2) 1 && (leb (f 3) 1 && b))))
    (ap (λ b. then is_code (table 25 (λ i. f (4 + i))) (between 1 (f 29) 4 && (between 1 (f 30) 4 && b))) (and_true (between 1 (f 31) 4))
    ∙ then_is is_code (table 25 (λ i. f (4 + i))) (between 1 (f 29) 4 && (between 1 (f 30) 4 && between 1 (f 31) 4))))

pub field_tests : (m : List ℕ) (k : ℕ)
    → every itself (table 32 (λ i. between (get_or leasts i 0) (byte_at m (109 + 50 * k + i)) (get_or mosts i 0))) ≡ fields_fit (record_on m k)
unfolding fields_fit
field_tests m k =
    ap (every itself)
    (table_same 32 (λ i. between (get_or leasts i 0) (byte_at m (109 + 50 * k + i)) (get_or mosts i 0))
    (λ i. between (get_or leasts i 0) (f i) (get_or mosts i 0))
    (λ i h. ap (λ j. between (get_or leasts i 0) (byte_at m j) (get_or mosts i 0)) (there i)))
    ∙ fields_all f
    ∙ ap (λ l. leb (f 0) 4 && (leb (f 1) 1 && (leb (f 2) 1
    && (leb (f 3) 1 && (every is_code l && (status_in_range (f 29) && (status_in_range (f 30) && status_in_range (f 31)))))))) codes
  where
    f : ℕ → ℕ
    f i = byte_at m (carrier_start k + (18 + i))

    there : (i : ℕ) → 109 + 50 * k + i ≡ carrier_start k + (18 + i)
    there i = omega arith

    codes : table 25 (λ i. f (4 + i)) ≡ table 25 (λ i. byte_at m (carrier_start k + 22 + i))
    codes = table_same 25 (λ i. f (4 + i)) (λ i. byte_at m (carrier_start k + 22 + i)) (λ i h. ap (byte_at m) (at i))
      where
        at : (i : ℕ) → carrier_start k + (18 + (4 + i)) ≡ carrier_start k + 22 + i
        at i = omega arith
