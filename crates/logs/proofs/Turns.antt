-- One entry after the other: a turn of the judging.
use Prim.Native.Nat.{ℕ, zero, suc, ◌+◌, ◌-◌, ◌≤◌, ◌<◌}
use native.Mathlib.Omega.{arith}
use mathlib.Core.Path.{◌≡◌, refl, ap, ◌∙◌}
use mathlib.Core.Bool.{cond}
use mathlib.Core.List.{List, [], ◌∷◌}
use lib.ListN.{length, drop}
use lib.Dec.{ltb}
use Rattle.rules.specs.declared.report.Outcome.{Outcome}
use Rattle.rules.specs.Outcome.{outcome}
use Rattle.logs.specs.Layout.{input_size, input_in, answer_size, entry_size}
use Rattle.logs.specs.Judging.{Judgement, ended, shows, judging}

pub input_some : (l : List ℕ) → 4 ≤ input_size l
unfolding input_size
input_some l = omega arith

pub entry_some : (l : List ℕ) → 6 ≤ entry_size l
unfolding entry_size answer_size
entry_some l = let h = input_some l in omega arith

-- the bytes that are passed over
passed_over : (k at : ℕ) (o : Outcome) (left : ℕ) (l : List ℕ) → judging k at o left l ≡ judging k at o 0 (drop left l)
unfolding judging
passed_over k at o zero l = refl
passed_over k at o (suc left) [] = refl
passed_over k at o (suc left) (b ∷ rest) = passed_over k at o left rest

drop_rest : (n b : ℕ) (rest : List ℕ) → 1 ≤ n → drop (n - 1) rest ≡ drop n (b ∷ rest)
drop_rest zero b rest h = absurd (omega arith)
drop_rest (suc n) b rest h = let z : suc n - 1 ≡ n = omega arith in rw z

-- nothing is left
pub file_ends : (k at : ℕ) (o : Outcome) → judging k at o 0 [] ≡ ended 0 k at o
unfolding judging
file_ends k at o = refl

-- an entry begins
abbrev pub given : Outcome → List ℕ → Outcome
given o l = outcome o.tool (input_in l)

module _ (k at : ℕ) (o : Outcome) where
  -- the turn of an entry l, where the judging goes on so
  abbrev turn : List ℕ → Judgement → Judgement
  turn l on = cond (ltb (length l) (entry_size l)) (ended 29 k at o) (cond (shows l (given o l)) on (ended 1 k at (given o l)))

  abbrev on : List ℕ → ℕ → List ℕ → Judgement
  on l = judging (suc k) (at + entry_size l) (given o l)

  begins : (b : ℕ) (rest : List ℕ)
      → judging k at o 0 (b ∷ rest) ≡ turn (b ∷ rest) (on (b ∷ rest) (entry_size (b ∷ rest) - 1) rest)
  unfolding judging
  begins b rest = refl

  pub one_turn : (l : List ℕ) → 0 < length l → judging k at o 0 l ≡ turn l (on l 0 (drop (entry_size l) l))
  one_turn [] h = absurd (omega arith)
  one_turn (b ∷ rest) h =
      let s = entry_some (b ∷ rest) in
      let n = entry_size (b ∷ rest) in
      let e = passed_over (suc k) (at + n) (given o (b ∷ rest)) (n - 1) rest
      ∙ ap (on (b ∷ rest) 0) (drop_rest n b rest (omega arith)) in
      begins b rest ∙ ap (turn (b ∷ rest)) e
