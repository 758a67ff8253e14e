-- The inputs of a log that has bytes alone can be written in bytes.
use Prim.Native.Nat.{ℕ}
use mathlib.Core.Path.{◌≡◌, refl}
use mathlib.Core.Bool.{Bool, true}
use mathlib.Core.List.{List, [], ◌∷◌, ◌++◌}
use lib.Dec.{ltb}
use Rattle.lists.specs.Lists.{every}
use Rattle.lists.proofs.Bools.{and_l, and_r, and_i}
use Rattle.rules.specs.State.{State, start}
use Rattle.rules.specs.Seen.{Input}
use Rattle.rules.specs.Outcome.{state_after}
use Rattle.rules.specs.Run.{line_of, table}
use Rattle.logs.specs.Written.{shown, input, entry, entries, head_of, log_of}
use Rattle.judge.specs.Meaning.{LogOf, in_bytes}

module _ (f : ℕ → Bool) where
  in_first : (a b : List ℕ) → every f (a ++ b) ≡ true → every f a ≡ true
  unfolding every
  in_first [] b h = refl
  in_first (x ∷ a) b h = and_i (and_l (f x) _ h) (in_first a b (and_r (f x) _ h))

  in_second : (a b : List ℕ) → every f (a ++ b) ≡ true → every f b ≡ true
  unfolding every
  in_second [] b h = h
  in_second (x ∷ a) b h = in_second a b (and_r (f x) _ h)

inputs_in_bytes : (s : State) (is : List Input) → in_bytes (entries (table s is)) ≡ true → every (λ i. in_bytes (input i)) is ≡ true
unfolding every table entries
inputs_in_bytes s [] h = refl
inputs_in_bytes s (i ∷ is) h =
    let l = line_of s i in
    let rest = entries (table (state_after s i) is) in
    let here = in_first (λ b. ltb b 256) (entry l) rest h in
    and_i (in_first (λ b. ltb b 256) (input i) (shown l.answer l.reports) here)
    (inputs_in_bytes (state_after s i) is (in_second (λ b. ltb b 256) (entry l) rest h))

pub in_bytes_fact : (P B : ℕ) (inputs : List Input) (file : List ℕ) → LogOf P B inputs file → in_bytes file ≡ true
    → every (λ i. in_bytes (input i)) inputs ≡ true
unfolding log_of
in_bytes_fact P B is file l h =
    let rest = entries (table (start P B) is) in
    inputs_in_bytes (start P B) is (in_second (λ b. ltb b 256) (head_of P B) rest (rw l.bytes at h))
