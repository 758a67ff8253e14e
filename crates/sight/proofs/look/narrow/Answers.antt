use Prim.Native.Nat.{ℕ, ◌<◌, ◌≤◌}
use native.Mathlib.Omega.{arith}
use mathlib.Core.Path.{◌≡◌, ◌∙◌}
use mathlib.Core.Bool.{cond}
use lib.Dec.{ltb}
use borrow.Author.Tests.{le-ltb}
use Rattle.std.specs.Prelude.{Result, Ok, Err}
use Rattle.std.specs.Result.{OkIff, result_unwrap_or}
use Rattle.std.proofs.lemmas.Grind.{common_steps}
use Rattle.rules.specs.Seen.{narrow}
use Rattle.sight.proofs.look.narrow.Goals as goal

-- 255 is itself, and what all that is larger comes to
a_byte : (n : ℕ) → n < 256 → n ≡ cond (ltb n 255) n 255
a_byte n h = grind (arith, common_steps)

in_a_byte : {E : Type 0} (n : ℕ) (r : Result ℕ E) → OkIff r (n < 256) n → result_unwrap_or r 255 ≡ narrow n
unfolding narrow
in_a_byte n (Ok x) h = h.1 ∙ a_byte n h.0
in_a_byte n (Err e) h = let a : 255 ≤ n = omega arith in rw (le-ltb n 255 a)

pub returns : goal.returns
returns c = c.unwrap_or.ensures ∙ in_a_byte c.args.n c.try_from.result c.try_from.ensures
