-- One walk over the rows of this layer: what is shown of each, under its name, holds of the row that a number means.
use Prim.Native.Nat.{ℕ}
use mathlib.Core.Path.{◌≡◌, refl}
use mathlib.Core.Bool.{Bool, true, false, cond}
use lib.Dec.{eqb}
use borrow.Author.Tests.{eqb-true}
use Rattle.rules.specs.declared.row.Seen.{Seen}
use Rattle.wafers.specs.Outcome.{Brought}
use Rattle.hands.specs.declared.alarm.Alarm.{Alarm}
use Rattle.hands.specs.Rows.{Row, passed_on, starts, load_done, continue_row, row_of}

pub record EachRow (Q : Row → Type 0) (n : ℕ) (x : Seen) (a : Alarm) (i : Brought) : Type 0 where
  pub load_start : n ≡ 13 → Q (starts x a i)
  pub load_done : n ≡ 14 → Q (load_done x a i)
  pub unload_start : n ≡ 24 → Q (starts x a i)
  pub continue_row : n ≡ 36 → Q (continue_row a i)
  -- every other number
  pub other : Q (passed_on a i)

module _ (Q : Row → Type 0) where
  or_else : {r q : Row} (n k : ℕ) → (n ≡ k → Q r) → Q q → Q (cond (eqb n k) r q)
  or_else {r} {q} n k this other = go (eqb n k) refl
    where
      go : (b : Bool) → eqb n k ≡ b → Q (cond b r q)
      go true e = this (eqb-true n k e)
      go false e = other

  pub walk : (n : ℕ) (x : Seen) (a : Alarm) (i : Brought) → EachRow Q n x a i → Q (row_of n x a i)
  unfolding row_of
  walk n x a i each =
      or_else n 13 each.load_start (or_else n 14 each.load_done (or_else n 24 each.unload_start (or_else n 36 each.continue_row each.other)))
