-- A row and the row that undoes it: what every pair needs of the two states between.
use Prim.Native.Nat.{ℕ}
use mathlib.Core.Path.{◌≡◌, refl, ap, sym, subst, ◌∙◌}
use mathlib.Core.Bool.{Bool, true, false, ◌&&◌}
use lib.Dec.{eqb}
use borrow.Author.Tests.{eqb-true}
use Rattle.lists.proofs.Bools.{and_l, and_r}
use Rattle.rules.specs.State.{State}
use Rattle.rules.specs.Seen.{Input, see}
use Rattle.rules.specs.Row.{enact}
use Rattle.rules.specs.Rows.{row_of}
use Rattle.rules.specs.Outcome.{row_in, answer_in, state_after}
use Rattle.rules.specs.Undoing.{Pair, is_pair, TakenBack}
use Rattle.rules.proofs.Lowest.{row_first_is_lowest}
use Rattle.rules.proofs.Accepts.{Clear, judge_clear, row_clear}

pub and_none : (a : Bool) {b : Bool} → b ≡ false → (a && b) ≡ false
and_none true e = e
and_none false e = refl

-- ── Two inputs that are a pair ──
pub record Paired (p : Pair) (i j : Input) : Type 0 where
  pub row : i.number ≡ p.row
  pub undoing : j.number ≡ p.undoing
  pub alike : p.alike i j ≡ true

pub paired : (p : Pair) (i j : Input) → is_pair p i j ≡ true → Paired p i j
unfolding is_pair
paired p i j e = record {
  row = eqb-true _ _ (and_l _ _ (and_l _ _ e));
  undoing = eqb-true _ _ (and_r (eqb i.number p.row) _ (and_l _ _ e));
  alike = and_r (eqb i.number p.row && eqb j.number p.undoing) _ e;
}

-- ── An input whose number is known ──
module _ (s : State) (i : Input) (n : ℕ) (is : i.number ≡ n) where
  pub grounds_clear : answer_in s i ≡ 0 → Clear (row_of n (see s i)).grounds
  unfolding answer_in
  grounds_clear a =
      subst (λ m. Clear (row_of m (see s i)).grounds) is
      (row_clear i.number (see s i) (row_first_is_lowest i.number (see s i) ∙ a))

  pub accepts : Clear (row_of n (see s i)).grounds → answer_in s i ≡ 0
  unfolding answer_in
  accepts c =
      sym (row_first_is_lowest i.number (see s i))
      ∙ judge_clear (row_in s i).grounds (subst (λ m. Clear (row_of m (see s i)).grounds) (sym is) c)

  pub state_is : answer_in s i ≡ 0 → state_after s i ≡ enact (row_of n (see s i)).effect s
  unfolding state_after
  state_is a = rw a (ap (λ m. enact (row_of m (see s i)).effect s) is)

-- the state between is t, and the second row accepts there and makes s of it
pub taken_back : (s t : State) (i j : Input) (m : ℕ) → j.number ≡ m → state_after s i ≡ t → Clear (row_of m (see t j)).grounds
    → enact (row_of m (see t j)).effect t ≡ s → TakenBack s i j
taken_back s t i j m js e c b =
    let a = accepts t j m js c in
    record { accepted = ap (λ u. answer_in u j) e ∙ a; back = ap (λ u. state_after u j) e ∙ state_is t j m js a ∙ b }
