-- What a row asks is all that its answer depends on.
use Prim.Native.Nat.{ℕ, zero, suc}
use native.Mathlib.Omega.{arith}
use mathlib.Core.Path.{◌≡◌, refl, sym, ◌∙◌}
use mathlib.Core.Bool.{Bool, true, false, not, cond}
use mathlib.Core.List.{List}
use lib.Dec.{eqb, leb}
use borrow.Author.Tests.{ne_eqb, le-leb}
use Rattle.lists.proofs.Bools.{and_l, not_true}
use Rattle.rules.specs.declared.row.Seen.{Seen}
use Rattle.rules.specs.State.{State}
use Rattle.rules.specs.Seen.{Input, narrow, see}
use Rattle.rules.specs.Row.{Row, judge, placed, unknown_pod}
use Rattle.rules.specs.Booking.{one_pair}
use Rattle.rules.specs.Verdict.{takes_unknown_pod, can_proceed, can_cancel}
use Rattle.rules.specs.Reading.{id_read, elsewhere}
use Rattle.rules.specs.Opening.{open_row}
use Rattle.rules.specs.Rows.{row_of}
use Rattle.rules.specs.Conditions.{asks, id_read_asks, open_asks}

-- two rows that, asking the same, answer the same
record Asked (ps qs : List Bool) (r q : Row) : Type 0 where
  pub same : ps ≡ qs → judge r.grounds ≡ judge q.grounds

abbrev all : {ps qs : List Bool} {r q : Row} → (ps ≡ qs → judge r.grounds ≡ judge q.grounds) → Asked ps qs r q
all f = record { same = f }

one_of : {ps ps' qs qs' : List Bool} {r r' q q' : Row} (b : Bool) → Asked ps qs r q → Asked ps' qs' r' q'
    → Asked (cond b ps ps') (cond b qs qs') (cond b r r') (cond b q q')
one_of true f g = f
one_of false f g = g

-- from 1 on is not 0
from_one : (n : ℕ) → leb 1 n ≡ not (eqb n 0)
from_one zero = refl
from_one (suc n) = rw (le-leb 1 (suc n) (omega arith), ne_eqb (suc n) 0 (λ e. omega arith))

-- a port of the tool is a port that is given
abbrev PortGiven : Seen → Type 0
PortGiven x = x.isport ≡ true → x.noport ≡ false

port_given : (s : State) (i : Input) → PortGiven (see s i)
unfolding see
port_given s i h = not_true _ (sym (from_one (narrow i.port)) ∙ and_l (leb 1 (narrow i.port)) _ h)

id_read_asked : (x y : Seen) → PortGiven x → PortGiven y → Asked (id_read_asks x) (id_read_asks y) (id_read x) (id_read y)
unfolding placed elsewhere
id_read_asked x y f g = all (λ e. go x.isport refl (cc) e)
  where
    go : (b : Bool) → x.isport ≡ b → y.isport ≡ x.isport → id_read_asks x ≡ id_read_asks y
        → judge (id_read x).grounds ≡ judge (id_read y).grounds
    go true p q e = cc (f p, g (q ∙ p))
    go false p q e = cc

open_asked : (x y : Seen) → Asked (open_asks x) (open_asks y) (open_row x) (open_row y)
open_asked x y = all (λ e. cc (from_one x.places, from_one y.places))

rows_asked : (n : ℕ) (x y : Seen) → PortGiven x → PortGiven y → Asked (asks n x) (asks n y) (row_of n x) (row_of n y)
unfolding asks row_of one_pair placed unknown_pod takes_unknown_pod can_proceed can_cancel
rows_asked n x y f g =
    one_of (eqb n 1) (all (λ e. cc)) (one_of (eqb n 2) (all (λ e. cc)) (one_of (eqb n 3) (all (λ e. cc)) (one_of (eqb n 4) (all (λ e. cc))
    (one_of (eqb n 5) (all (λ e. cc)) (one_of (eqb n 6) (all (λ e. cc)) (one_of (eqb n 7) (all (λ e. cc)) (one_of (eqb n 8) (all (λ e. cc))
    (one_of (eqb n 9) (all (λ e. cc)) (one_of (eqb n 10) (all (λ e. cc)) (one_of (eqb n 11) (all (λ e. cc))
    (one_of (eqb n 12) (all (λ e. cc)) (one_of (eqb n 13) (all (λ e. cc)) (one_of (eqb n 14) (all (λ e. cc))
    (one_of (eqb n 15) (all (λ e. cc)) (one_of (eqb n 16) (id_read_asked x y f g) (one_of (eqb n 17) (all (λ e. cc))
    (one_of (eqb n 18) (all (λ e. cc)) (one_of (eqb n 19) (open_asked x y) (one_of (eqb n 20) (all (λ e. cc))
    (one_of (eqb n 21) (all (λ e. cc)) (one_of (eqb n 22) (all (λ e. cc)) (one_of (eqb n 23) (all (λ e. cc))
    (one_of (eqb n 24) (all (λ e. cc)) (one_of (eqb n 25) (all (λ e. cc))
    (one_of (eqb n 26) (all (λ e. cc)) (all (λ e. refl)))))))))))))))))))))))))))

pub all_asked : (n : ℕ) (s t : State) (i j : Input) → asks n (see s i) ≡ asks n (see t j)
    → judge (row_of n (see s i)).grounds ≡ judge (row_of n (see t j)).grounds
all_asked n s t i j = (rows_asked n (see s i) (see t j) (port_given s i) (port_given t j)).same
