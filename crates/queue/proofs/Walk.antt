-- One walk over the rows of this layer: what is shown of each, under its name, is shown of the row that a number means.
use Prim.Native.Nat.{ℕ}
use mathlib.Core.Path.{◌≡◌, refl}
use mathlib.Core.Logic.{◌≢◌}
use mathlib.Core.Bool.{Bool, true, false, cond}
use mathlib.Core.List.{List, []}
use lib.Dec.{eqb}
use borrow.Author.Tests.{eqb-true, eqb-false}
use Rattle.rules.specs.declared.row.Seen.{Seen}
use Rattle.rules.specs.State.{State}
use Rattle.rules.specs.Seen.{Input}
use Rattle.queue.specs.declared.request.Request.{Request}
use Rattle.queue.specs.Rows.{Row, row_of, passed_on, cancel_carrier, carrier_out, cancel_reservation_at_port, load_start, open_row}
use Rattle.queue.specs.Rows.{out_start, out_done, cancel_carrier_out, cancel_all_carrier_out}

-- a row that the request leaves as it is
pub record Plain (n : ℕ) : Type 0 where
  pub not_six : n ≢ 6
  pub not_seven : n ≢ 7
  pub not_twelve : n ≢ 12
  pub not_thirteen : n ≢ 13
  pub not_nineteen : n ≢ 19
  pub not_out_start : n ≢ 27
  pub not_out_done : n ≢ 28
  pub not_cancel : n ≢ 29
  pub not_cancel_all : n ≢ 30

pub record EachRow (Q : Row → Type 0) (n : ℕ) (s : State) (q : List Request) (x : Seen) (i : Input) : Type 0 where
  pub cancel_carrier : n ≡ 6 → Q (cancel_carrier q x i)
  pub carrier_out : n ≡ 7 → Q (carrier_out q x)
  pub cancel_reservation_at_port : n ≡ 12 → Q (cancel_reservation_at_port q x i)
  pub load_start : n ≡ 13 → Q (load_start q x i)
  pub open_row : n ≡ 19 → Q (open_row q x i)
  pub out_start : n ≡ 27 → Q (out_start s q x i)
  pub out_done : n ≡ 28 → Q (out_done q x i)
  pub cancel_carrier_out : n ≡ 29 → Q (cancel_carrier_out q x)
  pub cancel_all_carrier_out : n ≡ 30 → Q (cancel_all_carrier_out q)
  pub other : Plain n → Q (passed_on [] q i)

module _ (Q : Row → Type 0) (n : ℕ) where
  -- the number is the row's, or another's
  or_else : {r t : Row} (k : ℕ) → (n ≡ k → Q r) → (n ≢ k → Q t) → Q (cond (eqb n k) r t)
  or_else {r} {t} k this others = go (eqb n k) refl
    where
      go : (b : Bool) → eqb n k ≡ b → Q (cond b r t)
      go true e = this (eqb-true n k e)
      go false e = others (eqb-false n k e)

  pub walk : (s : State) (q : List Request) (x : Seen) (i : Input) → EachRow Q n s q x i → Q (row_of n s q x i)
  unfolding row_of
  walk s q x i each =
      or_else 6 each.cancel_carrier (λ a. or_else 7 each.carrier_out (λ b. or_else 12 each.cancel_reservation_at_port
      (λ c. or_else 13 each.load_start (λ d. or_else 19 each.open_row (λ e. or_else 27 each.out_start
      (λ f. or_else 28 each.out_done (λ g. or_else 29 each.cancel_carrier_out (λ h. or_else 30 each.cancel_all_carrier_out
      (λ j. each.other (record {
        not_six = a;
        not_seven = b;
        not_twelve = c;
        not_thirteen = d;
        not_nineteen = e;
        not_out_start = f;
        not_out_done = g;
        not_cancel = h;
        not_cancel_all = j;
      }))))))))))
