-- What an input gives, by what it stands for below.
use Prim.Native.Nat.{ℕ, ◌<◌, ◌≤◌}
use native.Mathlib.Omega.{arith}
use Rattle.std.specs.Prelude.{Option, Some, None}
use Rattle.std.specs.Option.{SomeIff}
use mathlib.Core.Path.{◌≡◌, refl}
use mathlib.Core.Bool.{Bool, true, false, cond}
use lib.Dec.{eqb, leb, ltb}
use mathlib.Core.Logic.{◌≢◌}
use borrow.Author.Tests.{lt-ltb, le-ltb, le-leb, leb-true, ne_eqb}
use Rattle.rules.specs.declared.report.Reports.{Reports}
use Rattle.rules.specs.Row.{lower}
use Rattle.rules.specs.Reports.{no_reports}
use Rattle.prediction.specs.State.{PredictedTool, state_of}
use Rattle.prediction.specs.Outcome as prediction
use Rattle.prediction.specs.Outcome.{Given, refused, accepted}
use Rattle.wafers.specs.Outcome.{Brought, is_wafers, fits, tp_of, good, with_tp, answer_in, stands_for, state_after, told_of, given_in}

-- with 12 there is always a number
pub lower_twelve : (a : ℕ) → eqb (lower a 12) 0 ≡ false
unfolding lower
lower_twelve a = go (eqb a 0) refl (leb a 12)
  where
    go : (z : Bool) → eqb a 0 ≡ z → (w : Bool) → eqb (cond z 12 (cond w a 12)) 0 ≡ false
    go true e w = refl
    go false e true = e
    go false e false = refl

module _ (t : PredictedTool) (i : Brought) where
  -- any other input, as it is
  pub others_given : is_wafers i ≡ false → prediction.given_in t i.timed ≡ given_in t i
  unfolding given_in prediction.given_in answer_in state_after stands_for told_of prediction.reached
  others_given a = rw a

  module _ (a : is_wafers i ≡ true) where
    -- more than 25
    pub too_many : fits i ≡ false → refused t 1 ≡ given_in t i
    unfolding given_in answer_in
    too_many b = rw (a, b)

    module _ (b : fits i ≡ true) where
      pub tp_given : good i ≡ true → prediction.given_in t (with_tp i (tp_of i)) ≡ given_in t i
      unfolding given_in prediction.given_in answer_in state_after stands_for told_of prediction.reached
      tp_given c = rw (a, c, b)

      -- any other float, or a Tp past the clock's range
      pub untimely : good i ≡ false → (n : ℕ) → n ≡ lower (prediction.answer_in (state_of t) (with_tp i 0)) 12 → refused t n ≡ given_in t i
      unfolding given_in answer_in
      untimely c n e = rw (a, c, b, lower_twelve (prediction.answer_in (state_of t) (with_tp i 0)), e)

-- ── Tp as the code has it ──
-- a sum of 32 bits, or none
pub checked : (r : Option ℕ) (n : ℕ) → SomeIff r (n < 4294967296) n → r ≡ cond (ltb n 4294967296) (Some n) None
checked None n h = rw (le-ltb n 4294967296 (grind arith))
checked (Some x) n h = rw (lt-ltb n 4294967296 h.0, h.1)

pub some_good : (b : Bool) (x tp : ℕ) → Some tp ≡ cond b (Some x) None → (b ≡ true) × (tp ≡ x)
some_good true x tp e = (refl, cc)
some_good false x tp e = cc

pub none_bad : (b : Bool) (x : ℕ) → None ≡ cond b (Some x) None → b ≡ false
none_bad true x e = cc
none_bad false x e = refl

-- a tool that is left as it was, with nothing to report
pub left_refused : (t : PredictedTool) (r : Reports) (n : ℕ) → r ≡ no_reports
    → ◌≡◌ {A = Given} (record { tool = t; answer = n; reports = r }) (refused t n)
left_refused t r n e = rw e

-- 12, unless something lower is answered
pub below_twelve : (n : ℕ) → n ≢ 0 → n < 12 → n ≡ lower n 12
unfolding lower
below_twelve n z l = rw (ne_eqb n 0 z, le-leb n 12 (omega arith))

pub from_twelve : (n : ℕ) → n ≢ 0 → 12 ≤ n → 12 ≡ lower n 12
unfolding lower
from_twelve n z l = rw (ne_eqb n 0 z) (go (leb n 12) refl)
  where
    go : (w : Bool) → leb n 12 ≡ w → 12 ≡ cond w n 12
    go true e = let h = leb-true n 12 e in omega arith
    go false e = refl
