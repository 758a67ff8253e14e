-- The whole seconds that are enough: the fewest, and at most 25 times twice 1,048,576.
use Rattle.std.proofs.Common.{◌≡◌, ℕ, ◌*◌, ◌/◌, ◌%◌, ◌≤◌, true, false, ◌&&◌, eqb, leb, List, length, arith, leb-true}
use lib.Ieee.{Float}
use Rattle.lists.proofs.Bools.{and_l, and_r, cond_ind}
use Rattle.ticks.specs.Wafers.{wafers_in, all_timely, total_of, rounded_up, fits, good, wafers_from}
use Rattle.ticks.specs.declared.wafers.Wafer.{Wafer}
use Rattle.ticks.proofs.Slices.{wafers_long}
use Rattle.ticks.proofs.Sums.{total_few}

-- ── Rounded up: enough, and no fewer seconds are ──
pub enough : (n : ℕ) → n ≤ rounded_up n * 1024
unfolding rounded_up
enough n = omega arith

pub fewest : (n s : ℕ) → n ≤ s * 1024 → rounded_up n ≤ s
unfolding rounded_up
fewest n s h = omega arith

-- ── At most 52,428,800 ──
pub few_ticks : (ws : List Wafer) → length ws ≤ 25 → all_timely ws ≡ true → total_of ws ≤ 53687091200
few_ticks ws l h = let t = total_few ws h in omega arith

module _ (times : List Float) where
  pub few_wafers : fits times ≡ true → length (wafers_in times) ≤ 25
  unfolding fits
  few_wafers e = leb-true (length (wafers_in times)) 25 (and_r (eqb (length times % 2) 0) _ e)

  pub few_seconds : (wafers_from times).seconds ≤ 52428800
  unfolding wafers_from good
  few_seconds = cond_ind (λ s. s ≤ 52428800) (good times) some (λ e. omega arith)
    where
      some : good times ≡ true → rounded_up (total_of (wafers_in times)) ≤ 52428800
      some e =
          let l = few_wafers (and_l (fits times) (all_timely (wafers_in times)) e) in
          let t = few_ticks (wafers_in times) l (and_r (fits times) (all_timely (wafers_in times)) e) in
          fewest (total_of (wafers_in times)) 52428800 (omega arith)

  -- ── What is said of each kind ──
  pub fits_is : (eqb (length times % 2) 0 && leb (length times / 2) 25) ≡ fits times
  unfolding fits
  fits_is = rw (wafers_long times)

  module _ (e : fits times ≡ true) (h : all_timely (wafers_in times) ≡ true) where
    pub said : (s : ℕ) → s ≡ rounded_up (total_of (wafers_in times)) → record { fits = true; timely = true; seconds = s } ≡ wafers_from times
    unfolding wafers_from good
    said s k = rw (k, e, h)

  pub said_untimely : fits times ≡ true → all_timely (wafers_in times) ≡ false
      → record { fits = true; timely = false; seconds = 0 } ≡ wafers_from times
  unfolding wafers_from good
  said_untimely e h = rw (e, h)

  pub said_misfit : fits times ≡ false → record { fits = false; timely = false; seconds = 0 } ≡ wafers_from times
  unfolding wafers_from good
  said_misfit e = rw e
