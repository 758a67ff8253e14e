-- Each row's grounds stand lowest number first, so that the first that applies is the lowest that applies.
use Prim.Native.Nat.{ℕ, ◌≤◌}
use native.Mathlib.Omega.{arith}
use mathlib.Core.Path.{◌≡◌, refl, sym, ◌∙◌}
use mathlib.Core.Bool.{Bool, true, false, cond, ◌&&◌}
use mathlib.Core.List.{List, [], ◌∷◌}
use lib.Dec.{eqb, leb}
use borrow.Author.Tests.{eqb-false, leb-true, ne_eqb, le-leb}
use Rattle.lists.proofs.Bools.{and_l, and_r}
use Rattle.rules.specs.declared.row.Seen.{Seen}
use Rattle.rules.specs.Row.{Ground, when, unless, given, lower, lowest, judge}
use Rattle.rules.specs.Rows.{row_of}
use Rattle.rules.proofs.Walk.{walk}

-- the number that a ground would give
abbrev pub number_of : Ground → ℕ
number_of (when b n) = n
number_of (unless b n) = n

-- numbers are 1 or more, and none is below the one before it; m is the one before
abbrev pub rising_from : ℕ → List Ground → Bool
rising_from m [] = true
rising_from m (g ∷ gs) = leb m (number_of g) && rising_from (number_of g) gs

-- what is answered is 0, or at least the first number
bound : (m : ℕ) (gs : List Ground) → rising_from m gs ≡ true → 1 ≤ m → (judge gs ≡ 0 → ⊥) → m ≤ judge gs
bound m [] h p n = absurd (n refl)
bound m (when true k ∷ gs) h p n = leb-true m k (and_l (leb m k) _ h)
bound m (when false k ∷ gs) h p n =
    let a = leb-true m k (and_l (leb m k) _ h) in
    let b = bound k gs (and_r (leb m k) _ h) (omega arith) n in
    omega arith
bound m (unless true k ∷ gs) h p n =
    let a = leb-true m k (and_l (leb m k) _ h) in
    let b = bound k gs (and_r (leb m k) _ h) (omega arith) n in
    omega arith
bound m (unless false k ∷ gs) h p n = leb-true m k (and_l (leb m k) _ h)

-- a number that is no higher than what follows is the lower
lower_first : (m n : ℕ) → 1 ≤ m → ((n ≡ 0 → ⊥) → m ≤ n) → m ≡ lower m n
unfolding lower
lower_first m n p f = rw (ne_eqb m 0 (λ e. omega arith)) (go (eqb n 0) refl)
  where
    go : (b : Bool) → eqb n 0 ≡ b → m ≡ cond b m (cond (leb m n) m n)
    go true e = refl
    go false e = rw (le-leb m n (f (eqb-false n 0 e)))

pub first_is_lowest : (m : ℕ) (gs : List Ground) → 1 ≤ m → rising_from m gs ≡ true → judge gs ≡ lowest gs
unfolding lowest lower
first_is_lowest m [] p h = refl
first_is_lowest m (g ∷ gs) p h =
    let a = leb-true m (number_of g) (and_l (leb m (number_of g)) _ h) in
    let r = and_r (leb m (number_of g)) _ h in
    go g (omega arith) r (first_is_lowest (number_of g) gs (omega arith) r)
  where
    go : (g : Ground) → 1 ≤ number_of g → rising_from (number_of g) gs ≡ true
        → judge gs ≡ lowest gs → judge (g ∷ gs) ≡ lower (given g) (lowest gs)
    go (when true k) q r e = lower_first k (lowest gs) q (λ n. rw e at (bound k gs r q (λ z. n (sym e ∙ z))))
    go (when false k) q r e = e
    go (unless true k) q r e = e
    go (unless false k) q r e = lower_first k (lowest gs) q (λ n. rw e at (bound k gs r q (λ z. n (sym e ∙ z))))

-- every row, by its numbers as they stand
pub rows_rise : (n : ℕ) (x : Seen) → rising_from 1 (row_of n x).grounds ≡ true
rows_rise n x =
    walk (λ _ r. rising_from 1 r.grounds ≡ true) x (record {
      bind = refl;
      cancel_bind = refl;
      carrier_notification = refl;
      cancel_carrier_notification = refl;
      proceed_with_carrier = refl;
      cancel_carrier = refl;
      carrier_out = refl;
      carrier_in = refl;
      change_access = refl;
      change_service_status = refl;
      reserve_at_port = refl;
      cancel_reservation_at_port = refl;
      load_start = refl;
      load_done = refl;
      load_fail = refl;
      id_read = refl;
      id_read_failed = refl;
      move_in = refl;
      open_row = refl;
      slot_map = refl;
      access_start = refl;
      access_end = refl;
      close_row = refl;
      unload_start = refl;
      unload_done = refl;
      unload_fail = refl;
      none = λ _. refl;
    }) n

pub row_first_is_lowest : (n : ℕ) (x : Seen) → judge (row_of n x).grounds ≡ lowest (row_of n x).grounds
row_first_is_lowest n x = first_is_lowest 1 (row_of n x).grounds (omega arith) (rows_rise n x)
