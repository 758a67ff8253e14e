-- Wafers one after the other: whether they are timely, and their f64 total, which never rounds.
use Rattle.std.proofs.Common.{◌≡◌, ℕ, ◌+◌, ◌*◌, ◌^◌, ◌<◌, ◌≤◌, Bool, true, false, ◌&&◌, List, [], ◌∷◌, ◌++◌, length, get_or, take, pos, refl, ap, ◌∙◌, subst, add-zero, zero-add, add-one, arith, take-suc}
use lib.Ieee.{Float, nan, fin, binary64, add}
use Rattle.lists.specs.Lists.{every}
use Rattle.lists.proofs.Bools.{and_l, and_r, and_comm}
use Rattle.ticks.specs.Times.{Counts, ticks, timely}
use Rattle.ticks.specs.Wafers.{timely_wafer, all_timely, total_of, added_to, f64_total}
use Rattle.ticks.specs.declared.wafers.Wafer.{Wafer}
use Rattle.ticks.proofs.Rounds.{add_ticks}
use Rattle.ticks.proofs.Timely.{timely_is, timely_few}

-- ── One wafer more ──
-- what the checker reads past the end of an array
abbrev pub no_numbers : Wafer
no_numbers = record { process = nan; handling = nan }

and_assoc : (a b c : Bool) → (a && (b && c)) ≡ ((a && b) && c)
and_assoc true b c = refl
and_assoc false b c = refl

module _ {A : Type 0} (f : A → Bool) where
  every_last : (l : List A) (x : A) → every f (l ++ (x ∷ [])) ≡ (every f l && f x)
  unfolding every
  every_last [] x = and_comm (f x) true
  every_last (y ∷ l) x = ap (λ b. f y && b) (every_last l x) ∙ and_assoc (f y) (every f l) (f x)

added_last : (t : Float) (l : List Wafer) (w : Wafer)
    → added_to t (l ++ (w ∷ [])) ≡ add binary64 (add binary64 (added_to t l) w.process) w.handling
unfolding added_to
added_last t [] w = refl
added_last t (v ∷ l) w = added_last (add binary64 (add binary64 t v.process) v.handling) l w

module _ (ws : List Wafer) (i : ℕ) (d : Wafer) (b : i < length ws) where
  next : take (i + 1) ws ≡ take i ws ++ (get_or ws i d ∷ [])
  next = rw (add-one i) (take-suc ws i d b)

  pub next_timely : all_timely (take (i + 1) ws) ≡ (all_timely (take i ws) && timely_wafer (get_or ws i d))
  next_timely = ap all_timely next ∙ every_last timely_wafer (take i ws) (get_or ws i d)

  pub next_added : f64_total (take (i + 1) ws)
      ≡ add binary64 (add binary64 (f64_total (take i ws)) (get_or ws i d).process) (get_or ws i d).handling
  next_added = ap f64_total next ∙ added_last (fin false 0 (pos 0)) (take i ws) (get_or ws i d)

-- ── Few enough: a wafer's two times are at most 2 ^ 31 ticks ──
pub total_few : (l : List Wafer) → all_timely l ≡ true → total_of l ≤ length l * 2147483648
unfolding every total_of
total_few [] h = omega arith
total_few (w ∷ l) h =
    let t = and_l (timely_wafer w) (all_timely l) h in
    let p = timely_few w.process (and_l (timely w.process) (timely w.handling) t) in
    let q = timely_few w.handling (and_r (timely w.process) (timely w.handling) t) in
    let r = total_few l (and_r (timely_wafer w) (all_timely l) h) in
    omega arith

-- ── No addition rounds ──
-- from s ticks on, as long as the total stays below 2 ^ 53
added_exact : (l : List Wafer) (t : Float) (s : ℕ) → Counts t s → all_timely l ≡ true → s + total_of l < 2 ^ 53
    → Counts (added_to t l) (s + total_of l)
unfolding every total_of added_to
added_exact [] t s p h b = rw (add-zero s) p
added_exact (w ∷ l) t s p h b =
    let a = ticks w.process in
    let g = ticks w.handling in
    let k = and_l (timely_wafer w) (all_timely l) h in
    let y = timely_is w.process (and_l (timely w.process) (timely w.handling) k) in
    let z = timely_is w.handling (and_r (timely w.process) (timely w.handling) k) in
    let t1 = add binary64 t w.process in
    let t2 = add binary64 t1 w.handling in
    let u : Counts t1 (s + a) = add_ticks t w.process s a p y (omega arith) in
    let v : Counts t2 (s + a + g) = add_ticks t1 w.handling (s + a) g u z (omega arith) in
    let e : s + a + g + total_of l ≡ s + (a + g + total_of l) = omega arith in
    subst (Counts (added_to t2 l)) e (added_exact l t2 (s + a + g) v (and_r (timely_wafer w) (all_timely l) h) (omega arith))

-- the f64 total of up to 25 wafers is the whole-number total of their 1/1024ths
pub exact : (ws : List Wafer) → length ws ≤ 25 → all_timely ws ≡ true → Counts (f64_total ws) (total_of ws)
exact ws l h =
    let b = total_few ws h in
    subst (Counts (f64_total ws)) (zero-add (total_of ws)) (added_exact ws (fin false 0 (pos 0)) 0 (λ _. refl, refl) h (omega arith))
