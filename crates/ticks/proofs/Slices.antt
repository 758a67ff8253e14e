-- The wafers in a slice of times: how many there are, and each by its position.
use Rattle.std.proofs.Common.{◌≡◌, ℕ, zero, suc, ◌+◌, ◌*◌, ◌/◌, ◌%◌, ◌<◌, List, [], ◌∷◌, length, get_or, take, set, sym, refl, ap, ◌∙◌, le_of_suc-le-suc, add-one, arith, take_all, take-suc, take-suc-set}
use lib.Ieee.{Float}
use Rattle.ticks.specs.Wafers.{wafers_in, times_of}
use Rattle.ticks.specs.declared.wafers.Wafer.{Wafer}

abbrev wafer : Float → Float → Wafer
wafer p h = record { process = p; handling = h }

pub wafers_long : (times : List Float) → length (wafers_in times) ≡ length times / 2
unfolding wafers_in
wafers_long [] = refl
wafers_long (p ∷ []) = refl
wafers_long (p ∷ h ∷ l) = let e = wafers_long l in omega arith

wafer_at : (times : List Float) (i : ℕ) (x : Float) (d : Wafer) → i < length (wafers_in times)
    → get_or (wafers_in times) i d ≡ wafer (get_or times (2 * i) x) (get_or times (2 * i + 1) x)
unfolding wafers_in
wafer_at [] i x d b = absurd (omega arith)
wafer_at (p ∷ []) i x d b = absurd (omega arith)
wafer_at (p ∷ h ∷ l) zero x d b = refl
wafer_at (p ∷ h ∷ l) (suc i) x d b =
    let e : 2 * suc i ≡ suc (suc (2 * i)) = omega arith in
    let f : 2 * suc i + 1 ≡ suc (suc (2 * i + 1)) = omega arith in
    rw (f, e) (wafer_at l i x d (le_of_suc-le-suc b))

module _ (times : List Float) (n : ℕ) (k : n ≡ length times / 2) where
  -- one wafer more is copied
  pub copied : (ws : List Wafer) (i : ℕ) (x : Float) → i < n → i < length ws → take i ws ≡ take i (wafers_in times)
      → take (i + 1) (set ws i (wafer (get_or times (2 * i) x) (get_or times (2 * i + 1) x))) ≡ take (i + 1) (wafers_in times)
  copied ws i x l b e =
      let w = wafer (get_or times (2 * i) x) (get_or times (2 * i + 1) x) in
      let h = wafers_long times in
      let c : i < length (wafers_in times) = omega arith in
      rw (add-one i)
      (take-suc-set ws i w b ∙ rw (e, sym (wafer_at times i x w c)) (sym (take-suc (wafers_in times) i w c)))

  pub all_copied : (ws : List Wafer) (i : ℕ) → i ≡ n → take i ws ≡ take i (wafers_in times) → take n ws ≡ wafers_in times
  all_copied ws i e h =
      let l = wafers_long times in
      (rw e at h) ∙ take_all n (wafers_in times) (omega arith)

-- ── Nothing is lost between wafers and times ──
pub sent_back : (ws : List Wafer) → wafers_in (times_of ws) ≡ ws
unfolding wafers_in times_of
sent_back [] = refl
sent_back (w ∷ ws) = ap (λ l. w ∷ l) (sent_back ws)

pub in_turn : (times : List Float) → length times % 2 ≡ 0 → times_of (wafers_in times) ≡ times
unfolding wafers_in times_of
in_turn [] e = refl
in_turn (p ∷ []) e = absurd (omega arith)
in_turn (p ∷ h ∷ l) e = ap (λ r. p ∷ h ∷ r) (in_turn l (omega arith))
