-- What the table of transitions gives, whatever its conditions.
use Prim.Native.Nat.{ℕ, zero, suc, ◌≤◌}
use native.Mathlib.Omega.{arith}
use mathlib.Core.Path.{◌≡◌, refl, ap, sym, ◌∙◌}
use mathlib.Core.Bool.{Bool, true, false, not, cond, ◌&&◌, ◌||◌}
use mathlib.Core.List.{List, [], ◌∷◌}
use lib.ListN.{get_or}
use lib.Dec.{eqb, leb}
use borrow.Author.Tests.{eq-eqb}
use Rattle.lists.specs.Lists.{any, every}
use Rattle.lists.proofs.Tests.{every_at}
use Rattle.lists.proofs.Bools.{clash, and_l, and_r, and_i, or_l, or_r}
use Rattle.prediction.specs.declared.prediction.Facts.{Facts}
use Rattle.prediction.specs.Model.{Transition, transitions, next, passed, course, last_of}
use Rattle.prediction.specs.Model.{waiting_for_carrier, waiting_for_prediction, predicted, aborted, completed}

-- ── Every step of a course is a transition whose condition holds ──
-- a transition of the table leads from one state to the other
abbrev pub leads : ℕ → ℕ → Transition → Bool
leads old new t = eqb t.from old && t.when && eqb t.to new

next_leads : (ts : List Transition) (s : ℕ) → eqb (next ts s) s ≡ false → any (leads s (next ts s)) ts ≡ true
unfolding next any
next_leads [] s d = clash (eq-eqb s s refl) d
next_leads (t ∷ ts) s d = go (eqb t.from s && t.when) refl d (next_leads ts s)
  where
    go : (w : Bool) → (eqb t.from s && t.when) ≡ w → eqb (cond w t.to (next ts s)) s ≡ false
        → (eqb (next ts s) s ≡ false → any (leads s (next ts s)) ts ≡ true)
        → (leads s (cond w t.to (next ts s)) t || any (leads s (cond w t.to (next ts s))) ts) ≡ true
    go true e d r = or_l _ (and_i e (eq-eqb t.to t.to refl))
    go false e d r = or_r (leads s (next ts s) t) (r d)

-- the steps from a state through those that are passed
unfoldable pub steps_lead : Facts → ℕ → List ℕ → Bool
steps_lead f s [] = true
steps_lead f s (n ∷ l) = any (leads s n) (transitions f) && steps_lead f n l

passed_leads : (k : ℕ) (f : Facts) (s : ℕ) → steps_lead f s (passed k f s) ≡ true
unfolding passed steps_lead
passed_leads zero f s = refl
passed_leads (suc k) f s = go (eqb (next (transitions f) s) s) refl (passed_leads k f (next (transitions f) s))
  where
    n : ℕ
    n = next (transitions f) s

    go : (w : Bool) → eqb (next (transitions f) s) s ≡ w
        → steps_lead f (next (transitions f) s) (passed k f (next (transitions f) s)) ≡ true
        → steps_lead f s (cond w [] (next (transitions f) s ∷ passed k f (next (transitions f) s))) ≡ true
    go true e r = refl
    go false e r = and_i (next_leads (transitions f) s e) r

pub course_leads : (f : Facts) (s : ℕ) → steps_lead f s (course f s) ≡ true
course_leads f s = passed_leads _ f s

-- ── COMPLETED stays ──
pub none_quiet : (f : Facts) → course f 0 ≡ []
unfolding passed next
none_quiet f = refl

pub completed_stays : (f : Facts) → course f completed ≡ []
unfolding passed next
completed_stays f = refl

-- ── Whatever holds of every state of the model under every combination of conditions is computed ──
abbrev all_of : (Bool → Bool) → Bool
all_of g = g true && g false

all_of_fact : (g : Bool → Bool) → all_of g ≡ true → (b : Bool) → g b ≡ true
all_of_fact g e true = and_l _ _ e
all_of_fact g e false = and_r (g true) _ e

abbrev facts : Bool → Bool → Bool → Bool → Bool → Bool → Facts
facts a b c d e r = record { taken = a; unset = b; soon = c; late = d; impossible = e; ready = r }

abbrev pub always : (Facts → Bool) → Bool
always P = all_of (λ a. all_of (λ b. all_of (λ c. all_of (λ d. all_of (λ e. all_of (λ r. P (facts a b c d e r)))))))

pub always_holds : (P : Facts → Bool) → always P ≡ true → (f : Facts) → P f ≡ true
always_holds P h f =
    all_of_fact (λ r. P (facts f.taken f.unset f.soon f.late f.impossible r))
    (all_of_fact (λ e. all_of (λ r. P (facts f.taken f.unset f.soon f.late e r)))
    (all_of_fact (λ d. all_of (λ e. all_of (λ r. P (facts f.taken f.unset f.soon d e r))))
    (all_of_fact (λ c. all_of (λ d. all_of (λ e. all_of (λ r. P (facts f.taken f.unset c d e r)))))
    (all_of_fact (λ b. all_of (λ c. all_of (λ d. all_of (λ e. all_of (λ r. P (facts f.taken b c d e r))))))
    (all_of_fact (λ a. all_of (λ b. all_of (λ c. all_of (λ d. all_of (λ e. all_of (λ r. P (facts a b c d e r))))))) h f.taken)
    f.unset) f.soon) f.late) f.impossible) f.ready

abbrev pub states : List ℕ
states = 0 ∷ 1 ∷ 2 ∷ 3 ∷ 4 ∷ 5 ∷ 6 ∷ []

pub at_own : (s : ℕ) → s ≤ 6 → get_or states s 0 ≡ s
at_own zero b = refl
at_own (suc zero) b = refl
at_own (suc (suc zero)) b = refl
at_own (suc (suc (suc zero))) b = refl
at_own (suc (suc (suc (suc zero)))) b = refl
at_own (suc (suc (suc (suc (suc zero))))) b = refl
at_own (suc (suc (suc (suc (suc (suc zero)))))) b = refl
at_own (suc (suc (suc (suc (suc (suc (suc s))))))) b = absurd (omega arith)

-- what is computed of the course from each state
module _ (P : ℕ → ℕ → Facts → Bool) where
  abbrev of_state : ℕ → Bool
  of_state s = always (λ f. P s (last_of s (course f s)) f)

  of_each : every of_state states ≡ true → (s : ℕ) → s ≤ 6 → (f : Facts) → P s (last_of s (course f s)) f ≡ true
  of_each h s b f =
      always_holds (λ f. P s (last_of s (course f s)) f)
      (ap of_state (sym (at_own s b)) ∙ every_at of_state states 0 h s (omega arith)) f

-- whoever is ready is left in neither PREDICTED nor ABORTED
abbrev not_left : ℕ → ℕ → Facts → Bool
not_left s last f = not f.ready || not (eqb last predicted || eqb last aborted)

pub ready_ends : (s : ℕ) → s ≤ 6 → (f : Facts) → not_left s (last_of s (course f s)) f ≡ true
unfolding every passed next last_of
ready_ends = of_each not_left refl

-- a carrier whose Tp is soon isn't left in WAITING FOR PREDICTION
abbrev not_waiting : ℕ → ℕ → Facts → Bool
not_waiting s last f = not (eqb s waiting_for_prediction && f.soon) || not (eqb last waiting_for_prediction)

pub soon_moves : (s : ℕ) → s ≤ 6 → (f : Facts) → not_waiting s (last_of s (course f s)) f ≡ true
unfolding every passed next last_of
soon_moves = of_each not_waiting refl

-- and nobody comes to it there who isn't taken
abbrev none_waits : ℕ → ℕ → Facts → Bool
none_waits s last f = f.taken || not (eqb last waiting_for_prediction && f.soon)

pub soon_left : (s : ℕ) → s ≤ 6 → (f : Facts) → none_waits s (last_of s (course f s)) f ≡ true
unfolding every passed next last_of
soon_left = of_each none_waits refl

-- states of the model stay states of the model, and no state stays none
abbrev still_one : ℕ → ℕ → Facts → Bool
still_one s last f = cond (eqb s 0) (eqb last 0) (leb 1 last && leb last 6)

pub stays_one : (s : ℕ) → s ≤ 6 → (f : Facts) → still_one s (last_of s (course f s)) f ≡ true
unfolding every passed next last_of
stays_one = of_each still_one refl

-- WAITING FOR CARRIER is left only by a carrier that comes into access or is cancelled, and nobody comes back to it
abbrev left_by_taken : ℕ → ℕ → Facts → Bool
left_by_taken s last f = cond (eqb s waiting_for_carrier) (eqb last waiting_for_carrier || f.taken) (not (eqb last waiting_for_carrier))

pub left_by_taken_fact : (s : ℕ) → s ≤ 6 → (f : Facts) → left_by_taken s (last_of s (course f s)) f ≡ true
unfolding every passed next last_of
left_by_taken_fact = of_each left_by_taken refl
