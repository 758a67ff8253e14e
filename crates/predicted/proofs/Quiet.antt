-- Who passes nothing: no prediction at all; and, unless it is taken, whoever is in no state from WAITING FOR PREDICTION to ABORTED.
use Prim.Native.Nat.{ℕ}
use mathlib.Core.Path.{◌≡◌, refl, ap, sym, ◌∙◌}
use mathlib.Core.Bool.{Bool, true, false, cond, ◌&&◌}
use mathlib.Core.List.{[]}
use lib.Dec.{eqb, leb}
use borrow.Author.Tests.{eqb-true, eq-eqb}
use Rattle.lists.proofs.Bools.{clash}
use Rattle.prediction.specs.declared.prediction.Facts.{Facts}
use Rattle.prediction.specs.declared.prediction.Prediction.{Prediction}
use Rattle.prediction.specs.Model.{transitions, next, passed, course, last_of}
use Rattle.prediction.specs.Outcome.{along}

-- between the two
abbrev pub on_the_way : ℕ → Bool
on_the_way s = leb 3 s && leb s 5

not_there : (s k : ℕ) → on_the_way s ≡ false → on_the_way k ≡ true → eqb k s ≡ false
not_there s k h t = go (eqb k s) refl
  where
    go : (w : Bool) → eqb k s ≡ w → w ≡ false
    go true e = clash (sym (ap on_the_way (eqb-true k s e)) ∙ t) h
    go false e = refl

next_quiet : (f : Facts) (s : ℕ) → f.taken ≡ false → on_the_way s ≡ false → next (transitions f) s ≡ s
unfolding next
next_quiet f s t h = rw (t, not_there s 3 h refl, not_there s 4 h refl, not_there s 5 h refl) (go (eqb 2 s))
  where
    go : (w : Bool) → cond (w && false) 3 (cond (w && false) 1 s) ≡ s
    go true = refl
    go false = refl

-- a course from where no transition leads on
pub unmoved : (f : Facts) (s : ℕ) → next (transitions f) s ≡ s → course f s ≡ []
unfolding passed
unmoved f s e = rw (eq-eqb _ _ e)

pub quiet : (f : Facts) (s : ℕ) → f.taken ≡ false → on_the_way s ≡ false → course f s ≡ []
quiet f s t h = unmoved f s (next_quiet f s t h)

-- whoever passes nothing stays as it is
pub stays_so : (f : Facts) (p : Prediction) → course f p.state ≡ [] → (along f p).prediction ≡ p
unfolding last_of
stays_so f p e = rw e
