-- A course, transition by transition: where none applies, nothing is passed and nothing is told.
use Prim.Native.Nat.{ℕ, zero, suc}
use mathlib.Core.Path.{◌≡◌, refl, ap, sym, subst, ◌∙◌}
use mathlib.Core.Bool.{Bool, true, false, not, cond}
use mathlib.Core.List.{List, [], ◌∷◌, ◌++◌, append-nil}
use lib.Dec.{eqb}
use borrow.Author.Tests.{eqb-true}
use Rattle.records.specs.declared.name.Name.{Name}
use Rattle.rules.specs.declared.report.Report.{Report}
use Rattle.rules.specs.declared.report.Reports.{Reports}
use Rattle.rules.specs.Reports.{report_if}
use Rattle.parts.specs.Told.{note_all}
use Rattle.parts.proofs.Notes.{note_all_append}
use Rattle.prediction.specs.declared.prediction.Facts.{Facts}
use Rattle.prediction.specs.Model.{transitions, next, passed, course, last_of}
use Rattle.prediction.specs.Outcome.{told}

module _ (f : Facts) (name : Name) where
  abbrev pub onward : ℕ → ℕ
  onward s = next (transitions f) s

  -- one transition's report, if it applies
  abbrev pub one_told : ℕ → List Report
  one_told s = report_if (not (eqb (onward s) s)) 8 0 name s (onward s)

  stays : (n s : ℕ) → eqb (onward s) s ≡ true → passed n f s ≡ []
  unfolding passed
  stays zero s e = refl
  stays (suc n) s e = rw e

  -- after one transition comes the rest of the course
  last_on : (n s : ℕ) → last_of s (passed (suc n) f s) ≡ last_of (onward s) (passed n f (onward s))
  unfolding passed last_of
  last_on n s = go (eqb (onward s) s) refl
    where
      go : (w : Bool) → eqb (onward s) s ≡ w
          → last_of s (cond w [] (onward s ∷ passed n f (onward s))) ≡ last_of (onward s) (passed n f (onward s))
      go true e = subst (λ x. s ≡ last_of x (passed n f x)) (sym (eqb-true (onward s) s e)) (rw (stays n s e))
      go false e = refl

  told_on : (n s : ℕ) → told name s (passed (suc n) f s) ≡ one_told s ++ told name (onward s) (passed n f (onward s))
  unfolding passed told report_if
  told_on n s = go (eqb (onward s) s) refl
    where
      go : (w : Bool) → eqb (onward s) s ≡ w
          → told name s (cond w [] (onward s ∷ passed n f (onward s)))
          ≡ report_if (not w) 8 0 name s (onward s) ++ told name (onward s) (passed n f (onward s))
      go true e = subst (λ x. [] ≡ told name x (passed n f x)) (sym (eqb-true (onward s) s e)) (rw (stays n s e))
      go false e = refl

  -- three transitions, one after the other
  pub last_three : (s : ℕ) → onward (onward (onward s)) ≡ last_of s (course f s)
  unfolding passed last_of
  last_three s = sym (last_on 2 s ∙ last_on 1 (onward s) ∙ last_on 0 (onward (onward s)))

  pub told_three : (s : ℕ) (r : Reports)
      → note_all (note_all (note_all r (one_told s)) (one_told (onward s))) (one_told (onward (onward s))) ≡ note_all r (told name s (course f s))
  unfolding passed told
  told_three s r =
      sym (ap (note_all r) (told_on 2 s)
      ∙ note_all_append r (one_told s) _
      ∙ ap (note_all (note_all r (one_told s))) (told_on 1 (onward s))
      ∙ note_all_append (note_all r (one_told s)) (one_told (onward s)) _
      ∙ ap (note_all (note_all (note_all r (one_told s)) (one_told (onward s)))) (told_on 0 (onward (onward s)) ∙ append-nil (one_told (onward (onward s)))))
