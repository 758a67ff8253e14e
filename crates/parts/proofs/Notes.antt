-- Reports noted one after the other are the list of them.
use Prim.Native.Nat.{ℕ, ◌+◌}
use native.Mathlib.Omega.{arith}
use mathlib.Core.Path.{◌≡◌, refl, ap, sym, ◌∙◌}
use mathlib.Core.Bool.{Bool, true, false, cond}
use mathlib.Core.List.{List, [], ◌∷◌, ◌++◌, append-nil, append_assoc}
use lib.ListN.{length, set, take, length-append}
use lib.Seq.{set_out, take_all, take-append-le, length-take-le}
use lib.Dec.{ltb}
use borrow.Author.Tests.{ltb-true, ltb-false}
use Rattle.lists.specs.Lists.{fill}
use Rattle.lists.proofs.Tables.{push_fill, length_fill}
use Rattle.rules.specs.declared.report.Report.{Report}
use Rattle.rules.specs.declared.report.Reports.{Reports}
use Rattle.rules.specs.Reports.{no_report, no_reports, listed}
use Rattle.parts.specs.Told.{noted, note_all}

pub note_all_append : (rs : Reports) (l k : List Report) → note_all rs (l ++ k) ≡ note_all (note_all rs l) k
unfolding note_all
note_all_append rs [] k = refl
note_all_append rs (r ∷ l) k = note_all_append (noted rs r) l k

abbrev reports : ℕ → List Report → Reports
reports n l = record { count = n; items = l }

noted_listed : (l : List Report) (r : Report) → noted (listed l) r ≡ listed (l ++ (r ∷ []))
unfolding noted listed
noted_listed l r = go (ltb (length l) 10) refl
  where
    go : (b : Bool) → ltb (length l) 10 ≡ b
        → cond (ltb (length (take 10 l)) 10) (reports (length (take 10 l) + 1) (set (fill 10 no_report l) (length (take 10 l)) r))
        (reports (length (take 10 l)) (fill 10 no_report l)) ≡ reports (length (take 10 (l ++ (r ∷ [])))) (fill 10 no_report (l ++ (r ∷ [])))
    go true e =
        let h = ltb-true (length l) 10 e in
        let w = length-append l (r ∷ []) in
        rw (take_all 10 l (omega arith), e, take_all 10 (l ++ (r ∷ [])) (omega arith), w, push_fill 10 no_report l r)
    go false e =
        let h = ltb-false (length l) 10 e in
        let n : length (take 10 l) ≡ 10 = length-take-le 10 l (omega arith) in
        let g = length_fill 10 no_report l in
        let a : fill 10 no_report (l ++ (r ∷ [])) ≡ fill 10 no_report l = sym (push_fill 10 no_report l r) ∙ set_out _ _ _ (omega arith) in
        rw (take-append-le 10 l (r ∷ []) (omega arith), a, n)

note_on : (l k : List Report) → note_all (listed l) k ≡ listed (l ++ k)
unfolding note_all
note_on l [] = rw append-nil
note_on l (r ∷ k) = rw (noted_listed l r) (note_on (l ++ (r ∷ [])) k ∙ ap listed (append_assoc l (r ∷ []) k))

pub all_noted : (l : List Report) → note_all no_reports l ≡ listed l
all_noted l = note_on [] l
