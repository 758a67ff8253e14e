-- What is left after an answer, a count and reports, report by report.
use Prim.Native.Nat.{ℕ, ◌+◌, ◌<◌, ◌≤◌}
use native.Mathlib.Omega.{arith}
use native.Mathlib.Numerals.{add-one}
use mathlib.Core.Path.{◌≡◌, sym, ap, ap₂, ◌∙◌}
use mathlib.Core.List.{List, [], ◌∷◌, ◌++◌}
use lib.ListN.{length, get_or, drop}
use lib.Seq.{drop-cons, get_or-take, length-take-le}
use Rattle.std.proofs.Common.{Some, None}
use Rattle.lists.proofs.Loops.{ended}
use Rattle.rules.specs.declared.report.Report.{Report}
use Rattle.rules.specs.Reports.{no_report}
use Rattle.image.specs.Image.{byte_at, report_from, reports_from, report_start}
use Rattle.image.proofs.Table.{length_table}
use Rattle.image.proofs.Reported.{reported_is, item_is}
use Rattle.logs.specs.Written.{report, reports, shown, list_of}
use Rattle.logs.specs.InPlace.{after}
use Rattle.logs.proofs.After.{after_both, after_neither, after_nothing}

module _ (o : List ℕ) (few : (reports_from o).count ≤ 10) where
  abbrev told : List Report
  told = list_of (reports_from o)

  items_long : length (reports_from o).items ≡ 10
  unfolding reports_from
  items_long = length_table 10 (λ k. report_from o (report_start k))

  list_long : length told ≡ byte_at o 0
  list_long =
      let z = items_long in
      length-take-le (reports_from o).count (reports_from o).items (omega arith) ∙ reported_is o

  -- what is still to come after k reports
  abbrev pub to_come : ℕ → List ℕ
  to_come k = reports (drop k told)

  next_report : (k : ℕ) → k < byte_at o 0 → to_come k ≡ report (report_from o (report_start k)) ++ to_come (k + 1)
  unfolding reports
  next_report k h =
      let r = report_from o (report_start k) in
      let n = list_long in
      let c = reported_is o in
      let i : get_or told k no_report ≡ r =
      get_or-take (reports_from o).count (reports_from o).items k no_report (omega arith) ∙ item_is o k no_report (omega arith) in
      ap reports (drop-cons told k no_report (omega arith) ∙ ap₂ ◌∷◌ i (ap (λ j. drop j told) (sym (add-one k))))

  nothing_to_come : (k : ℕ) → k ≡ byte_at o 0 → to_come k ≡ []
  unfolding reports
  nothing_to_come k h = ap reports (ended told k (list_long ∙ sym h))

  -- ── What is left ──
  module _ (answer : ℕ) (l : List ℕ) where
    abbrev all : List ℕ
    all = shown answer told

    all_is : all ≡ (answer ∷ byte_at o 0 ∷ []) ++ to_come 0
    unfolding shown
    all_is = ap (λ n. answer ∷ n ∷ reports told) list_long

    pub none_begun : after l (answer ∷ byte_at o 0 ∷ []) ≡ None → after l all ≡ None
    none_begun h = rw all_is (after_neither l _ (to_come 0) h)

    pub begun : (rest : List ℕ) → after l (answer ∷ byte_at o 0 ∷ []) ≡ Some rest → after rest (to_come 0) ≡ after l all
    begun rest h = rw all_is (sym (after_both l _ (to_come 0) rest h))

    module _ (rest : List ℕ) (k : ℕ) (so_far : after rest (to_come k) ≡ after l all) where
      pub none_next : k < byte_at o 0 → after rest (report (report_from o (report_start k))) ≡ None → after l all ≡ None
      none_next h e = sym so_far ∙ ap (after rest) (next_report k h) ∙ after_neither rest _ (to_come (k + 1)) e

      pub next : k < byte_at o 0 → (left : List ℕ) → after rest (report (report_from o (report_start k))) ≡ Some left
          → after left (to_come (k + 1)) ≡ after l all
      next h left e = sym (after_both rest _ (to_come (k + 1)) left e) ∙ ap (after rest) (sym (next_report k h)) ∙ so_far

      pub all_after : k ≡ byte_at o 0 → Some rest ≡ after l all
      all_after h = sym (after_nothing rest) ∙ ap (after rest) (sym (nothing_to_come k h)) ∙ so_far
