-- What the bytes that are written make of the report list.
use Prim.Native.Nat.{ℕ, ◌+◌, ◌<◌}
use native.Mathlib.Nat.{zero-add}
use native.Mathlib.Omega.{arith}
use mathlib.Core.Path.{◌≡◌, refl, ◌∙◌}
use mathlib.Core.Logic.{◌≢◌}
use mathlib.Core.List.{List, [], ◌∷◌}
use lib.ListN.{length, get_or, set, replicate, length-append}
use lib.Seq.{sets, length-sets, get_or-set_same}
use Rattle.rules.specs.declared.report.Report.{Report}
use Rattle.lists.specs.Lists.{fill}
use Rattle.rules.specs.Reports.{listed, no_reports}
use Rattle.image.specs.Image.{table, byte_at, report_from, report_bytes, report_start, reports_from}
use Rattle.image.proofs.Table.{table_set, getD_table}
use Rattle.image.proofs.Written.{before_stays, after_stays, stands_there}
use Rattle.image.proofs.Bytes.{report_back}
use Rattle.image.proofs.Laid.{report_same, split}

pub reported_is : (m : List ℕ) → (reports_from m).count ≡ byte_at m 0
unfolding reports_from
reported_is m = refl

pub item_is : (m : List ℕ) (k : ℕ) (d : Report) → k < 10 → get_or (reports_from m).items k d ≡ report_from m (report_start k)
unfolding reports_from
item_is m k d b = getD_table 10 (λ k. report_from m (report_start k)) k d b

length_report : (r : Report) → length r.name.bytes ≡ 16 → length (report_bytes r) ≡ 20
unfolding report_bytes
length_report r e = let l = length-append r.name.bytes (r.old ∷ r.new ∷ []) in omega arith

pub none_reported : reports_from (replicate 201 0) ≡ no_reports
unfolding reports_from table listed fill
none_reported = refl

module _ (m : List ℕ) (full : length m ≡ 201) (k : ℕ) (b : k < 10) (r : Report) (e : length r.name.bytes ≡ 16) where
  abbrev written : ℕ → List ℕ
  written v = set (sets m (report_start k) (report_bytes r)) 0 v

  there : (v : ℕ) → report_from (written v) (report_start k) ≡ r
  there v =
      let l = length_report r e in
      report_same (written v) (report_bytes r) (report_start k) 0
      (λ i c. after_stays (sets m (report_start k) (report_bytes r)) 0 (v ∷ []) (report_start k + i) (omega arith)
      ∙ rw zero-add (stands_there m (report_start k) (report_bytes r) i (omega arith) (omega arith))) ∙ report_back r e

  elsewhere : (v j : ℕ) → j ≢ k → report_from (written v) (report_start j) ≡ report_from m (report_start j)
  elsewhere v j d =
      let l = length_report r e in
      report_same (written v) m (report_start j) (report_start j)
      (λ i c. after_stays (sets m (report_start k) (report_bytes r)) 0 (v ∷ []) (report_start j + i) (omega arith)
      ∙ split j k d (λ h. before_stays m (report_start k) (report_bytes r) (report_start j + i) (omega arith))
      (λ h. after_stays m (report_start k) (report_bytes r) (report_start j + i) (omega arith)))

  pub one_noted : (v : ℕ) → reports_from (written v) ≡ record { count = v; items = set (reports_from m).items k r }
  unfolding reports_from
  one_noted v =
      let l = length-sets m (report_start k) (report_bytes r) in
      rw (
        get_or-set_same (sets m (report_start k) (report_bytes r)) 0 v 0 (omega arith),
        table_set 10 (λ j. report_from m (report_start j)) (λ j. report_from (written v) (report_start j)) k r (there v)
            (λ j c d. elsewhere v j d),
      )
