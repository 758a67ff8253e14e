-- An entry that is written is read back, and an entry that is read is one that is written.
use Prim.Native.Nat.{ℕ, suc, ◌+◌, ◌≤◌}
use native.Mathlib.Omega.{arith}
use mathlib.Core.Path.{◌≡◌, refl, sym, ap, ◌∙◌}
use mathlib.Core.Bool.{Bool, true, false, cond}
use mathlib.Core.List.{List, [], ◌∷◌, ◌++◌, append_assoc}
use lib.ListN.{length, take, drop, length-append, length-drop, take-append-drop}
use lib.Seq.{take_at, drop_at, drop-drop, take-add, length-take-le}
use borrow.Author.Tests.{eqb-true, eq-eqb}
use Rattle.rules.specs.declared.report.Report.{Report}
use Rattle.rules.specs.Seen.{Input}
use Rattle.image.specs.Image.{byte_at}
use Rattle.logs.specs.Layout.{codes_size, on_name, input_size, input_in, report_size, reports_size, answer_size, entry_size, shown_in}
use Rattle.logs.specs.Written.{text_of, subject_of, report, reports, shown, input, fits}

-- ── What is written ──
module _ (r : Report) (x : List ℕ) where
  abbrev ends : List ℕ
  ends = r.old ∷ r.new ∷ []

  abbrev subject : Bool → List ℕ
  subject named = cond named (length (text_of r.name) ∷ text_of r.name) (r.port ∷ [])

  report_back : report_size (report r ++ x) ≡ length (report r)
  unfolding report subject_of report_size
  report_back = go (on_name r.model)
    where
      go : (b : Bool) → 4 + cond b (byte_at (subject b ++ ends ++ x) 0) 0 ≡ suc (length (subject b ++ ends))
      go true = let l = length-append (text_of r.name) ends in omega arith
      go false = refl

reports_back : (l : List Report) (x : List ℕ) → reports_size (length l) (reports l ++ x) ≡ length (reports l)
unfolding reports_size reports
reports_back [] x = refl
reports_back (r ∷ l) x =
    rw (
      append_assoc (report r) (reports l) x,
      report_back r (reports l ++ x),
      drop_at (report r) (reports l ++ x) (length (report r)) refl,
      reports_back l x,
      length-append (report r) (reports l),
    )

answer_back : (a : ℕ) (l : List Report) (x : List ℕ) → answer_size (shown a l ++ x) ≡ length (shown a l)
unfolding answer_size shown
answer_back a l x = rw (reports_back l x) (omega arith)

module _ (i : Input) (fit : fits i ≡ true) (x : List ℕ) where
  codes_long : codes_size i.number ≡ length i.codes
  codes_long = sym (eqb-true _ _ fit)

  input_long : length (input i) ≡ 4 + length i.name + length i.codes
  unfolding input
  input_long = let l = length-append i.name i.codes in omega arith

  input_size_fact : input_size (input i ++ x) ≡ length (input i)
  unfolding input_size input
  input_size_fact = let l = length-append i.name i.codes in let c = codes_long in omega arith

  input_back : input_in (input i ++ x) ≡ i
  unfolding input_in input
  input_back =
      let n = length i.name in
      let l = (i.name ++ i.codes) ++ x in
      let e : l ≡ i.name ++ (i.codes ++ x) = append_assoc i.name i.codes x in
      rw (
        sym (drop-drop n 4 (i.number ∷ i.port ∷ i.value ∷ n ∷ l)),
        e,
        take_at i.name (i.codes ++ x) n refl,
        drop_at i.name (i.codes ++ x) n refl,
        take_at i.codes x (codes_size i.number) (sym codes_long),
      )

module _ (i : Input) (fit : fits i ≡ true) (a : ℕ) (l : List Report) (x : List ℕ) where
  abbrev written : List ℕ
  written = (input i ++ shown a l) ++ x

  apart : written ≡ input i ++ (shown a l ++ x)
  apart = append_assoc (input i) (shown a l) x

  answer_after : drop (input_size written) written ≡ shown a l ++ x
  answer_after = rw (apart, input_size_fact i fit (shown a l ++ x)) (drop_at (input i) (shown a l ++ x) (length (input i)) refl)

  pub entry_back : entry_size written ≡ length (input i ++ shown a l)
  unfolding entry_size
  entry_back =
      rw (answer_after, answer_back a l x, length-append (input i) (shown a l))
      (ap (λ n. n + length (shown a l)) (ap input_size apart ∙ input_size_fact i fit (shown a l ++ x)))

  pub asked_back : input_in written ≡ i
  asked_back = ap input_in apart ∙ input_back i fit (shown a l ++ x)

  pub shown_back : shown_in written ≡ shown a l
  unfolding shown_in
  shown_back = rw (answer_after, answer_back a l x) (take_at (shown a l) x (length (shown a l)) refl)

-- ── What is read ──
-- an input's bytes, and the number of its codes
pub record Asked (l : List ℕ) : Type 0 where
  pub bytes : take (input_size l) l ≡ input (input_in l)
  pub fit : fits (input_in l) ≡ true

asked : (l : List ℕ) → input_size l ≤ length l → Asked l
unfolding input_size input_in input
asked [] h = absurd (omega arith)
asked (number ∷ []) h = absurd (omega arith)
asked (number ∷ port ∷ []) h = absurd (omega arith)
asked (number ∷ port ∷ value ∷ []) h = absurd (omega arith)
asked (number ∷ port ∷ value ∷ n ∷ rest) h =
    let l = number ∷ port ∷ value ∷ n ∷ rest in
    let c = codes_size number in
    let r = length-drop n rest in
    let z : 4 + n + c ≡ 4 + (n + c) = omega arith in
    let d : drop (4 + n) l ≡ drop n rest = sym (drop-drop n 4 l) in
    let k : length (take c (drop (4 + n) l)) ≡ c = rw d (length-take-le c (drop n rest) (omega arith)) in
    record {
      bytes = rw (z, take-add 4 (n + c) l, length-take-le n rest (omega arith), d, take-add n c rest);
      fit = eq-eqb (length (take c (drop (4 + n) l))) c k;
    }

module _ (l : List ℕ) (whole : entry_size l ≤ length l) where
  pub input_read : Asked l
  unfolding entry_size
  input_read = asked l (omega arith)

  -- the entry, and what is left after it
  pub entry_read : l ≡ (input (input_in l) ++ shown_in l) ++ drop (entry_size l) l
  unfolding entry_size shown_in
  entry_read =
      let n = input_size l in
      let m = answer_size (drop n l) in
      sym (take-append-drop (n + m) l)
      ∙ ap (λ t. t ++ drop (n + m) l) (take-add n m l ∙ ap (λ t. t ++ take m (drop n l)) input_read.bytes)
