-- What the judging says of entries, from a tool on: it passes over those of a run, and what it passed over are those of a run.
use Prim.Native.Nat.{ℕ, zero, suc, ◌+◌, ◌≤◌, ◌<◌}
use native.Mathlib.Omega.{arith}
use native.Mathlib.Nat.{add-zero}
use mathlib.Core.Path.{◌≡◌, refl, sym, ap, ◌∙◌}
use mathlib.Core.Bool.{Bool, true, false, cond}
use mathlib.Core.List.{List, [], ◌∷◌, ◌++◌, append_assoc}
use lib.ListN.{length, take, drop, length-append, length-drop}
use lib.Seq.{drop_at, length-take-le}
use lib.Dec.{ltb}
use borrow.Author.Tests.{ltb-true, ltb-false, le-ltb}
use Rattle.lists.specs.Lists.{every}
use Rattle.lists.proofs.Bools.{and_l, and_r, and_i}
use Rattle.lists.proofs.Tests.{list_is, list_same}
use Rattle.rules.specs.declared.report.Outcome.{Outcome}
use Rattle.rules.specs.Seen.{Input}
use Rattle.rules.specs.Outcome.{outcome}
use Rattle.logs.specs.Layout.{input_in, entry_size}
use Rattle.logs.specs.Written.{shown, list_of, input, fits}
use Rattle.logs.specs.Judging.{Judgement, ended, shows, judging}
use Rattle.logs.proofs.Turns.{entry_some, file_ends, given, one_turn}
use Rattle.logs.proofs.Stays.{same_size, same_input, same_shows, front_alike}
use Rattle.logs.proofs.Back.{entry_back, asked_back, shown_back, input_read, entry_read}

-- ── A run by outcomes, and its entries ──
abbrev shown_by : Outcome → List ℕ
shown_by o = shown o.answer (list_of o.reports)

unfoldable pub after : Outcome → List Input → Outcome
after o [] = o
after o (i ∷ is) = after (outcome o.tool i) is

abbrev pub entry_of : Outcome → Input → List ℕ
entry_of o i = input i ++ shown_by (outcome o.tool i)

unfoldable pub entries_of : Outcome → List Input → List ℕ
entries_of o [] = []
entries_of o (i ∷ is) = entry_of o i ++ entries_of (outcome o.tool i) is

-- ── The entries of a run are passed over ──
module _ (k at : ℕ) (o : Outcome) (i : Input) (fit : fits i ≡ true) (x : List ℕ) where
  abbrev next : Outcome
  next = outcome o.tool i

  size : entry_size (entry_of o i ++ x) ≡ length (entry_of o i)
  size = entry_back i fit next.answer (list_of next.reports) x

  it_shows : shows (entry_of o i ++ x) next ≡ true
  unfolding shows
  it_shows = rw (shown_back i fit next.answer (list_of next.reports) x) (list_same (shown_by next))

  is_given : given o (entry_of o i ++ x) ≡ next
  is_given = ap (outcome o.tool) (asked_back i fit next.answer (list_of next.reports) x)

  whole : ltb (length (entry_of o i ++ x)) (entry_size (entry_of o i ++ x)) ≡ false
  whole =
      let e = size in
      let l = length-append (entry_of o i) x in
      le-ltb (length (entry_of o i ++ x)) (entry_size (entry_of o i ++ x)) (omega arith)

  some : 0 < length (entry_of o i ++ x)
  some = let l = length-append (entry_of o i) x in let s = entry_some (entry_of o i ++ x) in let e = size in omega arith

  passes_one : judging k at o 0 (entry_of o i ++ x) ≡ judging (suc k) (at + length (entry_of o i)) next 0 x
  passes_one =
      one_turn k at o (entry_of o i ++ x) some
      ∙ rw (whole, is_given, it_shows, size, drop_at (entry_of o i) x (length (entry_of o i)) refl)

pub passes : (k at : ℕ) (o : Outcome) (is : List Input) → every fits is ≡ true → (x : List ℕ)
    → judging k at o 0 (entries_of o is ++ x) ≡ judging (k + length is) (at + length (entries_of o is)) (after o is) 0 x
unfolding every entries_of after
passes k at o [] f x = rw (add-zero k, add-zero at)
passes k at o (i ∷ is) f x =
    let e = entry_of o i in
    let es = entries_of (outcome o.tool i) is in
    let n : suc k + length is ≡ k + suc (length is) = omega arith in
    let m : at + length e + length es ≡ at + length (e ++ es) = let l = length-append e es in omega arith in
    rw (append_assoc e es x)
    (passes_one k at o i (and_l (fits i) _ f) (es ++ x)
    ∙ passes (suc k) (at + length e) (outcome o.tool i) is (and_r (fits i) _ f) x ∙ rw (n, m))

-- ── What was passed over, and why the judging ended ──
-- Of what is left where it ended: nothing; a whole entry that doesn't show what is given; an entry that is cut short.
pub data Ends (o : Outcome) (rest : List ℕ) (j : Judgement) : Type 0 where
  agrees : rest ≡ [] → j.says ≡ 0 → j.last ≡ o → Ends o rest j
  disagrees : 0 < length rest → entry_size rest ≤ length rest → shows rest (given o rest) ≡ false → j.says ≡ 1 → j.last ≡ given o rest
      → Ends o rest j
  cut_short : 0 < length rest → length rest < entry_size rest → j.says ≡ 29 → j.last ≡ o → Ends o rest j

pub record Judged (k at : ℕ) (o : Outcome) (l : List ℕ) (j : Judgement) : Type 0 where
  pub inputs : List Input
  pub rest : List ℕ
  pub fit : every fits inputs ≡ true
  pub bytes : l ≡ entries_of o inputs ++ rest
  pub entry : j.entry ≡ k + length inputs
  pub stands : j.at ≡ at + length (entries_of o inputs)
  pub ends : Ends (after o inputs) rest j

-- the judging ended at once
at_once : (k at : ℕ) (o : Outcome) (l : List ℕ) (says : ℕ) (last : Outcome) → Ends o l (ended says k at last)
    → Judged k at o l (ended says k at last)
unfolding every entries_of after
at_once k at o l says last e = record {
  inputs = [];
  rest = l;
  fit = refl;
  bytes = refl;
  entry = sym (add-zero k);
  stands = sym (add-zero at);
  ends = e;
}

-- an entry agreed, and the judging went on
module _ (k at : ℕ) (o : Outcome) (l : List ℕ) (whole : entry_size l ≤ length l) (shown : shows l (given o l) ≡ true) where
  entry_is : l ≡ entry_of o (input_in l) ++ drop (entry_size l) l
  unfolding shows
  entry_is = rw (list_is _ _ shown) at (entry_read l whole)

  entry_long : length (entry_of o (input_in l)) ≡ entry_size l
  entry_long =
      let a : length l ≡ length (entry_of o (input_in l)) + length (drop (entry_size l) l) =
      ap length entry_is ∙ length-append (entry_of o (input_in l)) (drop (entry_size l) l) in
      let b = length-drop (entry_size l) l in
      omega arith

  onwards : (j : Judgement) → Judged (suc k) (at + entry_size l) (given o l) (drop (entry_size l) l) j → Judged k at o l j
  unfolding every entries_of after
  onwards j d =
      let es = entries_of (given o l) d.inputs in
      let n = length-append (entry_of o (input_in l)) es in
      let m = entry_long in
      record {
        inputs = input_in l ∷ d.inputs;
        rest = d.rest;
        fit = and_i (input_read l whole).fit d.fit;
        bytes =
            entry_is ∙ ap (λ t. entry_of o (input_in l) ++ t) d.bytes
            ∙ sym (append_assoc (entry_of o (input_in l)) es d.rest);
        entry = let e = d.entry in omega arith;
        stands = let e = d.stands in omega arith;
        ends = d.ends;
      }

module _ (k at : ℕ) (o : Outcome) (l : List ℕ) (some : 0 < length l) where
  abbrev on : Judgement
  on = judging (suc k) (at + entry_size l) (given o l) 0 (drop (entry_size l) l)

  turned : ((entry_size l ≤ length l) → Judged (suc k) (at + entry_size l) (given o l) (drop (entry_size l) l) on)
      → Judged k at o l (judging k at o 0 l)
  turned later = rw (one_turn k at o l some) (go (ltb (length l) (entry_size l)) (shows l (given o l)) refl refl)
    where
      go : (c s : Bool) → ltb (length l) (entry_size l) ≡ c → shows l (given o l) ≡ s
          → Judged k at o l (cond c (ended 29 k at o) (cond s on (ended 1 k at (given o l))))
      go true s p q = at_once k at o l 29 o (cut_short some (ltb-true _ _ p) refl refl)
      go false true p q = onwards k at o l (ltb-false _ _ p) q on (later (ltb-false _ _ p))
      go false false p q = at_once k at o l 1 (given o l) (disagrees some (ltb-false _ _ p) q refl refl)

nothing_left : (k at : ℕ) (o : Outcome) → Judged k at o [] (judging k at o 0 [])
nothing_left k at o = rw (file_ends k at o) (at_once k at o [] 0 o (agrees refl refl refl))

-- of a list no longer than n
judged_in : (n k at : ℕ) (o : Outcome) (l : List ℕ) → length l ≤ n → Judged k at o l (judging k at o 0 l)
judged_in zero k at o [] h = nothing_left k at o
judged_in zero k at o (b ∷ t) h = absurd (omega arith)
judged_in (suc n) k at o [] h = nothing_left k at o
judged_in (suc n) k at o (b ∷ t) h =
    let l = b ∷ t in
    let s = entry_size l in
    let z = entry_some l in
    let d = length-drop s l in
    turned k at o l (omega arith) (λ w. judged_in n (suc k) (at + s) (given o l) (drop s l) (omega arith))

pub judged : (k at : ℕ) (o : Outcome) (l : List ℕ) → Judged k at o l (judging k at o 0 l)
judged k at o l = judged_in (length l) k at o l (omega arith)

-- ── Whatever follows an entry that disagrees ──
pub stays : (k at : ℕ) (o : Outcome) (l x : List ℕ) → entry_size l ≤ length l → shows l (given o l) ≡ false
    → judging k at o 0 (take (entry_size l) l ++ x) ≡ ended 1 k at (given o l)
stays k at o l x w d =
    let s = entry_size l in
    let b = take s l ++ x in
    let h = front_alike s l x w in
    let n : length b ≡ s + length x = length-append (take s l) x ∙ ap (λ t. t + length x) (length-take-le s l w) in
    let z = entry_some l in
    let g = ap (outcome o.tool) (same_input l b h w (omega arith)) in
    one_turn k at o b (omega arith)
    ∙ rw (same_size l b h, le-ltb (length b) s (omega arith), g, same_shows l b h w (omega arith) (given o l), d)
