-- Each verdict means what it says, and a log that is the log of a run is always found to agree.
use Prim.Native.Nat.{ℕ, zero, suc, ◌+◌, ◌≤◌, ◌<◌}
use native.Mathlib.Omega.{arith}
use native.Mathlib.Nat.{zero-add}
use mathlib.Core.Path.{◌≡◌, refl, sym, ap, ap₂, ◌∙◌}
use mathlib.Core.Logic.{◌≢◌}
use mathlib.Core.Bool.{Bool, true, false, cond}
use mathlib.Core.List.{List, [], ◌++◌, append_assoc, append-nil}
use lib.ListN.{length, take, drop, length-append, take-append-drop}
use lib.Seq.{take_at, drop_at, take-append-add}
use lib.Dec.{ltb}
use borrow.Author.Tests.{eq-eqb, ne_eqb}
use Rattle.lists.specs.Lists.{every}
use Rattle.lists.proofs.Bools.{clash}
use Rattle.lists.proofs.Tests.{list_same}
use Rattle.rules.specs.declared.report.Outcome.{Outcome}
use Rattle.rules.specs.State.{no_tool, start, set_up}
use Rattle.rules.specs.Seen.{Input}
use Rattle.rules.specs.Run.{Line, line_of, run}
use Rattle.image.specs.Image.{byte_at}
use Rattle.logs.specs.Layout.{head, read_head, input_in, entry_size, shown_in}
use Rattle.logs.specs.Written.{shown, fits, head_of, log_of}
use Rattle.logs.specs.Judging.{ended, untouched, shows, judging, judge}
use Rattle.logs.proofs.Turns.{given, file_ends}
use Rattle.logs.proofs.Heads.{good_in, part_at, Good, HeadRead, head_read, GoodHead, good_head, head_back}
use Rattle.logs.proofs.Heads.HeadRead.{good, wrong, short}
use Rattle.logs.proofs.Judged.{after, entries_of, passes, Ends, Judged, judged, stays}
use Rattle.logs.proofs.Judged.Ends.{agrees, disagrees, cut_short}
use Rattle.judge.specs.Meaning.{LogOf, Agrees, Before, Disagrees, CutShort, Said}
use Rattle.judge.specs.Meaning.Said.{head_wrong, head_cut_short}
use Rattle.judge.proofs.Tabled.{shown_is, log_is, log_long, sound_there, state_there}

-- ── The head ──
module _ (m : List ℕ) where
  refused_head : (read_head head 0 m).refusal ≢ 0
      → judge m ≡ ended (read_head head 0 m).refusal 0 (read_head head 0 m).at (untouched no_tool)
  unfolding judge
  refused_head n = rw (ne_eqb (read_head head 0 m).refusal 0 n)

  good_then : (read_head head 0 m).refusal ≡ 0
      → judge m ≡ judging 0 7 (untouched (set_up (byte_at m 5) (byte_at m 6)).tool) 0 (drop 7 m)
  unfolding judge
  good_then z = rw (eq-eqb (read_head head 0 m).refusal 0 z)

-- 27 for the first five bytes, 28 for the last two
number_of : (k : ℕ) → k < 7 → (part_at head k).refusal ≡ cond (ltb k 5) 27 28
number_of zero h = refl
number_of (suc zero) h = refl
number_of (suc (suc zero)) h = refl
number_of (suc (suc (suc zero))) h = refl
number_of (suc (suc (suc (suc zero)))) h = refl
number_of (suc (suc (suc (suc (suc zero))))) h = refl
number_of (suc (suc (suc (suc (suc (suc zero)))))) h = refl
number_of (suc (suc (suc (suc (suc (suc (suc k))))))) h = absurd (omega arith)

numbered : (k : ℕ) → ◌≡◌ {A = ℕ} (cond (ltb k 5) 27 28) 0 → ⊥
numbered k = go (ltb k 5)
  where
    go : (b : Bool) → ◌≡◌ {A = ℕ} (cond b 27 28) 0 → ⊥
    go true e = omega arith
    go false e = omega arith

-- a log that was written, with anything after it
judge_log : (P B : ℕ) → (set_up P B).answer ≡ 0 → (is : List Input) → every fits is ≡ true → (x : List ℕ)
    → judge (log_of P B is ++ x)
    ≡ judging (length is) (length (log_of P B is)) (after (untouched (set_up P B).tool) is) 0 x
judge_log P B ok is fit x =
    let o = untouched (set_up P B).tool in
    let es = entries_of o is in
    let e = sym (log_is P B ok is) in
    ap (λ l. judge (l ++ x)) e
    ∙ good_then (head_of P B ++ (es ++ x)) (head_back P B (es ++ x) ok)
    ∙ passes 0 7 o is fit x ∙ ap₂ (λ k at. judging k at (after o is) 0 x) (zero-add (length is)) (log_long P B ok is)

-- the log of a run agrees
pub agrees_if : (P B : ℕ) (inputs : List Input) (file : List ℕ) → LogOf P B inputs file → (judge file).says ≡ 0
agrees_if P B is file l =
    let e = judge_log P B l.accepted is l.fit [] in
    let z : file ≡ log_of P B is ++ [] = l.bytes ∙ sym (append-nil (log_of P B is)) in
    ap (λ m. (judge m).says) z ∙ ap (λ j. j.says) (e ∙ file_ends _ _ _)

-- ── After a good head ──
module _ (m : List ℕ) (z : (read_head head 0 m).refusal ≡ 0) (g : GoodHead m) where
  abbrev P : ℕ
  P = byte_at m 5

  abbrev B : ℕ
  B = byte_at m 6

  abbrev begun : Outcome
  begun = untouched (set_up P B).tool

  module _ (d : Judged 0 7 begun (drop 7 m) (judging 0 7 begun 0 (drop 7 m))) where
    abbrev is : List Input
    is = d.inputs

    abbrev log : List ℕ
    log = log_of P B is

    abbrev there : Outcome
    there = after begun is

    file_is : m ≡ log ++ d.rest
    file_is =
        g.bytes ∙ ap (λ l. head_of P B ++ l) d.bytes ∙ sym (append_assoc (head_of P B) (entries_of begun is) d.rest)
        ∙ ap (λ l. l ++ d.rest) (log_is P B g.accepted is)

    at_is : (judge m).at ≡ length log
    at_is = ap (λ j. j.at) (good_then m z) ∙ d.stands ∙ log_long P B g.accepted is

    entry_is : (judge m).entry ≡ length is
    entry_is = ap (λ j. j.entry) (good_then m z) ∙ d.entry ∙ zero-add (length is)

    says_is : (n : ℕ) → (judging 0 7 begun 0 (drop 7 m)).says ≡ n → (judge m).says ≡ n
    says_is n e = ap (λ j. j.says) (good_then m z) ∙ e

    front : take (judge m).at m ≡ log
    front = ap₂ take at_is file_is ∙ take_at log d.rest (length log) refl

    left : drop (judge m).at m ≡ d.rest
    left = ap₂ drop at_is file_is ∙ drop_at log d.rest (length log) refl

    long : length m ≡ length log + length d.rest
    long = ap length file_is ∙ length-append log d.rest

    before : Before P B is m
    before = record { log = record { accepted = g.accepted; fit = d.fit; bytes = front }; counted = entry_is }

    -- nothing is left
    all_agree : d.rest ≡ [] → Agrees m
    all_agree e =
        let b : m ≡ log = file_is ∙ ap (λ l. log ++ l) e ∙ append-nil log in
        record {
          P = P;
          B = B;
          inputs = is;
          log = record { accepted = g.accepted; fit = d.fit; bytes = b };
          counted = entry_is;
          read = at_is ∙ ap length (sym b);
        }

    -- what the entry shows is something else
    module _ (whole : entry_size d.rest ≤ length d.rest) (other : shows d.rest (given there d.rest) ≡ false) where
      abbrev rest : List ℕ
      rest = d.rest

      abbrev size : ℕ
      size = entry_size rest

      abbrev line : Line
      line = line_of (run (start P B) is) (input_in rest)

      same_then : shown_in rest ≡ shown line.answer line.reports → shows rest (given there rest) ≡ true
      unfolding shows
      same_then e =
          let s = shown_is there.tool (input_in rest) (sound_there P B g.accepted is) in
          let r = ap (λ t. shown (line_of t (input_in rest)).answer (line_of t (input_in rest)).reports) (state_there P B g.accepted is) in
          rw (e ∙ sym (s ∙ r)) (list_same _)

      -- with anything after it
      said_with : (x : List ℕ) → judge (log ++ (take size rest ++ x)) ≡ ended 1 (length is) (length log) (given there rest)
      said_with x =
          judge_log P B g.accepted is d.fit (take size rest ++ x)
          ∙ stays (length is) (length log) there rest x whole other

      said_of_file : judge m ≡ ended 1 (length is) (length log) (given there rest)
      said_of_file = ap judge (file_is ∙ ap (λ l. log ++ l) (sym (take-append-drop size rest))) ∙ said_with (drop size rest)

      with_other : (x : List ℕ) → take ((judge m).at + entry_size (drop (judge m).at m)) m ++ x ≡ log ++ (take size rest ++ x)
      with_other x =
          ap₂ (λ n l. take n l ++ x) (ap₂ ◌+◌ at_is (ap entry_size left)) file_is
          ∙ ap (λ l. l ++ x) (take-append-add log rest size) ∙ append_assoc log (take size rest) x

      one_disagrees : Disagrees m
      one_disagrees = record {
        P = P;
        B = B;
        inputs = is;
        before = before;
        whole = rw (left, at_is, long) (omega arith);
        differs = rw left (λ e. clash (same_then e) other);
        follows = λ x. ap judge (with_other x) ∙ said_with x ∙ sym said_of_file;
      }

    ends_short : 0 < length d.rest → length d.rest < entry_size d.rest → CutShort m
    ends_short p q = record {
      P = P;
      B = B;
      inputs = is;
      before = before;
      begun = rw (at_is, long) (omega arith);
      short = rw (left, at_is, long) (omega arith);
    }

    pub entries_said : Said m
    entries_said = go d.ends
      where
        go : Ends there d.rest (judging 0 7 begun 0 (drop 7 m)) → Said m
        go (agrees e s l) = Said.agrees (says_is 0 s) (all_agree e)
        go (disagrees p w f s l) = Said.disagrees (says_is 1 s) (one_disagrees w f)
        go (cut_short p q s l) = Said.cut_short (says_is 29 s) (ends_short p q)

-- ── A refused head ──
module _ (m : List ℕ) (k : ℕ) (stops : (read_head head 0 m).at ≡ 0 + k) (inside : k < 7) (before : Good head m k) where
  module _ (n : (read_head head 0 m).refusal ≢ 0) where
    stops_at : (judge m).at ≡ k
    stops_at = ap (λ j. j.at) (refused_head m n) ∙ stops ∙ zero-add k

    none_read : (judge m).entry ≡ 0
    none_read = ap (λ j. j.entry) (refused_head m n)

    says_so : (judge m).says ≡ (read_head head 0 m).refusal
    says_so = ap (λ j. j.says) (refused_head m n)

  pub wrong_said : k < length m → good_in (part_at head k) (byte_at m k) ≡ false → (read_head head 0 m).refusal ≡ (part_at head k).refusal → Said m
  wrong_said there f r =
      let c = number_of k inside in
      let n : (read_head head 0 m).refusal ≢ 0 = λ z. numbered k (sym c ∙ sym r ∙ z) in
      let a = stops_at n in
      head_wrong (record {
        none = none_read n;
        before = λ j l. before j (omega arith);
        in_head = omega arith;
        there = omega arith;
        wrong = rw a f;
        number = says_so n ∙ r ∙ c ∙ ap (λ i. cond (ltb i 5) 27 28) (sym a);
      })

  pub short_said : length m ≡ k → (read_head head 0 m).refusal ≡ 29 → Said m
  short_said e r =
      let n : (read_head head 0 m).refusal ≢ 0 = λ z. omega arith in
      let a = stops_at n in
      head_cut_short (says_so n ∙ r) (record {
        none = none_read n;
        before = λ j l. before j (omega arith);
        in_head = omega arith;
        ends = e ∙ sym a;
      })

-- ── Every log ──
pub said : (m : List ℕ) → Said m
said m = go (head_read head m 0)
  where
    go : HeadRead head m 0 (read_head head 0 m) → Said m
    go (good l g z) =
        let h = good_head m l g in
        entries_said m z h (judged 0 7 (untouched (set_up (byte_at m 5) (byte_at m 6)).tool) (drop 7 m))
    go (wrong k w l t g f r) = wrong_said m k w l g t f r
    go (short k w l e g r) = short_said m k w l g e r

-- a log that agrees is the log of a run
pub agrees_only : (file : List ℕ) → (judge file).says ≡ 0 → Agrees file
agrees_only file z = go (said file)
  where
    go : Said file → Agrees file
    go (Said.agrees s a) = a
    go (Said.disagrees s d) = absurd (omega arith)
    go (Said.cut_short s c) = absurd (omega arith)
    go (head_wrong w) = let n = w.number in absurd (numbered (judge file).at (sym n ∙ z))
    go (head_cut_short s w) = absurd (omega arith)
