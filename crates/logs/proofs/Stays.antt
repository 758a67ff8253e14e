-- An entry reads the same in files that are alike as far as it goes.
use Prim.Native.Nat.{ℕ, zero, suc, ◌+◌, ◌≤◌, ◌<◌}
use native.Mathlib.Omega.{arith}
use mathlib.Core.Path.{◌≡◌, refl, sym, ◌∙◌}
use mathlib.Core.List.{List, ◌++◌}
use lib.ListN.{length, take, drop, length-drop, get_or-append}
use lib.Seq.{get_or-take, get_or-drop, length-take-le, ext_get_or}
use Rattle.rules.specs.declared.report.Outcome.{Outcome}
use Rattle.image.specs.Image.{byte_at}
use Rattle.logs.specs.Layout.{codes_size, input_size, input_in, report_size, reports_size, answer_size, entry_size, shown_in}
use Rattle.logs.specs.Judging.{shows}

-- the first n bytes are the same
abbrev pub Alike : ℕ → List ℕ → List ℕ → Type 0
Alike n a b = (k : ℕ) → k < n → byte_at b k ≡ byte_at a k

-- from a position on
later : (s n m : ℕ) (a b : List ℕ) → Alike n a b → s + m ≤ n → Alike m (drop s a) (drop s b)
later s n m a b h l k j = get_or-drop s b k 0 ∙ h (s + k) (omega arith) ∙ sym (get_or-drop s a k 0)

part_alike : (s m n : ℕ) (a b : List ℕ) → Alike n a b → s + m ≤ n → n ≤ length a → n ≤ length b → take m (drop s b) ≡ take m (drop s a)
part_alike s m n a b h l p q =
    let d = length-drop s a in
    let e = length-drop s b in
    let x = length-take-le m (drop s a) (omega arith) in
    let y = length-take-le m (drop s b) (omega arith) in
    ext_get_or 0 (take m (drop s b)) (take m (drop s a)) (y ∙ sym x) (λ i r.
    get_or-take m (drop s b) i 0 (omega arith) ∙ later s n m a b h l i (omega arith) ∙ sym (get_or-take m (drop s a) i 0 (omega arith)))

-- ── Sizes ──
report_alike : (a b : List ℕ) → Alike (report_size a) a b → report_size b ≡ report_size a
unfolding report_size
report_alike a b h = rw (h 0 (omega arith), h 1 (omega arith))

reports_alike : (n : ℕ) (a b : List ℕ) → Alike (reports_size n a) a b → reports_size n b ≡ reports_size n a
unfolding reports_size
reports_alike zero a b h = refl
reports_alike (suc n) a b h =
    let s = report_size a in
    let r = reports_size n (drop s a) in
    rw (report_alike a b (λ k l. h k (omega arith)), reports_alike n (drop s a) (drop s b) (later s (s + r) r a b h (omega arith)))

answer_alike : (a b : List ℕ) → Alike (answer_size a) a b → answer_size b ≡ answer_size a
unfolding answer_size
answer_alike a b h =
    let r = reports_size (byte_at a 1) (drop 2 a) in
    rw (h 1 (omega arith), reports_alike (byte_at a 1) (drop 2 a) (drop 2 b) (later 2 (2 + r) r a b h (omega arith)))

input_alike : (a b : List ℕ) → Alike (input_size a) a b → input_size b ≡ input_size a
unfolding input_size
input_alike a b h = rw (h 0 (omega arith), h 3 (omega arith))

-- ── The whole entry ──
module _ (a b : List ℕ) (h : Alike (entry_size a) a b) where
  abbrev asked : ℕ
  asked = input_size a

  abbrev answered : ℕ
  answered = answer_size (drop asked a)

  same_input_size : input_size b ≡ asked
  unfolding entry_size
  same_input_size = input_alike a b (λ k l. h k (omega arith))

  same_answer_size : answer_size (drop asked b) ≡ answered
  unfolding entry_size
  same_answer_size = answer_alike (drop asked a) (drop asked b) (later asked (asked + answered) answered a b h (omega arith))

  pub same_size : entry_size b ≡ entry_size a
  unfolding entry_size
  same_size = rw (same_input_size, same_answer_size)

  module _ (p : entry_size a ≤ length a) (q : entry_size a ≤ length b) where
    pub same_input : input_in b ≡ input_in a
    unfolding input_in input_size entry_size
    same_input =
        let n = byte_at a 3 in
        let c = codes_size (byte_at a 0) in
        rw (
          h 0 (omega arith),
          h 1 (omega arith),
          h 2 (omega arith),
          h 3 (omega arith),
          part_alike 4 n (asked + answered) a b h (omega arith) p q,
          part_alike (4 + n) c (asked + answered) a b h (omega arith) p q,
        )

    same_shown : shown_in b ≡ shown_in a
    unfolding shown_in entry_size
    same_shown = rw (same_input_size, same_answer_size) (part_alike asked answered (asked + answered) a b h (omega arith) p q)

    pub same_shows : (o : Outcome) → shows b o ≡ shows a o
    unfolding shows
    same_shows o = rw same_shown

-- what follows the first n bytes doesn't matter
pub front_alike : (n : ℕ) (a x : List ℕ) → n ≤ length a → Alike n a (take n a ++ x)
front_alike n a x h k l =
    let z = length-take-le n a h in
    get_or-append (take n a) x 0 k (omega arith) ∙ get_or-take n a k 0 l
