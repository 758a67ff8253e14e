-- Texts written over lent room, in one part or two.
use Prim.Native.Nat.{ℕ, suc, ◌+◌, ◌≤◌, ◌<◌}
use native.Mathlib.Nat.{zero-add, add-zero}
use native.Mathlib.Omega.{arith}
use mathlib.Core.Path.{◌≡◌, sym, ap, ◌∙◌}
use mathlib.Core.List.{List, [], ◌∷◌, ◌++◌}
use lib.ListN.{length, set}
use lib.Seq.{sets, sets-eq}
use borrow.Author.Tests.{lt-ltb, le-ltb}
use Rattle.replies.specs.Reply.{refused_with, text_of, head_of, answer_in, room_after, written_in, Wrote}
use Rattle.replies.proofs.Spelt.{refused_text}

sets_parts : (l : List ℕ) (i : ℕ) (a b : List ℕ) → sets l i (a ++ b) ≡ sets (sets l i a) (i + length a) b
sets_parts l i [] b = ap (λ k. sets l k b) (sym (add-zero i))
sets_parts l i (x ∷ a) b =
    let e : suc i + length a ≡ i + suc (length a) = omega arith in
    sets_parts (set l i x) (suc i) a b ∙ ap (λ k. sets (sets (set l i x) (suc i) a) k b) e

module _ (room : List ℕ) where
  pub too_small_fact : (t : List ℕ) → length room < length t → Wrote room t 14 room 0
  unfolding answer_in room_after written_in
  too_small_fact t h =
      let e = lt-ltb (length room) (length t) h in
      record { answered = rw e; left = rw e; many = rw e }

  pub one_part : (t : List ℕ) → length t ≤ length room → Wrote room t 0 (sets room 0 t) (length t)
  unfolding answer_in room_after written_in
  one_part t h =
      let e = le-ltb (length room) (length t) h in
      let z : 0 + length t ≡ length t = zero-add (length t) in
      record { answered = rw e; left = rw (e, sets-eq t room 0 (omega arith), z); many = rw e }

  pub two_parts : (a b : List ℕ) → length (a ++ b) ≤ length room
      → Wrote room (a ++ b) 0 (sets (sets room 0 a) (length a) b) (length (a ++ b))
  two_parts a b h =
      let z : 0 + length a ≡ length a = zero-add (length a) in
      rw (sets_parts room 0 a b, z) at (one_part (a ++ b) h)

-- a refusal's text, its head and its words
module _ (room : List ℕ) (n : ℕ) (words : List ℕ) (h : length words ≤ 80) where
  abbrev t : List ℕ
  t = head_of n (length words) ++ words

  long : length t ≡ 15 + length words
  long = omega arith

  pub refused_small : length room < 15 + length words → Wrote room (text_of (refused_with n words)) 14 room 0
  refused_small l = rw (refused_text n words h) (too_small_fact room t (rw long l))

  pub refused_writes : (head : List ℕ) → head ≡ head_of n (length words) → 15 + length words ≤ length room
      → Wrote room (text_of (refused_with n words)) 0 (sets (sets room 0 head) 15 words) (15 + length words)
  refused_writes head e l = rw (refused_text n words h, sym long, e) (two_parts room (head_of n (length words)) words (rw long l))
