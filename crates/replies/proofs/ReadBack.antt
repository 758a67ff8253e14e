-- The reader of items reads back exactly the tree written, for every answer number.
use Prim.Native.Nat.{ℕ, ◌%◌, ◌^◌, ◌≤◌}
use native.Mathlib.Omega.{arith}
use native.Mathlib.Nat.{zero-add}
use mathlib.Core.Path.{◌≡◌, refl, sym, ◌∙◌}
use mathlib.Core.Logic.{◌≢◌}
use mathlib.Core.Bool.{Bool, true, false, cond}
use mathlib.Core.List.{List, [], ◌++◌, append-nil}
use lib.ListN.{length, take, drop}
use lib.Seq.{take_at}
use lib.Dec.{eqb, ltb}
use borrow.Author.Tests.{leb-true, lt-ltb, eq-eqb}
use Rattle.lists.proofs.Bools.{cond_ind}
use Rattle.items.specs.Formats.{size_of, uneven}
use Rattle.items.specs.Tree.{in_order}
use Rattle.items.specs.Reading.{read_message, Walked, walked}
use Rattle.items.specs.Written.{in_bytes, shortest, count_of, within}
use Rattle.items.proofs.ReadBack.{Back, read_back, shortest_fits}
use Rattle.replies.specs.Texts.{text_for}
use Rattle.replies.specs.Reply.{refused_with, reply_to, reply_text, answer_in, room_after, written_in, Wrote}
use Rattle.replies.proofs.Short.{words_short}

-- ── The tree is within the reader's limits ──
reply_within : (n : ℕ) → (within (reply_to n) 6 ≡ true) × (count_of (reply_to n) ≤ 128)
unfolding reply_to refused_with within count_of in_order size_of uneven in_bytes
reply_within n =
    let w = words_short n in
    let one : length (text_for n) % 1 ≡ 0 = omega arith in
    let fits : ltb (length (text_for n)) (2 ^ 24) ≡ true = lt-ltb (length (text_for n)) (2 ^ 24) (omega arith) in
    cond_ind (λ x. (within x 6 ≡ true) × (count_of x ≤ 128)) (eqb n 0) (λ e. (refl, leb-true _ _ refl))
    (λ e. (rw (eq-eqb _ 0 one, fits), leb-true _ _ refl))

pub reply_back : (n : ℕ) (post : List ℕ)
    → Back (reply_to n) (reply_text n ++ post) 0 0 (length (reply_text n)) (read_message (reply_text n ++ post))
reply_back n post = read_back shortest shortest_fits (reply_to n) (reply_within n).0 (reply_within n).1 post

pub fitted : (b : Bool) → ◌≡◌ {A = ℕ} (cond b 14 0) 0 → b ≡ false
fitted true e =
    let no : ⊥ = omega arith in
    absurd no
fitted false e = refl

pub not_fitted : (b : Bool) → ◌≢◌ {A = ℕ} (cond b 14 0) 0 → b ≡ true
not_fitted true n = refl
not_fitted false n = absurd (n refl)

-- ── Over the two functions: what reply has written, read by read_message ──
module _ (n : ℕ) {room after : List ℕ} {answer told : ℕ} (w : Wrote room (reply_text n) answer after told) (fits : answer ≡ 0) where
  abbrev t : List ℕ
  t = reply_text n

  enough : ltb (length room) (length t) ≡ false
  unfolding answer_in
  enough = fitted (ltb (length room) (length t)) (sym w.answered ∙ fits)

  told_is : told ≡ length t
  unfolding written_in
  told_is = rw enough at w.many

  text_stands : take told after ≡ t
  unfolding room_after
  text_stands = rw (w.left, told_is, enough) (take_at t (drop (length t) room) _ refl)

  pub written_back : Back (reply_to n) (take told after) 0 0 told (read_message (take told after))
  written_back = rw (text_stands, told_is) (rw (append-nil (reply_text n)) at (reply_back n []))

  pub walks_back : (r : Walked) → r ≡ walked (read_message (take told after))
      → (r.refusal ≡ 0) × (r.at ≡ told) × (r.count ≡ count_of (reply_to n))
  walks_back r e = rw e (written_back.accepted, written_back.ends ∙ zero-add told, written_back.begins ∙ zero-add _)
