-- The text of an answer's reply, byte by byte.
use Prim.Native.Nat.{ℕ, ◌/◌, ◌%◌, ◌≤◌, ◌<◌}
use native.Mathlib.Omega.{arith}
use mathlib.Core.Path.{◌≡◌, refl, ap}
use mathlib.Core.Bool.{true}
use mathlib.Core.List.{List, [], ◌∷◌, ◌++◌, append-nil}
use lib.ListN.{length}
use lib.Dec.{ltb}
use borrow.Author.Tests.{lt-ltb, ltb-true}
use Rattle.lists.proofs.Bools.{cond_ind}
use Rattle.items.specs.Tree.{in_order}
use Rattle.items.specs.Written.{in_bytes, shortest, text}
use Rattle.replies.specs.Reply.{acknowledge, code_of, refused_with, text_of, reply_text, reply_to, head_of}

pub code_small : (n : ℕ) → code_of n < 65536
unfolding code_of
code_small n = cond_ind (λ k. k < 65536) (ltb n 65536) (λ e. ltb-true n 65536 e) (λ e. omega arith)

pub accepted_text : reply_text 0 ≡ 0x01 ∷ 2 ∷ 0xA5 ∷ 1 ∷ 0 ∷ 0x01 ∷ 0 ∷ []
unfolding reply_to text shortest in_bytes in_order acknowledge
accepted_text = refl

pub refused_text : (n : ℕ) (words : List ℕ) → length words ≤ 80 → text_of (refused_with n words) ≡ head_of n (length words) ++ words
unfolding refused_with text shortest in_bytes in_order
refused_text n words h =
    let c = code_small n in
    let high : code_of n / 256 % 256 ≡ code_of n / 256 = omega arith in
    let one : ltb (length words) 256 ≡ true = lt-ltb (length words) 256 (omega arith) in
    let many : length words % 256 ≡ length words = omega arith in
    let e : words ++ [] ++ [] ++ [] ≡ words = rw (append-nil words, append-nil words) (append-nil words) in
    rw (one, high, many) (ap (λ l. head_of n (length words) ++ l) e)
