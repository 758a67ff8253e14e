-- How long texts are: words of at most 80 characters, and no reply shorter than that to an accepted input.
use Prim.Native.Nat.{ℕ, ◌≤◌}
use native.Mathlib.Omega.{arith}
use mathlib.Core.Path.{◌≡◌, refl}
use mathlib.Core.Bool.{true}
use mathlib.Core.List.{List, [], ◌∷◌, ◌++◌}
use lib.ListN.{length}
use lib.Dec.{eqb, leb}
use borrow.Author.Tests.{leb-true}
use Rattle.lists.specs.Lists.{every}
use Rattle.lists.proofs.Bools.{cond_ind, and_l, and_r}
use Rattle.items.specs.Tree.{in_order}
use Rattle.items.specs.Written.{in_bytes, shortest, text}
use Rattle.replies.specs.Texts.{Line, page, ascii, words_in, text_in, text_for}
use Rattle.replies.specs.Reply.{head_of, reply_to, text_of, reply_text}
use Rattle.replies.specs.Cases.{short}
use Rattle.replies.proofs.Spelt.{refused_text}
use Rattle.replies.proofs.Cases.{each_case}

short_in : (lines : List Line) (n : ℕ) → every short lines ≡ true → length (text_in lines n) ≤ 80
unfolding every short words_in text_in ascii
short_in [] n h = leb-true _ _ refl
short_in (l ∷ rest) n h =
    cond_ind (λ words. length (ascii words) ≤ 80) (eqb n l.refusal)
    (λ e. leb-true _ _ (and_r (leb 1 (length (ascii l.words))) _ (and_l (short l) _ h)))
    (λ e. short_in rest n (and_r (short l) _ h))

pub words_short : (n : ℕ) → length (text_for n) ≤ 80
words_short n = short_in page n each_case.words_short

-- the head of a refusal's text alone has fifteen
pub seven : (n : ℕ) → 7 ≤ length (reply_text n)
unfolding reply_to text shortest in_bytes in_order
seven n =
    let long : 7 ≤ length (head_of n (length (text_for n)) ++ text_for n) = omega arith in
    cond_ind (λ x. 7 ≤ length (text_of x)) (eqb n 0) (λ e. leb-true 7 7 refl) (λ e. rw (refused_text n (text_for n) (words_short n)) long)
