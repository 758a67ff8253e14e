-- The words that go with a number.
use Prim.Native.Nat.{ℕ}
use mathlib.Core.Path.{◌≡◌, refl, sym, ap, subst, ◌∙◌}
use mathlib.Core.List.{List, [], ◌∷◌, ◌++◌}
use borrow.Author.Tests.{ne_eqb}
use Rattle.replies.specs.Texts.{Line, ascii, words_in, text_in}
use Rattle.replies.specs.Reply.{refused_with, text_of, Wrote}

-- what was written of a text was written of any that is the same
pub same_text : {t u room after : List ℕ} {answer told : ℕ} → t ≡ u → Wrote room t answer after told → Wrote room u answer after told
same_text {t} {u} {room} {after} {answer} {told} e w = subst (λ l. Wrote room l answer after told) e w

-- n is none of the lines' numbers: what a match knows in its last arm
abbrev Apart : Type 0 → List Line → ℕ → Type 0
Apart A [] n = A
Apart A (l ∷ rest) n = Apart (A × (n ≡ l.refusal → ⊥)) rest n

apart : (A : Type 0) (lines more : List Line) (n : ℕ) → Apart A lines n → A × (words_in (lines ++ more) n ≡ words_in more n)
unfolding words_in
apart A [] more n h = (h, refl)
apart A (l ∷ rest) more n h =
    let p = apart (A × (n ≡ l.refusal → ⊥)) rest more n h in
    (p.0.0, rw (ne_eqb n l.refusal p.0.1) p.1)

pub past : (lines more : List Line) (n : ℕ) → Apart Unit lines n → text_in more n ≡ text_in (lines ++ more) n
unfolding text_in
past lines more n h = sym (ap ascii (apart Unit lines more n h).1)

with_words : (n : ℕ) {a b : List ℕ} → a ≡ b → {room after : List ℕ} {answer told : ℕ}
    → Wrote room (text_of (refused_with n a)) answer after told → Wrote room (text_of (refused_with n b)) answer after told
with_words n e w = same_text (ap (λ l. text_of (refused_with n l)) e) w

-- a match has found the line of number k
pub arm : (lines : List Line) (n k : ℕ) {words room after : List ℕ} {answer told : ℕ} → n ≡ k → words ≡ text_in lines k
    → Wrote room (text_of (refused_with n words)) answer after told → Wrote room (text_of (refused_with n (text_in lines n))) answer after told
arm lines n k e w = with_words n (w ∙ ap (text_in lines) (sym e))

-- or none
pub last_arm : (lines more : List Line) (n : ℕ) → Apart Unit lines n → {room after : List ℕ} {answer told : ℕ}
    → Wrote room (text_of (refused_with n (text_in more n))) answer after told
    → Wrote room (text_of (refused_with n (text_in (lines ++ more) n))) answer after told
last_arm lines more n h = with_words n (past lines more n h)
