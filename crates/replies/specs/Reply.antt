-- S3F18: the answer to a message as a tree of items, its text, and the room after it was written.
use Rattle.std.specs.Prelude.{ℕ, ◌/◌, ◌%◌, ◌≡◌, Bool, cond, ◌&&◌, ◌||◌, List, [], ◌∷◌, ◌++◌, length, drop, eqb, leb, ltb}
use Rattle.std.specs.Prelude.{Result, Ok, Err}
use Rattle.records.specs.Refusals.{number}
use Rattle.records.specs.declared.refusal.Refusal.{Refusal}
use Rattle.items.specs.Formats.{ASCII, U1, U2}
use Rattle.items.specs.Tree.{Item, Items, ◌then◌}
use Rattle.items.specs.Tree.Item.{leaf, list}
use Rattle.items.specs.Tree.Items.{none}
use Rattle.items.specs.Written.{in_bytes, shortest, text}
use Rattle.replies.specs.Texts.{text_for}

-- 0 accepted; 3 for refusals 1 and 20 to 26; 5 for any other
unfoldable pub acknowledge : ℕ → ℕ
acknowledge n = cond (eqb n 0) 0 (cond (eqb n 1 || leb 20 n && leb n 26) 3 5)

-- the refusal number; a U2 holds no number past 65,535
unfoldable pub code_of : ℕ → ℕ
code_of n = cond (ltb n 65536) n 65535

-- a pair of U2 code and ASCII text
abbrev pub pair : ℕ → List ℕ → Item (List ℕ)
pair n words = list (leaf U2 (in_bytes 2 (code_of n)) then leaf ASCII words then none)

-- a list of a U1 acknowledge byte, and a list of such pairs
abbrev pub reply_of : ℕ → Items (List ℕ) → Item (List ℕ)
reply_of n pairs = list (leaf U1 (acknowledge n ∷ []) then list pairs then none)

-- that is empty, or holds one pair
unfoldable pub refused_with : ℕ → List ℕ → Item (List ℕ)
refused_with n words = reply_of n (pair n words then none)

unfoldable pub reply_to : ℕ → Item (List ℕ)
reply_to n = cond (eqb n 0) (reply_of n none) (refused_with n (text_for n))

-- shortest length bytes always
abbrev pub text_of : Item (List ℕ) → List ℕ
text_of reply = text reply shortest 0

abbrev pub reply_text : ℕ → List ℕ
reply_text n = text_of (reply_to n)

-- The same in bytes: all of a refusal's text but its words, which are so many.
abbrev pub head_of : ℕ → ℕ → List ℕ
head_of n many =
    0x01 ∷ 2
    ∷ 0xA5 ∷ 1 ∷ acknowledge n
    ∷ 0x01 ∷ 1
    ∷ 0x01 ∷ 2
    ∷ 0xA9 ∷ 2 ∷ code_of n / 256 ∷ code_of n % 256
    ∷ 0x41 ∷ many
    ∷ []

-- ── Into room that the caller lends ──
abbrev pub too_small : List ℕ → List ℕ → Bool
too_small room t = ltb (length room) (length t)

-- 14 exactly when the text is longer than the room
unfoldable pub answer_in : List ℕ → List ℕ → ℕ
answer_in room t = cond (too_small room t) 14 0

-- that room is untouched, as are bytes past the text
unfoldable pub room_after : List ℕ → List ℕ → List ℕ
room_after room t = cond (too_small room t) room (t ++ drop (length t) room)

-- how many bytes were written
unfoldable pub written_in : List ℕ → List ℕ → ℕ
written_in room t = cond (too_small room t) 0 (length t)

-- What a call that writes a text answers, leaves and tells.
pub record Wrote (room t : List ℕ) (answer : ℕ) (after : List ℕ) (told : ℕ) : Type 0 where
  pub answered : answer ≡ answer_in room t
  pub left : after ≡ room_after room t
  pub many : told ≡ written_in room t

-- a result that says how many bytes were written: the number that is answered, and how many
abbrev pub answer_of : Result ℕ Refusal → ℕ
answer_of (Ok n) = 0
answer_of (Err r) = number r

abbrev pub many_of : Result ℕ Refusal → ℕ
many_of (Ok n) = n
many_of (Err r) = 0
