-- The definition by cases: acknowledge bytes on both sides of each limit, texts byte by byte, and rooms around a text's length.
use Rattle.std.specs.Prelude.{ℕ, Bool, ◌&&◌, List, [], ◌∷◌, ◌++◌, length, replicate, eqb, leb}
use Rattle.lists.specs.Lists.{same_list}
use Rattle.replies.specs.Texts.{Line, ascii, other}
use Rattle.replies.specs.Reply.{acknowledge, reply_text, answer_in, room_after}

-- ── Acknowledge bytes ──
pub record Byte : Type 0 where
  pub number : ℕ
  pub byte : ℕ

infix 30 ◌gets◌
abbrev ◌gets◌ : ℕ → ℕ → Byte
number gets byte = record { number = number; byte = byte }

unfoldable pub got : Byte → Bool
got b = eqb (acknowledge b.number) b.byte

abbrev pub bytes : List Byte
bytes =
    (0 gets 0)
    ∷ (1 gets 3)
    ∷ (2 gets 5)
    ∷ (14 gets 5)
    ∷ (19 gets 5)
    ∷ (20 gets 3)
    ∷ (26 gets 3)
    ∷ (27 gets 5)
    ∷ (65535 gets 5)
    ∷ (65536 gets 5)
    ∷ []

-- ── Texts ──
pub record Spelt : Type 0 where
  pub number : ℕ
  pub bytes : List ℕ

abbrev spelt : ℕ → List ℕ → Spelt
spelt number bytes = record { number = number; bytes = bytes }

unfoldable pub written : Spelt → Bool
written s = same_list (reply_text s.number) s.bytes

-- the acknowledge byte, the code's two bytes, the text
abbrev refusal : ℕ → ℕ → ℕ → List ℕ → List ℕ
refusal ack high low words =
    0x01 ∷ 0x02
    ∷ 0xA5 ∷ 0x01 ∷ ack
    ∷ 0x01 ∷ 0x01
    ∷ 0x01 ∷ 0x02
    ∷ 0xA9 ∷ 0x02 ∷ high ∷ low
    ∷ 0x41 ∷ length words ∷ words

abbrev pub spellings : List Spelt
spellings =
    spelt 0 (0x01 ∷ 0x02 ∷ 0xA5 ∷ 0x01 ∷ 0x00 ∷ 0x01 ∷ 0x00 ∷ [])
    ∷ spelt 1 (refusal 3 0 1 (ascii "Parameters improperly specified"))
    ∷ spelt 2 (refusal 5 0 2 (ascii "Unknown object instance - Unknown CarrierID"))
    ∷ spelt 14 (refusal 5 0 14 (ascii "Room lent for the reply is too small"))
    ∷ spelt 15 (refusal 5 0 15 (ascii other))
    ∷ spelt 20 (refusal 3 0 20 (0x4D ∷ 0x65 ∷ 0x73 ∷ 0x73 ∷ 0x61 ∷ 0x67 ∷ 0x65 ∷ 0x20 ∷ 0x63 ∷ 0x75 ∷ 0x74 ∷ 0x20 ∷ ascii "short"))
    ∷ spelt 29 (refusal 5 0 29 (ascii "Log: cut short"))
    -- a U2 with high byte first, to its last number
    ∷ spelt 258 (refusal 5 1 2 (ascii other))
    ∷ spelt 65535 (refusal 5 255 255 (ascii other))
    ∷ spelt 65536 (refusal 5 255 255 (ascii other))
    ∷ []

-- a text of 1 to 80 characters
unfoldable pub short : Line → Bool
short l = leb 1 (length (ascii l.words)) && leb (length (ascii l.words)) 80

-- ── Rooms: of sevens, before and after ──
pub record Lent : Type 0 where
  pub number : ℕ
  pub room : ℕ
  pub answer : ℕ
  pub after : List ℕ

abbrev lent : ℕ → ℕ → ℕ → List ℕ → Lent
lent number room answer after = record { number = number; room = room; answer = answer; after = after }

unfoldable pub leaves : Lent → Bool
leaves l =
    let room : List ℕ = replicate l.room 7 in
    eqb (answer_in room (reply_text l.number)) l.answer && same_list (room_after room (reply_text l.number)) l.after

abbrev accepted : List ℕ
accepted = 0x01 ∷ 0x02 ∷ 0xA5 ∷ 0x01 ∷ 0x00 ∷ 0x01 ∷ 0x00 ∷ []

abbrev pub rooms : List Lent
rooms =
    lent 0 0 14 []
    ∷ lent 0 6 14 (replicate 6 7)
    ∷ lent 0 7 0 accepted
    ∷ lent 0 9 0 (accepted ++ 7 ∷ 7 ∷ [])
    ∷ lent 29 28 14 (replicate 28 7)
    ∷ lent 29 29 0 (refusal 5 0 29 (ascii "Log: cut short"))
    ∷ lent 29 30 0 (refusal 5 0 29 (ascii "Log: cut short") ++ 7 ∷ [])
    ∷ []
