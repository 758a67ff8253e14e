-- The definition by cases: for each clause of the request a message that meets it, and one beside it that doesn't.
use Rattle.std.specs.Prelude.{ℕ, zero, suc, ◌+◌, ◌*◌, Bool, true, false, not, cond, ◌&&◌, ◌||◌, List, [], ◌∷◌, ◌++◌, replicate, eqb}
use Rattle.lists.specs.Lists.{any}
use Rattle.items.specs.Formats.{LIST, BINARY, BOOLEAN, ASCII, I8, I1, I2, I4, F8, F4, U8, U1, U2, U4}
use Rattle.items.specs.Tree.{Item, ◌then◌}
use Rattle.items.specs.Tree.Item.{leaf, list}
use Rattle.items.specs.Tree.Items.{none}
use Rattle.items.specs.Reading.{read_message, walked}
use Rattle.items.specs.declared.head.Span.{Span}

-- A message: what it is refused with, where, after how many items, and whether each number found holds one value.
pub record Case : Type 0 where
  pub message : List ℕ
  pub refusal : ℕ
  pub at : ℕ
  pub count : ℕ
  pub single : Bool

abbrev case : ℕ → ℕ → ℕ → Bool → List ℕ → Case
case refusal at count single message = record {
  message = message;
  refusal = refusal;
  at = at;
  count = count;
  single = single;
}

abbrev same : Bool → Bool → Bool
same a b = cond a b (not b)

unfoldable pub shown : Case → Bool
shown c =
    let w = walked (read_message c.message) in
    eqb w.refusal c.refusal && eqb w.at c.at && eqb w.count c.count && same w.single c.single

unfoldable pub repeated : ℕ → List ℕ → List ℕ
repeated zero l = []
repeated (suc n) l = l ++ repeated n l

-- a U1; a list of one, to be opened; six of them
abbrev u1 : List ℕ
u1 = 0xA5 ∷ 0x01 ∷ 0x07 ∷ []

abbrev pub six : List ℕ
six = 1 ∷ 1 ∷ 1 ∷ 1 ∷ 1 ∷ 1 ∷ 1 ∷ 1 ∷ 1 ∷ 1 ∷ 1 ∷ 1 ∷ []

abbrev five : List ℕ
five = 1 ∷ 1 ∷ 1 ∷ 1 ∷ 1 ∷ 1 ∷ 1 ∷ 1 ∷ 1 ∷ 1 ∷ []

abbrev pub cases : List Case
cases =
    -- 20: nothing, no length bytes, one length byte of two, data past the end
    case 20 0 0 true []
    ∷ case 20 0 0 true (0xA5 ∷ [])
    ∷ case 20 0 0 true (0xA6 ∷ 0 ∷ [])
    ∷ case 20 0 0 true (0xA5 ∷ 1 ∷ [])
    ∷ case 0 3 1 true u1
    ∷ case 20 0 0 true (0xFF ∷ 0xFF ∷ 0xFF ∷ 0xFF ∷ [])
    -- the high byte comes first; one, two or three length bytes, not only the fewest
    ∷ case 0 4 1 true (0x41 ∷ 2 ∷ 0x41 ∷ 0x42 ∷ [])
    ∷ case 0 5 1 true (0x42 ∷ 0 ∷ 2 ∷ 0x41 ∷ 0x42 ∷ [])
    ∷ case 0 6 1 true (0x43 ∷ 0 ∷ 0 ∷ 2 ∷ 0x41 ∷ 0x42 ∷ [])
    ∷ case 20 0 0 true (0x42 ∷ 2 ∷ 0 ∷ 0x41 ∷ 0x42 ∷ [])
    ∷ case 0 259 1 true (0x42 ∷ 1 ∷ 0 ∷ replicate 256 0x41)
    -- 21: JIS-8 and what is no format at all; 20 is the lower, and 21 is lower than 22
    ∷ case 21 0 0 true (0x45 ∷ 0 ∷ [])
    ∷ case 21 0 0 true (0xFD ∷ 0 ∷ [])
    ∷ case 20 0 0 true (0xFD ∷ 1 ∷ [])
    ∷ case 21 0 0 true (0xFC ∷ [])
    -- 22: no length byte; a length no multiple of the element size; 0 is one of every size
    ∷ case 22 0 0 true (0x40 ∷ [])
    ∷ case 22 0 0 true (0 ∷ [])
    ∷ case 22 0 0 true (0xA9 ∷ 3 ∷ 0 ∷ 0 ∷ 0 ∷ [])
    ∷ case 20 0 0 true (0xA9 ∷ 3 ∷ 0 ∷ [])
    ∷ case 0 4 1 true (0xA9 ∷ 2 ∷ 0 ∷ 0 ∷ [])
    ∷ case 0 2 1 false (0xA9 ∷ 0 ∷ [])
    -- a list's length counts its elements; a missing one is met after those before it
    ∷ case 0 8 3 true (1 ∷ 2 ∷ u1 ++ u1)
    ∷ case 20 5 2 true (1 ∷ 2 ∷ u1)
    ∷ case 0 5 2 true (1 ∷ 1 ∷ u1 ++ u1)
    ∷ case 0 2 1 true (1 ∷ 0 ∷ u1)
    ∷ case 20 0 0 true (2 ∷ 0 ∷ [])
    -- the first met, and not counted; the list in which it stands is
    ∷ case 21 5 2 true (1 ∷ 3 ∷ u1 ++ 0xFD ∷ 0 ∷ 0xA5 ∷ [])
    ∷ case 22 2 1 true (1 ∷ 3 ∷ 0x40 ∷ 0xFD ∷ 0 ∷ [])
    ∷ case 20 7 3 true (1 ∷ 2 ∷ u1 ++ 1 ∷ 1 ∷ [])
    -- 23: a list in a list at depth six, even an empty one, if nothing lower applies; other items there are fine
    ∷ case 0 15 7 true (six ++ u1)
    ∷ case 0 12 6 true (five ++ 1 ∷ 0 ∷ [])
    ∷ case 23 12 6 true (six ++ 1 ∷ 0 ∷ [])
    ∷ case 23 12 6 true (six ++ 1 ∷ 1 ∷ u1)
    ∷ case 22 12 6 true (six ++ 0 ∷ [])
    ∷ case 20 12 6 true (six ++ 2 ∷ 0 ∷ [])
    -- only open lists count: two beside each other are no deeper than one
    ∷ case 0 14 7 true (1 ∷ 1 ∷ 1 ∷ 1 ∷ 1 ∷ 1 ∷ 1 ∷ 1 ∷ 1 ∷ 2 ∷ 1 ∷ 0 ∷ 1 ∷ 0 ∷ [])
    -- 24: at the 129th item, if nothing lower applies
    ∷ case 0 383 128 true (1 ∷ 127 ∷ repeated 127 u1)
    ∷ case 24 383 128 true (1 ∷ 128 ∷ repeated 128 u1)
    ∷ case 20 383 128 true (1 ∷ 128 ∷ repeated 127 u1)
    ∷ case 21 383 128 true (1 ∷ 128 ∷ repeated 127 u1 ++ 0xFD ∷ 0 ∷ [])
    -- a number or boolean holds one value, wherever it stands; binary and text hold any number of bytes
    ∷ case 0 3 1 true (0x25 ∷ 1 ∷ 1 ∷ [])
    ∷ case 0 4 1 false (0x25 ∷ 2 ∷ 1 ∷ 1 ∷ [])
    ∷ case 0 4 1 true (0x21 ∷ 2 ∷ 1 ∷ 1 ∷ [])
    ∷ case 0 2 1 true (0x41 ∷ 0 ∷ [])
    ∷ case 0 7 3 false (1 ∷ 2 ∷ u1 ++ 0xA5 ∷ 0 ∷ [])
    ∷ case 0 10 1 true (0x81 ∷ 8 ∷ replicate 8 0)
    ∷ case 0 18 1 false (0x81 ∷ 16 ∷ replicate 16 0)
    ∷ []

-- ── The formats: each with an element of its size, and no other of the 64 codes ──
pub record Format : Type 0 where
  pub code : ℕ
  pub size : ℕ

abbrev format : ℕ → ℕ → Format
format code size = record { code = code; size = size }

abbrev pub formats : List Format
formats =
    format BINARY 1
    ∷ format BOOLEAN 1
    ∷ format ASCII 1
    ∷ format I8 8
    ∷ format I1 1
    ∷ format I2 2
    ∷ format I4 4
    ∷ format F8 8
    ∷ format F4 4
    ∷ format U8 8
    ∷ format U1 1
    ∷ format U2 2
    ∷ format U4 4
    ∷ []

-- an item of a code with so many bytes, as it is refused
abbrev refusal_with : ℕ → ℕ → ℕ
refusal_with code bytes = (walked (read_message ((code * 4 + 1) ∷ bytes ∷ replicate bytes 0))).refusal

-- of 1, 2, 4 and 8 bytes those are multiples that are no less than the size
unfoldable pub accepted : Format → Bool
accepted f =
    eqb (refusal_with f.code 8) 0
    && eqb (refusal_with f.code 4) (cond (eqb f.size 8) 22 0)
    && eqb (refusal_with f.code 2) (cond (eqb f.size 8 || eqb f.size 4) 22 0)
    && eqb (refusal_with f.code 1) (cond (eqb f.size 1) 0 22)

unfoldable pub below : ℕ → List ℕ
below zero = []
below (suc n) = n ∷ below n

abbrev pub codes : List ℕ
codes = below 64

unfoldable pub known : ℕ → Bool
known code = eqb code LIST || any (λ f. eqb code f.code) formats

unfoldable pub unknown_else : ℕ → Bool
unknown_else code = known code || eqb (refusal_with code 0) 21

-- ── What is found: where each item's data stands ──
abbrev pub sent : List ℕ
sent = 1 ∷ 3 ∷ u1 ++ 1 ∷ 1 ∷ 0x42 ∷ 0 ∷ 1 ∷ 0x41 ∷ 0x41 ∷ 0 ∷ []

abbrev pub sent_tree : Item Span
sent_tree =
    list
    (leaf U1 (record { at = 4; many = 1 })
    then list (leaf ASCII (record { at = 10; many = 1 }) then none)
    then leaf ASCII (record { at = 13; many = 0 })
    then none)
