-- The definition by cases: the data of one item, and the format and the bits that are held.
use Rattle.std.specs.Prelude.{ℕ, Bool, ◌&&◌, List, [], ◌∷◌, length, eqb}
use Rattle.items.specs.Formats.{BINARY, BOOLEAN, ASCII, I8, I1, I2, I4, F8, F4, U8, U1, U2, U4}
use Rattle.values.specs.Values.{value_in, format_of, bits_of}

pub record Case : Type 0 where
  pub code : ℕ
  pub sent : List ℕ
  pub format : ℕ
  pub bits : ℕ

abbrev kept : ℕ → ℕ → List ℕ → Case
kept code bits sent = record { code = code; sent = sent; format = code; bits = bits }

-- an item that doesn't hold one value
abbrev nothing : ℕ → List ℕ → Case
nothing code sent = record { code = code; sent = sent; format = 0o77; bits = 0 }

-- data that stand after a byte of something else
unfoldable pub shown : Case → Bool
shown c =
    let v = value_in (0xFF ∷ c.sent) c.code (record { at = 1; many = length c.sent }) in
    eqb (format_of v) c.format && eqb (bits_of v) c.bits

abbrev pub cases : List Case
cases =
    -- numbers, high byte first; a U1 of 5 is no U2 of 5
    kept U1 5 (5 ∷ [])
    ∷ kept U2 5 (0 ∷ 5 ∷ [])
    ∷ kept U2 0x0500 (5 ∷ 0 ∷ [])
    ∷ kept U4 0xFFFFFFFF (0xFF ∷ 0xFF ∷ 0xFF ∷ 0xFF ∷ [])
    ∷ kept U8 0x8000000000000001 (0x80 ∷ 0 ∷ 0 ∷ 0 ∷ 0 ∷ 0 ∷ 0 ∷ 1 ∷ [])
    ∷ kept I1 0x80 (0x80 ∷ [])
    ∷ kept I2 0xFFFE (0xFF ∷ 0xFE ∷ [])
    ∷ kept I4 0x7FFFFFFF (0x7F ∷ 0xFF ∷ 0xFF ∷ 0xFF ∷ [])
    ∷ kept I8 0xFFFFFFFFFFFFFFFF (0xFF ∷ 0xFF ∷ 0xFF ∷ 0xFF ∷ 0xFF ∷ 0xFF ∷ 0xFF ∷ 0xFF ∷ [])
    -- a boolean's byte, whatever it is
    ∷ kept BOOLEAN 0 (0 ∷ [])
    ∷ kept BOOLEAN 2 (2 ∷ [])
    -- floats: one and a half, minus zero, the smallest, an infinity, a quiet and a signalling NaN with sign and payload
    ∷ kept F4 0x3FC00000 (0x3F ∷ 0xC0 ∷ 0 ∷ 0 ∷ [])
    ∷ kept F4 0x80000000 (0x80 ∷ 0 ∷ 0 ∷ 0 ∷ [])
    ∷ kept F4 0x00000001 (0 ∷ 0 ∷ 0 ∷ 1 ∷ [])
    ∷ kept F4 0xFF800000 (0xFF ∷ 0x80 ∷ 0 ∷ 0 ∷ [])
    ∷ kept F4 0xFFC01234 (0xFF ∷ 0xC0 ∷ 0x12 ∷ 0x34 ∷ [])
    ∷ kept F4 0x7F800001 (0x7F ∷ 0x80 ∷ 0 ∷ 1 ∷ [])
    ∷ kept F8 0xBFF8000000000000 (0xBF ∷ 0xF8 ∷ 0 ∷ 0 ∷ 0 ∷ 0 ∷ 0 ∷ 0 ∷ [])
    ∷ kept F8 0x7FF0000000000001 (0x7F ∷ 0xF0 ∷ 0 ∷ 0 ∷ 0 ∷ 0 ∷ 0 ∷ 1 ∷ [])
    -- where binary and text stand, of any length
    ∷ kept ASCII 0 (0x41 ∷ 0x42 ∷ [])
    ∷ kept BINARY 0 []
    -- no value, two values, no format
    ∷ nothing U1 []
    ∷ nothing U1 (1 ∷ 1 ∷ [])
    ∷ nothing F4 (0 ∷ 0 ∷ 0 ∷ [])
    ∷ nothing 0o21 (0x41 ∷ [])
    ∷ []
