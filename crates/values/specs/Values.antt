-- An attribute's value is held as what it was sent as: its format, and its bits untouched.
use Rattle.std.specs.Prelude.{ℕ, suc, ◌+◌, ◌-◌, ◌^◌, Bool, cond, ◌&&◌, ◌||◌, List, length, ℤ, pos, negsuc, Option, Some, None, eqb, leb, ltb}
use Rattle.std.specs.Float.{binary32, binary64}
use Rattle.std.specs.Float.Ieee.{of_bits, to_bits, nan_bits}
use Rattle.items.specs.Formats.{BINARY, BOOLEAN, ASCII, I8, I1, I2, I4, F8, F4, code, formats, coded, size_of, is_unsigned}
use Rattle.items.specs.declared.formats.Format.{Format}
use Rattle.items.specs.Tree.{Item}
use Rattle.items.specs.Heads.{number_at}
use Rattle.items.specs.declared.head.Span.{Span}
use Rattle.values.specs.declared.value.Value.{Value}
use Rattle.values.specs.declared.value.Value.TheVariants as held

-- a float, or the bits of a NaN: a float of the logic has no sign and no payload there
unfoldable pub f4_of : ℕ → Value
f4_of bits = cond (nan_bits binary32 bits) (held.Nan4 bits) (held.F4 (of_bits binary32 bits))

unfoldable pub f8_of : ℕ → Value
f8_of bits = cond (nan_bits binary64 bits) (held.Nan8 bits) (held.F8 (of_bits binary64 bits))

-- two's complement, where half is 2 to the bits less one
unfoldable pub signed_of : ℕ → ℕ → ℤ
signed_of bits half = cond (ltb bits half) (pos bits) (negsuc (half - 1 - (bits - half)))

abbrev pub is_signed : ℕ → Bool
is_signed code = eqb code I1 || eqb code I2 || eqb code I4 || eqb code I8

-- half of what I1, I2, I4 and I8 can hold
unfoldable pub half_of : ℕ → ℕ
half_of code = cond (eqb code I1) (2 ^ 7) (cond (eqb code I2) (2 ^ 15) (cond (eqb code I4) (2 ^ 31) (2 ^ 63)))

-- ── What the data of one item hold: bits for a number or boolean, and where binary and text stand; or nothing ──
unfoldable pub number_of : Format → ℕ → Option Value
number_of f bits =
    cond (is_unsigned (code f)) (Some (held.Unsigned f bits))
    (cond (is_signed (code f)) (Some (held.Signed f (signed_of bits (half_of (code f)))))
    (cond (eqb (code f) BOOLEAN) (Some (held.Boolean bits))
    (cond (eqb (code f) F4) (Some (f4_of bits))
    (cond (eqb (code f) F8) (Some (f8_of bits)) None))))

-- one value of its format, inside the message
abbrev pub is_one : List ℕ → ℕ → Span → Bool
is_one m code s = eqb s.many (size_of code) && leb s.at (length m) && leb s.many (length m - s.at)

unfoldable pub held_in : List ℕ → Option Format → Span → Option Value
held_in m None s = None
held_in m (Some f) s =
    cond (eqb (code f) BINARY || eqb (code f) ASCII) (Some (held.Bytes f s))
    (cond (is_one m (code f) s) (number_of f (number_at m s.at s.many)) None)

abbrev pub value_in : List ℕ → ℕ → Span → Option Value
value_in m c s = held_in m (coded c formats) s

-- the value of an item; a list has none of its own
unfoldable pub value_of : List ℕ → Item Span → Option Value
value_of m (Item.leaf code s) = value_in m code s
value_of m (Item.list xs) = None

-- ── Back again ──
unfoldable pub unsigned_of : ℤ → ℕ → ℕ
unsigned_of (pos n) half = n
unsigned_of (negsuc k) half = half + half - suc k

-- the format of a value, and the bits that it was sent as
unfoldable pub format_of : Option Value → ℕ
format_of (Some (held.Unsigned f n)) = code f
format_of (Some (held.Signed f z)) = code f
format_of (Some (held.Boolean b)) = BOOLEAN
format_of (Some (held.Bytes f s)) = code f
format_of (Some (held.F4 x)) = F4
format_of (Some (held.F8 x)) = F8
format_of (Some (held.Nan4 b)) = F4
format_of (Some (held.Nan8 b)) = F8
format_of None = 0o77

unfoldable pub bits_of : Option Value → ℕ
bits_of (Some (held.Unsigned f n)) = n
bits_of (Some (held.Signed f z)) = unsigned_of z (half_of (code f))
bits_of (Some (held.Boolean b)) = b
bits_of (Some (held.Bytes f s)) = 0
bits_of (Some (held.F4 x)) = to_bits binary32 x
bits_of (Some (held.F8 x)) = to_bits binary64 x
bits_of (Some (held.Nan4 b)) = b
bits_of (Some (held.Nan8 b)) = b
bits_of None = 0
