-- The cases are what the table says, and signs are two's complement.
use mathlib.Core.Path.{◌≡◌, refl}
use mathlib.Core.Bool.{true}
use lib.IntN.{pos, negsuc}
use lib.Ieee.{of_bits, to_bits, nan_bits}
use Rattle.lists.specs.Lists.{every}
use Rattle.items.specs.Formats.{I8, I1, I2, I4, coded, size_of}
use Rattle.items.specs.Heads.{number_at}
use Rattle.values.specs.Values.{f4_of, f8_of, signed_of, unsigned_of, half_of, number_of, held_in, format_of, bits_of}
use Rattle.values.specs.Cases.{cases, shown}

pub all_shown : every shown cases ≡ true
unfolding every coded size_of number_at f4_of f8_of signed_of unsigned_of half_of number_of held_in format_of bits_of shown of_bits to_bits nan_bits
all_shown = refl

pub record Signs : Type 0 where
  pub minus_one : signed_of 0xFF (half_of I1) ≡ negsuc 0
  pub least : signed_of 0x80 (half_of I1) ≡ negsuc 127
  pub greatest : signed_of 0x7F (half_of I1) ≡ pos 127
  pub two : signed_of 0xFFFE (half_of I2) ≡ negsuc 1
  pub four : signed_of 0x80000000 (half_of I4) ≡ negsuc 0x7FFFFFFF
  pub eight : signed_of 0xFFFFFFFFFFFFFFFF (half_of I8) ≡ negsuc 0

pub signs : Signs
unfolding signed_of half_of
signs = record { minus_one = refl; least = refl; greatest = refl; two = refl; four = refl; eight = refl }
