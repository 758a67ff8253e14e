-- A pattern is a NaN's where its digits lie above an infinity's; off a NaN the bits come back.
use mathlib.Core.Path.{◌≡◌, sym, ◌∙◌}
use Prim.Native.Nat.{ℕ, ◌*◌, ◌%◌, ◌<◌, ◌≤◌}
use mathlib.Core.Bool.{true, false, not}
use lib.Dec.{T}
use borrow.Author.Tests.{lt-ltb, le-ltb}
use lib.Ieee.{Format, hid, ones, top, of_bits, to_bits, nan_bits}
use lib.Ieee.Bits.{nan_bits_above, nan_bits_is, to_bits-of_bits}

module _ (f : Format) (b : ℕ) where
  pub nan_bits_fact : ones f * hid f < b % top f → nan_bits f b ≡ true
  nan_bits_fact h = nan_bits_above f b ∙ lt-ltb (ones f * hid f) (b % top f) h

  pub no_nan_bits : b % top f ≤ ones f * hid f → nan_bits f b ≡ false
  no_nan_bits h = nan_bits_above f b ∙ le-ltb (ones f * hid f) (b % top f) h

  pub off_nan : nan_bits f b ≡ false → T (not (nan_bits f b))
  off_nan h = rw h tt

  pub bits_back : b < 2 * top f → nan_bits f b ≡ false → to_bits f (of_bits f b) ≡ b
  bits_back l h = to_bits-of_bits f b l (rw (sym (nan_bits_is f b)) (off_nan h))
