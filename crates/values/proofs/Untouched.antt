-- A number or boolean keeps its format and gives back the bits that were sent, a NaN's too.
use Prim.Native.Nat.{ℕ, zero, suc, ◌+◌, ◌-◌, ◌^◌, ◌<◌}
use native.Mathlib.Omega.{arith}
use native.Mathlib.Nat.{pow-suc}
use mathlib.Core.Path.{◌≡◌, refl, subst}
use mathlib.Core.Bool.{Bool, true, false, cond, ◌&&◌, ◌||◌}
use mathlib.Core.List.{List}
use lib.ListN.{length, get_or}
use lib.IntN.{pos, negsuc}
use lib.Dec.{eqb, leb, ltb}
use borrow.Author.Tests.{eqb-true, ltb-false}
use lib.Ieee.{binary32, binary64, nan_bits, of_bits}
use Rattle.lists.proofs.Bools.{clash, and_l}
use Rattle.std.specs.Prelude.{Option, Some, None}
use Rattle.items.specs.Formats.{BINARY, BOOLEAN, ASCII, F8, F4, code, formats, coded, size_of, is_unsigned}
use Rattle.items.specs.declared.formats.Format.{Format}
use Rattle.items.specs.declared.formats.Format.TheVariants as format
use Rattle.items.proofs.Coded.{of_some, other, none_unsigned}
use Rattle.items.specs.Heads.{number_at}
use Rattle.items.specs.declared.head.Span.{Span}
use Rattle.values.specs.Values.{f4_of, f8_of, signed_of, unsigned_of, is_signed, half_of, number_of, is_one, held_in, value_in}
use Rattle.values.specs.Values.{format_of, bits_of}
use Rattle.values.specs.declared.value.Value.{Value}
use Rattle.values.specs.declared.value.Value.TheVariants as held
use Rattle.values.proofs.Floats.{bits_back}

-- bytes make a number that has room in them
pub number_small : (m : List ℕ) (at n : ℕ) → ((i : ℕ) → get_or m i 0 < 256) → number_at m at n < 256 ^ n
unfolding number_at
number_small m at zero h = omega arith
number_small m at (suc n) h = let r = number_small m at n h in let b = h (at + n) in rw (pow-suc 256 n) (omega arith)

-- two's complement, there and back
signed_back : (bits half : ℕ) → bits < half + half → unsigned_of (signed_of bits half) half ≡ bits
unfolding signed_of unsigned_of
signed_back bits half l = go (ltb bits half) refl
  where
    go : (t : Bool) → ltb bits half ≡ t → unsigned_of (cond t (pos bits) (negsuc (half - 1 - (bits - half)))) half ≡ bits
    go true e = refl
    go false e = let b = ltb-false bits half e in omega arith

-- a value keeps a format and bits
pub record Keeps (code bits : ℕ) (v : Option Value) : Type 0 where
  pub format : format_of v ≡ code
  pub sent : bits_of v ≡ bits

f4_keeps : (bits : ℕ) → bits < 2 ^ 32 → Keeps F4 bits (Some (f4_of bits))
unfolding f4_of format_of bits_of
f4_keeps bits l = go (nan_bits binary32 bits) refl
  where
    go : (t : Bool) → nan_bits binary32 bits ≡ t → Keeps F4 bits (Some (cond t (held.Nan4 bits) (held.F4 (of_bits binary32 bits))))
    go true e = record { format = refl; sent = refl }
    go false e = record { format = refl; sent = bits_back binary32 bits l e }

f8_keeps : (bits : ℕ) → bits < 2 ^ 64 → Keeps F8 bits (Some (f8_of bits))
unfolding f8_of format_of bits_of
f8_keeps bits l = go (nan_bits binary64 bits) refl
  where
    go : (t : Bool) → nan_bits binary64 bits ≡ t → Keeps F8 bits (Some (cond t (held.Nan8 bits) (held.F8 (of_bits binary64 bits))))
    go true e = record { format = refl; sent = refl }
    go false e = record { format = refl; sent = bits_back binary64 bits l e }

-- the formats whose items hold one value
abbrev pub is_held : ℕ → Bool
is_held code = is_unsigned code || is_signed code || eqb code BOOLEAN || eqb code F4 || eqb code F8

number_keeps : (f : Format) (bits : ℕ) → is_held (code f) ≡ true → bits < 256 ^ size_of (code f) → Keeps (code f) bits (number_of f bits)
unfolding size_of half_of number_of format_of bits_of
number_keeps format.List bits t l = clash t refl
number_keeps format.Binary bits t l = clash t refl
number_keeps format.Boolean bits t l = record { format = refl; sent = refl }
number_keeps format.Ascii bits t l = clash t refl
number_keeps format.I8 bits t l = record { format = refl; sent = signed_back bits (2 ^ 63) l }
number_keeps format.I1 bits t l = record { format = refl; sent = signed_back bits (2 ^ 7) l }
number_keeps format.I2 bits t l = record { format = refl; sent = signed_back bits (2 ^ 15) l }
number_keeps format.I4 bits t l = record { format = refl; sent = signed_back bits (2 ^ 31) l }
number_keeps format.F8 bits t l = f8_keeps bits l
number_keeps format.F4 bits t l = f4_keeps bits l
number_keeps format.U8 bits t l = record { format = refl; sent = refl }
number_keeps format.U1 bits t l = record { format = refl; sent = refl }
number_keeps format.U2 bits t l = record { format = refl; sent = refl }
number_keeps format.U4 bits t l = record { format = refl; sent = refl }

no_text : (code : ℕ) → is_held code ≡ true → (eqb code BINARY || eqb code ASCII) ≡ false
no_text code t = go (eqb code BINARY) (eqb code ASCII) refl refl
  where
    go : (a b : Bool) → eqb code BINARY ≡ a → eqb code ASCII ≡ b → (a || b) ≡ false
    go true b p q = clash (rw (eqb-true code BINARY p) at t) refl
    go false true p q = clash (rw (eqb-true code ASCII q) at t) refl
    go false false p q = refl

none_held : (c : ℕ) → coded c formats ≡ None → is_held c ≡ false
none_held c e = rw (
  none_unsigned c e,
  other c e 2 (omega arith),
  other c e 4 (omega arith),
  other c e 5 (omega arith),
  other c e 6 (omega arith),
  other c e 7 (omega arith),
  other c e 8 (omega arith),
  other c e 9 (omega arith),
)

-- of a message of bytes
pub untouched : (m : List ℕ) (c : ℕ) (s : Span) → ((i : ℕ) → get_or m i 0 < 256) → is_held c ≡ true → is_one m c s ≡ true
    → Keeps c (number_at m s.at s.many) (value_in m c s)
unfolding held_in
untouched m c s h t o = go (coded c formats) refl
  where
    go : (k : Option Format) → coded c formats ≡ k → Keeps c (number_at m s.at s.many) (held_in m k s)
    go None q = clash t (none_held c q)
    go (Some f) q =
        let e : c ≡ code f = of_some c f q in
        let w : is_held (code f) ≡ true = rw e at t in
        let p : is_one m (code f) s ≡ true = rw e at o in
        let n : s.many ≡ size_of (code f) = eqb-true _ _ (and_l (eqb s.many (size_of (code f))) _ (and_l (eqb s.many (size_of (code f)) && leb s.at
        (length m)) _ p)) in
        rw (e, no_text (code f) w, p)
        (number_keeps f (number_at m s.at s.many) w (subst (λ (k : ℕ). number_at m s.at s.many < 256 ^ k) n (number_small m s.at s.many h)))
