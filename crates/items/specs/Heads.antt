-- The head of an item, and what is refused there.
use Rattle.std.specs.Prelude.{ℕ, zero, suc, ◌+◌, ◌*◌, ◌/◌, ◌%◌, Bool, not, cond, ◌&&◌, ◌||◌, List, length, get_or, eqb, leb, ltb}
use Rattle.items.specs.Formats.{LIST, size_of, uneven}
use Rattle.items.specs.declared.head.Head.{Head}

-- the number that n bytes stand for, high byte first
unfoldable pub number_at : List ℕ → ℕ → ℕ → ℕ
number_at m at zero = 0
number_at m at (suc n) = number_at m at n * 256 + get_or m (at + n) 0

abbrev pub no_head : Head
no_head = record { code = 0o77; lengths = 0; body = 0; many = 0 }

-- A format byte (six bits of code, two of length-byte count), a length with high byte first, then data.
unfoldable pub head_at : List ℕ → ℕ → Head
head_at m at =
    let format = get_or m at 0 in
    cond (leb (length m) at) no_head
    (record {
      code = format / 4;
      lengths = format % 4;
      body = at + 1 + format % 4;
      many = number_at m (at + 1) (format % 4);
    })

abbrev pub is_list : Head → Bool
is_list h = eqb h.code LIST

-- ── What is refused at one item ──
-- 20: no format byte, or length bytes or data past the end; what a list counts are items of their own
abbrev pub cut_short : List ℕ → ℕ → Head → Bool
cut_short m at h =
    leb (length m) at || (ltb (length m) h.body || (not (is_list h) && ltb (length m) (h.body + h.many)))

-- 21
abbrev pub unknown_code : Head → Bool
unknown_code h = eqb (size_of h.code) 0

-- 22: no length byte, or a length no multiple of the element size
abbrev pub bad_length : Head → Bool
bad_length h = eqb h.lengths 0 || uneven h.many (size_of h.code)

-- 23: a list where no more may be opened
abbrev pub too_deep : ℕ → Head → Bool
too_deep left h = is_list h && eqb left 0

-- 24: 128 items have begun
abbrev pub too_many : ℕ → Bool
too_many count = leb 128 count

-- the lowest that applies, or 0
unfoldable pub lowest : Bool → Bool → Bool → Bool → Bool → ℕ
lowest cut unknown bad deep many = cond cut 20 (cond unknown 21 (cond bad 22 (cond deep 23 (cond many 24 0))))

unfoldable pub refusal_of : List ℕ → ℕ → Head → ℕ → ℕ → ℕ
refusal_of m at h left count = lowest (cut_short m at h) (unknown_code h) (bad_length h) (too_deep left h) (too_many count)
