-- The formats of SEMI E5 that are accepted. A code is six bits, written in octal as there; every other code is unknown.
use Rattle.std.specs.Prelude.{ℕ, ◌%◌, Bool, false, not, cond, ◌&&◌, ◌||◌, List, [], ◌∷◌, Option, Some, None, eqb}
use Rattle.items.specs.declared.formats.Format.{Format}
use Rattle.items.specs.declared.formats.Format.TheVariants as format

abbrev pub LIST : ℕ
LIST = 0o00

abbrev pub BINARY : ℕ
BINARY = 0o10

abbrev pub BOOLEAN : ℕ
BOOLEAN = 0o11

abbrev pub ASCII : ℕ
ASCII = 0o20

abbrev pub I8 : ℕ
I8 = 0o30

abbrev pub I1 : ℕ
I1 = 0o31

abbrev pub I2 : ℕ
I2 = 0o32

abbrev pub I4 : ℕ
I4 = 0o34

abbrev pub F8 : ℕ
F8 = 0o40

abbrev pub F4 : ℕ
F4 = 0o44

abbrev pub U8 : ℕ
U8 = 0o50

abbrev pub U1 : ℕ
U1 = 0o51

abbrev pub U2 : ℕ
U2 = 0o52

abbrev pub U4 : ℕ
U4 = 0o54

abbrev pub code : Format → ℕ
code format.List = LIST
code format.Binary = BINARY
code format.Boolean = BOOLEAN
code format.Ascii = ASCII
code format.I8 = I8
code format.I1 = I1
code format.I2 = I2
code format.I4 = I4
code format.F8 = F8
code format.F4 = F4
code format.U8 = U8
code format.U1 = U1
code format.U2 = U2
code format.U4 = U4

abbrev pub formats : List Format
formats =
    format.List ∷ format.Binary ∷ format.Boolean ∷ format.Ascii ∷ format.I8 ∷ format.I1 ∷ format.I2 ∷ format.I4 ∷ format.F8 ∷ format.F4 ∷ format.U8 ∷ format.U1 ∷ format.U2 ∷ format.U4 ∷ []

-- the one of a code, if there is one
unfoldable pub coded : ℕ → List Format → Option Format
coded c [] = None
coded c (f ∷ l) = cond (eqb c (code f)) (Some f) (coded c l)

abbrev pub format_of : ℕ → Option Format
format_of c = coded c formats

-- The bytes of one element, 0 for an unknown code; a list's length counts its elements one by one.
unfoldable pub size_of : ℕ → ℕ
size_of code =
    cond (eqb code LIST || eqb code BINARY || eqb code BOOLEAN || eqb code ASCII || eqb code I1 || eqb code U1) 1
    (cond (eqb code I2 || eqb code U2) 2
    (cond (eqb code I4 || eqb code F4 || eqb code U4) 4
    (cond (eqb code I8 || eqb code F8 || eqb code U8) 8 0)))

abbrev pub is_unsigned : ℕ → Bool
is_unsigned code = eqb code U1 || eqb code U2 || eqb code U4 || eqb code U8

-- a number or boolean: neither list nor binary nor text
unfoldable pub is_number : ℕ → Bool
is_number code = not (eqb code LIST || eqb code BINARY || eqb code ASCII) && not (eqb (size_of code) 0)

-- a number or boolean item holds one value
unfoldable pub holds_one : ℕ → ℕ → Bool
holds_one code many = not (is_number code) || eqb many (size_of code)

-- a length is no multiple of the element size
unfoldable pub uneven : ℕ → ℕ → Bool
uneven many size = cond (eqb size 0) false (not (eqb (many % size) 0))
