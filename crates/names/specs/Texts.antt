-- Texts, and how many bytes of each are its name: each ground of the check, and the last text before it applies.
use Rattle.std.specs.Prelude.{ℕ, Bool, List, [], ◌∷◌, ◌++◌, replicate, eqb}
use Rattle.names.specs.Check.{name_length}

pub record Text : Type 0 where
  pub bytes : List ℕ
  pub name : ℕ

abbrev gives : List ℕ → ℕ → Text
gives bytes name = record { bytes = bytes; name = name }

abbrev A : ℕ → List ℕ
A n = replicate n 0x41

abbrev blanks : ℕ → List ℕ
blanks n = replicate n 0x20

unfoldable pub holds : Text → Bool
holds t = eqb (name_length t.bytes) t.name

abbrev pub texts : List Text
texts =
    -- a plain name, and padded ones
    gives (A 2) 2
    ∷ gives (A 2 ++ blanks 1) 2
    ∷ gives (A 2 ++ blanks 3) 2
    ∷ gives (A 16) 16
    ∷ gives (A 16 ++ blanks 16) 16
    -- more than 32 bytes
    ∷ gives (A 1 ++ blanks 31) 1
    ∷ gives (A 1 ++ blanks 32) 0
    ∷ gives (A 16 ++ blanks 17) 0
    ∷ gives (A 40) 0
    -- a blank elsewhere
    ∷ gives (blanks 1 ++ A 2) 0
    ∷ gives (A 1 ++ blanks 1 ++ A 1) 0
    ∷ gives (A 1 ++ blanks 1 ++ A 1 ++ blanks 1) 0
    -- nothing left
    ∷ gives [] 0
    ∷ gives (blanks 1) 0
    ∷ gives (blanks 32) 0
    -- more than 16 left
    ∷ gives (A 17) 0
    ∷ gives (A 17 ++ blanks 3) 0
    ∷ gives (A 32) 0
    -- a byte that no name has: 0x21 to 0x7E alone
    ∷ gives (0x21 ∷ []) 1
    ∷ gives (0x7E ∷ []) 1
    ∷ gives (0x7F ∷ []) 0
    ∷ gives (0x1F ∷ []) 0
    ∷ gives (A 2 ++ (0x7F ∷ [])) 0
    ∷ gives (A 2 ++ (0xFF ∷ []) ++ blanks 2) 0
    -- only 0x20 is dropped: no NUL, no tab
    ∷ gives (A 2 ++ (0 ∷ [])) 0
    ∷ gives (A 2 ++ (0 ∷ []) ++ blanks 1) 0
    ∷ gives (A 2 ++ blanks 1 ++ (0 ∷ [])) 0
    ∷ gives (A 2 ++ (0x09 ∷ [])) 0
    ∷ []
