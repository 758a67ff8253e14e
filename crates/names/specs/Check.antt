-- Request P4: the check that the name of an input goes through. Half the tag readers pad names with 0x20 at the end.
use Rattle.std.specs.Prelude.{ℕ, Bool, not, cond, ◌&&◌, ◌||◌, List, [], ◌∷◌, length, eqb, ltb}
use Rattle.lists.specs.Lists.{every, any}
use Rattle.records.specs.Names.{graphic}

abbrev pub is_blank : ℕ → Bool
is_blank b = eqb b 0x20

-- what remains when trailing blanks are dropped
unfoldable pub remains : List ℕ → List ℕ
remains [] = []
remains (b ∷ l) = cond (is_blank b && every is_blank l) [] (b ∷ remains l)

-- A text is refused: more than 32 bytes, a blank elsewhere, nothing left, or more than 16 left; and a byte that no name has.
unfoldable pub refused : List ℕ → Bool
refused text =
    ltb 32 (length text) || any is_blank (remains text) || eqb (length (remains text)) 0 || ltb 16 (length (remains text))
    || not (every graphic (remains text))

-- How many bytes of a text are its name: 1 to 16, or 0 where the text is refused.
unfoldable pub name_length : List ℕ → ℕ
name_length text = cond (refused text) 0 (length (remains text))

-- What rows see: the name that remains. A text that is refused they see as it came, since it is no name in document 01 either; so a row
-- that takes a name refuses it with 1, and blanks alone are not a name that is missing.
unfoldable pub shortened : List ℕ → List ℕ
shortened text = cond (refused text) text (remains text)
