-- The same by positions, for the code.
use Rattle.std.specs.Prelude.{ℕ, cond, List, [], ◌∷◌, length, eqb, leb, Option, Some, None, Result, Ok, Err}
use Rattle.lists.specs.Lists.{between}
use Rattle.records.specs.Refusals.{number}
use Rattle.records.specs.declared.refusal.Refusal.{Refusal}
use Rattle.records.specs.declared.refusal.Refusal.TheVariants.{LogCutShort}
use Rattle.image.specs.Image.{byte_at}
use Rattle.logs.specs.Layout.{Reading}
use Rattle.logs.specs.declared.head.Stop.{Stop}

-- a part of the head at a position
abbrev pub read_part : List ℕ → ℕ → ℕ → ℕ → Refusal → Result Unit Stop
read_part m at least greatest refusal =
    cond (leb (length m) at) (Err (record { refusal = LogCutShort; at = at }))
    (cond (between least (byte_at m at) greatest) (Ok tt) (Err (record { refusal = refusal; at = at })))

-- what is said of the head, with its number
abbrev pub reading_of : Result Unit Stop → Reading
reading_of (Ok u) = record { refusal = 0; at = 7 }
reading_of (Err s) = record { refusal = number s.refusal; at = s.at }

-- what is left of a list that begins with another; none where it begins with anything else
unfoldable pub after : List ℕ → List ℕ → Option (List ℕ)
after l [] = Some l
after [] (b ∷ bs) = None
after (x ∷ l) (b ∷ bs) = cond (eqb x b) (after l bs) None
