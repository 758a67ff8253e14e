-- The rows that take a name, and an input that is called by another one.
use Rattle.std.specs.Prelude.{ℕ, Bool, ◌&&◌, ◌||◌, List, length, eqb}
use Rattle.lists.specs.Lists.{between}
use Rattle.rules.specs.Seen.{Input, input_of}

-- Rows 1 to 8, 16, and 19 to 23 take a name. The others ignore it, however bad.
unfoldable pub takes_name : ℕ → Bool
takes_name n = between 1 n 8 || eqb n 16 || between 19 n 23

-- In row 2 it may be missing: only a length of zero means missing.
unfoldable pub name_missing : Input → Bool
name_missing i = eqb i.number 2 && eqb (length i.name) 0

abbrev pub called : List ℕ → Input → Input
called name i = input_of i.number i.port i.value name i.codes
