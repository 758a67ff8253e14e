-- An input, and what a row sees of it and of the state.
use Rattle.std.specs.Prelude.{ℕ, Bool, cond, ◌&&◌, List, length, eqb, leb, ltb}
use Rattle.lists.specs.Lists.{any, how_many, where_is, between}
use Rattle.records.specs.declared.name.Name.{Name}
use Rattle.records.specs.declared.carrier.Carrier.{Carrier}
use Rattle.records.specs.Names.{is_name, in_bytes, same_name}
use Rattle.records.specs.Maps.{is_map, in_map}
use Rattle.records.specs.Carriers.{expected, in_buffer, is_open}
use Rattle.rules.specs.declared.input.Input as sent
use Rattle.rules.specs.declared.row.Seen.{Seen}
use Rattle.rules.specs.State.{State, port_of, record_of}

-- An input: its number, its port, its second number, its name and its codes. Numbers and lengths are whatever was sent.
pub record Input : Type 0 where
  pub number : ℕ
  pub port : ℕ
  pub value : ℕ
  pub name : List ℕ
  pub codes : List ℕ

abbrev pub input_of : ℕ → ℕ → ℕ → List ℕ → List ℕ → Input
input_of number port value name codes = record { number = number; port = port; value = value; name = name; codes = codes }

-- what the code was sent
abbrev pub input_in : sent.Input → Input
input_in i = input_of i.number i.port i.value i.name.now i.codes.now

-- the same under another number: a row of that number reads the rest
abbrev pub numbered : ℕ → sent.Input → Input
numbered n i = input_of n i.port i.value i.name.now i.codes.now

-- No port, place or value is as large as 255, so that 255 stands for all that is larger.
unfoldable pub narrow : ℕ → ℕ
narrow n = cond (ltb n 255) n 255

abbrev pub is_named : Name → Carrier → Bool
is_named n c = same_name c.name n

abbrev pub is_tied_to : ℕ → Carrier → Bool
is_tied_to p c = leb 1 p && eqb c.port p

abbrev pub is_in_spot : ℕ → Carrier → Bool
is_in_spot b c = in_buffer c && eqb c.spot b

-- where the record of a name stands, and that of the carrier tied to a port; the number of records where there is none
unfoldable pub name_stands : State → Name → ℕ
name_stands s n = where_is (is_named n) s.carriers

unfoldable pub tie_stands : State → ℕ → ℕ
tie_stands s p = where_is (is_tied_to p) s.carriers

unfoldable pub how_many_expected : State → ℕ
how_many_expected s = how_many expected s.carriers

unfoldable pub spot_taken : State → ℕ → Bool
spot_taken s b = any (is_in_spot b) s.carriers

unfoldable pub some_open : State → Bool
some_open s = any is_open s.carriers

unfoldable pub see : State → Input → Seen
see s i = record {
  places = s.places;
  count = length s.carriers;
  port = narrow i.port;
  isport = between 1 (narrow i.port) (length s.ports);
  noport = eqb (narrow i.port) 0;
  value = narrow i.value;
  name = in_bytes i.name;
  named = is_name i.name;
  blank = eqb (length i.name) 0;
  map = in_map i.codes;
  mapped = is_map i.codes;
  here = port_of s (narrow i.port);
  stands = name_stands s (in_bytes i.name);
  known = ltb (name_stands s (in_bytes i.name)) (length s.carriers);
  found = record_of s (name_stands s (in_bytes i.name));
  home = port_of s (record_of s (name_stands s (in_bytes i.name))).port;
  holds = tie_stands s (narrow i.port);
  tied = ltb (tie_stands s (narrow i.port)) (length s.carriers);
  held = record_of s (tie_stands s (narrow i.port));
  full = leb 16 (how_many_expected s);
  taken = spot_taken s (narrow i.value);
  busy = some_open s;
}
