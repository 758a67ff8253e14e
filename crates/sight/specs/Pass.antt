-- What one pass over the records gathers.
use Rattle.std.specs.Prelude.{ℕ, ◌+◌, cond, ◌||◌}
use Rattle.records.specs.declared.name.Name.{Name}
use Rattle.records.specs.declared.carrier.Carrier.{Carrier}
use Rattle.records.specs.Carriers.{expected, is_open}
use Rattle.rules.specs.declared.tool.Tool.{Tool}
use Rattle.rules.specs.State.{State, state_of, record_at}
use Rattle.rules.specs.Seen.{is_named, is_tied_to, is_in_spot, name_stands, tie_stands, how_many_expected, spot_taken, some_open}
use Rattle.sight.specs.declared.look.Passed.{Passed}
use Rattle.sight.specs.declared.look.Found.{Found}

-- one record more, at position k, before those passed
abbrev pub gathered : Name → ℕ → ℕ → ℕ → Carrier → Passed → Passed
gathered n p b k c x = record {
  stands = cond (is_named n c) k x.stands;
  holds = cond (is_tied_to p c) k x.holds;
  expected = cond (expected c) 1 0 + x.expected;
  taken = is_in_spot b c || x.taken;
  busy = is_open c || x.busy;
}

-- all of them
unfoldable pub passed : State → Name → ℕ → ℕ → Passed
passed s n p b = record {
  stands = name_stands s n;
  holds = tie_stands s p;
  expected = how_many_expected s;
  taken = spot_taken s b;
  busy = some_open s;
}

-- and the records that it found
unfoldable pub found_in : Tool → Name → ℕ → ℕ → Found
found_in t n p b = record {
  passed = passed (state_of t) n p b;
  found = record_at t (name_stands (state_of t) n);
  held = record_at t (tie_stands (state_of t) p);
}
