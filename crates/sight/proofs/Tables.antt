-- What a row sees, read off the tables.
use Prim.Native.Nat.{ℕ}
use mathlib.Core.Path.{◌≡◌}
use mathlib.Core.Bool.{Bool}
use mathlib.Core.List.{List}
use lib.ListN.{length}
use lib.Dec.{eqb, leb, ltb}
use Rattle.lists.specs.Lists.{between}
use Rattle.records.specs.declared.name.Name.{Name}
use Rattle.records.specs.declared.port.Port.{Port}
use Rattle.records.specs.Names.{is_name, in_bytes}
use Rattle.records.specs.Maps.{is_map, in_map}
use Rattle.rules.specs.declared.tool.Tool.{Tool}
use Rattle.rules.specs.declared.row.Seen.{Seen}
use Rattle.rules.specs.State.{state_of, port_at, record_at}
use Rattle.rules.specs.Held.{Held}
use Rattle.rules.specs.Seen.{Input, narrow, name_stands, tie_stands, see}
use Rattle.sight.specs.declared.look.Found.{Found}
use Rattle.sight.specs.Pass.{passed, found_in}
use Rattle.rules.proofs.Holding.{used_held, count_held, port_held, record_held}

-- put together from what each call gave
pub seen_made : (t : Tool) → Held t → (i : Input) (port value used places n : ℕ) (text : Name) (f : Found) (isport named blank mapped : Bool)
    (map : List ℕ) (here home : Port)
    → port ≡ narrow i.port → value ≡ narrow i.value → text ≡ in_bytes i.name → f ≡ found_in t text port value
    → n ≡ t.count → map ≡ in_map i.codes → places ≡ t.places → used ≡ t.used
    → isport ≡ between 1 port used → named ≡ is_name i.name → blank ≡ eqb (length i.name) 0 → mapped ≡ is_map i.codes
    → here ≡ port_at t port → home ≡ port_at t f.found.port
    → ◌≡◌ {A = Seen} record {
      places = places;
      count = n;
      port = port;
      isport = isport;
      noport = eqb port 0;
      value = value;
      name = text;
      named = named;
      blank = blank;
      map = map;
      mapped = mapped;
      here = here;
      stands = f.passed.stands;
      known = ltb f.passed.stands n;
      found = f.found;
      home = home;
      holds = f.passed.holds;
      tied = ltb f.passed.holds n;
      held = f.held;
      full = leb 16 f.passed.expected;
      taken = f.passed.taken;
      busy = f.passed.busy;
    } (see (state_of t) i)
unfolding found_in passed see
seen_made t h i port value used places n text f isport named blank mapped map here home a b c d e g j k y l m o p q =
    rw (q, p, o, m, l, y, k, j, g, e, d, c, b, a)
    (rw (
      used_held t h,
      count_held t h,
      ← port_held t h (narrow i.port),
      ← record_held t h (name_stands (state_of t) (in_bytes i.name)),
      ← record_held t h (tie_stands (state_of t) (narrow i.port)),
      ← port_held t h (record_at t (name_stands (state_of t) (in_bytes i.name))).port,
    ))
