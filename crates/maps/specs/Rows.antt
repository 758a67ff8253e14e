-- Rows 1, 3 and 20, as request P1 amends them.
use Rattle.std.specs.Prelude.{ℕ, cond, ◌∷◌, get_or, eqb}
use Rattle.records.specs.Carriers.{with_map}
use Rattle.rules.specs.declared.row.Seen.{Seen}
use Rattle.rules.specs.Seen.{Input, see}
use Rattle.rules.specs.Row.{Row, unless, on_record}
use Rattle.rules.specs.Booking as booking
use Rattle.rules.specs.Opening as opening
use Rattle.rules.specs.Rows as base
use Rattle.maps.specs.declared.codes.Codes.{Codes}
use Rattle.maps.specs.Expected.{no_map, is_expected, equals}
use Rattle.maps.specs.State.{Mapped}

-- what a row sees of expected maps
unfoldable pub codes_in : Mapped → Input → Codes
codes_in s i = record {
  fine = is_expected i.codes;
  equal = equals (get_or s.maps (see s.base i).stands no_map) (see s.base i).map;
}

-- 1. Bind(port, name, expected map or none). 1 also for another length or code there. The record keeps the map.
abbrev pub bind : Seen → Codes → Row
bind x c = record {
  grounds = unless c.fine 1 ∷ (booking.bind x).grounds;
  effect = (booking.bind x).effect;
}

-- 3. CarrierNotification(name, expected map or none). 1 also for another length or code there. The record keeps the map.
abbrev pub carrier_notification : Seen → Codes → Row
carrier_notification x c = record {
  grounds = unless c.fine 1 ∷ (booking.carrier_notification x).grounds;
  effect = (booking.carrier_notification x).effect;
}

-- 20. SlotMap(name, codes). Map kept. When SlotMap equals the expected map at all 25 slots, slot status becomes OK at once;
-- otherwise the host is asked as before.
abbrev pub slot_map : Seen → Codes → Row
slot_map x c = record {
  grounds = (opening.slot_map x).grounds;
  effect = on_record x.count x.stands (with_map x.map (cond c.equal 3 2) x.found);
}

unfoldable pub row_of : ℕ → Seen → Codes → Row
row_of n x c =
    cond (eqb n 1) (bind x c)
    (cond (eqb n 3) (carrier_notification x c)
    (cond (eqb n 20) (slot_map x c)
    (base.row_of n x)))
