-- What is looked at where carriers and ports meet, and of a port alone.
use Rattle.std.specs.Prelude.{ℕ, ◌+◌, ◌-◌, Bool, not, cond, ◌&&◌, ◌||◌, List, eqb, leb}
use Rattle.lists.specs.Lists.{every, every_two, how_many}
use Rattle.records.specs.declared.port.Port.{Port}
use Rattle.records.specs.declared.carrier.Carrier.{Carrier}
use Rattle.records.specs.Names.{same_name}
use Rattle.records.specs.Carriers.{expected, is_open}
use Rattle.rules.specs.Sound.{port_agrees, spot_in_range, place_agrees, open_agrees, other_spot}
use Rattle.image.specs.Image.{table, byte_at, bytes_from, port_from, port_start, carrier_start}
use Rattle.passes.specs.Passes.{is_zero, record_on, latest}

-- the port at a position
abbrev pub port_on : List ℕ → ℕ → Port
port_on m k = port_from m (port_start k)

-- a port alone: its tie comes later
unfoldable pub port_fits : Port → Bool
port_fits q = (leb q.transfer 3 && leb q.access 1 && leb q.reserved 1 && leb q.movement 2 && leb q.pod 1 && leb q.tag 2)
    && port_agrees q

-- place, spot, port and open fit each other; what stands at the port comes later
unfoldable pub seat_fits : ℕ → ℕ → Carrier → Bool
seat_fits P B c = ((((leb c.place 2 && spot_in_range B c) && leb c.port P) && place_agrees c) && (not (is_open c) || not (expected c)))

-- two that share no port
unfoldable pub other_port : Carrier → Carrier → Bool
other_port a b = eqb a.port 0 || not (eqb a.port b.port)

-- under what a record leaves its position
abbrev pub port_key : List ℕ → ℕ → ℕ
port_key m k = byte_at m (carrier_start k + 18)

abbrev pub spot_key : List ℕ → ℕ → ℕ
spot_key m k = byte_at m (carrier_start k + 17)

-- the port at position k, and one more than the position of the carrier that names it
unfoldable pub tie_fits : List ℕ → ℕ → ℕ → Bool
tie_fits m k a = cond (eqb a 0) (every is_zero (bytes_from m (port_start k + 3) 16))
    (same_name (port_on m k).tie (record_on m (a - 1)).name && open_agrees (port_on m k) (record_on m (a - 1)))

-- every seat, every two of them, how many are expected, and the four ties
unfoldable pub seats_fit : List ℕ → ℕ → ℕ → ℕ → Bool
seats_fit m P B n =
    (((every (seat_fits P B) (table n (record_on m)) && every_two other_spot (table n (record_on m)))
    && every_two other_port (table n (record_on m)))
    && leb (how_many expected (table n (record_on m))) 16)
    && ((tie_fits m 0 (latest (port_key m) 1 n) && tie_fits m 1 (latest (port_key m) 2 n))
    && (tie_fits m 2 (latest (port_key m) 3 n) && tie_fits m 3 (latest (port_key m) 4 n)))
