-- A carrier, and the record that follows.
use Rattle.std.specs.Prelude.{ℕ, Bool, not, cond, ◌&&◌, List, replicate, eqb, leb}
use Rattle.records.specs.Names.{no_name}
use Rattle.records.specs.declared.name.Name.{Name}
use Rattle.records.specs.declared.carrier.Carrier.{Carrier}
use Rattle.records.specs.Fields.{with_place, with_spot, with_port, with_opened, with_cancelled, with_came_out, with_codes, with_id, with_slot}

-- place: 0 expected, 1 at a port, 2 in the buffer; spot: the buffer place, or 0; port: the tie, or 0
-- opened, cancelled, cameout: 0, 1; map: 25 codes; 0 is "no state" in each of the three below
-- id, slot: 1 NOT READ, 2 WAITING FOR HOST, 3 OK, 4 FAILED
-- accessing: 1 NOT ACCESSED, 2 IN ACCESS, 3 COMPLETE, 4 STOPPED

abbrev pub expected : Carrier → Bool
expected c = eqb c.place 0

abbrev pub at_port : Carrier → Bool
at_port c = eqb c.place 1

abbrev pub in_buffer : Carrier → Bool
in_buffer c = eqb c.place 2

abbrev pub untied : Carrier → Bool
untied c = eqb c.port 0

abbrev pub is_open : Carrier → Bool
is_open c = eqb c.opened 1

abbrev pub is_cancelled : Carrier → Bool
is_cancelled c = eqb c.cancelled 1

abbrev pub came_out : Carrier → Bool
came_out c = eqb c.cameout 1

abbrev pub id_waits : Carrier → Bool
id_waits c = eqb c.id 2

abbrev pub id_ok : Carrier → Bool
id_ok c = eqb c.id 3

abbrev pub slot_not_read : Carrier → Bool
slot_not_read c = eqb c.slot 1

abbrev pub slot_waits : Carrier → Bool
slot_waits c = eqb c.slot 2

abbrev pub slot_ok : Carrier → Bool
slot_ok c = eqb c.slot 3

abbrev pub slot_failed : Carrier → Bool
slot_failed c = eqb c.slot 4

abbrev pub not_accessed : Carrier → Bool
not_accessed c = eqb c.accessing 1

abbrev pub in_access : Carrier → Bool
in_access c = eqb c.accessing 2

-- COMPLETE or STOPPED
abbrev pub access_ended : Carrier → Bool
access_ended c = leb 3 c.accessing

-- no carrier: every field zero
abbrev pub no_carrier : Carrier
no_carrier = record {
  name = no_name;
  place = 0;
  spot = 0;
  port = 0;
  opened = 0;
  cancelled = 0;
  cameout = 0;
  map = replicate 25 0;
  id = 0;
  slot = 0;
  accessing = 0;
}

-- a new record, tied to port p (0: to none)
abbrev pub new_carrier : Name → ℕ → Carrier
new_carrier n p = record {
  name = n;
  place = 0;
  spot = 0;
  port = p;
  opened = 0;
  cancelled = 0;
  cameout = 0;
  map = replicate 25 0;
  id = 1;
  slot = 1;
  accessing = 1;
}

-- at port p, tied to it
abbrev pub placed_at : ℕ → Carrier → Carrier
placed_at p c = with_place 1 (with_spot 0 (with_port p c))

-- the host says yes: the ID that waits is OK, else the slot map is
abbrev pub proceeded : Carrier → Carrier
proceeded c = with_id (cond (id_waits c) 3 c.id) (with_slot (cond (id_waits c) c.slot 3) c)

-- the host says no: the ID that waits is FAILED, else the slot map that waits is
abbrev pub judged_no : Carrier → Carrier
judged_no c = with_id (cond (id_waits c) 4 c.id) (with_slot (cond (not (id_waits c) && slot_waits c) 4 c.slot) c)

-- cancelled and closed; came-out goes off unless it stays
abbrev pub cancelled_by : Bool → Carrier → Carrier
cancelled_by stays c = with_cancelled 1 (with_opened 0 (with_came_out (cond stays c.cameout 0) c))

-- out of the buffer to port p
abbrev pub taken_out : ℕ → Carrier → Carrier
taken_out p c = placed_at p (with_came_out 1 c)

-- came-out goes off
abbrev pub taken_back : Carrier → Carrier
taken_back c = with_came_out 0 c

-- in the buffer place b, tied to no port
abbrev pub moved_in : ℕ → Carrier → Carrier
moved_in b c = with_place 2 (with_spot b (with_port 0 c))

-- the map kept, slot status set
abbrev pub with_map : List ℕ → ℕ → Carrier → Carrier
with_map m v c = with_codes m (with_slot v c)
