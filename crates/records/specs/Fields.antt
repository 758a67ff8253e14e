-- One field of a record is set, and the others are as they were.
use Rattle.std.specs.Prelude.{ℕ, List}
use Rattle.records.specs.declared.name.Name.{Name}
use Rattle.records.specs.declared.port.Port.{Port}
use Rattle.records.specs.declared.carrier.Carrier.{Carrier}

abbrev pub with_transfer : ℕ → Port → Port
with_transfer v q = record {
  transfer = v;
  access = q.access;
  reserved = q.reserved;
  tie = q.tie;
  movement = q.movement;
  pod = q.pod;
  tag = q.tag;
}

abbrev pub with_access : ℕ → Port → Port
with_access v q = record {
  transfer = q.transfer;
  access = v;
  reserved = q.reserved;
  tie = q.tie;
  movement = q.movement;
  pod = q.pod;
  tag = q.tag;
}

abbrev pub with_reserved : ℕ → Port → Port
with_reserved v q = record {
  transfer = q.transfer;
  access = q.access;
  reserved = v;
  tie = q.tie;
  movement = q.movement;
  pod = q.pod;
  tag = q.tag;
}

abbrev pub tied_to : Name → Port → Port
tied_to n q = record {
  transfer = q.transfer;
  access = q.access;
  reserved = q.reserved;
  tie = n;
  movement = q.movement;
  pod = q.pod;
  tag = q.tag;
}

abbrev pub with_movement : ℕ → Port → Port
with_movement v q = record {
  transfer = q.transfer;
  access = q.access;
  reserved = q.reserved;
  tie = q.tie;
  movement = v;
  pod = q.pod;
  tag = q.tag;
}

abbrev pub with_pod : ℕ → Port → Port
with_pod v q = record {
  transfer = q.transfer;
  access = q.access;
  reserved = q.reserved;
  tie = q.tie;
  movement = q.movement;
  pod = v;
  tag = q.tag;
}

abbrev pub with_tag : ℕ → Port → Port
with_tag v q = record {
  transfer = q.transfer;
  access = q.access;
  reserved = q.reserved;
  tie = q.tie;
  movement = q.movement;
  pod = q.pod;
  tag = v;
}

abbrev pub with_place : ℕ → Carrier → Carrier
with_place v c = record {
  name = c.name;
  place = v;
  spot = c.spot;
  port = c.port;
  opened = c.opened;
  cancelled = c.cancelled;
  cameout = c.cameout;
  map = c.map;
  id = c.id;
  slot = c.slot;
  accessing = c.accessing;
}

abbrev pub with_spot : ℕ → Carrier → Carrier
with_spot v c = record {
  name = c.name;
  place = c.place;
  spot = v;
  port = c.port;
  opened = c.opened;
  cancelled = c.cancelled;
  cameout = c.cameout;
  map = c.map;
  id = c.id;
  slot = c.slot;
  accessing = c.accessing;
}

abbrev pub with_port : ℕ → Carrier → Carrier
with_port v c = record {
  name = c.name;
  place = c.place;
  spot = c.spot;
  port = v;
  opened = c.opened;
  cancelled = c.cancelled;
  cameout = c.cameout;
  map = c.map;
  id = c.id;
  slot = c.slot;
  accessing = c.accessing;
}

abbrev pub with_opened : ℕ → Carrier → Carrier
with_opened v c = record {
  name = c.name;
  place = c.place;
  spot = c.spot;
  port = c.port;
  opened = v;
  cancelled = c.cancelled;
  cameout = c.cameout;
  map = c.map;
  id = c.id;
  slot = c.slot;
  accessing = c.accessing;
}

abbrev pub with_cancelled : ℕ → Carrier → Carrier
with_cancelled v c = record {
  name = c.name;
  place = c.place;
  spot = c.spot;
  port = c.port;
  opened = c.opened;
  cancelled = v;
  cameout = c.cameout;
  map = c.map;
  id = c.id;
  slot = c.slot;
  accessing = c.accessing;
}

abbrev pub with_came_out : ℕ → Carrier → Carrier
with_came_out v c = record {
  name = c.name;
  place = c.place;
  spot = c.spot;
  port = c.port;
  opened = c.opened;
  cancelled = c.cancelled;
  cameout = v;
  map = c.map;
  id = c.id;
  slot = c.slot;
  accessing = c.accessing;
}

abbrev pub with_codes : List ℕ → Carrier → Carrier
with_codes m c = record {
  name = c.name;
  place = c.place;
  spot = c.spot;
  port = c.port;
  opened = c.opened;
  cancelled = c.cancelled;
  cameout = c.cameout;
  map = m;
  id = c.id;
  slot = c.slot;
  accessing = c.accessing;
}

abbrev pub with_id : ℕ → Carrier → Carrier
with_id v c = record {
  name = c.name;
  place = c.place;
  spot = c.spot;
  port = c.port;
  opened = c.opened;
  cancelled = c.cancelled;
  cameout = c.cameout;
  map = c.map;
  id = v;
  slot = c.slot;
  accessing = c.accessing;
}

abbrev pub with_slot : ℕ → Carrier → Carrier
with_slot v c = record {
  name = c.name;
  place = c.place;
  spot = c.spot;
  port = c.port;
  opened = c.opened;
  cancelled = c.cancelled;
  cameout = c.cameout;
  map = c.map;
  id = c.id;
  slot = v;
  accessing = c.accessing;
}

abbrev pub with_accessing : ℕ → Carrier → Carrier
with_accessing v c = record {
  name = c.name;
  place = c.place;
  spot = c.spot;
  port = c.port;
  opened = c.opened;
  cancelled = c.cancelled;
  cameout = c.cameout;
  map = c.map;
  id = c.id;
  slot = c.slot;
  accessing = v;
}
