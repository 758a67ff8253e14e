-- A port, and the port that follows.
use Rattle.std.specs.Prelude.{Bool, eqb}
use Rattle.records.specs.Names.{no_name}
use Rattle.records.specs.declared.name.Name.{Name}
use Rattle.records.specs.declared.port.Port.{Port}
use Rattle.records.specs.Fields.{with_transfer, with_reserved, tied_to, with_movement, with_pod, with_tag}

-- transfer: 0 OUT OF SERVICE, 1 READY TO LOAD, 2 READY TO UNLOAD, 3 TRANSFER BLOCKED
-- access: 0 MANUAL, 1 AUTO; reserved: 0, 1; tie: the tied carrier's name, or none
-- movement: 0 none, 1 loading, 2 unloading; pod: 0 none, 1 present; tag: 0 unread, 1 read, 2 failed

abbrev pub out_of_service : Port → Bool
out_of_service q = eqb q.transfer 0

abbrev pub ready_to_load : Port → Bool
ready_to_load q = eqb q.transfer 1

abbrev pub ready_to_unload : Port → Bool
ready_to_unload q = eqb q.transfer 2

abbrev pub blocked : Port → Bool
blocked q = eqb q.transfer 3

abbrev pub reserved : Port → Bool
reserved q = eqb q.reserved 1

abbrev pub idle : Port → Bool
idle q = eqb q.movement 0

abbrev pub loading : Port → Bool
loading q = eqb q.movement 1

abbrev pub unloading : Port → Bool
unloading q = eqb q.movement 2

abbrev pub has_pod : Port → Bool
has_pod q = eqb q.pod 1

abbrev pub tag_unread : Port → Bool
tag_unread q = eqb q.tag 0

abbrev pub tag_failed : Port → Bool
tag_failed q = eqb q.tag 2

-- no port: every field zero
abbrev pub no_port : Port
no_port = record { transfer = 0; access = 0; reserved = 0; tie = no_name; movement = 0; pod = 0; tag = 0 }

-- at set-up
abbrev pub new_port : Port
new_port = record { transfer = 1; access = 0; reserved = 0; tie = no_name; movement = 0; pod = 0; tag = 0 }

-- tied to a carrier, and reserved for it
abbrev pub bound_to : Name → Port → Port
bound_to n q = tied_to n (with_reserved 1 q)

-- tie and reservation go
abbrev pub unbound : Port → Port
unbound q = tied_to no_name (with_reserved 0 q)

-- READY TO UNLOAD
abbrev pub to_unload : Port → Port
to_unload q = with_transfer 2 q

-- a carrier out of the buffer stands here, to be unloaded
abbrev pub handed_out : Name → Port → Port
handed_out n q = tied_to n (with_pod 1 (with_tag 1 (to_unload q)))

-- TRANSFER BLOCKED
abbrev pub to_blocked : Port → Port
to_blocked q = with_transfer 3 q

-- BLOCKED, loading, the reservation ends, the tie stays
abbrev pub start_load : Port → Port
start_load q = to_blocked (with_movement 1 (with_reserved 0 q))

-- idle, pod present, tag unread
abbrev pub loaded : Port → Port
loaded q = with_movement 0 (with_pod 1 (with_tag 0 q))

-- idle, READY TO LOAD
abbrev pub not_loaded : Port → Port
not_loaded q = with_movement 0 (with_transfer 1 q)

-- tag read, tied to a carrier
abbrev pub tag_read : Name → Port → Port
tag_read n q = with_tag 1 (tied_to n q)

-- tag failed
abbrev pub tag_not_read : Port → Port
tag_not_read q = with_tag 2 q

-- idle, no pod, tag unread, no tie, READY TO LOAD
abbrev pub emptied : Port → Port
emptied q = with_movement 0 (with_pod 0 (with_tag 0 (tied_to no_name (with_transfer 1 q))))

-- BLOCKED, unloading
abbrev pub start_unload : Port → Port
start_unload q = to_blocked (with_movement 2 q)

-- idle, READY TO UNLOAD
abbrev pub not_unloaded : Port → Port
not_unloaded q = with_movement 0 (to_unload q)
