-- Soundness: P1's, and the queue's, in the request's order.
use Rattle.std.specs.Prelude.{ℕ, Bool, not, ◌&&◌, ◌||◌, length, drop, eqb, leb}
use Rattle.lists.specs.Lists.{between, every, every_two}
use Rattle.records.specs.declared.port.Port.{Port}
use Rattle.records.specs.Names.{no_name, same_name}
use Rattle.records.specs.Ports.{reserved, ready_to_load}
use Rattle.records.specs.Carriers.{in_buffer}
use Rattle.rules.specs.State.{State, port_of}
use Rattle.maps.specs.Sound as maps
use Rattle.queue.specs.declared.request.Request.{Request}
use Rattle.queue.specs.Requests.{is_started, carrier_of, may_leave}
use Rattle.queue.specs.State.{Queued, base_of, QueuedTool, state_of}

-- every field is in its range: sixteen bytes of a name, a port of the tool
unfoldable pub request_in_range : ℕ → Request → Bool
request_in_range P r = eqb (length r.name.bytes) 16 && between 1 r.port P && leb r.started 1

-- an entry's carrier is in the buffer, none twice
unfoldable pub carrier_stored : State → Request → Bool
carrier_stored s r = in_buffer (carrier_of s r.name)

unfoldable pub other_carrier : Request → Request → Bool
other_carrier a b = not (same_name a.name b.name)

-- a started one is closed, not in access
unfoldable pub carrier_shut : State → Request → Bool
carrier_shut s r = not (is_started r) || may_leave (carrier_of s r.name)

-- alone for its port: the only started one
unfoldable pub alone_there : Request → Request → Bool
alone_there a b = not (is_started a && is_started b) || not (eqb a.port b.port)

-- which is untied, reserved and READY TO LOAD
unfoldable pub kept_free : Port → Bool
kept_free q = same_name q.tie no_name && reserved q && ready_to_load q

unfoldable pub port_kept : State → Request → Bool
port_kept s r = not (is_started r) || kept_free (port_of s r.port)

unfoldable pub sound : Queued → Bool
sound s =
    maps.sound s.mapped
    && leb (length s.queue) 16
    && every (request_in_range (length (base_of s).ports)) s.queue
    && every (carrier_stored (base_of s)) s.queue
    && every_two other_carrier s.queue
    && every (carrier_shut (base_of s)) s.queue
    && every_two alone_there s.queue
    && every (port_kept (base_of s)) s.queue

-- unused entries are zero
unfoldable pub zero_request : Request → Bool
zero_request r = same_name r.name no_name && eqb r.port 0 && eqb r.started 0

-- P1's tool is sound, the count fits the table, what is unused is zero, and what is used is sound.
unfoldable pub sound_tool : QueuedTool → Bool
sound_tool t =
    maps.sound_tool t.mapped
    && leb t.waiting 16
    && every zero_request (drop t.waiting t.queue)
    && sound (state_of t)
