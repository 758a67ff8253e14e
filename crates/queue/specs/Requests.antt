-- Request P5: the queue of CarrierOut requests, the oldest first.
use Rattle.std.specs.Prelude.{ℕ, Bool, not, cond, ◌&&◌, List, [], ◌∷◌, ◌++◌, length, get_or, set, eqb, leb}
use Rattle.lists.specs.Lists.{any, where_is, without}
use Rattle.records.specs.declared.name.Name.{Name}
use Rattle.records.specs.declared.carrier.Carrier.{Carrier}
use Rattle.records.specs.Names.{no_name, same_name}
use Rattle.records.specs.Carriers.{is_open, in_access}
use Rattle.rules.specs.State.{State, record_of}
use Rattle.rules.specs.Seen.{name_stands}
use Rattle.queue.specs.declared.request.Request.{Request}

-- ── A request: the carrier's name, the port that it goes to, whether it is started (0, 1) ──
abbrev pub no_request : Request
no_request = record { name = no_name; port = 0; started = 0 }

abbrev pub new_request : Name → ℕ → Request
new_request n p = record { name = n; port = p; started = 0 }

abbrev pub begun : Request → Request
begun r = record { name = r.name; port = r.port; started = 1 }

abbrev pub is_started : Request → Bool
is_started r = eqb r.started 1

-- it is the request of this carrier; and it isn't started yet
abbrev pub is_of : Name → Request → Bool
is_of n r = same_name r.name n

abbrev pub waits_of : Name → Request → Bool
waits_of n r = is_of n r && not (is_started r)

abbrev pub started_of : Name → Request → Bool
started_of n r = is_of n r && is_started r

-- it is started, to this port
abbrev pub started_to : ℕ → Request → Bool
started_to p r = eqb r.port p && is_started r

-- ── Its carrier ──
-- the record of a name, or no carrier
unfoldable pub carrier_of : State → Name → Carrier
carrier_of s n = record_of s (name_stands s n)

-- closed and not in access
unfoldable pub may_leave : Carrier → Bool
may_leave c = not (is_open c) && not (in_access c)

-- for this port, and its carrier is closed and not in access
abbrev pub is_ready : State → ℕ → Request → Bool
is_ready s p r = eqb r.port p && may_leave (carrier_of s r.name)

-- ── The queue ──
abbrev pub is_full : List Request → Bool
is_full q = leb 16 (length q)

abbrev pub is_queued : Name → List Request → Bool
is_queued n q = any (is_of n) q

-- where the oldest request stands that is ready for a port, and the one that is started to it; past the end where there is none
abbrev pub ready_stands : State → ℕ → List Request → ℕ
ready_stands s p q = where_is (is_ready s p) q

abbrev pub started_stands : ℕ → List Request → ℕ
started_stands p q = where_is (started_to p) q

-- one is added, one is started, one goes
abbrev pub added : Name → ℕ → List Request → List Request
added n p q = q ++ new_request n p ∷ []

abbrev pub started : ℕ → List Request → List Request
started k q = set q k (begun (get_or q k no_request))

-- the request of a carrier is dropped, if it isn't started
abbrev pub dropped : Name → List Request → List Request
dropped n q = without (where_is (waits_of n) q) q

-- those that pass a test
unfoldable pub only : (Request → Bool) → List Request → List Request
only f [] = []
only f (r ∷ q) = cond (f r) (r ∷ only f q) (only f q)

-- all are dropped that aren't started
abbrev pub all_dropped : List Request → List Request
all_dropped q = only is_started q
