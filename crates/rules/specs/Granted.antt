-- What users take for granted: it holds after any finite run from a valid set-up, beside the promise.
use Rattle.std.specs.Prelude.{ℕ, ◌≤◌, ◌≡◌, Bool, true, false, not, ◌&&◌, ◌||◌, List}
use Rattle.records.specs.declared.port.Port.{Port}
use Rattle.records.specs.declared.carrier.Carrier.{Carrier}
use Rattle.records.specs.Ports.{ready_to_unload, blocked, idle, unloading, has_pod, tag_unread}
use Rattle.records.specs.Carriers.{at_port, in_buffer, is_open, is_cancelled, came_out, id_ok, slot_waits, slot_ok, slot_failed, in_access}
use Rattle.rules.specs.State.{start, port_of, record_of}
use Rattle.rules.specs.Seen.{Input}
use Rattle.rules.specs.History.{Event, reached, events, history, was_mapped}
use Rattle.rules.specs.Pods.{pod_brought}
use Rattle.rules.specs.Promise.{Live}

-- in the buffer, or at an idle TRANSFER BLOCKED port
abbrev pub stands_still : Port → Carrier → Bool
stands_still q c = in_buffer c || (at_port c && idle q && blocked q)

-- READY TO UNLOAD, or unloading
abbrev pub outbound : Port → Bool
outbound q = ready_to_unload q || unloading q

-- What a carrier's record says, with its port q and its history h; the tool has B buffer places.
pub record Coherent (B : ℕ) (q : Port) (h : List Event) (c : Carrier) : Type 0 where
  -- an open carrier has ID OK and isn't cancelled
  pub open_id_ok : is_open c ≡ true → id_ok c ≡ true
  pub open_not_cancelled : is_open c ≡ true → is_cancelled c ≡ false
  -- a carrier IN ACCESS is open
  pub access_open : in_access c ≡ true → is_open c ≡ true
  -- a carrier that is open or IN ACCESS is in the buffer, or at an idle TRANSFER BLOCKED port
  pub open_stands : (is_open c || in_access c) ≡ true → stands_still q c ≡ true
  -- a tool with a buffer opens carriers there, and one without at the port
  pub open_in_buffer : is_open c ≡ true → 1 ≤ B → in_buffer c ≡ true
  pub open_at_port : is_open c ≡ true → B ≡ 0 → at_port c ≡ true
  -- slot status WAITING FOR HOST, OK or FAILED: its slot map was reported
  pub slot_mapped : (slot_waits c || slot_ok c || slot_failed c) ≡ true → was_mapped c.name h ≡ true
  -- a carrier that came out of the buffer is at a port that is READY TO UNLOAD or unloading
  pub out_at_port : came_out c ≡ true → (at_port c && outbound q) ≡ true
  -- where a carrier is at a port there is a pod, whose tag isn't unread
  pub pod_there : at_port c ≡ true → (has_pod q && not (tag_unread q)) ≡ true

-- What is granted, of a tool of P ports and B places and a run.
pub record Granted (P B : ℕ) (run : List Input) : Type 0 where
  -- with a buffer, two open carriers are one
  pub one_open : 1 ≤ B → (j k : ℕ) → Live (reached (start P B) run) j → Live (reached (start P B) run) k
      → is_open (record_of (reached (start P B) run) j) ≡ true → is_open (record_of (reached (start P B) run) k) ≡ true → j ≡ k
  pub coherent : (k : ℕ) → Live (reached (start P B) run) k
      → Coherent B (port_of (reached (start P B) run) (record_of (reached (start P B) run) k).port)
      (history (record_of (reached (start P B) run) k).name (events (start P B) run)) (record_of (reached (start P B) run) k)
  -- a pod is at a port exactly if LoadDone or CarrierOut brought it, and neither UnloadDone nor MoveIn took it since
  pub pod_at_port : (p : ℕ) → has_pod (port_of (reached (start P B) run) p) ≡ pod_brought p (events (start P B) run)
