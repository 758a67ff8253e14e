-- Every row is lawful.
use Prim.Native.Nat.{ℕ}
use native.Mathlib.Omega.{arith}
use mathlib.Core.Path.{◌≡◌}
use Rattle.rules.specs.State.{State}
use Rattle.rules.specs.Seen.{Input, see}
use Rattle.rules.specs.Row.{judge}
use Rattle.rules.specs.Rows.{row_of}
use Rattle.rules.proofs.Walk.{walk}
use Rattle.rules.proofs.Lawful.{Lawful}
use Rattle.rules.proofs.LawfulShapes.{Fine, Ready}
use Rattle.rules.proofs.LawfulPorts.{bind_law, cancel_bind_law, carrier_notification_law, cancel_carrier_notification_law}
use Rattle.rules.proofs.LawfulPorts.{change_access_law, change_service_status_law, reserve_at_port_law}
use Rattle.rules.proofs.LawfulPorts.{cancel_reservation_at_port_law, load_start_law, load_done_law, load_fail_law}
use Rattle.rules.proofs.LawfulPorts.{unload_start_law, unload_done_law, unload_fail_law}
use Rattle.rules.proofs.LawfulPods.{proceed_with_carrier_law, cancel_carrier_law, id_read_law, id_read_failed_law}
use Rattle.rules.proofs.LawfulInside.{carrier_out_law, carrier_in_law, move_in_law, open_law, slot_map_law}
use Rattle.rules.proofs.LawfulInside.{access_start_law, access_end_law, close_law}

pub lawful : {s : State} {i : Input} → Ready s i → (n : ℕ) → judge (row_of n (see s i)).grounds ≡ 0
    → Lawful s i n (row_of n (see s i)).effect
lawful {s} {i} r n = (walk (Fine s i) (see s i) (record {
  bind = bind_law r;
  cancel_bind = cancel_bind_law r;
  carrier_notification = carrier_notification_law r;
  cancel_carrier_notification = cancel_carrier_notification_law r;
  proceed_with_carrier = proceed_with_carrier_law r;
  cancel_carrier = cancel_carrier_law r;
  carrier_out = carrier_out_law r;
  carrier_in = carrier_in_law r;
  change_access = change_access_law r;
  change_service_status = change_service_status_law r;
  reserve_at_port = reserve_at_port_law r;
  cancel_reservation_at_port = cancel_reservation_at_port_law r;
  load_start = load_start_law r;
  load_done = load_done_law r;
  load_fail = load_fail_law r;
  id_read = id_read_law r;
  id_read_failed = id_read_failed_law r;
  move_in = move_in_law r;
  open_row = open_law r;
  slot_map = slot_map_law r;
  access_start = access_start_law r;
  access_end = access_end_law r;
  close_row = close_law r;
  unload_start = unload_start_law r;
  unload_done = unload_done_law r;
  unload_fail = unload_fail_law r;
  none = λ _. record { fine = λ e. absurd (omega arith) };
}) n).fine
