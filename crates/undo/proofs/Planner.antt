-- All pairs, in the whole machine.
use Rattle.undo.specs.Undoing.{Planner}
use Rattle.undo.proofs.Ports.{reserving_undone, releasing_undone, unloading_undone, loading_undone, changing_access_undone, taking_out_undone}
use Rattle.undo.proofs.Bookings.{binding_undone, announcing_undone}
use Rattle.undo.proofs.Door.{opening_undone}
use Rattle.undo.proofs.Queueing.{queueing_undone}

pub planner : Planner
planner = record {
  bound = binding_undone;
  announced = announcing_undone;
  reserved = reserving_undone;
  released = releasing_undone;
  queued = queueing_undone;
  unloads = unloading_undone;
  loads = loading_undone;
  changes_access = changing_access_undone;
  taken_out = taking_out_undone;
  opened = opening_undone;
}
