-- Rows 13 to 15 and 24 to 26: a pod is loaded at a port, or unloaded from it.
use Rattle.std.specs.Prelude.{[], ◌∷◌}
use Rattle.records.specs.Ports.{ready_to_load, ready_to_unload, loading, unloading, start_load, loaded, not_loaded}
use Rattle.records.specs.Ports.{start_unload, emptied, not_unloaded}
use Rattle.rules.specs.declared.row.Seen.{Seen}
use Rattle.rules.specs.Row.{Row, unless, on_port, on_port_and_gone}

-- 13. LoadStart(port). 5 unless READY TO LOAD. BLOCKED, loading, reservation ends, tie stays.
abbrev pub load_start : Seen → Row
load_start x = record {
  grounds = unless x.isport 1 ∷ unless (ready_to_load x.here) 5 ∷ [];
  effect = on_port x.count x.port (start_load x.here);
}

-- 14. LoadDone(port). 5 unless loading. Idle, pod present, tag unread.
abbrev pub load_done : Seen → Row
load_done x = record {
  grounds = unless x.isport 1 ∷ unless (loading x.here) 5 ∷ [];
  effect = on_port x.count x.port (loaded x.here);
}

-- 15. LoadFail(port). 5 unless loading. Idle, READY TO LOAD.
abbrev pub load_fail : Seen → Row
load_fail x = record {
  grounds = unless x.isport 1 ∷ unless (loading x.here) 5 ∷ [];
  effect = on_port x.count x.port (not_loaded x.here);
}

-- 24. UnloadStart(port). 5 unless READY TO UNLOAD. BLOCKED, unloading.
abbrev pub unload_start : Seen → Row
unload_start x = record {
  grounds = unless x.isport 1 ∷ unless (ready_to_unload x.here) 5 ∷ [];
  effect = on_port x.count x.port (start_unload x.here);
}

-- 25. UnloadDone(port). 5 unless unloading. Idle, no pod, tag unread, no tie, READY TO LOAD; the record goes.
abbrev pub unload_done : Seen → Row
unload_done x = record {
  grounds = unless x.isport 1 ∷ unless (unloading x.here) 5 ∷ [];
  effect = on_port_and_gone x.count x.port (emptied x.here) x.holds;
}

-- 26. UnloadFail(port). 5 unless unloading. Idle, READY TO UNLOAD.
abbrev pub unload_fail : Seen → Row
unload_fail x = record {
  grounds = unless x.isport 1 ∷ unless (unloading x.here) 5 ∷ [];
  effect = on_port x.count x.port (not_unloaded x.here);
}
