-- Rows 13 to 15 and 24 to 26, shown condition by condition.
use Rattle.std.specs.Prelude.{List, [], ◌∷◌, ◌++◌}
use Rattle.rules.specs.Seen.{Input}
use Rattle.rules.specs.Pairs.{Pair, along, pair}
use Rattle.rules.specs.Inputs.{CancelCarrier, ChangeServiceStatus, LoadStart, LoadDone, LoadFail, UnloadStart, UnloadDone, UnloadFail}
use Rattle.rules.specs.Inputs.{A, unannounced}

-- port 1 is out of service; it is loading
abbrev out : List Input
out = ChangeServiceStatus 1 0 ∷ []

abbrev loading : List Input
loading = LoadStart 1 ∷ []

-- the host says no to a pod at port 1, which is READY TO UNLOAD then; the pod is unloaded
abbrev turned_away : List Input
turned_away = unannounced ++ CancelCarrier A 1 ∷ []

abbrev unloading : List Input
unloading = turned_away ++ UnloadStart 1 ∷ []

-- 13. LoadStart, 14. LoadDone, 15. LoadFail
abbrev load_pairs : List Pair
load_pairs =
    -- 13: a port of the tool
    pair 13 0 (along 1 0 out (LoadStart 1)) 5 (along 1 0 out (LoadStart 2)) 1
    -- READY TO LOAD
    ∷ pair 13 1 (along 1 0 [] (LoadStart 1)) 0 (along 1 0 loading (LoadStart 1)) 5
    -- 14: a port of the tool, which 0 isn't
    ∷ pair 14 0 (along 1 0 [] (LoadDone 1)) 5 (along 1 0 [] (LoadDone 0)) 1
    -- loading, which is not unloading
    ∷ pair 14 1 (along 1 0 loading (LoadDone 1)) 0 (along 1 0 unloading (LoadDone 1)) 5
    -- 15: a port of the tool, which 257 isn't, though its last byte is 1
    ∷ pair 15 0 (along 1 0 [] (LoadFail 1)) 5 (along 1 0 [] (LoadFail 257)) 1
    -- loading
    ∷ pair 15 1 (along 1 0 loading (LoadFail 1)) 0 (along 1 0 unloading (LoadFail 1)) 5
    ∷ []

-- 24. UnloadStart, 25. UnloadDone, 26. UnloadFail
abbrev unload_pairs : List Pair
unload_pairs =
    -- 24: a port of the tool
    pair 24 0 (along 1 0 [] (UnloadStart 1)) 5 (along 1 0 [] (UnloadStart 2)) 1
    -- READY TO UNLOAD
    ∷ pair 24 1 (along 1 0 turned_away (UnloadStart 1)) 0 (along 1 0 unannounced (UnloadStart 1)) 5
    -- 25: a port of the tool
    ∷ pair 25 0 (along 1 0 [] (UnloadDone 1)) 5 (along 1 0 [] (UnloadDone 2)) 1
    -- unloading, which is not loading
    ∷ pair 25 1 (along 1 0 unloading (UnloadDone 1)) 0 (along 1 0 loading (UnloadDone 1)) 5
    -- 26: a port of the tool
    ∷ pair 26 0 (along 1 0 [] (UnloadFail 1)) 5 (along 1 0 [] (UnloadFail 2)) 1
    -- unloading
    ∷ pair 26 1 (along 1 0 unloading (UnloadFail 1)) 0 (along 1 0 loading (UnloadFail 1)) 5
    ∷ []

abbrev pub transfer_pairs : List Pair
transfer_pairs = load_pairs ++ unload_pairs
