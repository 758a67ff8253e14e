-- Rows 16 and 17, shown condition by condition.
use Rattle.std.specs.Prelude.{ℕ, List, [], ◌∷◌, ◌++◌, replicate}
use Rattle.rules.specs.State.{State}
use Rattle.rules.specs.Seen.{Input}
use Rattle.rules.specs.Pairs.{Pair, along, standing, pair, pair_with, port, carrier, state}
use Rattle.rules.specs.Inputs.{Bind, CarrierNotification, LoadStart, LoadDone, IdRead, IdReadFailed, A, B, unannounced}
use Rattle.rules.specs.Inputs.{arrived, stored}

-- a pod is on its way to port 1; it has come, and its tag is unread; it can't be read
abbrev loading : List Input
loading = LoadStart 1 ∷ []

abbrev loaded : List Input
loaded = loading ++ LoadDone 1 ∷ []

abbrev unreadable : List Input
unreadable = loaded ++ IdReadFailed 1 ∷ []

-- A is expected and untied; tied to port 1; tied to port 2; in the buffer
abbrev announced : List Input
announced = CarrierNotification A ∷ []

abbrev bound_here : List Input
bound_here = Bind 1 A ∷ []

abbrev bound_beside : List Input
bound_beside = Bind 2 A ∷ []

abbrev inside : List Input
inside = stored A 1

-- a pod is unloaded while its tag is unread: in a run the host judges it first, and the tag has been read or has failed by then
abbrev unread_leaves : State
unread_leaves = state 0 (port 3 0 0 [] 2 1 0 ∷ []) []

-- A is placed at port 1 while the tag is unread: in a run it is the tag, read or failed, that places it
abbrev unread_placed : State
unread_placed = state 0 (port 3 0 0 A 0 1 0 ∷ []) (carrier A 1 0 1 0 0 0 (replicate 25 0) 3 1 1 ∷ [])

-- A is expected and tied to port 1, where a pod stands, with this movement and tag: in a run the tag places it before it moves
abbrev bound_with : ℕ → ℕ → State
bound_with movement tag = state 0 (port 3 0 0 A movement 1 tag ∷ []) (carrier A 0 0 1 0 0 0 (replicate 25 0) 1 1 1 ∷ [])

-- 16. IdRead
abbrev id_read_pairs : List Pair
id_read_pairs =
    -- a port of the tool: for a name without a record, for a placed one
    pair 16 0 (along 1 0 [] (IdRead 1 A)) 5 (along 1 0 [] (IdRead 2 A)) 1
    ∷ pair 16 0 (along 2 0 (arrived A) (IdRead 2 A)) 3 (along 2 0 (arrived A) (IdRead 3 A)) 1
    -- and port 0 is none, though an untied record has it: the tie changes with it
    ∷ pair_with (4 ∷ []) 16 0 (along 1 0 bound_here (IdRead 1 A)) 5 (along 1 0 announced (IdRead 0 A)) 1
    -- a name: tag unread, no pod yet, tag failed
    ∷ pair 16 1 (along 1 0 loaded (IdRead 1 A)) 0 (along 1 0 loaded (IdRead 1 [])) 1
    ∷ pair 16 1 (along 1 0 loading (IdRead 1 A)) 5 (along 1 0 loading (IdRead 1 [])) 1
    ∷ pair 16 1 (along 1 0 unreadable (IdRead 1 A)) 5 (along 1 0 unreadable (IdRead 1 [])) 1
    -- it has a record: placed; tied to another port. A name without one is seen as neither placed nor tied, so that this changes with it.
    ∷ pair_with (3 ∷ []) 16 2 (along 1 2 (inside ++ loaded) (IdRead 1 A)) 3 (along 1 2 (inside ++ loaded) (IdRead 1 B)) 0
    ∷ pair_with (4 ∷ []) 16 2 (along 2 0 (bound_beside ++ loaded) (IdRead 1 A)) 3 (along 2 0 (bound_beside ++ loaded) (IdRead 1 B)) 0
    -- expected: not in the buffer, whether the tag can be read or not; not at the port
    ∷ pair 16 3 (along 1 2 (announced ++ loaded) (IdRead 1 A)) 0 (along 1 2 (inside ++ loaded) (IdRead 1 A)) 3
    ∷ pair 16 3 (along 1 2 (announced ++ loading) (IdRead 1 A)) 5 (along 1 2 (inside ++ loading) (IdRead 1 A)) 3
    ∷ pair 16 3 (along 1 2 (announced ++ unreadable) (IdRead 1 A)) 5 (along 1 2 (inside ++ unreadable) (IdRead 1 A)) 3
    ∷ pair 16 3 (along 1 0 (bound_here ++ loaded) (IdRead 1 A)) 0 (standing unread_placed (IdRead 1 A)) 3
    -- untied: whether the tag can be read or not
    ∷ pair 16 4 (along 2 0 (announced ++ loaded) (IdRead 1 A)) 0 (along 2 0 (bound_beside ++ loaded) (IdRead 1 A)) 3
    ∷ pair 16 4 (along 2 0 (announced ++ unreadable) (IdRead 1 A)) 5 (along 2 0 (bound_beside ++ unreadable) (IdRead 1 A)) 3
    -- its port is the one given
    ∷ pair 16 5 (along 2 0 (bound_here ++ loaded) (IdRead 1 A)) 0 (along 2 0 (bound_beside ++ loaded) (IdRead 1 A)) 3
    ∷ pair 16 5 (along 2 0 (bound_here ++ loading) (IdRead 1 A)) 5 (along 2 0 (bound_beside ++ loading) (IdRead 1 A)) 3
    -- pod present: for a name without a record, for the one that the port is tied to
    ∷ pair 16 6 (along 1 0 loaded (IdRead 1 A)) 0 (along 1 0 [] (IdRead 1 A)) 5
    ∷ pair 16 6 (along 1 0 (bound_here ++ loaded) (IdRead 1 A)) 0 (along 1 0 bound_here (IdRead 1 A)) 5
    -- idle
    ∷ pair 16 7 (along 1 0 loaded (IdRead 1 A)) 0 (standing unread_leaves (IdRead 1 A)) 5
    ∷ pair 16 7 (along 1 0 (bound_here ++ loaded) (IdRead 1 A)) 0 (standing (bound_with 2 0) (IdRead 1 A)) 5
    -- tag unread: not failed, not read
    ∷ pair 16 8 (along 1 0 loaded (IdRead 1 A)) 0 (along 1 0 unreadable (IdRead 1 A)) 5
    ∷ pair 16 8 (along 1 0 loaded (IdRead 1 B)) 0 (along 1 0 unannounced (IdRead 1 B)) 5
    ∷ pair 16 8 (along 1 0 (bound_here ++ loaded) (IdRead 1 A)) 0 (standing (bound_with 0 1) (IdRead 1 A)) 5
    ∷ []

-- 17. IdReadFailed
abbrev id_read_failed_pairs : List Pair
id_read_failed_pairs =
    -- a port of the tool
    pair 17 0 (along 1 0 [] (IdReadFailed 1)) 5 (along 1 0 [] (IdReadFailed 2)) 1
    -- pod present
    ∷ pair 17 1 (along 1 0 loaded (IdReadFailed 1)) 0 (along 1 0 [] (IdReadFailed 1)) 5
    -- idle
    ∷ pair 17 2 (along 1 0 loaded (IdReadFailed 1)) 0 (standing unread_leaves (IdReadFailed 1)) 5
    -- tag unread: not failed, not read
    ∷ pair 17 3 (along 1 0 loaded (IdReadFailed 1)) 0 (along 1 0 unreadable (IdReadFailed 1)) 5
    ∷ pair 17 3 (along 1 0 loaded (IdReadFailed 1)) 0 (along 1 0 unannounced (IdReadFailed 1)) 5
    ∷ []

abbrev pub reading_pairs : List Pair
reading_pairs = id_read_pairs ++ id_read_failed_pairs
