-- Rows 1 to 4, shown condition by condition.
use Rattle.std.specs.Prelude.{List, [], ◌∷◌}
use Rattle.rules.specs.Pairs.{Pair, along, pair, pair_with}
use Rattle.rules.specs.Inputs.{Bind, CancelBind, CarrierNotification, CancelCarrierNotification, ReserveAtPort, ChangeServiceStatus}
use Rattle.rules.specs.Inputs.{LoadStart, LoadFail, A, B, A16, A17, expecting, announced, arrived, stored}

abbrev pub booking_pairs : List Pair
booking_pairs =
    -- 1. Bind: a port of the tool
    pair 1 0 (along 1 0 (ChangeServiceStatus 1 0 ∷ []) (Bind 1 A)) 5 (along 1 0 (ChangeServiceStatus 1 0 ∷ []) (Bind 2 A)) 1
    -- a name
    ∷ pair 1 1 (along 1 0 [] (Bind 1 A)) 0 (along 1 0 [] (Bind 1 [])) 1
    -- it has a record
    ∷ pair 1 2 (along 1 0 (announced A) (Bind 1 A)) 3 (along 1 0 (announced B) (Bind 1 A)) 0
    -- reserved
    ∷ pair 1 3 (along 1 0 (ReserveAtPort 1 ∷ []) (Bind 1 A)) 4 (along 1 0 [] (Bind 1 A)) 0
    -- tied
    ∷ pair 1 4 (along 1 0 (Bind 1 B ∷ LoadStart 1 ∷ LoadFail 1 ∷ []) (Bind 1 A)) 4 (along 1 0 [] (Bind 1 A)) 0
    -- READY TO LOAD
    ∷ pair 1 5 (along 1 0 [] (Bind 1 A)) 0 (along 1 0 (LoadStart 1 ∷ []) (Bind 1 A)) 5
    -- sixteen are expected
    ∷ pair 1 6 (along 1 0 (expecting 16) (Bind 1 A)) 6 (along 1 0 (expecting 15) (Bind 1 A)) 0
    -- 2. CancelBind: a port of the tool
    ∷ pair 2 0 (along 2 0 (Bind 2 A ∷ []) (CancelBind 1 A)) 5 (along 2 0 (Bind 2 A ∷ []) (CancelBind 3 A)) 1
    -- no port given
    ∷ pair 2 1 (along 1 0 (Bind 1 A ∷ []) (CancelBind 0 A)) 0 (along 1 0 (Bind 1 A ∷ []) (CancelBind 2 A)) 1
    -- no name given
    ∷ pair 2 2 (along 1 0 [] (CancelBind 1 [])) 5 (along 1 0 [] (CancelBind 1 A17)) 1
    -- a name
    ∷ pair 2 3 (along 1 0 (Bind 1 A16 ∷ []) (CancelBind 1 A16)) 0 (along 1 0 (Bind 1 A16 ∷ []) (CancelBind 1 A17)) 1
    -- it has a record
    ∷ pair 2 4 (along 1 0 (announced A) (CancelBind 1 A)) 5 (along 1 0 (announced B) (CancelBind 1 A)) 2
    -- no tie; the port of a carrier without a tie is none, so that "its port is the one given" changes with it
    ∷ pair_with (6 ∷ []) 2 5 (along 1 0 (announced A) (CancelBind 0 A)) 5 (along 1 0 (Bind 1 A ∷ []) (CancelBind 0 A)) 0
    -- its port is the one given
    ∷ pair 2 6 (along 2 0 (Bind 1 A ∷ []) (CancelBind 1 A)) 0 (along 2 0 (Bind 1 A ∷ []) (CancelBind 2 A)) 5
    -- expected
    ∷ pair 2 7 (along 1 0 (Bind 1 A ∷ []) (CancelBind 1 [])) 0 (along 1 0 (arrived A) (CancelBind 1 [])) 5
    -- its port idle: the carrier is given, and the port
    ∷ pair 2 8 (along 1 0 (Bind 1 A ∷ []) (CancelBind 0 A)) 0 (along 1 0 (Bind 1 A ∷ LoadStart 1 ∷ []) (CancelBind 0 A)) 5
    ∷ pair 2 8 (along 1 0 (Bind 1 A ∷ []) (CancelBind 1 [])) 0 (along 1 0 (Bind 1 A ∷ LoadStart 1 ∷ []) (CancelBind 1 [])) 5
    -- 3. CarrierNotification: a name
    ∷ pair 3 0 (along 1 0 [] (CarrierNotification A16)) 0 (along 1 0 [] (CarrierNotification A17)) 1
    -- it has a record
    ∷ pair 3 1 (along 1 0 (Bind 1 A ∷ []) (CarrierNotification A)) 3 (along 1 0 (Bind 1 B ∷ []) (CarrierNotification A)) 0
    -- sixteen are expected
    ∷ pair 3 2 (along 1 0 (expecting 16) (CarrierNotification A)) 6 (along 1 0 (expecting 15) (CarrierNotification A)) 0
    -- 4. CancelCarrierNotification: a name
    ∷ pair 4 0 (along 1 0 (announced A16) (CancelCarrierNotification A16)) 0 (along 1 0 (announced A16) (CancelCarrierNotification A17)) 1
    -- it has a record
    ∷ pair 4 1 (along 1 0 (announced A) (CancelCarrierNotification A)) 0 (along 1 0 (announced B) (CancelCarrierNotification A)) 2
    -- expected
    ∷ pair 4 2 (along 1 1 (announced A) (CancelCarrierNotification A)) 0 (along 1 1 (stored A 1) (CancelCarrierNotification A)) 5
    -- untied
    ∷ pair 4 3 (along 1 0 (announced A) (CancelCarrierNotification A)) 0 (along 1 0 (Bind 1 A ∷ []) (CancelCarrierNotification A)) 5
    ∷ []
