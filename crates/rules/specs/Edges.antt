-- The edges of every range: the last value inside, and the first outside, which is refused with 1.
use Rattle.std.specs.Prelude.{ℕ, Bool, List, [], ◌∷◌, ◌++◌, replicate, eqb}
use Rattle.rules.specs.State.{set_up}
use Rattle.rules.specs.Seen.{Input, input_of}
use Rattle.rules.specs.Pairs.{Case, along, input_in, answered}
use Rattle.rules.specs.Inputs.{Bind, CancelBind, CarrierNotification, ProceedWithCarrier, CancelCarrier, ChangeAccess}
use Rattle.rules.specs.Inputs.{ChangeServiceStatus, LoadStart, MoveIn, SlotMap, AccessEnd, A, B, expecting, unannounced, arrived}
use Rattle.rules.specs.Inputs.{stored, opened, accessed}

-- An edge: a case, and its answer.
pub record Edge : Type 0 where
  pub case : Case
  pub answer : ℕ

unfoldable pub stands : Edge → Bool
stands e = answered (input_in e.case).number e.case e.answer

-- an input to a tool of two ports and three places, as it is set up or after a run
abbrev first : Input → ℕ → Edge
first i n = record { case = along 2 3 [] i; answer = n }

abbrev after : List Input → Input → ℕ → Edge
after before i n = record { case = along 2 3 before i; answer = n }

abbrev pub edges : List Edge
edges =
    -- the input number is 1 to 26
    first (input_of 0 1 0 A []) 1
    ∷ first (input_of 27 1 0 A []) 1
    ∷ first (input_of 257 1 0 A []) 1
    -- ports 0, 1, P, P + 1, and a number that is a port if it is cut to a byte
    ∷ first (LoadStart 0) 1
    ∷ first (LoadStart 1) 0
    ∷ first (LoadStart 2) 0
    ∷ first (LoadStart 3) 1
    ∷ first (LoadStart 254) 1
    ∷ first (LoadStart 255) 1
    ∷ first (LoadStart 257) 1
    -- where a port may be missing, one that is given is in range all the same
    ∷ after (Bind 2 A ∷ []) (CancelBind 0 A) 0
    ∷ after (Bind 2 A ∷ []) (CancelBind 3 A) 1
    ∷ after unannounced (ProceedWithCarrier A 0) 0
    ∷ after unannounced (ProceedWithCarrier A 3) 1
    ∷ after unannounced (CancelCarrier A 0) 0
    ∷ after unannounced (CancelCarrier A 3) 1
    -- a name is 1 to 16 bytes, each 0x21 to 0x7E
    ∷ first (CarrierNotification []) 1
    ∷ first (CarrierNotification (0x21 ∷ [])) 0
    ∷ first (CarrierNotification (replicate 16 0x7E)) 0
    ∷ first (CarrierNotification (replicate 17 0x41)) 1
    ∷ first (CarrierNotification (0x20 ∷ [])) 1
    ∷ first (CarrierNotification (0x7F ∷ [])) 1
    ∷ first (CarrierNotification (0x41 ∷ 0x20 ∷ 0x41 ∷ [])) 1
    ∷ first (CarrierNotification (0x41 ∷ 0 ∷ [])) 1
    ∷ first (CarrierNotification (replicate 15 0x41 ++ (0x7F ∷ []))) 1
    -- where a name may be missing, one that is given is in range all the same
    ∷ after (Bind 2 A ∷ []) (CancelBind 2 []) 0
    ∷ after (Bind 2 A ∷ []) (CancelBind 2 (0x20 ∷ [])) 1
    ∷ after (Bind 2 A ∷ []) (CancelBind 2 (replicate 17 0x41)) 1
    -- two names that differ in the last of sixteen bytes are two
    ∷ after (CarrierNotification (replicate 16 0x41) ∷ []) (CarrierNotification (replicate 15 0x41 ++ (0x42 ∷ []))) 0
    ∷ after (CarrierNotification (replicate 16 0x41) ∷ []) (CarrierNotification (replicate 15 0x41)) 0
    ∷ after (CarrierNotification (replicate 16 0x41) ∷ []) (CarrierNotification (replicate 16 0x41)) 3
    -- the second number: 0 or 1, a place 1 to B
    ∷ first (ChangeAccess 1 1) 0
    ∷ first (ChangeAccess 1 2) 1
    ∷ first (ChangeAccess 1 256) 1
    ∷ first (ChangeServiceStatus 1 1) 0
    ∷ first (ChangeServiceStatus 1 2) 1
    ∷ after (arrived A) (MoveIn 1 0) 1
    ∷ after (arrived A) (MoveIn 1 1) 0
    ∷ after (arrived A) (MoveIn 1 3) 0
    ∷ after (arrived A) (MoveIn 1 4) 1
    ∷ after (arrived A) (MoveIn 1 257) 1
    ∷ record { case = along 1 0 accessed (AccessEnd A 1); answer = 0 }
    ∷ record { case = along 1 0 accessed (AccessEnd A 2); answer = 1 }
    -- 25 codes, each 0 to 5
    ∷ record { case = along 1 0 opened (SlotMap A (replicate 25 5)); answer = 0 }
    ∷ record { case = along 1 0 opened (SlotMap A (replicate 25 0)); answer = 0 }
    ∷ record { case = along 1 0 opened (SlotMap A (replicate 24 3)); answer = 1 }
    ∷ record { case = along 1 0 opened (SlotMap A (replicate 26 3)); answer = 1 }
    ∷ record { case = along 1 0 opened (SlotMap A (6 ∷ replicate 24 3)); answer = 1 }
    ∷ record { case = along 1 0 opened (SlotMap A (replicate 24 3 ++ (6 ∷ []))); answer = 1 }
    -- the 16th and the 17th expected carrier, and one more after a cancel
    ∷ after (expecting 15) (CarrierNotification A) 0
    ∷ after (expecting 16) (CarrierNotification A) 6
    ∷ after (expecting 16 ++ input_of 4 0 0 (0x61 ∷ []) [] ∷ []) (CarrierNotification A) 0
    -- a carrier that has arrived isn't expected
    ∷ after (arrived B ++ expecting 15) (CarrierNotification A) 0
    -- a place is taken by who is in it, and by nobody else
    ∷ after (stored B 2 ++ arrived A) (MoveIn 1 2) 8
    ∷ after (stored B 2 ++ arrived A) (MoveIn 1 1) 0
    -- MoveIn in a tool without a buffer
    ∷ record { case = along 1 0 (arrived A) (MoveIn 1 1); answer = 1 }
    ∷ record { case = along 1 0 (arrived A) (MoveIn 1 0); answer = 1 }
    ∷ []

-- ── Set-up: 1 to 4 ports, 0 to 16 places ──
pub record Start : Type 0 where
  pub ports : ℕ
  pub places : ℕ
  pub answer : ℕ

abbrev setting : ℕ → ℕ → ℕ → Start
setting ports places answer = record { ports = ports; places = places; answer = answer }

unfoldable pub starts : Start → Bool
starts s = eqb (set_up s.ports s.places).answer s.answer

abbrev pub set_ups : List Start
set_ups =
    setting 0 0 1
    ∷ setting 1 0 0
    ∷ setting 4 16 0
    ∷ setting 5 0 1
    ∷ setting 1 16 0
    ∷ setting 1 17 1
    ∷ setting 257 0 1
    ∷ setting 1 256 1
    ∷ []
