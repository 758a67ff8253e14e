-- What request P1 adds, shown by runs: each beginning is accepted, and the endings differ in one condition.
use Rattle.std.specs.Prelude.{ℕ, Bool, true, ◌&&◌, List, [], ◌∷◌, ◌++◌, replicate, eqb}
use Rattle.rules.specs.declared.report.Report.{Report}
use Rattle.rules.specs.Seen.{Input, input_of, see}
use Rattle.rules.specs.Run.{on_name}
use Rattle.rules.specs.Pairs.{port, carrier, state}
use Rattle.rules.specs.Inputs.{CancelCarrierNotification, ProceedWithCarrier, LoadStart, LoadDone, IdRead, IdReadFailed, Open}
use Rattle.rules.specs.Inputs.{SlotMap, zeros}
use Rattle.maps.specs.State.{Mapped, start}
use Rattle.maps.specs.Outcome.{answer_in, state_after}

-- ── The inputs that carry a map ──
abbrev Bind : ℕ → List ℕ → List ℕ → Input
Bind port name map = input_of 1 port 0 name map

abbrev CarrierNotification : List ℕ → List ℕ → Input
CarrierNotification name map = input_of 3 0 0 name map

-- a pod comes to port 1, and its tag is read
abbrev arrives : List ℕ → List Input
arrives name = LoadStart 1 ∷ LoadDone 1 ∷ IdRead 1 name ∷ []

-- the host says yes to a carrier that waits
abbrev proceeds : List ℕ → List Input
proceeds name = ProceedWithCarrier name 0 ∷ []

abbrev opens : List ℕ → List Input
opens name = Open name ∷ []

-- ── Names and maps ──
abbrev AB : List ℕ
AB = 0x41 ∷ 0x42 ∷ []

abbrev Ac : List ℕ
Ac = 0x41 ∷ 0x43 ∷ []

-- all 25 occupied; the last one empty; the first one of another code
abbrev full : List ℕ
full = replicate 25 3

abbrev last : List ℕ
last = replicate 24 3 ++ (1 ∷ [])

abbrev with : ℕ → List ℕ
with code = code ∷ replicate 24 3

-- ── A run of inputs that are accepted, and one more: its answer, and the slot status of its carrier afterwards ──
pub record Case : Type 0 where
  pub before : List Input
  pub input : Input
  pub answer : ℕ
  pub slot : ℕ

abbrev case : List Input → Input → ℕ → ℕ → Case
case before input answer slot = record { before = before; input = input; answer = answer; slot = slot }

unfoldable pub smooth : Mapped → List Input → Bool
smooth s [] = true
smooth s (i ∷ is) = eqb (answer_in s i) 0 && smooth (state_after s i) is

unfoldable pub after : Mapped → List Input → Mapped
after s [] = s
after s (i ∷ is) = after (state_after s i) is

unfoldable pub ends : Mapped → Case → Bool
ends s c = eqb (answer_in s c.input) c.answer && eqb (see (state_after s c.input).base c.input).found.slot c.slot

-- one port, no buffer
unfoldable pub shown : Case → Bool
shown c = smooth (start 1 0) c.before && ends (after (start 1 0) c.before) c

abbrev pub cases : List Case
cases =
    -- 25 codes or none; 1 and 3 alone
    case [] (Bind 1 AB full) 0 1
    ∷ case [] (Bind 1 AB last) 0 1
    ∷ case [] (Bind 1 AB []) 0 1
    ∷ case [] (Bind 1 AB (replicate 24 3)) 1 0
    ∷ case [] (Bind 1 AB (replicate 26 3)) 1 0
    ∷ case [] (Bind 1 AB (with 0)) 1 0
    ∷ case [] (Bind 1 AB (with 2)) 1 0
    ∷ case [] (CarrierNotification AB full) 0 1
    ∷ case [] (CarrierNotification AB (with 2)) 1 0
    ∷ case [] (CarrierNotification AB (with 0)) 1 0
    ∷ case [] (CarrierNotification AB (replicate 24 3)) 1 0
    ∷ case [] (CarrierNotification AB (replicate 26 3)) 1 0
    -- refused with 1 before 3
    ∷ case (CarrierNotification AB [] ∷ []) (Bind 1 AB []) 3 1
    ∷ case (CarrierNotification AB [] ∷ []) (Bind 1 AB (with 2)) 1 1
    -- equal at all 25 slots, or at 24
    ∷ case (Bind 1 AB full ∷ arrives AB ++ opens AB) (SlotMap AB full) 0 3
    ∷ case (Bind 1 AB full ∷ arrives AB ++ opens AB) (SlotMap AB last) 0 2
    ∷ case (Bind 1 AB last ∷ arrives AB ++ opens AB) (SlotMap AB last) 0 3
    -- no map equals none, not even zeros
    ∷ case (Bind 1 AB [] ∷ arrives AB ++ opens AB) (SlotMap AB full) 0 2
    ∷ case (Bind 1 AB [] ∷ arrives AB ++ opens AB) (SlotMap AB (replicate 25 0)) 0 2
    -- the refusals come first: not open
    ∷ case (Bind 1 AB full ∷ arrives AB) (SlotMap AB full) 5 1
    -- a displaced record takes its map with it; the one that was expected keeps its own
    ∷ case (Bind 1 AB full ∷ arrives Ac ++ proceeds Ac ++ opens Ac) (SlotMap Ac full) 0 2
    ∷ case (CarrierNotification Ac full ∷ Bind 1 AB last ∷ arrives Ac ++ proceeds Ac ++ opens Ac) (SlotMap Ac full) 0 3
    ∷ case (Bind 1 AB last ∷ CarrierNotification Ac full ∷ arrives Ac ++ proceeds Ac ++ opens Ac) (SlotMap Ac full) 0 3
    -- a record that IdRead or ProceedWithCarrier makes has none, whatever codes came with these
    ∷ case (LoadStart 1 ∷ LoadDone 1 ∷ input_of 16 1 0 AB full ∷ proceeds AB ++ opens AB) (SlotMap AB full) 0 2
    ∷ case (LoadStart 1 ∷ LoadDone 1 ∷ IdReadFailed 1 ∷ input_of 5 1 0 AB full ∷ opens AB) (SlotMap AB full) 0 2
    -- a map goes with its record, and the others keep theirs
    ∷ case (CarrierNotification AB full ∷ CancelCarrierNotification AB ∷ arrives AB ++ proceeds AB ++ opens AB) (SlotMap AB full) 0 2
    ∷ case (CarrierNotification Ac last ∷ Bind 1 AB full ∷ CancelCarrierNotification Ac ∷ arrives AB ++ opens AB) (SlotMap AB full) 0 3
    ∷ []

-- ── On every sound state: an open carrier whose ID waits, which no run comes to; its slot status is OK at once ──
abbrev pub unverified : Mapped
unverified = record { base = state 0 (port 3 0 0 AB 0 1 1 ∷ []) (carrier AB 1 0 1 1 0 0 zeros 2 1 1 ∷ []); maps = full ∷ [] }

abbrev pub equal_there : Case
equal_there = case [] (SlotMap AB full) 0 3

-- one report, from NOT READ to OK
abbrev pub reported_there : List Report
reported_there = on_name 6 AB 1 3 ∷ []
