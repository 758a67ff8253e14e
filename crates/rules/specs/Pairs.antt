-- A condition of a row is shown by a pair of cases that differ in it alone and get different answers.
use Rattle.std.specs.Prelude.{ℕ, zero, suc, Bool, true, false, not, cond, ◌&&◌, List, [], ◌∷◌, length, get_or, eqb}
use Rattle.lists.specs.Lists.{any, same_list}
use Rattle.records.specs.declared.port.Port.{Port}
use Rattle.records.specs.declared.carrier.Carrier.{Carrier}
use Rattle.records.specs.Names.{in_bytes}
use Rattle.rules.specs.State.{State, start, set_up}
use Rattle.rules.specs.Sound.{sound}
use Rattle.rules.specs.Seen.{Input, input_of, see}
use Rattle.rules.specs.Outcome.{answer_in}
use Rattle.rules.specs.Run.{run}
use Rattle.rules.specs.Reachable.{smooth}
use Rattle.rules.specs.Conditions.{asks}

-- A case is an input and the state that it meets: after a run from set-up (ports, places, the inputs before), all of it accepted, or,
-- where no run comes there, a sound state that is written out.
pub data Case : Type 0 where
  along : ℕ → ℕ → List Input → Input → Case
  standing : State → Input → Case

abbrev pub state_in : Case → State
state_in (along P B before i) = run (start P B) before
state_in (standing s i) = s

abbrev pub input_in : Case → Input
input_in (along P B before i) = i
input_in (standing s i) = i

abbrev pub may_stand : Case → Bool
may_stand (along P B before i) = eqb (set_up P B).answer 0 && smooth (start P B) before
may_stand (standing s i) = sound s

-- A pair: the row, the condition by its place among what the row asks, a case where it holds and one where it doesn't, each with its
-- answer.
pub record Pair : Type 0 where
  pub row : ℕ
  pub condition : ℕ
  pub holds : Case
  pub answer : ℕ
  pub fails : Case
  pub other : ℕ
  -- conditions of the row that can't but change with it, such as "at a port" with "in the buffer"
  pub bound : List ℕ

abbrev pub pair_with : List ℕ → ℕ → ℕ → Case → ℕ → Case → ℕ → Pair
pair_with bound row condition holds answer fails other =
    record { row = row; condition = condition; holds = holds; answer = answer; fails = fails; other = other; bound = bound }

abbrev pub pair : ℕ → ℕ → Case → ℕ → Case → ℕ → Pair
pair = pair_with []

-- what the row asks in a case
abbrev pub asked_in : ℕ → Case → List Bool
asked_in row c = asks row (see (state_in c) (input_in c))

-- the places, counted from k on, at which two lists differ
unfoldable pub differing : ℕ → List Bool → List Bool → List ℕ
differing k [] ys = []
differing k (x ∷ xs) [] = []
differing k (x ∷ xs) (y ∷ ys) = cond (cond x (not y) y) (k ∷ differing (suc k) xs ys) (differing (suc k) xs ys)

-- the numbers of a list but for k
unfoldable pub others : ℕ → List ℕ → List ℕ
others k [] = []
others k (n ∷ ns) = cond (eqb n k) (others k ns) (n ∷ others k ns)

-- the case may stand, its input is the row's, and it is given the answer
unfoldable pub answered : ℕ → Case → ℕ → Bool
answered row c n = may_stand c && eqb (input_in c).number row && eqb (answer_in (state_in c) (input_in c)) n

unfoldable pub shows : Pair → Bool
shows p =
    answered p.row p.holds p.answer
    && answered p.row p.fails p.other
    && not (eqb p.answer p.other)
    && get_or (asked_in p.row p.holds) p.condition false
    && not (get_or (asked_in p.row p.fails) p.condition true)
    && same_list (others p.condition (differing 0 (asked_in p.row p.holds) (asked_in p.row p.fails))) p.bound

-- the conditions that a table shows of a row
unfoldable pub shown_of : ℕ → List Pair → List ℕ
shown_of row [] = []
shown_of row (p ∷ ps) = cond (eqb p.row row) (p.condition ∷ shown_of row ps) (shown_of row ps)

-- each number below n is in the list
unfoldable pub all_below : ℕ → List ℕ → Bool
all_below zero l = true
all_below (suc n) l = any (eqb n) l && all_below n l

-- each of the conditions that a row asks is shown by a pair of the table; how many they are doesn't depend on what is seen
unfoldable pub complete : List Pair → ℕ → Bool
complete table row = all_below (length (asks row (see (start 1 0) (input_of row 0 0 [] [])))) (shown_of row table)

-- ── How a state is written ──
-- transfer, access, reserved, tie, movement, pod, tag
abbrev pub port : ℕ → ℕ → ℕ → List ℕ → ℕ → ℕ → ℕ → Port
port transfer access reserved tie movement pod tag = record {
  transfer = transfer;
  access = access;
  reserved = reserved;
  tie = in_bytes tie;
  movement = movement;
  pod = pod;
  tag = tag;
}

-- name; place, buffer place, port; open, cancelled, came out; slot map; ID, slot status, accessing
abbrev pub carrier : List ℕ → ℕ → ℕ → ℕ → ℕ → ℕ → ℕ → List ℕ → ℕ → ℕ → ℕ → Carrier
carrier name place spot at opened cancelled cameout map id slot accessing = record {
  name = in_bytes name;
  place = place;
  spot = spot;
  port = at;
  opened = opened;
  cancelled = cancelled;
  cameout = cameout;
  map = map;
  id = id;
  slot = slot;
  accessing = accessing;
}

abbrev pub state : ℕ → List Port → List Carrier → State
state places ports carriers = record { ports = ports; carriers = carriers; places = places }
