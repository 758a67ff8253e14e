-- What counts and what doesn't, shown by runs.
use Rattle.std.specs.Prelude.{ℕ, Bool, true, false, List, [], ◌∷◌, ◌++◌, map, reverse}
use Rattle.rules.specs.Inputs.{Bind, CarrierOut, CarrierIn, ChangeAccess, LoadFail, IdReadFailed, MoveIn, UnloadDone, UnloadFail}
use Rattle.rules.specs.Inputs.{A, B, cancelled, arrived, stored}
use Rattle.queue.specs.Cases.{OutStart, OutDone}
use Rattle.wafers.specs.Outcome.{Brought}
use Rattle.hands.specs.State.{base_of, start}
use Rattle.hands.specs.Rows.{LoadDone}
use Rattle.hands.specs.Outcome.{answer_in, reached}
use Rattle.hands.specs.Cases.{plain, manual, automatic, LoadStart, UnloadStart, Continue, Case, smooth}
use Rattle.tally.specs.Count as tally
use Rattle.counted.specs.Count.{entries, came_in}

-- ── Beginnings, at port 1 ──
abbrev auto : List Brought
auto = plain (ChangeAccess 1 1) ∷ []

-- a load begins: in MANUAL, in AUTO by a vehicle, in AUTO by hand; the last is held
abbrev in_manual : List Brought
in_manual = LoadStart 1 manual ∷ []

abbrev by_vehicle : List Brought
by_vehicle = auto ++ LoadStart 1 automatic ∷ []

abbrev violated : List Brought
violated = auto ++ LoadStart 1 manual ∷ []

abbrev pod_held : List Brought
pod_held = violated ++ LoadDone 1 ∷ []

abbrev continued : List Brought
continued = pod_held ++ Continue 1 ∷ []

-- A is in the buffer; it is queued for the port, started and out
abbrev in_buffer : List Brought
in_buffer = map plain (stored A 1)

abbrev queued : List Brought
queued = in_buffer ++ plain (CarrierOut A 1) ∷ []

abbrev started : List Brought
started = queued ++ plain (OutStart 1) ∷ []

abbrev out : List Brought
out = started ++ plain (OutDone 1) ∷ []

-- A is to be unloaded, and its unload has begun, in MANUAL and in AUTO by hand
abbrev to_unload : List Brought
to_unload = map plain cancelled

abbrev unloading : List Brought
unloading = to_unload ++ UnloadStart 1 manual ∷ []

abbrev unloading_by_hand : List Brought
unloading_by_hand = to_unload ++ auto ++ UnloadStart 1 manual ∷ []

-- ── A run and one input more: whether all before it were accepted, its answer, and then the count ──
pub record Result : Type 0 where
  pub smooth : Bool
  pub answer : ℕ
  pub came : ℕ
  pub went : ℕ
  pub at_ports : ℕ
  pub in_buffer : ℕ

pub record Line : Type 0 where
  pub asked : Case
  pub said : Result

unfoldable pub result_of : Case → Result
result_of c =
    let z = start c.ports c.places 0 0 in
    let earlier = reverse c.before in
    let run = c.input ∷ earlier in
    record {
      smooth = smooth z c.before;
      answer = answer_in (reached z earlier) c.input;
      came = came_in (entries z run);
      went = tally.went_out (entries z run);
      at_ports = tally.pods_at_ports (base_of (reached z run));
      in_buffer = tally.stored (base_of (reached z run));
    }

abbrev line : ℕ → Bool → List Brought → Brought → ℕ → ℕ → ℕ → ℕ → ℕ → Line
line ports even before input answer came went at_ports in_buffer = record {
  asked = record { ports = ports; places = 2; before = before; input = input };
  said = record { smooth = even; answer = answer; came = came; went = went; at_ports = at_ports; in_buffer = in_buffer };
}

-- two ports and two places; the input is accepted
abbrev counts : List Brought → Brought → ℕ → ℕ → ℕ → ℕ → Line
counts before input came went at_ports in_buffer = line 2 true before input 0 came went at_ports in_buffer

-- it is refused
abbrev refused : List Brought → Brought → ℕ → ℕ → ℕ → ℕ → ℕ → Line
refused before input answer came went at_ports in_buffer = line 2 true before input answer came went at_ports in_buffer

-- something before it was refused
abbrev uneven : List Brought → Brought → ℕ → ℕ → ℕ → ℕ → Line
uneven before input came went at_ports in_buffer = line 2 false before input 0 came went at_ports in_buffer

abbrev pub cases : List Line
cases =
    -- LoadDone counts, LoadStart doesn't, and an expected carrier is no pod
    counts [] (plain (Bind 1 A)) 0 0 0 0
    ∷ counts [] (LoadStart 1 manual) 0 0 0 0
    ∷ counts in_manual (LoadDone 1) 1 0 1 0
    ∷ counts by_vehicle (LoadDone 1) 1 0 1 0
    ∷ counts in_manual (plain (LoadFail 1)) 0 0 0 0
    -- a pod that nobody can name counts
    ∷ counts (in_manual ++ LoadDone 1 ∷ []) (plain (IdReadFailed 1)) 1 0 1 0
    -- a held LoadDone doesn't count, and Continue does; LoadFail leaves nothing
    ∷ counts violated (LoadDone 1) 0 0 0 0
    ∷ counts pod_held (Continue 1) 1 0 1 0
    ∷ counts pod_held (plain (LoadFail 1)) 0 0 0 0
    -- the latest LoadStart there decides
    ∷ counts (pod_held ++ plain (LoadFail 1) ∷ LoadStart 1 automatic ∷ []) (LoadDone 1) 1 0 1 0
    ∷ counts (by_vehicle ++ plain (LoadFail 1) ∷ LoadStart 1 manual ∷ []) (LoadDone 1) 0 0 0 0
    -- and the latest mode there, before it
    ∷ counts (auto ++ plain (ChangeAccess 1 0) ∷ LoadStart 1 manual ∷ []) (LoadDone 1) 1 0 1 0
    ∷ counts (plain (ChangeAccess 1 0) ∷ auto ++ LoadStart 1 manual ∷ []) (LoadDone 1) 0 0 0 0
    ∷ counts (plain (ChangeAccess 2 1) ∷ in_manual) (LoadDone 1) 1 0 1 0
    ∷ counts (auto ++ plain (ChangeAccess 2 0) ∷ LoadStart 1 manual ∷ []) (LoadDone 1) 0 0 0 0
    -- what is held at one port is no matter at another
    ∷ counts (pod_held ++ LoadStart 2 manual ∷ []) (LoadDone 2) 1 0 1 0
    ∷ counts (in_manual ++ plain (ChangeAccess 2 1) ∷ LoadStart 2 manual ∷ LoadDone 2 ∷ []) (LoadDone 1) 1 0 1 0
    -- refused inputs count nothing and set nothing
    ∷ refused [] (LoadDone 1) 5 0 0 0 0
    ∷ refused [] (LoadDone 3) 1 0 0 0 0
    ∷ refused pod_held (LoadDone 1) 5 0 0 0 0
    ∷ refused violated (Continue 1) 5 0 0 0 0
    ∷ refused continued (Continue 1) 5 1 0 1 0
    ∷ refused to_unload (plain (UnloadDone 1)) 5 1 0 1 0
    ∷ uneven (in_manual ++ auto) (LoadDone 1) 1 0 1 0
    ∷ uneven (violated ++ LoadStart 1 automatic ∷ []) (LoadDone 1) 0 0 0 0
    -- in the buffer and out again a pod is counted once
    ∷ counts (map plain (arrived A)) (plain (MoveIn 1 1)) 1 0 0 1
    ∷ counts in_buffer (plain (CarrierOut A 1)) 1 0 0 1
    ∷ counts queued (plain (OutStart 1)) 1 0 0 1
    ∷ counts started (plain (OutDone 1)) 1 0 1 0
    ∷ counts out (plain (CarrierIn A)) 1 0 1 0
    ∷ counts (out ++ plain (CarrierIn A) ∷ []) (plain (MoveIn 1 2)) 1 0 0 1
    ∷ counts (in_buffer ++ map plain (arrived B)) (plain (MoveIn 1 2)) 2 0 0 2
    ∷ counts (in_buffer ++ in_manual) (LoadDone 1) 2 0 1 1
    -- UnloadDone takes one away, whoever started; UnloadStart and UnloadFail don't
    ∷ counts to_unload (UnloadStart 1 manual) 1 0 1 0
    ∷ counts unloading (plain (UnloadFail 1)) 1 0 1 0
    ∷ counts unloading (plain (UnloadDone 1)) 1 1 0 0
    ∷ counts unloading_by_hand (plain (UnloadDone 1)) 1 1 0 0
    ∷ counts (out ++ UnloadStart 1 manual ∷ []) (plain (UnloadDone 1)) 1 1 0 0
    ∷ counts (unloading ++ plain (UnloadDone 1) ∷ in_manual) (LoadDone 1) 2 1 1 0
    ∷ []
