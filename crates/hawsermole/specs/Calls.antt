-- What a caller of the library sees: bytes, inputs, answers and reports, and what is promised of a run of calls.
use Rattle.std.specs.Prelude.{ℕ, ◌+◌, ◌-◌, ◌≤◌, ◌<◌, ◌≡◌, true, cond, List, [], ◌∷◌, ◌++◌, map, length, get_or, eqb, Float}
use Rattle.rules.specs.State.{record_of}
use Rattle.rules.specs.Seen.{input_of, see}
use Rattle.rules.specs.Undoing.{Pair, is_pair}
use Rattle.rules.specs.History.{Event, history}
use Rattle.rules.specs.Promise.{Live, Orderly}
use Rattle.tally.specs.Count.{Entry, went_out, pods_here}
use Rattle.image.specs.Image.{byte_at, tool_from, reports_from}
use Rattle.logs.specs.Judging.{Judgement}
use Rattle.prediction.specs.State.{timed}
use Rattle.prediction.specs.Outcome.{is_timed}
use Rattle.wafers.specs.Outcome.{Brought, brought}
use Rattle.hands.specs.State.{Handled, base_of, state_of}
use Rattle.counted.specs.Count.{came_in}
use Rattle.maps.specs.Promise.{Earned}
use Rattle.tool.specs.Whole.{whole_in, sound_whole, set_up}
use Rattle.door.specs.Door.{shown, outcome}
use Rattle.secs.specs.Request.{request_in}
use Rattle.replies.specs.Reply.{room_after, written_in}
use Rattle.bridge.specs.Bridge.{bridged, items_in}
use Rattle.bridge.specs.Exchange.{exchanged, replied}

-- What hm_setup ensures: the bytes that it leaves hold the tool that set-up gives, and it gives set-up's answer.
pub record SetUpCall (ports places setting timeout answer : ℕ) (after : List (List ℕ)) : Type 0 where
  pub tool : whole_in after ≡ (set_up ports places setting timeout).tool
  pub answered : answer ≡ (set_up ports places setting timeout).answer

-- What hm_time_step is asked for: an input that brings a clock. Any other number is none of them, and answered 1.
abbrev pub bringing_clock : ℕ → ℕ → List ℕ → ℕ → Brought
bringing_clock number clock name time = brought (timed (input_of (cond (is_timed number) number 0) 0 0 name []) clock time) []

-- And hm_wafers_step: 35, with the times of wafers.
abbrev pub bringing_wafers : ℕ → List ℕ → List Float → Brought
bringing_wafers clock name times = brought (timed (input_of 35 0 0 name []) clock 0) times

-- What hm_step, hm_time_step and hm_wafers_step ensure: the tool that it leaves, its reports and its answer are those of the input's outcome.
pub record StepCall (before : List (List ℕ)) (input : Brought) (answer : ℕ) (after : List (List ℕ)) (reports : List ℕ) : Type 0 where
  pub tool : whole_in after ≡ (outcome (whole_in before) input).tool
  pub told : reports_from reports ≡ (outcome (whole_in before) input).reports
  pub answered : answer ≡ (outcome (whole_in before) input).answer

-- What hm_secs_step ensures: the same of what the message gives, and the count of its items.
pub record SecsCall (before : List (List ℕ)) (message : List ℕ) (answer : ℕ) (after : List (List ℕ)) (reports : List ℕ) (items : ℕ)
    : Type 0 where
  pub tool : whole_in after ≡ (bridged (whole_in before) message).tool
  pub told : reports_from reports ≡ (bridged (whole_in before) message).reports
  pub answered : answer ≡ (bridged (whole_in before) message).answer
  pub counted : items ≡ items_in message

-- What hm_secs_exchange ensures: the same of the whole way, the room that it leaves, and how many bytes of it are the reply.
pub record ExchangeCall (before : List (List ℕ)) (message room : List ℕ) (answer : ℕ) (after : List (List ℕ)) (reports : List ℕ) (items : ℕ)
    (left : List ℕ) (length : ℕ)
    : Type 0 where
  pub tool : whole_in after ≡ (exchanged (whole_in before) message room).tool
  pub told : reports_from reports ≡ (exchanged (whole_in before) message room).reports
  pub answered : answer ≡ (exchanged (whole_in before) message room).answer
  pub counted : items ≡ items_in message
  pub reply : left ≡ room_after room (replied (whole_in before) message)
  pub many : length ≡ written_in room (replied (whole_in before) message)

-- What hm_judge says, from what it leaves: its number, the three that it counts, and the bytes of the tool and of the reports.
abbrev pub judgement : ℕ → List ℕ → List ℕ → List ℕ → Judgement
judgement says judged tool reports = record {
  says = says;
  entry = get_or judged 0 0;
  at = get_or judged 1 0;
  last = record { tool = tool_from tool; answer = get_or judged 2 0; reports = reports_from reports };
}

-- What a call brings: an input to hm_step, hm_time_step or hm_wafers_step; a message to hm_secs_step, which counted so many items; or a message to hm_secs_exchange,
-- with the room that was lent, the items that were counted, the room that was left and the length of the reply.
pub data Sent : Type 0 where
  typed : Brought → Sent
  text : List ℕ → ℕ → Sent
  lent : List ℕ → List ℕ → ℕ → List ℕ → ℕ → Sent

-- A call: the bytes that it met, what was sent, the answer that it gave, and the report list that it left.
pub record Call : Type 0 where
  pub before : List (List ℕ)
  pub sent : Sent
  pub answer : ℕ
  pub reports : List ℕ

abbrev pub Made : List (List ℕ) → Sent → ℕ → List (List ℕ) → List ℕ → Type 0
Made before (typed i) answer after reports = StepCall before i answer after reports
Made before (text message items) answer after reports = SecsCall before message answer after reports items
Made before (lent message room items left length) answer after reports =
    ExchangeCall before message room answer after reports items left length

-- A run of calls, the latest first, and the bytes that it left: hm_setup answered 0 for P ports, B places and these times,
-- and each call met the bytes that the call before it left.
unfoldable pub Left : ℕ → ℕ → ℕ → ℕ → List Call → List (List ℕ) → Type 0
Left P B setting timeout [] bytes = SetUpCall P B setting timeout 0 bytes
Left P B setting timeout (c ∷ earlier) bytes =
    Left P B setting timeout earlier c.before × Made c.before c.sent c.answer bytes c.reports

-- the state that bytes hold
abbrev pub state_in : List (List ℕ) → Handled
state_in bytes = state_of (whole_in bytes).layered

-- The input that rows saw: a message that the reader refuses brings none.
unfoldable pub read : List ℕ → List Brought
read message = cond (eqb (request_in message).refusal 0) (shown (brought (timed (request_in message).input 0 0) []) ∷ []) []

-- and none whose reply has no room
unfoldable pub taken : Sent → ℕ → List Brought
taken (typed i) answer = shown i ∷ []
taken (text message items) answer = read message
taken (lent message room items left length) answer = cond (eqb answer 14) [] (read message)

-- What happened in a call: the answer is the one that the call gave.
abbrev pub events_of : Call → List Event
events_of c =
    map (λ i. record { before = base_of (state_in c.before); input = i.timed.input; answer = c.answer }) (taken c.sent c.answer)

unfoldable pub happened : List Call → List Event
happened [] = []
happened (c ∷ earlier) = events_of c ++ happened earlier

-- The promise, of a run of calls and the bytes that it left: they hold a sound tool, its names, ties and places are in order,
-- and each of its carriers has behind it what the calls' own answers show.
pub record Kept (P B : ℕ) (calls : List Call) (bytes : List (List ℕ)) : Type 0 where
  pub sound : sound_whole (whole_in bytes) ≡ true
  pub orderly : Orderly (base_of (state_in bytes))
  pub few : length (base_of (state_in bytes)).carriers ≤ P + B + 16
  pub earned : (k : ℕ) → Live (base_of (state_in bytes)) k
      → Earned (history (record_of (base_of (state_in bytes)) k).name (happened calls)) (record_of (base_of (state_in bytes)) k)

-- the first n bytes are the same
abbrev pub SameBytes : ℕ → List ℕ → List ℕ → Type 0
SameBytes n a b = (k : ℕ) → k < n → byte_at a k ≡ byte_at b k

-- the two blocks of a tool are the same
abbrev pub SameTool : List (List ℕ) → List (List ℕ) → Type 0
SameTool a b = SameBytes 1891 (get_or a 0 []) (get_or b 0 []) × SameBytes 1891 (get_or a 1 []) (get_or b 1 [])

-- Each number of a tool's second block is a byte, as all that C can lend: the seconds there are written with four digits.
abbrev pub OfBytes : List (List ℕ) → Type 0
OfBytes a = (k : ℕ) → byte_at (get_or a 1 []) k < 256

-- ── Two calls that take each other back ──
-- A pair, as the rows see the two inputs: names are shortened, so that padded ones are the same. Its condition holds in what the bytes hold.
pub record ArePair (p : Pair) (before : List (List ℕ)) (i j : Brought) : Type 0 where
  pub pair : is_pair p (shown i).timed.input (shown j).timed.input ≡ true
  pub when : p.when (see (base_of (state_in before)) (shown i).timed.input) ≡ true

-- The second is accepted, and every byte of the tool is as it was before the first.
pub record Undone (before : List (List ℕ)) (answer : ℕ) (after : List (List ℕ)) : Type 0 where
  pub accepted : answer ≡ 0
  pub bytes : SameTool after before

-- ── Pods in, pods out ──
-- What logistics sees of a run of calls: the inputs that rows saw, and the answers.
abbrev pub logged : List Call → List Entry
logged calls = map (λ e. record { input = e.input; answer = e.answer }) (happened calls)

-- The pods at ports and the carriers in the buffer, in the bytes that a run of calls left, are those that came in and didn't go out.
pub record PodsCounted (calls : List Call) (bytes : List (List ℕ)) : Type 0 where
  pub all : came_in (logged calls) ≡ went_out (logged calls) + pods_here (base_of (state_in bytes))
  pub less : came_in (logged calls) - went_out (logged calls) ≡ pods_here (base_of (state_in bytes))
