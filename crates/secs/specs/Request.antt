-- What a message asks of the tool: a refusal, or an input.
use Rattle.std.specs.Prelude.{ℕ, ◌+◌, ◌≤◌, ◌≡◌, cond, ◌&&◌, List, [], Option, Some, None, Result, Ok, Err, map, length, eqb, ltb}
use Rattle.rules.specs.Seen.{Input, input_of}
use Rattle.maps.specs.Expected.{carries}
use Rattle.items.specs.Tree.{Item, elements, bytes_at}
use Rattle.items.specs.Reading.{read_message}
use Rattle.items.specs.declared.head.Span.{Span}
use Rattle.secs.specs.Shape.{byte_of, text_of, carrier_name, port, has_map, map_of, row_in, in_shape}
use Rattle.records.specs.Refusals.{number}
use Rattle.records.specs.declared.refusal.Refusal.{Refusal}
use Rattle.secs.specs.Actions.{row_of_action}
use Rattle.secs.specs.declared.request.Request.{Request}
use Rattle.secs.specs.declared.request.Asked.{Asked}

-- 20 to 24 where the reading met one; then 25 bytes left over; then 26 another shape or action
unfoldable pub refusal_in : List ℕ → ℕ
refusal_in m =
    let r = read_message m in
    let shape : ℕ = cond (in_shape m r.found) 0 26 in
    let rest : ℕ = cond (ltb r.at (length m)) 25 shape in
    cond (eqb r.refusal 0) rest r.refusal

-- row 3's port is read and dropped
unfoldable pub port_in : List ℕ → Item Span → ℕ
port_in m x = cond (eqb (row_in m x) 3) 0 (byte_of m (port x))

-- P1's expected map in rows 1 and 3; in the others it is read and dropped
unfoldable pub codes_in : List ℕ → Item Span → List ℕ
codes_in m x = cond (carries (row_in m x) && has_map m x) (map (byte_of m) (elements (map_of x))) []

abbrev pub input_in : List ℕ → Item Span → Input
input_in m x = input_of (row_in m x) (port_in m x) 0 (text_of m (carrier_name x)) (codes_in m x)

abbrev pub no_input : Input
no_input = input_of 0 0 0 [] []

-- A refusal, or 0; how many items have begun that met none of 20 to 24; what the tool gets, which is nothing if refused.
pub record Requested : Type 0 where
  pub refusal : ℕ
  pub count : ℕ
  pub input : Input

unfoldable pub request_in : List ℕ → Requested
request_in m =
    let input = input_in m (read_message m).found in
    record {
      refusal = refusal_in m;
      count = (read_message m).count;
      input = cond (eqb (refusal_in m) 0) input no_input;
    }

-- ── What the code hands on: an action, a port, where the name stands, and codes ──
abbrev pub sent_codes : Option (List ℕ) → List ℕ
sent_codes (Some l) = l
sent_codes None = []

abbrev pub input_from : List ℕ → Request → Input
input_from m r = input_of (row_of_action r.action) r.port 0 (bytes_at m r.name) (sent_codes r.codes)

abbrev pub said_refusal : Result Request Refusal → ℕ
said_refusal (Ok r) = 0
said_refusal (Err e) = number e

abbrev pub said_input : List ℕ → Result Request Refusal → Input
said_input m (Ok r) = input_from m r
said_input m (Err e) = no_input

-- the name stands in the message
abbrev pub Inside : List ℕ → Result Request Refusal → Type 0
Inside m (Ok r) = r.name.at + r.name.many ≤ length m
Inside m (Err e) = Unit

pub record Handed (m : List ℕ) (a : Asked) : Type 0 where
  pub refused : said_refusal a.said ≡ (request_in m).refusal
  pub counted : a.count ≡ (request_in m).count
  pub input : said_input m a.said ≡ (request_in m).input
  pub inside : Inside m a.said
