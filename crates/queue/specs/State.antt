-- P1's state and tool, with the queue.
use Rattle.std.specs.Prelude.{ℕ, List, [], length, take, replicate}
use Rattle.lists.specs.Lists.{fill}
use Rattle.rules.specs.State.{State}
use Rattle.maps.specs.State as maps
use Rattle.maps.specs.State.{Mapped, MappedTool}
use Rattle.queue.specs.declared.request.Request.{Request}
use Rattle.queue.specs.Requests.{no_request}

pub record Queued : Type 0 where
  pub mapped : Mapped
  pub queue : List Request

-- document 01's part
abbrev pub base_of : Queued → State
base_of s = s.mapped.base

-- In a tool the queue is a table of 16 requests, of which so many are used, with none after them.
pub record QueuedTool : Type 0 where
  pub mapped : MappedTool
  pub waiting : ℕ
  pub queue : List Request

abbrev pub state_of : QueuedTool → Queued
state_of t = record { mapped = maps.state_of t.mapped; queue = take t.waiting t.queue }

unfoldable pub in_tool : Queued → QueuedTool
in_tool s = record {
  mapped = maps.in_tool s.mapped;
  waiting = length (take 16 s.queue);
  queue = fill 16 no_request s.queue;
}

-- set-up: no request
abbrev pub start : ℕ → ℕ → Queued
start P B = record { mapped = maps.start P B; queue = [] }

abbrev pub no_requests : List Request
no_requests = replicate 16 no_request
