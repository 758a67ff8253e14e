-- P5's state and tool, with the times and a prediction for each record.
use Rattle.std.specs.Prelude.{ℕ, Bool, cond, List, [], take, replicate, eqb}
use Rattle.lists.specs.Lists.{fill}
use Rattle.rules.specs.State as base
use Rattle.rules.specs.Seen.{Input, input_in}
use Rattle.queue.specs.State as queue
use Rattle.queue.specs.State.{Queued, QueuedTool}
use Rattle.prediction.specs.declared.prediction.Prediction.{Prediction}
use Rattle.prediction.specs.declared.prediction.Times.{Times}
use Rattle.prediction.specs.declared.input.Timed as sent
use Rattle.prediction.specs.Predictions.{no_prediction, new_prediction}

pub record Predicted : Type 0 where
  pub queued : Queued
  pub times : Times
  pub predictions : List Prediction

-- document 01's part
abbrev pub base_of : Predicted → base.State
base_of s = queue.base_of s.queued

-- In a tool they are 36, with no prediction after those of the records.
pub record PredictedTool : Type 0 where
  pub queued : QueuedTool
  pub times : Times
  pub predictions : List Prediction

-- how many records there are
abbrev pub count_of : PredictedTool → ℕ
count_of t = t.queued.mapped.base.count

abbrev pub state_of : PredictedTool → Predicted
state_of t = record { queued = queue.state_of t.queued; times = t.times; predictions = take (count_of t) t.predictions }

unfoldable pub in_tool : Predicted → PredictedTool
in_tool s = record { queued = queue.in_tool s.queued; times = s.times; predictions = fill 36 no_prediction s.predictions }

-- An input brings a clock and a time, too: 31 to 34 look at them.
pub record Timed : Type 0 where
  pub input : Input
  pub clock : ℕ
  pub time : ℕ

abbrev pub timed : Input → ℕ → ℕ → Timed
timed i clock time = record { input = i; clock = clock; time = time }

-- what the code was sent
abbrev pub timed_in : sent.Timed → Timed
timed_in i = timed (input_in i.input) i.clock i.time

-- a fixed buffer tool: it alone has model 8
abbrev pub is_fixed : base.State → Bool
is_fixed s = eqb s.places 0

-- what a record begins with
unfoldable pub first_prediction : base.State → Prediction
first_prediction s = cond (is_fixed s) new_prediction no_prediction

-- set-up: the clock at 0, no record
abbrev pub start : ℕ → ℕ → ℕ → ℕ → Predicted
start P B setting timeout = record {
  queued = queue.start P B;
  times = record { now = 0; setting = setting; timeout = timeout };
  predictions = [];
}

abbrev pub no_predictions : List Prediction
no_predictions = replicate 36 no_prediction
