-- The whole tool, and what set-up and an input give.
use Rattle.std.specs.Prelude.{ℕ, Bool, cond, ◌&&◌, List, [], ◌∷◌, replicate, eqb}
use Rattle.lists.specs.Lists.{every}
use Rattle.rules.specs.declared.tool.Tool.{Tool}
use Rattle.rules.specs.declared.report.Reports.{Reports}
use Rattle.rules.specs.State as base
use Rattle.rules.specs.Reports.{no_reports}
use Rattle.image.specs.Image.{bytes_from}
use Rattle.passes.specs.Passes.{is_zero}
use Rattle.maps.specs.State.{no_maps}
use Rattle.mapped.specs.Bytes.{own_in}
use Rattle.queue.specs.State.{no_requests}
use Rattle.prediction.specs.State.{no_predictions}
use Rattle.prediction.specs.Sound.{is_span}
use Rattle.wafers.specs.Outcome.{Brought}
use Rattle.hands.specs.State.{HandledTool, no_alarms}
use Rattle.hands.specs.Sound.{sound_tool}
use Rattle.hands.specs.Outcome.{Given, given_in}
use Rattle.handled.specs.Bytes.{handled_in}

-- Document 01's tool with the expected maps, the queue, the times, the predictions and the alarms, and the bytes that no request uses.
pub record Whole : Type 0 where
  pub layered : HandledTool
  pub unused : List ℕ

-- In bytes it is two blocks of 1,891: document 01's tool; then 900 bytes of maps, 289 of the queue, 12 of times, 396 of predictions,
-- 8 of alarms, and 286 unused ones.
abbrev pub whole_in : List (List ℕ) → Whole
whole_in m = record { layered = handled_in m; unused = bytes_from (own_in m) 1605 286 }

-- Unused bytes are zero.
unfoldable pub sound_whole : Whole → Bool
sound_whole t = sound_tool t.layered && every is_zero t.unused

-- ── Set-up ──
pub record Setup : Type 0 where
  pub tool : Whole
  pub answer : ℕ

-- nothing but a setting time and a timeout beside document 01's tool: no map, no request, no prediction, no alarm, and the clock at 0
abbrev pub fresh : Tool → ℕ → ℕ → Whole
fresh t setting timeout = record {
  layered = record {
    predicted = record {
      queued = record { mapped = record { base = t; maps = no_maps }; waiting = 0; queue = no_requests };
      times = record { now = 0; setting = setting; timeout = timeout };
      predictions = no_predictions;
    };
    alarms = no_alarms;
  };
  unused = replicate 286 0;
}

-- As in document 01, and refused too where the setting time or the timeout is longer than a day; then it is all zeros.
unfoldable pub set_up : ℕ → ℕ → ℕ → ℕ → Setup
set_up P B setting timeout =
    cond (eqb (base.set_up P B).answer 0 && (is_span setting && is_span timeout))
    (record { tool = fresh (base.set_up P B).tool setting timeout; answer = 0 })
    (record { tool = fresh base.no_tool 0 0; answer = 1 })

-- ── Inputs ──
pub record Outcome : Type 0 where
  pub tool : Whole
  pub answer : ℕ
  pub reports : Reports

-- Refused: nothing changes, and nothing is reported.
abbrev pub refused : Whole → ℕ → Outcome
refused t n = record { tool = t; answer = n; reports = no_reports }

-- what the layer gives, beside the unused bytes
abbrev pub around : Whole → Given → Outcome
around t g = record {
  tool = record { layered = g.tool; unused = t.unused };
  answer = g.answer;
  reports = g.reports;
}

-- an input to any tool: one that isn't sound refuses it with 1
unfoldable pub outcome : Whole → Brought → Outcome
outcome t i = cond (sound_whole t) (around t (given_in t.layered i)) (refused t 1)

-- The tool that a run of inputs has reached, the latest input first.
unfoldable pub reached_whole : Whole → List Brought → Whole
reached_whole t [] = t
reached_whole t (i ∷ earlier) = (outcome (reached_whole t earlier) i).tool
