-- The tool with its queue, in two blocks of 1,891 bytes.
use Rattle.std.specs.Prelude.{ℕ, List, Result}
use Rattle.records.specs.Refusals.{answer}
use Rattle.records.specs.declared.refusal.Refusal.{Refusal}
use Rattle.image.specs.Image.{reports_from}
use Rattle.mapped.specs.declared.step.Moved.{Moved}
use Rattle.mapped.specs.Bytes.{own_in, mapped_in}
use Rattle.queue.specs.State.{QueuedTool}
use Rattle.queue.specs.Outcome.{Given}
use Rattle.line.specs.Bytes.{waiting_in, queue_from}

abbrev pub queued_in : List (List ℕ) → QueuedTool
queued_in m = record { mapped = mapped_in m; waiting = waiting_in (own_in m); queue = queue_from (own_in m) }

-- what a step leaves: the bytes of the tool and of the reports, and what it hands up
abbrev pub left : List (List ℕ) → List ℕ → Moved (Result Unit Refusal) → Given
left m o r = record { tool = queued_in m; answer = answer r.answer; reports = reports_from o; goes = r.goes; made = r.made; gone = r.gone }
