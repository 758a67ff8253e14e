use mathlib.Core.Path.{ap, ◌∙◌}
use Rattle.lists.proofs.Ranges.{some_where}
use Rattle.line.specs.Bytes.{queue_of}
use Rattle.std.specs.Option.{is_some}
use Rattle.queue.specs.Requests.{started_to}
use Rattle.queue.specs.Requests.{started_to}
use Rattle.line.proofs.asked.some_started_to.Goals as goal

pub returns : goal.returns
returns c = c.is_some.ensures ∙ ap is_some c.started_at.ensures ∙ some_where (started_to c.args.port) (queue_of c.args.m.now)
