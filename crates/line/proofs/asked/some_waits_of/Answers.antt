use mathlib.Core.Path.{ap, ◌∙◌}
use Rattle.lists.proofs.Ranges.{some_where}
use Rattle.line.specs.Bytes.{queue_of}
use Rattle.std.specs.Option.{is_some}
use Rattle.queue.specs.Requests.{waits_of}
use Rattle.queue.specs.Requests.{waits_of}
use Rattle.line.proofs.asked.some_waits_of.Goals as goal

pub returns : goal.returns
returns c = c.is_some.ensures ∙ ap is_some c.waits_at.ensures ∙ some_where (waits_of c.args.name) (queue_of c.args.m.now)
