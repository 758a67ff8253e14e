use Rattle.std.proofs.Common.{rules, tests}
use mathlib.Core.Path.{ap, ◌∙◌}
use Rattle.lists.proofs.Ranges.{some_where}
use Rattle.line.specs.Bytes.{queue_of}
use Rattle.std.specs.Option.{is_some}
use Rattle.records.proofs.Names.{equal_names}
use Rattle.queue.specs.Requests.{is_of}
use Rattle.queue.specs.Requests.{is_of}
use Rattle.line.proofs.asked.is_queued.Goals as goal

pub returns : goal.returns
returns c =
    let f = is_of c.args.name in
    c.is_some.ensures ∙ ap is_some (c.stands.ensures f (λ r b k. search (rules, tests, equal_names))) ∙ some_where f (queue_of c.args.m.now)
