use Rattle.std.proofs.Common.{rules, tests}
use Rattle.queue.specs.Requests.{started_to}
use Rattle.queue.specs.Requests.{started_to}
use Rattle.line.proofs.asked.started_at.Goals as goal

pub returns : goal.returns
returns c = c.stands.ensures (started_to c.args.port) (λ r b k. search (rules, tests))
