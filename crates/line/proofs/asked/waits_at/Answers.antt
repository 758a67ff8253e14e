use Rattle.std.proofs.Common.{rules, tests}
use Rattle.records.proofs.Names.{equal_names}
use Rattle.queue.specs.Requests.{waits_of}
use Rattle.queue.specs.Requests.{waits_of}
use Rattle.line.proofs.asked.waits_at.Goals as goal

pub returns : goal.returns
returns c = c.stands.ensures (waits_of c.args.name) (λ r b k. search (rules, tests, equal_names))
