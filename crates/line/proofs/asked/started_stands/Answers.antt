use mathlib.Core.Path.{◌≡◌, ◌∙◌}
use lib.ListN.{length}
use Rattle.lists.proofs.Ranges.{where_or}
use Rattle.line.specs.Bytes.{queue_of}
use Rattle.queue.specs.Requests.{started_to}
use Rattle.queue.specs.Requests.{started_to}
use Rattle.line.proofs.asked.started_stands.Goals as goal

pub returns : goal.returns
returns c =
    let q = queue_of c.args.m.now in
    let n : c.from.result ≡ length q = c.from.ensures ∙ c.waiting.ensures ∙ c.requires.waiting in
    c.unwrap_or.ensures ∙ rw c.started_at.ensures (where_or (started_to c.args.port) q _ n)
