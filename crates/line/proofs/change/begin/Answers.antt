use native.Mathlib.Omega.{arith}
use mathlib.Core.Path.{ap, ◌∙◌}
use lib.ListN.{set}
use Rattle.queue.specs.Requests.{begun}
use Rattle.line.specs.Bytes.{queue_from}
use Rattle.line.proofs.Changed.{few_held, waiting_stays, holds_begun}
use Rattle.line.proofs.change.begin.Goals as goal

pub put_request-requires : goal.put_request-requires
put_request-requires c = let f = few_held c.args.m.now in omega arith

pub returns-clause-holds_2 : goal.returns-clause-holds_2
returns-clause-holds_2 c =
    let m = c.args.m.now in
    let e = c.put_request.ensures in
    holds_begun m _ c.args.k c.requires.holds c.requires.k_in_bounds (waiting_stays e.kept_outside)
    (e.m_after ∙ ap (λ r. set (queue_from m) c.args.k (begun r)) c.request_at-r.ensures)
