use Rattle.std.proofs.Common.{rules, tests}
use native.Mathlib.Omega.{arith}
use mathlib.Core.Path.{refl}
use lib.ListN.{get_or}
use Rattle.queue.specs.Requests.{no_request}
use Rattle.lists.proofs.Ranges.{position_answered}
use Rattle.line.specs.Bytes.{queue_from}
use Rattle.line.proofs.Laid.{queue_long}
use Rattle.line.proofs.find.position_of.Goals as goal

pub returns : goal.returns
returns g c f k =
    let q = queue_from c.args.m.now in
    let l = queue_long c.args.m.now in
    position_answered c.position.result f (λ i. f (get_or q i no_request)) q no_request c.args.n refl (omega arith) (λ i b. refl)
    c.position.ensures.ran (λ x b q e. search (rules, tests, k))
