use Rattle.std.proofs.Common.{rules, tests}
use native.Mathlib.Omega.{arith}
use Prim.Native.Nat.{◌+◌}
use mathlib.Core.Path.{refl}
use lib.ListN.{get_or}
use Rattle.queue.specs.Requests.{no_request}
use Rattle.lists.proofs.Ranges.{all_answered}
use Rattle.line.specs.Bytes.{queue_from}
use Rattle.line.specs.Tests.{apart}
use Rattle.line.proofs.Laid.{queue_long}
use Rattle.line.proofs.sound.apart_after.Goals as goal

pub returns : goal.returns
returns c =
    let a = c.args in
    let q = queue_from a.own.now in
    let l = queue_long a.own.now in
    all_answered c.all.result (apart (get_or q a.k no_request)) q no_request (a.k + 1) a.n refl c.requires.k_bound (omega arith) c.all.ensures.ran
    (λ x b q k. search (rules, tests))
