use Rattle.std.proofs.Common.{rules, tests}
use native.Mathlib.Omega.{arith}
use mathlib.Core.Path.{refl, ◌∙◌}
use Prim.Native.Nat.{◌+◌}
use lib.ListN.{get_or, take, drop}
use Rattle.std.proofs.lemmas.Iterator.{YieldsList-from_range}
use Rattle.std.proofs.lemmas.Iterator.Search.{all_from_yields_List}
use Rattle.lists.specs.Lists.{every}
use Rattle.queue.specs.Requests.{no_request}
use Rattle.lists.proofs.Ranges.{two_on}
use Rattle.line.specs.Bytes.{queue_from}
use Rattle.line.specs.Tests.{apart}
use Rattle.line.proofs.Laid.{queue_long}
use Rattle.line.proofs.sound.all_apart.Goals as goal

pub returns : goal.returns
returns c =
    let a = c.args in
    let q = queue_from a.own.now in
    let l = queue_long a.own.now in
    all_from_yields_List (λ k. every (apart (get_or q k no_request)) (drop (k + 1) (take a.n q))) _ _ c.all.result c.all.ensures.ran (YieldsList-from_range 0 a.n a.n refl (omega arith)) (λ x b q k. search (rules, tests))
    ∙ two_on apart q a.n no_request (omega arith) 0 a.n (omega arith)
