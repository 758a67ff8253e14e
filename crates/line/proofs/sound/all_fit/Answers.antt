use Rattle.std.proofs.Common.{rules, tests}
use native.Mathlib.Omega.{arith}
use mathlib.Core.Path.{refl}
use mathlib.Core.List.{[]}
use lib.ListN.{get_or}
use Rattle.rules.specs.State.{state_of}
use Rattle.image.specs.Image.{tool_from}
use Rattle.queue.specs.Requests.{no_request}
use Rattle.lists.proofs.Ranges.{all_answered}
use Rattle.line.specs.Bytes.{queue_from}
use Rattle.line.specs.Tests.{fits_in}
use Rattle.line.proofs.Laid.{queue_long}
use Rattle.line.proofs.sound.all_fit.Goals as goal

pub returns : goal.returns
returns c =
    let m = c.args.m.now in
    let l = queue_long (get_or m 1 []) in
    all_answered c.all.result (fits_in (state_of (tool_from (get_or m 0 [])))) (queue_from (get_or m 1 [])) no_request 0 c.args.n refl (omega arith)
    (omega arith) c.all.ensures.ran (λ x b q k. search (rules, tests))
