use Rattle.std.proofs.Common.{rules, tests}
use native.Mathlib.Omega.{arith}
use mathlib.Core.Path.{◌≡◌, sym, ◌∙◌}
use mathlib.Core.List.{[]}
use lib.ListN.{length, get_or, take}
use Rattle.lists.proofs.Ranges.{where_or}
use Rattle.line.specs.Bytes.{queue_from}
use Rattle.line.proofs.Laid.{queue_long}
use lib.Seq.{length-take-le}
use Rattle.std.specs.List.{position}
use Rattle.rules.specs.State.{state_of}
use Rattle.image.specs.Image.{tool_from}
use Rattle.queue.specs.Requests.{is_ready}
use Rattle.line.proofs.ready.ready_stands.Goals as goal

pub returns : goal.returns
returns c =
    let a = c.args in
    let f = is_ready (state_of (tool_from (get_or a.m.now 0 []))) a.port in
    let q = queue_from (get_or a.m.now 1 []) in
    let l = queue_long (get_or a.m.now 1 []) in
    let e : c.position_of.result ≡ position f (take a.n q) = c.position_of.ensures f (λ r b k. search (rules, tests)) in
    let n : length (take a.n q) ≡ a.n = length-take-le a.n q (omega arith) in
    c.unwrap_or.ensures ∙ rw e (where_or f (take a.n q) a.n (sym n))
