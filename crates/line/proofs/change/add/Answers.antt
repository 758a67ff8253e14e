use Prim.Native.Nat.{◌+◌}
use mathlib.Core.Path.{◌≡◌, ap, ◌∙◌}
use lib.ListN.{set}
use Rattle.queue.specs.Requests.{new_request}
use Rattle.line.specs.Bytes.{waiting_in, queue_from}
use Rattle.line.proofs.Changed.{holds_added}
use Rattle.line.proofs.change.add.Goals as goal

pub returns-clause-holds_2 : goal.returns-clause-holds_2
returns-clause-holds_2 c =
    let a = c.args in
    let m = a.m.now in
    let n : c.from.result ≡ waiting_in m = c.from.ensures ∙ c.waiting-n.ensures in
    holds_added m _ _ c.requires.holds c.put_waiting.ensures.kept_outside a.name a.port
    (c.put_request.ensures.m_after ∙ ap (λ k. set (queue_from m) k (new_request a.name a.port)) n)
    (c.put_waiting.ensures.m_after ∙ ap (λ k. k + 1) c.waiting-n.ensures)
