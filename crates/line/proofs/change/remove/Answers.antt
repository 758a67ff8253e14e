use native.Mathlib.Omega.{arith}
use Prim.Native.Nat.{◌-◌, ◌<◌}
use mathlib.Core.Path.{ap, ◌∙◌}
use lib.ListN.{length}
use Rattle.lists.proofs.Tables.{without_out}
use Rattle.line.specs.Bytes.{queue_of}
use Rattle.line.proofs.Changed.{few_held, holds_removed}
use Rattle.line.proofs.change.remove.Goals as goal

pub take_out-requires : goal.take_out-requires
take_out-requires c = let f = few_held c.args.m.now in omega (arith, c.requires.waiting)

pub returns-then-k-from-clause-holds : goal.returns-then-k-from-clause-holds
returns-then-k-from-clause-holds c =
    let m = c.args.m.now in
    let l : c.args.k < length (queue_of m) = omega (arith, c.requires.waiting) in
    holds_removed m _ _ c.requires c.put_waiting.ensures.kept_outside c.args.k l c.take_out.ensures.m_after
    (c.put_waiting.ensures.m_after ∙ ap (λ k. k - 1) c.waiting-n.ensures)

pub returns-else-k-from-clause-holds : goal.returns-else-k-from-clause-holds
returns-else-k-from-clause-holds c = rw (without_out (queue_of c.args.m.now) c.args.k (omega (arith, c.requires.waiting))) c.requires
