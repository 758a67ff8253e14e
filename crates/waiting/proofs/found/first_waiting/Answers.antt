-- Where the search stops is the first carrier that waits, or the end.
use native.Mathlib.Omega.{arith}
use mathlib.Core.Path.{◌≡◌, sym, subst, ◌∙◌}
use lib.ListN.{length}
use Rattle.waiting.proofs.First.{Passed, none_passed, one_passed, first_here, all_passed, some_found, none_found}
use Rattle.waiting.proofs.found.first_waiting.Goals as goal

pub loop-k-init : goal.loop-k-init
loop-k-init c = none_passed c.args.table.now

pub loop-k-preserved : goal.loop-k-preserved
loop-k-preserved c =
    one_passed c.args.table.now c.loop-k.k _ (omega arith) c.loop-k.invariant (sym c.waits_for_host.ensures ∙ c.if-waits_for_host.false)

pub returns-then-waits_for_host : goal.returns-then-waits_for_host
returns-then-waits_for_host c =
    let t = c.args.table.now in
    some_found t c.loop-k.k (omega arith) (first_here t c.loop-k.k _ (omega arith) c.loop-k.invariant (sym c.waits_for_host.ensures ∙ c.if-waits_for_host.true))

pub returns : goal.returns
returns c =
    let t = c.args.table.now in
    let end : c.loop-k.k ≡ length t = omega arith in
    none_found t (all_passed t (subst (Passed t) end c.loop-k.invariant))
