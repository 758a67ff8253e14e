use Rattle.std.proofs.Common.{rules}
use native.Mathlib.Omega.{arith}
use mathlib.Core.Path.{◌≡◌, ap, ◌∙◌}
use lib.ListN.{length, take}
use Rattle.lists.specs.Lists.{fill}
use Rattle.queue.specs.Requests.{no_request, all_dropped}
use Rattle.line.specs.Bytes.{waiting_in, queue_from, queue_of}
use Rattle.line.proofs.Changed.{few_held, few_left, holds_left}
use Rattle.line.proofs.change.drop_waiting.Goals as goal

pub drop_all-left-requires-clause-n_bound : goal.drop_all-left-requires-clause-n_bound
drop_all-left-requires-clause-n_bound c = let f = few_held c.args.m.now in omega (arith, c.requires.waiting)

pub overflow_cast-left : goal.overflow_cast-left
overflow_cast-left c =
    let m = c.args.m.now in
    let f = few_left m in
    let n : c.from.result ≡ waiting_in m = c.from.ensures ∙ c.waiting-n.ensures in
    let d : c.drop_all-left.result ≡ length (all_dropped (queue_of m)) = c.drop_all-left.ensures.value ∙ ap (λ n. length (all_dropped (take n (queue_from m)))) n in
    search (rules, f, d)

pub returns-clause-holds : goal.returns-clause-holds
returns-clause-holds c =
    let m = c.args.m.now in
    let e = c.drop_all-left.ensures in
    let n : c.from.result ≡ waiting_in m = c.from.ensures ∙ c.waiting-n.ensures in
    holds_left m _ _ c.requires c.put_waiting.ensures.kept_outside (all_dropped (queue_of m))
    (e.m_after ∙ ap (λ n. fill 16 no_request (all_dropped (take n (queue_from m)))) n)
    (c.put_waiting.ensures.m_after ∙ e.value ∙ ap (λ n. length (all_dropped (take n (queue_from m)))) n)
