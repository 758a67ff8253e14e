use Rattle.std.proofs.Common.{rules, tests}
use native.Mathlib.Omega.{arith}
use mathlib.Core.Path.{◌≡◌, refl, ap, ◌∙◌}
use lib.ListN.{length}
use lib.Seq.{take_all}
use borrow.Author.Tests.{ne_eqb}
use Rattle.lists.specs.Lists.{every}
use Rattle.lists.proofs.Ranges.{all_answered}
use Rattle.records.specs.Maps.{is_code, is_map}
use Rattle.records.proofs.map.is_map.Goals as goal

pub returns-then-codes-eq-SLOTS : goal.returns-then-codes-eq-SLOTS
unfolding is_map
returns-then-codes-eq-SLOTS c =
    let l = c.args.codes.now in
    let n : length l ≡ 25 = c.if-codes-eq-SLOTS.true in
    rw n (all_answered c.all.result is_code l 0 0 25 refl (omega arith) (omega arith) c.all.ensures.ran (λ x b q k. search (rules, tests))
    ∙ ap (every is_code) (take_all 25 l (omega arith)))

pub returns-else-codes-eq-SLOTS : goal.returns-else-codes-eq-SLOTS
unfolding is_map
returns-else-codes-eq-SLOTS c = rw (ne_eqb _ _ c.if-codes-eq-SLOTS.false)
