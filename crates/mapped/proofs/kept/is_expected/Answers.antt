use native.Mathlib.Omega.{arith}
use mathlib.Core.Path.{◌≡◌, refl, sym, ap, ◌∙◌}
use mathlib.Core.Bool.{true, false}
use lib.Dec.{eqb}
use lib.ListN.{length}
use lib.Seq.{take_all}
use borrow.Author.Tests.{ne_eqb}
use Rattle.std.proofs.Common.{rules, tests}
use Rattle.lists.specs.Lists.{every}
use Rattle.lists.proofs.Ranges.{all_answered}
use Rattle.maps.specs.Expected.{is_slot, is_expected}
use Rattle.mapped.proofs.kept.is_expected.Goals as goal

pub returns-then-is_empty : goal.returns-then-is_empty
unfolding is_expected
returns-then-is_empty c =
    let e : eqb (length c.args.codes.now) 0 ≡ true = sym c.is_empty.ensures ∙ c.if-is_empty.true in
    c.if-is_empty.true ∙ (rw e)

pub returns-then-codes-eq-SLOTS : goal.returns-then-codes-eq-SLOTS
unfolding is_expected
returns-then-codes-eq-SLOTS c =
    let l = c.args.codes.now in
    let n : length l ≡ 25 = c.if-codes-eq-SLOTS.true in
    rw n (all_answered c.all.result is_slot l 0 0 25 refl (omega arith) (omega arith) c.all.ensures.ran (λ x b q k. search (rules, tests))
    ∙ ap (every is_slot) (take_all 25 l (omega arith)))

pub returns-else-codes-eq-SLOTS : goal.returns-else-codes-eq-SLOTS
unfolding is_expected
returns-else-codes-eq-SLOTS c =
    let e : eqb (length c.args.codes.now) 0 ≡ false = sym c.is_empty.ensures ∙ c.if-is_empty.false in
    rw (e, ne_eqb _ _ c.if-codes-eq-SLOTS.false)
