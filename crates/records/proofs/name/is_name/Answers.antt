-- Sixteen bytes at most, and each of them passes.
use Rattle.std.proofs.Common.{rules, tests}
use native.Mathlib.Omega.{arith}
use mathlib.Core.Path.{refl, ap, ◌∙◌}
use lib.ListN.{length}
use lib.Seq.{take_all}
use Rattle.lists.specs.Lists.{every}
use Rattle.lists.proofs.Ranges.{all_answered}
use borrow.Author.Tests.{le-leb, lt-leb}
use Rattle.records.specs.Names.{graphic, is_name}
use Rattle.records.proofs.name.is_name.Goals as goal

pub returns-in-1-to-16 : goal.returns-in-1-to-16
unfolding is_name
returns-in-1-to-16 c =
    let t = c.args.text.now in
    rw (le-leb 1 (length t) (omega arith), le-leb (length t) 16 (omega arith))
    (all_answered c.all.result graphic t 0 0 (length t) refl (omega arith) (omega arith) c.all.ensures.ran (λ x b q k. search (rules, tests))
    ∙ ap (every graphic) (take_all (length t) t (omega arith)))

pub returns-in_default : goal.returns-in_default
unfolding is_name
returns-in_default c = rw (lt-leb 1 (length c.args.text.now) (omega arith))

pub returns-in_default-2 : goal.returns-in_default-2
unfolding is_name
returns-in_default-2 c = let t = c.args.text.now in rw (le-leb 1 (length t) (omega arith), lt-leb (length t) 16 (omega arith))
