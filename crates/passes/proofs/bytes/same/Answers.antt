use Rattle.std.proofs.Common.{◌≡◌, ◌+◌, ◌-◌, ap₂, arith}
use Rattle.lists.specs.Lists.{same_list}
use Rattle.lists.proofs.Library.{equal_is_same}
use Rattle.records.specs.Names.{same_name}
use Rattle.image.proofs.Table.{part_is}
use Rattle.passes.proofs.bytes.same.Goals as goal

pub returns : goal.returns
unfolding same_name
returns c =
    let a = c.args in
    let m = a.m.now in
    let e : a.o + 16 - a.o ≡ 16 = omega arith in
    let f : a.p + 16 - a.p ≡ 16 = omega arith in
    rw (c.eq.ensures, equal_is_same, e, f) (ap₂ same_list (part_is m a.o 16 0 (omega arith)) (part_is m a.p 16 0 (omega arith)))
