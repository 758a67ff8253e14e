use mathlib.Core.Path.{refl}
use mir.Syntax.{w8, w16, w32, w64}
use Rattle.items.specs.Formats.{size_of}
use Rattle.values.specs.Values.{half_of, number_of}
use Rattle.values.proofs.Signed.{cast_is, widened_is}
use Rattle.values.proofs.value.number_of.Goals as goal

pub returns-in-I1 : goal.returns-in-I1
unfolding number_of half_of size_of
returns-in-I1 c =
    let l = rw c.in-I1.is at c.requires in
    let e = widened_is w8 c.args.bits refl c.cast_signed.result c.cast_signed.ensures l c.from.result c.from.ensures c.from.type_inv in
    rw (c.in-I1.is, e)

pub returns-in-I2 : goal.returns-in-I2
unfolding number_of half_of size_of
returns-in-I2 c =
    let l = rw c.in-I2.is at c.requires in
    let e = widened_is w16 c.args.bits refl c.cast_signed-in-I2.result c.cast_signed-in-I2.ensures l c.from-in-I2.result c.from-in-I2.ensures c.from-in-I2.type_inv in
    rw (c.in-I2.is, e)

pub returns-in-I4 : goal.returns-in-I4
unfolding number_of half_of size_of
returns-in-I4 c =
    let l = rw c.in-I4.is at c.requires in
    let e = widened_is w32 c.args.bits refl c.cast_signed-in-I4.result c.cast_signed-in-I4.ensures l c.from-in-I4.result c.from-in-I4.ensures c.from-in-I4.type_inv in
    rw (c.in-I4.is, e)

pub returns-in-I8 : goal.returns-in-I8
unfolding number_of half_of
returns-in-I8 c =
    let e = cast_is w64 c.args.bits refl c.cast_signed-in-I8.result c.cast_signed-in-I8.ensures c.cast_signed-in-I8.type_inv in
    rw (c.in-I8.is, e)
