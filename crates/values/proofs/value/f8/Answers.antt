use lib.Ieee.{binary64}
use Rattle.values.specs.Values.{f8_of}
use Rattle.values.proofs.Floats.{nan_bits_fact, no_nan_bits, off_nan}
use Rattle.values.proofs.value.f8.Goals as goal

pub float_from_bits-x : goal.float_from_bits-x
float_from_bits-x c = let b = c.args.bits in off_nan binary64 b (no_nan_bits binary64 b c.if-bits-gt9218868437227405312.false)

pub returns-then-bits-gt9218868437227405312 : goal.returns-then-bits-gt9218868437227405312
unfolding f8_of
returns-then-bits-gt9218868437227405312 c = rw (nan_bits_fact binary64 c.args.bits c.if-bits-gt9218868437227405312.true)

pub returns-else-bits-gt9218868437227405312 : goal.returns-else-bits-gt9218868437227405312
unfolding f8_of
returns-else-bits-gt9218868437227405312 c = rw (no_nan_bits binary64 c.args.bits c.if-bits-gt9218868437227405312.false)
