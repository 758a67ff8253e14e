use lib.Ieee.{binary32}
use Rattle.values.specs.Values.{f4_of}
use Rattle.values.proofs.Floats.{nan_bits_fact, no_nan_bits, off_nan}
use Rattle.values.proofs.value.f4.Goals as goal

pub float_from_bits-x : goal.float_from_bits-x
float_from_bits-x c = let b = c.args.bits in off_nan binary32 b (no_nan_bits binary32 b c.if-bits-gt2139095040.false)

pub returns-then-bits-gt2139095040 : goal.returns-then-bits-gt2139095040
unfolding f4_of
returns-then-bits-gt2139095040 c = rw (nan_bits_fact binary32 c.args.bits c.if-bits-gt2139095040.true)

pub returns-else-bits-gt2139095040 : goal.returns-else-bits-gt2139095040
unfolding f4_of
returns-else-bits-gt2139095040 c = rw (no_nan_bits binary32 c.args.bits c.if-bits-gt2139095040.false)
