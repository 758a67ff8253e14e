-- No times fit, are timely and take no second.
use Rattle.std.proofs.Common.{refl}
use Rattle.lists.specs.Lists.{every}
use Rattle.ticks.specs.Wafers.{wafers_in, total_of, rounded_up, fits, good, wafers_from}
use Rattle.ticks.proofs.seconds.no_wafers.Goals as goal

pub returns : goal.returns
unfolding wafers_from fits good wafers_in every rounded_up total_of
returns c = refl
