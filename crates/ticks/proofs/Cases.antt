-- Each time and each list of times gives what the tables say.
use Rattle.std.proofs.Common.{◌≡◌, true, refl}
use lib.Ieee.{of_bits}
use Rattle.lists.specs.Lists.{every}
use Rattle.ticks.specs.Times.{ticks, timely}
use Rattle.ticks.specs.Wafers.{wafers_in, total_of, rounded_up, fits, good, wafers_from}
use Rattle.ticks.specs.Cases.{time_holds, one_times, holds, cases}

pub all_times : every time_holds one_times ≡ true
unfolding every of_bits ticks timely time_holds
all_times = refl

pub all_cases : every holds cases ≡ true
unfolding every of_bits ticks timely wafers_in total_of rounded_up fits good wafers_from holds
all_cases = refl
