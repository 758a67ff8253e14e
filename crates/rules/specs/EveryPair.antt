-- The tables of pairs together, and the rows that they show: all 26.
use Rattle.std.specs.Prelude.{ℕ, List, [], ◌∷◌, ◌++◌}
use Rattle.rules.specs.Pairs.{Pair}
use Rattle.rules.specs.PairsBooking.{booking_pairs}
use Rattle.rules.specs.PairsVerdict.{verdict_pairs}
use Rattle.rules.specs.PairsBuffer.{buffer_pairs}
use Rattle.rules.specs.PairsService.{service_pairs}
use Rattle.rules.specs.PairsTransfer.{transfer_pairs}
use Rattle.rules.specs.PairsReading.{reading_pairs}
use Rattle.rules.specs.PairsOpening.{opening_pairs}

abbrev pub pairs : List Pair
pairs = booking_pairs ++ verdict_pairs ++ buffer_pairs ++ service_pairs ++ transfer_pairs ++ reading_pairs ++ opening_pairs

abbrev pub all_rows : List ℕ
all_rows =
    1 ∷ 2 ∷ 3 ∷ 4 ∷ 5 ∷ 6 ∷ 7 ∷ 8 ∷ 9 ∷ 10 ∷ 11 ∷ 12 ∷ 13 ∷ 14 ∷ 15 ∷ 16 ∷ 17 ∷ 18 ∷ 19 ∷ 20 ∷ 21 ∷ 22 ∷ 23 ∷ 24 ∷ 25 ∷ 26 ∷ []
