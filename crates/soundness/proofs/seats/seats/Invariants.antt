-- the records that are passed fit and share nothing, and each has left its position at its spot and at its port
use Prim.Native.Nat.{◌≤◌}
use mathlib.Core.Path.{◌≡◌}
use Rattle.lists.specs.Lists.{every, every_two, how_many}
use Rattle.records.specs.Carriers.{expected}
use Rattle.rules.specs.Sound.{other_spot}
use Rattle.image.specs.Image.{table}
use Rattle.passes.specs.Passes.{record_on}
use Rattle.soundness.specs.Seats.{seat_fits, other_port, port_key, spot_key}
use Rattle.passes.proofs.Latest.{marked}
use Rattle.soundness.proofs.seats.seats.Given as goal

abbrev pub invariant-loop-k : goal.invariant-loop-k
invariant-loop-k l =
    (l.spots ≡ marked (spot_key l.m) 256 l.k) × (l.ports ≡ marked (port_key l.m) 256 l.k)
    × (l.fit ≡ every (seat_fits l.used l.places) (table l.k (record_on l.m)))
    × (l.apart ≡ every_two other_spot (table l.k (record_on l.m)))
    × (l.alone ≡ every_two other_port (table l.k (record_on l.m)))
    × (l.expected ≤ l.k) × (l.expected ≡ how_many expected (table l.k (record_on l.m)))
