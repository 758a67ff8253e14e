use Rattle.passes.specs.Passes.{record_on}
use Rattle.soundness.proofs.Seated.{seat_tests}
use Rattle.soundness.proofs.seats.seat.Goals as goal

pub returns : goal.returns
returns c =
    let a = c.args in
    seat_tests a.used a.places (record_on a.m.now a.k)
