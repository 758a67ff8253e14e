use mathlib.Core.Path.{◌≡◌}
use mathlib.Core.Bool.{◌&&◌}
use lib.ListN.{get_or}
use lib.Dec.{eqb}
use borrow.Author.Tests.{eq-eqb, ne_eqb}
use Rattle.maps.specs.Expected.{no_map, equals}
use Rattle.mapped.specs.Bytes.{maps_from, codes_at}
use Rattle.mapped.proofs.kept.codes_at.Goals as goal
use Rattle.mapped.proofs.kept.codes_at.Goals.{then-number-eq20, else-number-eq20}

pub returns : goal.returns
unfolding codes_at
returns c =
    let a = c.args in
    let e : c.if-number-eq20.equal ≡ (eqb a.number 20 && equals (get_or (maps_from a.m.now) a.k no_map) a.map) =
    elim c.if-number-eq20.branch [
      | then-number-eq20 w ↦ rw (w.equal-is, eq-eqb _ _ w.if-number-eq20.true) w.equals_at-equal.ensures
      | else-number-eq20 w ↦ rw (w.equal-is, ne_eqb _ _ w.if-number-eq20.false)
    ] in
    rw (e, c.is_expected.ensures)
