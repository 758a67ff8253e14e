-- What an effect touches, and reports one after the other.
use Rattle.std.specs.Prelude.{ℕ, ◌+◌, cond, List, [], ◌∷◌, ◌++◌, set, ltb}
use Rattle.records.specs.declared.name.Name.{Name}
use Rattle.records.specs.declared.port.Port.{Port}
use Rattle.records.specs.declared.carrier.Carrier.{Carrier}
use Rattle.rules.specs.declared.row.Effect.{Effect}
use Rattle.rules.specs.declared.report.Report.{Report}
use Rattle.rules.specs.declared.report.Reports.{Reports}
use Rattle.rules.specs.Reports.{change, transfer_change, access_change, reservation_change, tie_change}

-- one report more, in the next entry; past the tenth nothing is kept
unfoldable pub noted : Reports → Report → Reports
noted rs r = cond (ltb rs.count 10) (record { count = rs.count + 1; items = set rs.items rs.count r }) rs

unfoldable pub note_all : Reports → List Report → Reports
note_all rs [] = rs
note_all rs (r ∷ l) = note_all (noted rs r) l

-- models 1 to 4 of port p
unfoldable pub port_touched : ℕ → Port → Port → List Report
port_touched p x q = transfer_change p x q ++ access_change p x q ++ reservation_change p x q ++ tie_change p x q

-- one of the models 5 to 7: the record that goes, then the one that changes or is new
unfoldable pub record_touched : ℕ → Name → ℕ → Name → ℕ → ℕ → List Report
record_touched m gone lost n old new = change m 0 gone lost 0 ++ change m 0 n old new

-- the port x, the record g that goes and the record w that changes
unfoldable pub touched : Port → Carrier → Carrier → Effect → List Report
touched x g w e =
    port_touched e.port x e.becomes
    ++ record_touched 5 g.name g.id e.next.name w.id e.next.id
    ++ record_touched 6 g.name g.slot e.next.name w.slot e.next.slot
    ++ record_touched 7 g.name g.accessing e.next.name w.accessing e.next.accessing
