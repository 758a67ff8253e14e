-- The reports: one for each difference between the state before and the state after, by model.
use Rattle.std.specs.Prelude.{ℕ, suc, Bool, not, cond, List, [], ◌∷◌, ◌++◌, length, get_or, take, eqb}
use Rattle.lists.specs.Lists.{any, where_is, fill}
use Rattle.records.specs.declared.name.Name.{Name}
use Rattle.records.specs.declared.port.Port.{Port}
use Rattle.records.specs.declared.carrier.Carrier.{Carrier}
use Rattle.records.specs.Names.{no_name, same_name}
use Rattle.records.specs.Carriers.{no_carrier}
use Rattle.rules.specs.declared.report.Report.{Report}
use Rattle.rules.specs.declared.report.Reports.{Reports}
use Rattle.rules.specs.State.{State}

abbrev pub no_report : Report
no_report = record { model = 0; port = 0; name = no_name; old = 0; new = 0 }

-- Ten entries: the list, and zeros past the count.
unfoldable pub listed : List Report → Reports
listed l = record { count = length (take 10 l); items = fill 10 no_report l }

abbrev pub no_reports : Reports
no_reports = listed []

-- a report of model m, on the port p or the name n, if b holds
unfoldable pub report_if : Bool → ℕ → ℕ → Name → ℕ → ℕ → List Report
report_if b m p n old new = cond b (record { model = m; port = p; name = n; old = old; new = new } ∷ []) []

-- the same, if old and new differ
abbrev pub change : ℕ → ℕ → Name → ℕ → ℕ → List Report
change m p n old new = report_if (not (eqb old new)) m p n old new

-- Models 1 to 4: transfer, access, reservation and tie of port p before and after.
abbrev pub transfer_change : ℕ → Port → Port → List Report
transfer_change p x y = change 1 p no_name x.transfer y.transfer

abbrev pub access_change : ℕ → Port → Port → List Report
access_change p x y = change 2 p no_name x.access y.access

abbrev pub reservation_change : ℕ → Port → Port → List Report
reservation_change p x y = change 3 p no_name x.reserved y.reserved

unfoldable pub tie_number : Name → ℕ
tie_number n = cond (same_name n no_name) 0 1

-- a tie that passes to another carrier is reported 1 to 1
abbrev pub tie_change : ℕ → Port → Port → List Report
tie_change p x y = report_if (not (same_name x.tie y.tie)) 4 p no_name (tie_number x.tie) (tie_number y.tie)

-- port by port, from the number p on
unfoldable pub by_port : (ℕ → Port → Port → List Report) → ℕ → List Port → List Port → List Report
by_port d p [] ys = []
by_port d p (x ∷ xs) [] = []
by_port d p (x ∷ xs) (y ∷ ys) = d p x y ++ by_port d (suc p) xs ys

-- Models 5 to 7: ID, slot status and accessing; 0 is "no state". A removed carrier comes before the others.
unfoldable pub each : (Carrier → List Report) → List Carrier → List Report
each f [] = []
each f (c ∷ l) = f c ++ each f l

abbrev pub record_in : List Carrier → Name → Carrier
record_in l n = get_or l (where_is (λ c. same_name c.name n) l) no_carrier

abbrev pub removed_change : ℕ → (Carrier → ℕ) → List Carrier → Carrier → List Report
removed_change m f after c = cond (any (λ d. same_name d.name c.name) after) [] (change m 0 c.name (f c) 0)

abbrev pub live_change : ℕ → (Carrier → ℕ) → List Carrier → Carrier → List Report
live_change m f before c = change m 0 c.name (f (record_in before c.name)) (f c)

unfoldable pub by_carrier : ℕ → (Carrier → ℕ) → List Carrier → List Carrier → List Report
by_carrier m f before after = each (removed_change m f after) before ++ each (live_change m f before) after

unfoldable pub differences : State → State → List Report
differences s t =
    by_port transfer_change 1 s.ports t.ports
    ++ by_port access_change 1 s.ports t.ports
    ++ by_port reservation_change 1 s.ports t.ports
    ++ by_port tie_change 1 s.ports t.ports
    ++ by_carrier 5 (λ c. c.id) s.carriers t.carriers
    ++ by_carrier 6 (λ c. c.slot) s.carriers t.carriers
    ++ by_carrier 7 (λ c. c.accessing) s.carriers t.carriers
