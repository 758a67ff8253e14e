-- A tool as bytes: what stands where.
use Rattle.std.specs.Prelude.{ℕ, zero, suc, ◌+◌, ◌*◌, cond, List, [], ◌∷◌, ◌++◌, get_or, ltb}
use Rattle.records.specs.declared.name.Name.{Name}
use Rattle.records.specs.declared.port.Port.{Port}
use Rattle.records.specs.declared.carrier.Carrier.{Carrier}
use Rattle.rules.specs.declared.tool.Tool.{Tool}
use Rattle.rules.specs.declared.report.Report.{Report}
use Rattle.rules.specs.declared.report.Reports.{Reports}

-- the table of f 0 to f (n - 1)
unfoldable pub table : {A : Type 0} → ℕ → (ℕ → A) → List A
table zero f = []
table (suc n) f = f 0 ∷ table n (λ k. f (suc k))

-- the byte at i
abbrev pub byte_at : List ℕ → ℕ → ℕ
byte_at m i = get_or m i 0

-- n bytes from o on
abbrev pub bytes_from : List ℕ → ℕ → ℕ → List ℕ
bytes_from m o n = table n (λ i. byte_at m (o + i))

abbrev pub name_from : List ℕ → ℕ → Name
name_from m o = record { bytes = bytes_from m o 16 }

-- a port has 22 bytes
abbrev pub port_from : List ℕ → ℕ → Port
port_from m o = record {
  transfer = byte_at m o;
  access = byte_at m (o + 1);
  reserved = byte_at m (o + 2);
  tie = name_from m (o + 3);
  movement = byte_at m (o + 19);
  pod = byte_at m (o + 20);
  tag = byte_at m (o + 21);
}

-- a carrier has 50
abbrev pub carrier_from : List ℕ → ℕ → Carrier
carrier_from m o = record {
  name = name_from m o;
  place = byte_at m (o + 16);
  spot = byte_at m (o + 17);
  port = byte_at m (o + 18);
  opened = byte_at m (o + 19);
  cancelled = byte_at m (o + 20);
  cameout = byte_at m (o + 21);
  map = bytes_from m (o + 22) 25;
  id = byte_at m (o + 47);
  slot = byte_at m (o + 48);
  accessing = byte_at m (o + 49);
}

-- what a port and a carrier are as bytes
unfoldable pub port_bytes : Port → List ℕ
port_bytes q = q.transfer ∷ q.access ∷ q.reserved ∷ (q.tie.bytes ++ (q.movement ∷ q.pod ∷ q.tag ∷ []))

unfoldable pub carrier_bytes : Carrier → List ℕ
carrier_bytes c =
    c.name.bytes ++ (c.place ∷ c.spot ∷ c.port ∷ c.opened ∷ c.cancelled ∷ c.cameout
    ∷ (c.map ++ (c.id ∷ c.slot ∷ c.accessing ∷ [])))

-- where the port at position k of its table begins, and the carrier
abbrev pub port_start : ℕ → ℕ
port_start k = 3 + 22 * k

abbrev pub carrier_start : ℕ → ℕ
carrier_start k = 91 + 50 * k

-- a tool has 1891
unfoldable pub tool_from : List ℕ → Tool
tool_from m = record {
  used = byte_at m 0;
  places = byte_at m 1;
  count = byte_at m 2;
  ports = table 4 (λ k. port_from m (port_start k));
  carriers = table 36 (λ k. carrier_from m (carrier_start k));
}

-- byte i when each from o to j has given way to the one 50 after it
unfoldable pub moved_up : List ℕ → ℕ → ℕ → ℕ → ℕ
moved_up m o j i = cond (ltb i o) (byte_at m i) (cond (ltb i j) (byte_at m (i + 50)) (byte_at m i))

-- a report has 20
abbrev pub report_from : List ℕ → ℕ → Report
report_from m o = record {
  model = byte_at m o;
  port = byte_at m (o + 1);
  name = name_from m (o + 2);
  old = byte_at m (o + 18);
  new = byte_at m (o + 19);
}

unfoldable pub report_bytes : Report → List ℕ
report_bytes r = r.model ∷ r.port ∷ (r.name.bytes ++ (r.old ∷ r.new ∷ []))

abbrev pub report_start : ℕ → ℕ
report_start k = 1 + 20 * k

-- and the report list 201
unfoldable pub reports_from : List ℕ → Reports
reports_from m = record { count = byte_at m 0; items = table 10 (λ k. report_from m (report_start k)) }
