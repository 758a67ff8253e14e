-- An effect carried out on the tables.
use Rattle.std.specs.Prelude.{ℕ, ◌+◌, ◌-◌, Bool, cond, List, set, ltb}
use Rattle.lists.specs.Lists.{shifted}
use Rattle.records.specs.declared.port.Port.{Port}
use Rattle.records.specs.declared.carrier.Carrier.{Carrier}
use Rattle.records.specs.Carriers.{no_carrier}
use Rattle.rules.specs.declared.tool.Tool.{Tool}
use Rattle.rules.specs.declared.row.Effect.{Effect}
use Rattle.rules.specs.State.{spot_of}

abbrev pub to_ports : Tool → List Port → Tool
to_ports t l = record { used = t.used; places = t.places; count = t.count; ports = l; carriers = t.carriers }

abbrev pub to_carriers : Tool → ℕ → List Carrier → Tool
to_carriers t n l = record { used = t.used; places = t.places; count = n; ports = t.ports; carriers = l }

unfoldable pub with_port : Tool → ℕ → Port → Tool
with_port t p q = cond (ltb (spot_of p) t.used) (to_ports t (set t.ports (spot_of p) q)) t

unfoldable pub with_record : Tool → ℕ → Carrier → Tool
with_record t k c = cond (ltb k t.count) (to_carriers t t.count (set t.carriers k c)) t

unfoldable pub removed : Tool → ℕ → Tool
removed t k = cond (ltb k t.count) (to_carriers t (t.count - 1) (shifted no_carrier t.carriers k)) t

unfoldable pub pushed : Tool → Bool → Carrier → Tool
pushed t b c = cond b (cond (ltb t.count 36) (to_carriers t (t.count + 1) (set t.carriers t.count c)) t) t

abbrev pub applied : Tool → Effect → Tool
applied t e = pushed (removed (with_record (with_port t e.port e.becomes) e.changes e.next) e.goes) e.made e.next
