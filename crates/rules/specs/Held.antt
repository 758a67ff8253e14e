-- A tool that holds a state: the counts fit, and nothing stands after the lists.
use Rattle.std.specs.Prelude.{◌≤◌, ◌≡◌, take}
use Rattle.lists.specs.Lists.{fill}
use Rattle.records.specs.Ports.{no_port}
use Rattle.records.specs.Carriers.{no_carrier}
use Rattle.rules.specs.declared.tool.Tool.{Tool}

pub record Held (t : Tool) : Type 0 where
  pub few_ports : t.used ≤ 4
  pub few_carriers : t.count ≤ 36
  pub ports : t.ports ≡ fill 4 no_port (take t.used t.ports)
  pub carriers : t.carriers ≡ fill 36 no_carrier (take t.count t.carriers)
