-- The state of a tool, and the tool that holds it.
use Rattle.std.specs.Prelude.{ℕ, ◌-◌, cond, ◌&&◌, List, [], length, get_or, take, replicate, eqb, leb}
use Rattle.lists.specs.Lists.{fill, between}
use Rattle.records.specs.declared.port.Port.{Port}
use Rattle.records.specs.declared.carrier.Carrier.{Carrier}
use Rattle.records.specs.Ports.{no_port, new_port}
use Rattle.records.specs.Carriers.{no_carrier}
use Rattle.rules.specs.declared.tool.Tool.{Tool}
use Rattle.rules.specs.declared.tool.Setup.{Setup}

-- Ports are numbered from 1. The carriers are the live records, in the order they were made.
pub record State : Type 0 where
  pub ports : List Port
  pub carriers : List Carrier
  pub places : ℕ

-- where port p stands in the list; 0 stands nowhere
abbrev pub spot_of : ℕ → ℕ
spot_of p = cond (eqb p 0) 4 (p - 1)

-- the port p, or no port
unfoldable pub port_of : State → ℕ → Port
port_of s p = get_or s.ports (spot_of p) no_port

-- the record at a position, or no carrier
unfoldable pub record_of : State → ℕ → Carrier
record_of s k = get_or s.carriers k no_carrier

-- A tool holds a state in tables of 4 ports and 36 records, with zeros after what is used.
abbrev pub state_of : Tool → State
state_of t = record { ports = take t.used t.ports; carriers = take t.count t.carriers; places = t.places }

-- the same read off the tables
unfoldable pub port_at : Tool → ℕ → Port
port_at t p = get_or t.ports (spot_of p) no_port

unfoldable pub record_at : Tool → ℕ → Carrier
record_at t k = get_or t.carriers k no_carrier

unfoldable pub in_tool : State → Tool
in_tool s = record {
  used = length (take 4 s.ports);
  places = s.places;
  count = length (take 36 s.carriers);
  ports = fill 4 no_port s.ports;
  carriers = fill 36 no_carrier s.carriers;
}

-- no tool: all zeros
abbrev pub no_tool : Tool
no_tool = record { used = 0; places = 0; count = 0; ports = replicate 4 no_port; carriers = replicate 36 no_carrier }

-- P ports as they are at set-up, B places, no carrier
abbrev pub start : ℕ → ℕ → State
start P B = record { ports = replicate P new_port; carriers = []; places = B }

-- Set-up takes 1 to 4 ports and 0 to 16 buffer places; anything else is refused with 1 and gives no tool.
unfoldable pub set_up : ℕ → ℕ → Setup
set_up P B = cond (between 1 P 4 && leb B 16) (record { tool = in_tool (start P B); answer = 0 }) (record { tool = no_tool; answer = 1 })
