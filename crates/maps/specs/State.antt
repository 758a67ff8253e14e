-- Document 01's state and tool, with the expected maps.
use Rattle.std.specs.Prelude.{ℕ, List, [], take, replicate}
use Rattle.lists.specs.Lists.{fill}
use Rattle.rules.specs.declared.tool.Tool.{Tool}
use Rattle.rules.specs.State as base
use Rattle.maps.specs.Expected.{no_map}

-- A map for each record, in record order.
pub record Mapped : Type 0 where
  pub base : base.State
  pub maps : List (List ℕ)

-- In a tool they are 36, with no map after those of the records.
pub record MappedTool : Type 0 where
  pub base : Tool
  pub maps : List (List ℕ)

abbrev pub state_of : MappedTool → Mapped
state_of t = record { base = base.state_of t.base; maps = take t.base.count t.maps }

unfoldable pub in_tool : Mapped → MappedTool
in_tool s = record { base = base.in_tool s.base; maps = fill 36 no_map s.maps }

-- set-up: no record, and so no map
abbrev pub start : ℕ → ℕ → Mapped
start P B = record { base = base.start P B; maps = [] }

abbrev pub no_maps : List (List ℕ)
no_maps = replicate 36 no_map
