-- The ports that are passed are as at set-up, the others none.
use Prim.Native.Nat.{◌≤◌}
use mathlib.Core.Path.{◌≡◌}
use lib.ListN.{replicate}
use Rattle.lists.specs.Lists.{fill}
use Rattle.records.specs.Ports.{no_port, new_port}
use Rattle.rules.specs.State.{no_tool}
use Rattle.image.specs.Image.{tool_from}
use Rattle.parts.specs.Apply.{to_ports}
use Rattle.machine.proofs.setup.fresh_ports.Given as goal

abbrev pub invariant-loop-k : goal.invariant-loop-k
invariant-loop-k l = (l.k ≤ l.p) × (l.p ≤ 4) × (tool_from l.m ≡ to_ports no_tool (fill 4 no_port (replicate l.k new_port)))
