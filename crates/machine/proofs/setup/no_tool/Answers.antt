use mathlib.Core.Path.{ap, ◌∙◌}
use lib.ListN.{length, replicate}
use Rattle.image.specs.Image.{tool_from}
use Rattle.machine.proofs.Fresh.{nothing, zero_at}
use Rattle.machine.proofs.setup.no_tool.Goals as goal

pub returns : goal.returns
returns c =
    let n = length c.args.m.now in
    ap tool_from c.clear.ensures ∙ nothing (replicate n 0) (zero_at n)
