-- The ports that are passed are as at set-up, the others none.
use native.Mathlib.Omega.{arith}
use mathlib.Core.Path.{◌≡◌, refl, ap, ◌∙◌}
use lib.ListN.{set}
use Rattle.lists.proofs.Tables.{fill_none, fill_repeat}
use Rattle.records.specs.Ports.{no_port, new_port}
use Rattle.rules.specs.State.{no_tool}
use Rattle.image.specs.Image.{tool_from}
use Rattle.parts.specs.Apply.{to_ports}
use Rattle.parts.proofs.InPlace.{port_put}
use Rattle.machine.proofs.setup.fresh_ports.Goals as goal

pub loop-k-init : goal.loop-k-init
loop-k-init c =
    (omega arith, c.requires.p_bound, c.requires.m_value ∙ ap (to_ports no_tool) (fill_none 4 no_port))

pub loop-k-preserved : goal.loop-k-preserved
loop-k-preserved c =
    let m = c.loop-k.m in
    let k = c.loop-k.k in
    let i = c.loop-k.invariant in
    let q = rw c.fresh.ensures at c.put_port.ensures.m_after in (
      omega arith,
      i.1,
      ap tool_from q
          ∙ port_put m c.put_port.ensures.m_len k new_port (omega arith) refl
          ∙ ap (λ t. to_ports t (set t.ports k new_port)) i.2
          ∙ ap (to_ports no_tool) (fill_repeat 4 no_port new_port k),
    )

pub returns : goal.returns
returns c =
    let z : c.loop-k.k ≡ c.args.p = omega arith in
    rw z at c.loop-k.invariant.2
