use native.Mathlib.Omega.{arith}
use Prim.Native.Nat.{◌≤◌}
use mathlib.Core.Path.{ap, ◌∙◌}
use Rattle.image.specs.Image.{tool_from}
use Rattle.parts.proofs.Bridge.{count_with_port, count_with_record}
use Rattle.parts.proofs.apply.apply.Goals as goal

pub with_record-requires : goal.with_record-requires
with_record-requires c =
    omega (arith, (let h : (tool_from c.args.m.now).count ≤ 36 = c.requires.m_bound_2 in h), ap (λ t. t.count) c.with_port.ensures ∙ count_with_port _ _ _)

pub removed-requires : goal.removed-requires
removed-requires c =
    omega (
      arith,
      (let h : (tool_from c.args.m.now).count ≤ 36 = c.requires.m_bound_2 in h),
      ap (λ t. t.count) c.with_record.ensures ∙ count_with_record _ _ _,
      ap (λ t. t.count) c.with_port.ensures ∙ count_with_port _ _ _,
    )

pub returns : goal.returns
returns c =
    rw (c.pushed.ensures, c.removed.ensures, c.with_record.ensures, c.with_port.ensures)
