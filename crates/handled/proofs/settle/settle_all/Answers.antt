-- Port by port; the tool's bytes stay, and so does what is outside the alarms.
use native.Mathlib.Omega.{arith}
use mathlib.Core.Path.{ap, ◌∙◌}
use mathlib.Core.List.{[]}
use lib.ListN.{get_or}
use Rattle.image.specs.Image.{tool_from}
use Rattle.image.proofs.Laid.{ports_long}
use Rattle.follow.proofs.Entries.{kept_twice}
use Rattle.mapped.specs.Bytes.{own_in}
use Rattle.handled.specs.Bytes.{alarms_from}
use Rattle.handled.proofs.Laid.{alarms_long}
use Rattle.handled.proofs.Four.{table_left, told_left}
use Rattle.handled.proofs.settle.settle_all.Goals as goal

pub settle_port-requires : goal.settle_port-requires
settle_port-requires c = record { le_p = omega arith; p_bound = omega arith }

pub settle_port-requires-2 : goal.settle_port-requires-2
settle_port-requires-2 c = record { le_p = omega arith; p_bound = omega arith }

pub settle_port-requires-3 : goal.settle_port-requires-3
settle_port-requires-3 c = record { le_p = omega arith; p_bound = omega arith }

pub settle_port-requires-4 : goal.settle_port-requires-4
settle_port-requires-4 c = record { le_p = omega arith; p_bound = omega arith }

pub returns : goal.returns
returns c =
    let m = c.args.m.now in
    let b = get_or m 0 [] in
    let t = tool_from b in
    let u1 = c.settle_port.ensures in
    let u2 = c.settle_port-2.ensures in
    let u3 = c.settle_port-3.ensures in
    let u4 = c.settle_port-4.ensures in
    let same2 = u2.m_unchanged ∙ u1.m_unchanged in
    let same3 = u3.m_unchanged ∙ same2 in
    let h = ports_long b in
    let k = alarms_long (own_in m) in record {
      m_unchanged = u4.m_unchanged ∙ same3;
      m_after = table_left t c.args.port c.args.a _ _ _ (ap tool_from u1.m_unchanged) (ap tool_from same2) (ap tool_from same3) (alarms_from (own_in m)) _ _ _ _
          u1.m_after u2.m_after u3.m_after u4.m_after h k;
      o_after = told_left t c.args.port c.args.a _ _ _ (ap tool_from u1.m_unchanged) (ap tool_from same2) (ap tool_from same3) (alarms_from (own_in m)) _ _ _ _
          u1.m_after u2.m_after u3.m_after u4.m_after h k _ _ _ _ _ u1.o_after u2.o_after u3.o_after u4.o_after;
      kept_outside = kept_twice 1597 1605 _ _ _ (kept_twice 1597 1605 _ _ _ (kept_twice 1597 1605 _ _ _ u1.kept_outside u2.kept_outside) u3.kept_outside) u4.kept_outside;
    }
