use Rattle.std.proofs.Common.{rules}
use native.Mathlib.Omega.{arith}
use mathlib.Core.Path.{◌≡◌, ap, subst⁻¹, ◌∙◌}
use lib.ListN.{length}
use Rattle.follow.specs.Follow.{KeptOutside}
use Rattle.line.specs.Bytes.{queue_from}
use Rattle.line.proofs.Written.{queue_gone, gone_keeps}
use Rattle.line.proofs.write.take_out.Goals as goal

pub close_up-requires : goal.close_up-requires
close_up-requires c = record { o_le_e = omega arith; w_bound = omega arith; e_in_bounds = search rules; m_len_bound = search rules }

pub returns : goal.returns
returns c =
    let a = c.args in
    let m = a.m.now in
    let l : length m ≡ 1891 = search rules in
    let e = c.close_up.ensures in
    record { m_after = ap queue_from e ∙ queue_gone m l a.k c.requires; kept_outside = subst⁻¹ (KeptOutside _ _ m) e (gone_keeps m l a.k c.requires) }
