use Rattle.std.proofs.Common.{rules}
use native.Mathlib.Omega.{arith}
use mathlib.Core.Path.{◌≡◌, ap, subst⁻¹, ◌∙◌}
use mathlib.Core.List.{[], ◌∷◌}
use lib.ListN.{length}
use Rattle.follow.specs.Follow.{KeptOutside}
use Rattle.times.proofs.Written.{put_keeps}
use Rattle.handled.specs.Bytes.{alarm_start, alarms_from}
use Rattle.handled.proofs.Laid.{alarm_put}
use Rattle.handled.proofs.alarm.put_alarm.Goals as goal

pub returns : goal.returns
returns c =
    let a = c.args in
    let m = a.m.now in
    let l : length m ≡ 1891 = search rules in
    let k = c.requires in record {
      m_after = ap alarms_from c.put.ensures ∙ alarm_put m l a.k k a.a;
      kept_outside = subst⁻¹ (KeptOutside 1597 1605 m) c.put.ensures
          (put_keeps m (alarm_start a.k) (a.a.on ∷ a.a.held ∷ []) 1597 1605 (omega arith) (omega arith));
    }
