use Rattle.std.proofs.Common.{rules}
use native.Mathlib.Omega.{arith}
use mathlib.Core.Path.{◌≡◌, ap, subst⁻¹, ◌∙◌}
use lib.ListN.{length}
use lib.Seq.{sets}
use Rattle.follow.specs.Follow.{KeptOutside}
use Rattle.follow.proofs.Entries.{put_keeps}
use Rattle.times.specs.Bytes.{prediction_start, predictions_from, prediction_bytes}
use Rattle.times.proofs.Written.{length_prediction}
use Rattle.times.proofs.Followed.{predictions_put}
use Rattle.times.proofs.write.put_prediction.Goals as goal

pub returns : goal.returns
returns c =
    let a = c.args in
    let m = a.m.now in
    let l : length m ≡ 1891 = search rules in
    let t = c.prediction_bytes.ensures in
    let w = length_prediction a.p in
    let e = c.put.ensures ∙ ap (sets m (prediction_start a.k)) c.prediction_bytes.ensures.value in record { m_after = ap predictions_from e ∙ predictions_put m l a.k c.requires a.p t.tp_bound t.te_bound; kept_outside = subst⁻¹ (KeptOutside 1201 1597 m) e (put_keeps 1201 11 m l (omega arith) a.k c.requires (prediction_bytes a.p) w) }
