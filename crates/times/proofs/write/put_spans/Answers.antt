use Rattle.std.proofs.Common.{rules}
use native.Mathlib.Omega.{arith}
use mathlib.Core.Path.{◌≡◌, ap, ap₂, subst⁻¹, ◌∙◌}
use lib.ListN.{length}
use lib.Seq.{sets, length-sets}
use Rattle.follow.specs.Follow.{KeptOutside}
use Rattle.follow.proofs.Entries.{kept_twice}
use Rattle.times.specs.Bytes.{seconds_bytes, times_from}
use Rattle.times.proofs.Written.{length_seconds, seconds_there, put_keeps}
use Rattle.times.proofs.Kept.{seconds_before}
use Rattle.times.proofs.write.put_spans.Goals as goal

pub returns : goal.returns
unfolding times_from
returns c =
    let a = c.args in
    let m = a.m.now in
    let l : length m ≡ 1891 = search rules in
    let v = length_seconds a.setting in
    let w = length_seconds a.timeout in
    let x = sets m 1193 (seconds_bytes a.setting) in
    let y = sets x 1197 (seconds_bytes a.timeout) in
    let long : length x ≡ 1891 = length-sets m 1193 (seconds_bytes a.setting) ∙ l in
    let e =
    c.put-2.ensures
    ∙ ap₂ (λ u v. sets u 1197 v) (c.put.ensures ∙ ap (sets m 1193) c.seconds_bytes.ensures.value) c.seconds_bytes-2.ensures.value in
    let j = put_keeps m 1193 (seconds_bytes a.setting) 1193 1201 (omega arith) (omega arith) in
    let k = put_keeps x 1197 (seconds_bytes a.timeout) 1197 1201 (omega arith) (omega arith) in record {
      m_after = ap times_from e ∙ rw (
        seconds_before 1197 1201 x y k 1189 (omega arith),
        seconds_before 1193 1201 m x j 1189 (omega arith),
        seconds_before 1197 1201 x y k 1193 (omega arith),
        seconds_there m 1193 a.setting (omega arith) c.seconds_bytes.ensures.n_bound,
        seconds_there x 1197 a.timeout (omega arith) c.seconds_bytes-2.ensures.n_bound,
      );
      kept_outside = subst⁻¹ (KeptOutside 1193 1201 m) e
          (kept_twice 1193 1201 m x y j (put_keeps x 1197 (seconds_bytes a.timeout) 1193 1201 (omega arith) (omega arith)));
    }
