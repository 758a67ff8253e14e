use Rattle.std.proofs.Common.{rules}
use native.Mathlib.Omega.{arith}
use mathlib.Core.Path.{◌≡◌, ap, subst⁻¹, ◌∙◌}
use lib.ListN.{length}
use lib.Seq.{sets}
use Rattle.follow.specs.Follow.{KeptOutside}
use Rattle.times.specs.Bytes.{seconds_bytes, times_from}
use Rattle.times.proofs.Written.{length_seconds, seconds_there, put_keeps}
use Rattle.times.proofs.Kept.{seconds_after}
use Rattle.times.proofs.write.put_clock.Goals as goal

pub returns : goal.returns
unfolding times_from
returns c =
    let a = c.args in
    let m = a.m.now in
    let l : length m ≡ 1891 = search rules in
    let w = length_seconds a.clock in
    let e = c.put.ensures ∙ ap (sets m 1189) c.seconds_bytes.ensures.value in
    let x = sets m 1189 (seconds_bytes a.clock) in
    let k = put_keeps m 1189 (seconds_bytes a.clock) 1189 1193 (omega arith) (omega arith) in record {
      m_after = ap times_from e ∙ rw (
        seconds_there m 1189 a.clock (omega arith) c.seconds_bytes.ensures.n_bound,
        seconds_after 1189 1193 m x k 1193 (omega arith),
        seconds_after 1189 1193 m x k 1197 (omega arith),
      );
      kept_outside = subst⁻¹ (KeptOutside 1189 1193 m) e k;
    }
