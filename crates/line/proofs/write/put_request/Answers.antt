use Rattle.std.proofs.Common.{rules}
use mathlib.Core.Path.{◌≡◌, ap, subst⁻¹, ◌∙◌}
use lib.ListN.{length}
use lib.Seq.{sets}
use Rattle.follow.specs.Follow.{KeptOutside}
use Rattle.line.specs.Bytes.{request_start, queue_from}
use Rattle.line.proofs.Written.{queue_put, put_keeps}
use Rattle.line.proofs.write.put_request.Goals as goal

pub returns : goal.returns
returns c =
    let a = c.args in
    let m = a.m.now in
    let l : length m ≡ 1891 = search rules in
    let w = c.request_bytes.ensures.bytes_len in
    let e = c.put.ensures ∙ ap (λ x. sets m (request_start a.k) x) c.request_bytes.ensures.value in
    record { m_after = ap queue_from e ∙ queue_put m l a.k c.requires a.r w; kept_outside = subst⁻¹ (KeptOutside 901 1189 m) e (put_keeps m l a.k c.requires a.r w) }
