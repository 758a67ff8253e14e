use Rattle.std.proofs.Common.{rules}
use mathlib.Core.Path.{◌≡◌}
use lib.ListN.{length}
use Rattle.line.specs.Bytes.{request_bytes}
use Rattle.line.proofs.Written.{request_made}
use Rattle.line.proofs.write.request_bytes.Goals as goal

pub returns-clause-value : goal.returns-clause-value
unfolding request_bytes
returns-clause-value c =
    let r = c.args.r in
    let l : length r.name.bytes ≡ 16 = search rules in
    rw c.put.ensures (request_made r.name.bytes r.port r.started l)
