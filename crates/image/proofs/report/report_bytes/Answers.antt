use Rattle.std.proofs.Common.{rules}
use mathlib.Core.Path.{◌≡◌}
use lib.ListN.{length}
use Rattle.image.specs.Image.{report_bytes}
use Rattle.image.proofs.Bytes.{report_made}
use Rattle.image.proofs.report.report_bytes.Goals as goal

pub returns : goal.returns
unfolding report_bytes
returns c =
    let r = c.args.r in
    let n : length r.name.bytes ≡ 16 = search rules in
    rw c.put.ensures (report_made r.model r.port r.old r.new r.name.bytes n)
