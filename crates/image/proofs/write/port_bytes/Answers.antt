use Rattle.std.proofs.Common.{rules}
use mathlib.Core.Path.{◌≡◌}
use lib.ListN.{length}
use Rattle.image.specs.Image.{port_bytes}
use Rattle.image.proofs.Bytes.{port_written}
use Rattle.image.proofs.write.port_bytes.Goals as goal

pub returns : goal.returns
unfolding port_bytes
returns c =
    let q = c.args.q in
    let n : length q.tie.bytes ≡ 16 = search rules in
    rw c.put.ensures (port_written q.transfer q.access q.reserved q.movement q.pod q.tag q.tie.bytes n)
