use Rattle.std.proofs.Common.{rules}
use mathlib.Core.Path.{◌≡◌, ◌∙◌}
use lib.ListN.{length}
use Rattle.waiting.proofs.First.{searched}
use Rattle.waiting.proofs.table.waiting_in.Goals as goal

pub returns : goal.returns
returns c =
    let a = c.args in
    let long : length a.table ≡ 36 = search rules in
    let stops = c.unwrap_or.ensures ∙ rw c.first_waiting-first.ensures in
    c.stopped_at.ensures ∙ searched a.table a.count 36 c.min-n.result c.unwrap_or.result long c.min-n.ensures stops
