use Rattle.std.proofs.Common.{rules}
use Prim.Native.Nat.{◌<◌}
use mathlib.Core.Path.{◌≡◌, refl}
use mathlib.Core.List.{[]}
use lib.ListN.{length}
use Rattle.rules.specs.Seen.{Input, numbered}
use Rattle.rules.specs.Row.{lowest}
use Rattle.mapped.specs.Bytes.{own_in}
use Rattle.queue.specs.Requests.{all_dropped}
use Rattle.queue.specs.State.{state_of}
use Rattle.queue.specs.Rows.{row_of, cancel_all_carrier_out}
use Rattle.queue.specs.Outcome.{row_in}
use Rattle.line.specs.Bytes.{queue_of}
use Rattle.queued.specs.Bytes.{queued_in}
use Rattle.queued.proofs.Held.{holds}
use Rattle.queued.proofs.Given.{alone_left}
use Rattle.queued.proofs.cancelled.cancel_all_carrier_out.Goals as goal

pub drop_waiting-requires : goal.drop_waiting-requires
drop_waiting-requires c = holds c.args.m.now c.requires

pub returns : goal.returns
unfolding lowest row_of
returns c =
    let input : Input =
    numbered 30 c.args.i in
    let row : row_in (state_of (queued_in c.args.m.now)) input ≡ cancel_all_carrier_out (queue_of (own_in c.args.m.now)) =
    refl in
    let m = c.args.m.now in
    let two : 1 < length m = search rules in let both = alone_left m c.requires input [] (all_dropped (queue_of (own_in m))) row refl _ _ _ two c.drop_waiting.ensures.kept_outside
    c.drop_waiting.ensures.holds c.unmoved.ensures.value c.unmoved.ensures.o_after in record { result_after = both.0; kept_outside = both.1 }
