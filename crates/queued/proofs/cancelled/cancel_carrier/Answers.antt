use Rattle.std.proofs.Common.{rules}
use Prim.Native.Nat.{◌<◌}
use mathlib.Core.Path.{◌≡◌, refl, sym, ◌∙◌}
use mathlib.Core.List.{List, [], ◌∷◌}
use lib.ListN.{length}
use Rattle.records.specs.Names.{in_bytes}
use Rattle.rules.specs.Seen.{Input, see, numbered}
use Rattle.rules.specs.Row.{lowest}
use Rattle.mapped.specs.Bytes.{own_in}
use Rattle.queue.specs.declared.request.Request.{Request}
use Rattle.queue.specs.Requests.{dropped}
use Rattle.queue.specs.State.{state_of}
use Rattle.queue.specs.Rows.{row_of}
use Rattle.queue.specs.Outcome.{row_in}
use Rattle.line.specs.Bytes.{queue_of, Holds}
use Rattle.queued.specs.Bytes.{queued_in}
use Rattle.queued.proofs.Held.{mapped_sound, holds_kept, same_queue}
use Rattle.queued.proofs.Given.{zero_of, not_zero_of, one_left, one_refused}
use Rattle.queued.proofs.cancelled.cancel_carrier.Goals as goal

pub passed_on-r-requires : goal.passed_on-r-requires
passed_on-r-requires c = mapped_sound c.args.m.now c.requires

pub drop_of-requires : goal.drop_of-requires
drop_of-requires c =
    holds_kept c.args.m.now c.requires (own_in c.passed_on-r.new.m) c.passed_on-r.ensures.kept_outside

pub returns : goal.returns
unfolding lowest row_of see
returns c =
    let input : Input =
    numbered 6 c.args.i in
    let left : List Request =
    dropped (in_bytes c.args.i.name.now) (queue_of (own_in c.args.m.now)) in
    let row : row_in (state_of (queued_in c.args.m.now)) input ≡ record { grounds = []; stands = input ∷ []; queue = left } =
    refl in
    let two : 1 < length c.passed_on-r.new.m =
    search rules in
    let m = c.args.m.now in
    let k = c.passed_on-r.ensures.kept_outside in
    let w = c.drop_of.new.m in
    let h : Holds w left =
    rw (c.in_bytes.ensures, same_queue m c.requires (own_in c.passed_on-r.new.m) k) at c.drop_of.ensures.holds in let both = one_left m c.requires input input [] left row refl c.passed_on-r.new.m c.passed_on-r.new.o
    c.passed_on-r.result c.passed_on-r.ensures.result_after k (zero_of _ (sym c.is_err.ensures.value ∙ c.if-is_err.false)) w two c.drop_of.ensures.kept_outside h in record { result_after = both.0; kept_outside = both.1 }

pub returns-then-is_err : goal.returns-then-is_err
unfolding lowest row_of see
returns-then-is_err c =
    let input : Input =
    numbered 6 c.args.i in
    let left : List Request =
    dropped (in_bytes c.args.i.name.now) (queue_of (own_in c.args.m.now)) in
    let row : row_in (state_of (queued_in c.args.m.now)) input ≡ record { grounds = []; stands = input ∷ []; queue = left } =
    refl in let both = one_refused c.args.m.now c.requires input input [] left row refl c.passed_on-r.new.m c.passed_on-r.new.o
    c.passed_on-r.result c.passed_on-r.ensures.result_after c.passed_on-r.ensures.kept_outside (not_zero_of _ (sym c.is_err.ensures.value ∙ c.if-is_err.true)) in record { result_after = both.0; kept_outside = both.1 }
