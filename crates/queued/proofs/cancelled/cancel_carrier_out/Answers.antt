use Rattle.std.proofs.Common.{rules}
use native.Mathlib.Omega.{arith}
use Prim.Native.Nat.{◌<◌}
use mathlib.Core.Path.{◌≡◌, refl, sym, ap, ◌∙◌}
use mathlib.Core.Bool.{Bool}
use mathlib.Core.List.{List, [], ◌∷◌}
use lib.ListN.{length}
use Rattle.lists.specs.Lists.{any}
use Rattle.records.specs.Names.{in_bytes}
use Rattle.records.specs.Refusals.{answer}
use Rattle.rules.specs.Seen.{Input, see, numbered}
use Rattle.rules.specs.Row.{unless, judge, lowest}
use Rattle.rules.proofs.Lowest.{first_is_lowest}
use Rattle.mapped.specs.Bytes.{own_in}
use Rattle.queue.specs.declared.request.Request.{Request}
use Rattle.queue.specs.Requests.{waits_of, dropped}
use Rattle.queue.specs.State.{base_of, state_of}
use Rattle.queue.specs.Rows.{Row, row_of, cancel_carrier_out}
use Rattle.queue.specs.Outcome.{row_in}
use Rattle.line.specs.Bytes.{queue_of, Holds}
use Rattle.queued.specs.Bytes.{queued_in}
use Rattle.queued.proofs.Held.{holds}
use Rattle.queued.proofs.Given.{alone_answer, alone_left, refused_left}
use Rattle.queued.proofs.cancelled.cancel_carrier_out.Goals as goal

chosen : {a b c d : Bool} → a ≡ b → c ≡ d → judge (unless a 1 ∷ unless c 5 ∷ []) ≡ judge (unless b 1 ∷ unless d 5 ∷ [])
chosen p q = rw (p, q)

pub some_waits_of-waits-requires : goal.some_waits_of-waits-requires
some_waits_of-waits-requires c = holds c.args.m.now c.requires

pub drop_of-requires : goal.drop_of-requires
drop_of-requires c = holds c.args.m.now c.requires

pub returns : goal.returns
unfolding see row_of
returns c =
    let input : Input =
    numbered 29 c.args.i in
    let line : List Request =
    queue_of (own_in c.args.m.now) in
    let its : Row =
    cancel_carrier_out line (see (base_of (state_of (queued_in c.args.m.now))) input) in
    let row : row_in (state_of (queued_in c.args.m.now)) input ≡ its =
    refl in
    let judged : answer c.cancel_carrier_out_answer.result ≡ lowest its.grounds =
    c.cancel_carrier_out_answer.ensures
    ∙ chosen c.is_name.ensures
    (c.some_waits_of-waits.ensures ∙ ap (λ n. any (waits_of n) line) c.in_bytes-name.ensures)
    ∙ first_is_lowest 1 its.grounds (omega arith) refl in
    let two : 1 < length c.args.m.now =
    search rules in
    let m = c.args.m.now in
    let h : Holds c.drop_of.new.m (dropped (in_bytes c.args.i.name.now) line) =
    rw c.in_bytes-name.ensures at c.drop_of.ensures.holds in let both = alone_left m c.requires input its.grounds its.queue row (sym judged ∙ ap answer c.in_default.is) c.drop_of.new.m _ _
    two c.drop_of.ensures.kept_outside h c.unmoved-2.ensures.value c.unmoved-2.ensures.o_after in record { result_after = both.0; kept_outside = both.1 }

pub returns-in-Err : goal.returns-in-Err
unfolding row_of see
returns-in-Err c =
    let input : Input =
    numbered 29 c.args.i in
    let line : List Request =
    queue_of (own_in c.args.m.now) in
    let its : Row =
    cancel_carrier_out line (see (base_of (state_of (queued_in c.args.m.now))) input) in
    let row : row_in (state_of (queued_in c.args.m.now)) input ≡ its =
    refl in
    let judged : answer c.cancel_carrier_out_answer.result ≡ lowest its.grounds =
    c.cancel_carrier_out_answer.ensures
    ∙ chosen c.is_name.ensures
    (c.some_waits_of-waits.ensures ∙ ap (λ n. any (waits_of n) line) c.in_bytes-name.ensures)
    ∙ first_is_lowest 1 its.grounds (omega arith) refl in
    let m = c.args.m.now in
    let e = alone_answer m c.requires input its.grounds its.queue row ∙ sym judged ∙ ap answer c.in-Err.is in let both = refused_left m c.requires input _ _ _ e c.unmoved.ensures.value c.unmoved.ensures.o_after in record { result_after = both.0; kept_outside = both.1 }
