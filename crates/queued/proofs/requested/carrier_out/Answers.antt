use Rattle.std.proofs.Common.{rules}
use native.Mathlib.Omega.{arith}
use Prim.Native.Nat.{◌<◌}
use mathlib.Core.Path.{◌≡◌, refl, sym, ap, ◌∙◌}
use mathlib.Core.Bool.{Bool}
use mathlib.Core.List.{List, [], ◌∷◌}
use lib.ListN.{length, get_or}
use borrow.Author.Tests.{leb-false}
use Rattle.records.specs.Carriers.{in_buffer}
use Rattle.records.specs.Refusals.{answer}
use Rattle.rules.specs.declared.row.Seen.{Seen}
use Rattle.rules.specs.State as base
use Rattle.rules.specs.Seen.{Input, see, numbered}
use Rattle.rules.specs.Row.{when, unless, judge, lowest}
use Rattle.rules.proofs.Lowest.{first_is_lowest}
use Rattle.rules.proofs.Accepts.{clear}
use Rattle.image.specs.Image.{tool_from}
use Rattle.mapped.specs.Bytes.{own_in}
use Rattle.queue.specs.declared.request.Request.{Request}
use Rattle.queue.specs.Requests.{is_queued}
use Rattle.queue.specs.State.{state_of}
use Rattle.queue.specs.Rows.{row_of, carrier_out}
use Rattle.queue.specs.Outcome.{row_in}
use Rattle.line.specs.Bytes.{queue_of}
use Rattle.queued.specs.Bytes.{queued_in}
use Rattle.queued.proofs.Held.{held, holds}
use Rattle.queued.proofs.Given.{see_number, alone_answer, alone_left, refused_left}
use Rattle.queued.proofs.requested.carrier_out.Goals as goal

-- what the row is judged by
asked : (x y : Seen) (a b c d : Bool) → x ≡ y → a ≡ b → c ≡ d
    → judge (unless x.named 1 ∷ unless x.isport 1 ∷ unless x.known 2 ∷ unless (in_buffer x.found) 5 ∷ when a 9 ∷ when c 10 ∷ [])
    ≡ judge (unless y.named 1 ∷ unless y.isport 1 ∷ unless y.known 2 ∷ unless (in_buffer y.found) 5 ∷ when b 9 ∷ when d 10 ∷ [])
asked x y a b c d p q r = rw (p, q, r)

pub look-x-requires : goal.look-x-requires
look-x-requires c = held c.args.m.now c.requires

pub is_full-full-requires : goal.is_full-full-requires
is_full-full-requires c = holds c.args.m.now c.requires

pub is_queued-queued-requires : goal.is_queued-queued-requires
is_queued-queued-requires c = holds c.args.m.now c.requires

pub add-requires : goal.add-requires
add-requires c =
    let input : Input =
    numbered 7 c.args.i in
    let line : List Request =
    queue_of (own_in c.args.m.now) in
    let seen : Seen =
    see (base.state_of (tool_from (get_or c.args.m.now 0 []))) input in
    let looked : c.look-x.result ≡ seen =
    see_number _ 7 c.args.i.number c.args.i.port c.args.i.value c.args.i.name.now c.args.i.codes.now _ c.look-x.ensures in
    let first_judged : answer c.carrier_out_answer.result ≡ judge (carrier_out line seen).grounds =
    let e = looked in
    c.carrier_out_answer.ensures
    ∙ asked _ _ _ _ _ _ e c.is_full-full.ensures (c.is_queued-queued.ensures ∙ ap (λ (x : Seen). is_queued x.name line) e) in
    let gs = (carrier_out line seen).grounds in
    let e = clear gs refl (sym first_judged ∙ ap answer c.in_default.is) in
    record { holds = holds c.args.m.now c.requires; m_len_bound = leb-false 16 (length line) e.1.1.1.1.0 }

pub returns : goal.returns
unfolding row_of
returns c =
    let input : Input =
    numbered 7 c.args.i in
    let line : List Request =
    queue_of (own_in c.args.m.now) in
    let seen : Seen =
    see (base.state_of (tool_from (get_or c.args.m.now 0 []))) input in
    let row : row_in (state_of (queued_in c.args.m.now)) input ≡ carrier_out line seen =
    refl in
    let two : 1 < length c.args.m.now =
    search rules in
    let looked : c.look-x.result ≡ seen =
    see_number _ 7 c.args.i.number c.args.i.port c.args.i.value c.args.i.name.now c.args.i.codes.now _ c.look-x.ensures in
    let first_judged : answer c.carrier_out_answer.result ≡ judge (carrier_out line seen).grounds =
    let e = looked in
    c.carrier_out_answer.ensures
    ∙ asked _ _ _ _ _ _ e c.is_full-full.ensures (c.is_queued-queued.ensures ∙ ap (λ (x : Seen). is_queued x.name line) e) in
    let judged : answer c.carrier_out_answer.result ≡ lowest (carrier_out line seen).grounds =
    first_judged ∙ first_is_lowest 1 (carrier_out line seen).grounds (omega arith) refl in
    let m = c.args.m.now in
    let e = looked in
    let x = carrier_out line seen in let both = alone_left m c.requires input x.grounds x.queue row (sym judged ∙ ap answer c.in_default.is) _ _ _ two
    c.add.ensures.kept_outside
    (rw (ap (λ (y : Seen). y.name) e, ap (λ (y : Seen). y.port) e) at c.add.ensures.holds_2) c.unmoved-2.ensures.value c.unmoved-2.ensures.o_after in record { result_after = both.0; kept_outside = both.1 }

pub returns-in-Err : goal.returns-in-Err
unfolding row_of
returns-in-Err c =
    let input : Input =
    numbered 7 c.args.i in
    let line : List Request =
    queue_of (own_in c.args.m.now) in
    let seen : Seen =
    see (base.state_of (tool_from (get_or c.args.m.now 0 []))) input in
    let row : row_in (state_of (queued_in c.args.m.now)) input ≡ carrier_out line seen =
    refl in
    let looked : c.look-x.result ≡ seen =
    see_number _ 7 c.args.i.number c.args.i.port c.args.i.value c.args.i.name.now c.args.i.codes.now _ c.look-x.ensures in
    let first_judged : answer c.carrier_out_answer.result ≡ judge (carrier_out line seen).grounds =
    let e = looked in
    c.carrier_out_answer.ensures
    ∙ asked _ _ _ _ _ _ e c.is_full-full.ensures (c.is_queued-queued.ensures ∙ ap (λ (x : Seen). is_queued x.name line) e) in
    let judged : answer c.carrier_out_answer.result ≡ lowest (carrier_out line seen).grounds =
    first_judged ∙ first_is_lowest 1 (carrier_out line seen).grounds (omega arith) refl in
    let m = c.args.m.now in
    let x = carrier_out line seen in
    let e = alone_answer m c.requires input x.grounds x.queue row ∙ sym judged ∙ ap answer c.in-Err.is in let both = refused_left m c.requires input _ _ _ e c.unmoved.ensures.value c.unmoved.ensures.o_after in record { result_after = both.0; kept_outside = both.1 }
