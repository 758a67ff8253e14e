use Rattle.std.proofs.Common.{rules}
use native.Mathlib.Omega.{arith}
use Prim.Native.Nat.{ℕ, ◌<◌}
use mathlib.Core.Path.{◌≡◌, refl, sym, ap, ◌∙◌}
use mathlib.Core.Bool.{false}
use mathlib.Core.List.{List, [], ◌∷◌}
use lib.ListN.{length, get_or, take}
use lib.Dec.{ltb}
use Rattle.lists.specs.Lists.{where_is}
use borrow.Author.Tests.{lt-ltb, le-ltb}
use Rattle.records.specs.Names.{no_name}
use Rattle.records.specs.Refusals.{answer}
use Rattle.rules.specs.State.{State}
use Rattle.rules.specs.Seen.{Input, narrow, see, numbered}
use Rattle.rules.specs.Row.{unless, lower, lowest, judge}
use Rattle.rules.specs.declared.row.Seen.{Seen}
use Rattle.rules.specs.Service.{reserve_at_port}
use Rattle.rules.specs.Inputs.{ReserveAtPort}
use Rattle.image.specs.Image.{tool_from}
use Rattle.mapped.specs.Bytes.{own_in}
use Rattle.queue.specs.declared.request.Request.{Request}
use Rattle.queue.specs.Requests.{is_ready, ready_stands, started}
use Rattle.queue.specs.State.{Queued, base_of, state_of}
use Rattle.queue.specs.Rows.{row_of}
use Rattle.queue.specs.Outcome.{row_in}
use Rattle.queue.proofs.HeldBack.{or_five, nothing_taken}
use Rattle.line.specs.Bytes.{queue_of, Holds}
use Rattle.queued.specs.Bytes.{queued_in}
use Rattle.queued.proofs.Held.{few, held, holds, mapped_sound, holds_kept, same_queue, state_sound}
use Rattle.queued.proofs.Given.{zero_of, not_zero_of, one_left, one_refused, conditions_left}
use Rattle.queued.proofs.outs.out_start.Goals as goal

stood_of : (s : State) (q : List Request) {p r : ℕ} {n w : ℕ} → p ≡ r → n ≡ w
    → where_is (is_ready s p) (take n q) ≡ where_is (is_ready s r) (take w q)
stood_of s q a b = rw (a, b)

pub ready_stands-k-requires : goal.ready_stands-k-requires
ready_stands-k-requires c =
    let e = c.from-n.ensures ∙ c.waiting.ensures in
    let f = few c.args.m.now c.requires in
    record { held = held c.args.m.now c.requires; n_bound = omega arith }

pub passed_on-r-requires : goal.passed_on-r-requires
passed_on-r-requires c = mapped_sound c.args.m.now c.requires

pub begin-requires : goal.begin-requires
begin-requires c =
    let line : List Request =
    queue_of (own_in c.args.m.now) in
    let state : Queued =
    state_of (queued_in c.args.m.now) in
    let stands : ℕ =
    ready_stands (base_of state) (narrow c.args.i.port) line in
    let counted : c.from-n.result ≡ length line =
    c.from-n.ensures ∙ c.waiting.ensures ∙ (holds c.args.m.now c.requires).waiting in
    let stood : c.ready_stands-k.result ≡ stands =
    c.ready_stands-k.ensures
    ∙ stood_of _ _ c.narrow.ensures (c.from-n.ensures ∙ c.waiting.ensures) in
    let inside : stands < length line =
    let a = stood in let b = counted in let l = c.if-k-n.true in omega arith in
    let m = c.args.m.now in
    let n = own_in c.passed_on-r.new.m in
    let k = c.passed_on-r.ensures.kept_outside in
    let e = ap length (same_queue m c.requires n k) in
    let a = stood in
    let l = inside in
    record { holds = holds_kept m c.requires n k; k_in_bounds = omega arith }

pub look-x-requires : goal.look-x-requires
look-x-requires c = held c.args.m.now c.requires

pub returns-else-is_err : goal.returns-else-is_err
unfolding row_of see lowest lower
returns-else-is_err c =
    let input : Input =
    numbered 27 c.args.i in
    let line : List Request =
    queue_of (own_in c.args.m.now) in
    let state : Queued =
    state_of (queued_in c.args.m.now) in
    let stands : ℕ =
    ready_stands (base_of state) (narrow c.args.i.port) line in
    let row : row_in state input ≡ record { grounds = unless (ltb stands (length line)) 5 ∷ []; stands = ReserveAtPort c.args.i.port ∷ []; queue = started stands line } =
    refl in
    let counted : c.from-n.result ≡ length line =
    c.from-n.ensures ∙ c.waiting.ensures ∙ (holds c.args.m.now c.requires).waiting in
    let stood : c.ready_stands-k.result ≡ stands =
    c.ready_stands-k.ensures
    ∙ stood_of _ _ c.narrow.ensures (c.from-n.ensures ∙ c.waiting.ensures) in
    let inside : stands < length line =
    let a = stood in let b = counted in let l = c.if-k-n.true in omega arith in
    let takes : lowest (unless (ltb stands (length line)) 5 ∷ []) ≡ 0 =
    rw (lt-ltb _ _ inside) in
    let two : 1 < length c.passed_on-r.new.m =
    search rules in
    let m = c.args.m.now in
    let k = c.passed_on-r.ensures.kept_outside in
    let w = c.begin.new.m in
    let h : Holds w (started stands line) =
    rw (stood, same_queue m c.requires (own_in c.passed_on-r.new.m) k) at c.begin.ensures.holds_2 in let both = one_left m c.requires input (ReserveAtPort c.args.i.port) _ (started stands line) row takes
    c.passed_on-r.new.m c.passed_on-r.new.o c.passed_on-r.result c.passed_on-r.ensures.result_after k (zero_of _ (sym c.is_err.ensures.value ∙ c.if-is_err.false)) w two
    c.begin.ensures.kept_outside h in record { result_after = both.0; kept_outside = both.1 }

pub returns-then-is_err : goal.returns-then-is_err
unfolding row_of see lowest lower
returns-then-is_err c =
    let input : Input =
    numbered 27 c.args.i in
    let line : List Request =
    queue_of (own_in c.args.m.now) in
    let state : Queued =
    state_of (queued_in c.args.m.now) in
    let stands : ℕ =
    ready_stands (base_of state) (narrow c.args.i.port) line in
    let row : row_in state input ≡ record { grounds = unless (ltb stands (length line)) 5 ∷ []; stands = ReserveAtPort c.args.i.port ∷ []; queue = started stands line } =
    refl in
    let counted : c.from-n.result ≡ length line =
    c.from-n.ensures ∙ c.waiting.ensures ∙ (holds c.args.m.now c.requires).waiting in
    let stood : c.ready_stands-k.result ≡ stands =
    c.ready_stands-k.ensures
    ∙ stood_of _ _ c.narrow.ensures (c.from-n.ensures ∙ c.waiting.ensures) in
    let inside : stands < length line =
    let a = stood in let b = counted in let l = c.if-k-n.true in omega arith in
    let takes : lowest (unless (ltb stands (length line)) 5 ∷ []) ≡ 0 =
    rw (lt-ltb _ _ inside) in let both = one_refused c.args.m.now c.requires input (ReserveAtPort c.args.i.port) _ (started stands line) row takes
    c.passed_on-r.new.m c.passed_on-r.new.o c.passed_on-r.result c.passed_on-r.ensures.result_after c.passed_on-r.ensures.kept_outside
    (not_zero_of _ (sym c.is_err.ensures.value ∙ c.if-is_err.true)) in record { result_after = both.0; kept_outside = both.1 }

pub returns-else-k-n : goal.returns-else-k-n
unfolding see
returns-else-k-n c =
    let input : Input =
    numbered 27 c.args.i in
    let line : List Request =
    queue_of (own_in c.args.m.now) in
    let state : Queued =
    state_of (queued_in c.args.m.now) in
    let stands : ℕ =
    ready_stands (base_of state) (narrow c.args.i.port) line in
    let counted : c.from-n.result ≡ length line =
    c.from-n.ensures ∙ c.waiting.ensures ∙ (holds c.args.m.now c.requires).waiting in
    let stood : c.ready_stands-k.result ≡ stands =
    c.ready_stands-k.ensures
    ∙ stood_of _ _ c.narrow.ensures (c.from-n.ensures ∙ c.waiting.ensures) in
    let none : ltb stands (length line) ≡ false =
    let a = stood in
    let b = counted in
    let l = c.if-k-n.false in
    le-ltb stands (length line) (omega arith) in
    let reserved : answer c.reserve_at_port_answer.result ≡ judge (reserve_at_port (see (base_of state) (ReserveAtPort c.args.i.port))).grounds =
    c.reserve_at_port_answer.ensures
    ∙ ap (λ (x : Seen). judge (reserve_at_port x).grounds) c.look-x.ensures in
    let m = c.args.m.now in
    let e = nothing_taken state input (state_sound m c.requires) refl none ∙ sym (ap or_five reserved) in
    let both = conditions_left m c.requires input c.reserve_at_port_answer.result _ _ e
    (c.unmoved.ensures.value ∙ ap (λ a. record { answer = a; goes = (tool_from (get_or m 0 [])).count; made = false; gone = no_name }) c.and-refused.ensures)
    c.unmoved.ensures.o_after in
    record { result_after = both.0; kept_outside = both.1 }
