use Rattle.std.proofs.Common.{◌≤◌, [], ◌∷◌, sym, ap, ◌∙◌, arith}
use Rattle.image.specs.Image.{byte_at, reports_from}
use Rattle.image.proofs.Reported.{reported_is}
use Rattle.logs.proofs.After.{now_in, stripped}
use Rattle.logs.proofs.Compared.{none_begun, begun, none_next, next, all_after}
use Rattle.logs.proofs.shown.after_shown.Goals as goal

pub returns-in_err-rest : goal.returns-in_err-rest
returns-in_err-rest c =
    let o = c.args.o.now in
    let h = stripped c.args.l.now (c.args.answer ∷ byte_at o 0 ∷ []) c.strip_prefix.result c.strip_prefix.ensures.cases in
    ap now_in c.from_residual.ensures ∙ sym (none_begun o c.requires c.args.answer c.args.l.now (sym h ∙ ap now_in c.in_err-rest.was))

pub loop-k-init : goal.loop-k-init
loop-k-init c =
    let o = c.args.o.now in
    let h = stripped c.args.l.now (c.args.answer ∷ byte_at o 0 ∷ []) c.strip_prefix.result c.strip_prefix.ensures.cases in
    begun o c.requires c.args.answer c.args.l.now c.in_ok-rest.rest.now (sym h ∙ ap now_in c.in_ok-rest.was)

pub after_report-requires : goal.after_report-requires
after_report-requires c =
    let few : (reports_from c.args.o.now).count ≤ 10 = c.requires in
    let e = reported_is c.args.o.now in
    omega (arith, c.from-k-end.ensures)

pub returns-in_err-rest-2 : goal.returns-in_err-rest-2
returns-in_err-rest-2 c =
    let l = c.loop-k in
    let g = none_next c.args.o.now c.requires c.args.answer c.args.l.now l.rest.now l.k l.invariant (omega (arith, c.from-k-end.ensures))
    (sym c.after_report.ensures ∙ ap now_in c.in_err-rest-2.was) in
    ap now_in c.from_residual-in_err-rest-2.ensures ∙ sym g

pub loop-k-preserved : goal.loop-k-preserved
loop-k-preserved c =
    let l = c.loop-k in
    next c.args.o.now c.requires c.args.answer c.args.l.now l.rest.now l.k l.invariant (omega (arith, c.from-k-end.ensures)) c.in_ok-rest-2.rest.now
    (sym c.after_report.ensures ∙ ap now_in c.in_ok-rest-2.was)

pub returns : goal.returns
returns c =
    let l = c.loop-k in
    all_after c.args.o.now c.requires c.args.answer c.args.l.now l.rest.now l.k l.invariant (omega (arith, c.from-k-end.ensures))
