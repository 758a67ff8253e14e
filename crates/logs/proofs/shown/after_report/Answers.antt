use Rattle.std.proofs.Common.{[], ◌∷◌, length, sym, ap, ◌∙◌}
use Rattle.image.specs.Image.{report_from}
use Rattle.logs.specs.Layout.{on_name}
use Rattle.logs.proofs.After.{now_in, stripped, on_port, no_model, no_text, then_ends}
use Rattle.logs.proofs.shown.after_report.Goals as goal

pub returns-in_err-named : goal.returns-in_err-named
returns-in_err-named c =
    let r = report_from c.args.o.now c.args.from in
    let e = ap on_name (sym c.from.ensures) ∙ sym c.on_name.ensures ∙ c.if-on_name.true in
    let text = c.text-name.result.now in
    let h = stripped c.args.l.now (r.model ∷ length text ∷ []) c.strip_prefix.result c.strip_prefix.ensures.cases in
    let g = no_model c.args.l.now r e text c.text-name.ensures.value (sym h ∙ ap now_in c.in_err-named.was) in
    ap now_in c.from_residual.ensures ∙ sym g

pub returns-in_err-told : goal.returns-in_err-told
returns-in_err-told c =
    let r = report_from c.args.o.now c.args.from in
    let e = ap on_name (sym c.from.ensures) ∙ sym c.on_name.ensures ∙ c.if-on_name.true in
    let text = c.text-name.result.now in
    let named = c.in_ok-named.named.now in
    let h = stripped c.args.l.now (r.model ∷ length text ∷ []) c.strip_prefix.result c.strip_prefix.ensures.cases in
    let k = stripped named text c.strip_prefix-then-on_name.result c.strip_prefix-then-on_name.ensures.cases in
    let g = no_text c.args.l.now r e text c.text-name.ensures.value named (sym h ∙ ap now_in c.in_ok-named.was) (sym k ∙ ap now_in c.in_err-told.was) in
    ap now_in c.from_residual-in_err-told.ensures ∙ sym g

pub returns-in_ok-told : goal.returns-in_ok-told
returns-in_ok-told c =
    let r = report_from c.args.o.now c.args.from in
    let e = ap on_name (sym c.from.ensures) ∙ sym c.on_name.ensures ∙ c.if-on_name.true in
    let text = c.text-name.result.now in
    let named = c.in_ok-named.named.now in
    let told = c.in_ok-told.told.now in
    let h = stripped c.args.l.now (r.model ∷ length text ∷ []) c.strip_prefix.result c.strip_prefix.ensures.cases in
    let k = stripped named text c.strip_prefix-then-on_name.result c.strip_prefix-then-on_name.ensures.cases in
    let g = then_ends c.args.l.now r e text c.text-name.ensures.value named (sym h ∙ ap now_in c.in_ok-named.was) told (sym k ∙ ap now_in c.in_ok-told.was) in
    stripped told (r.old ∷ r.new ∷ []) c.strip_prefix-then-on_name-2.result c.strip_prefix-then-on_name-2.ensures.cases ∙ sym g

pub returns-else-on_name : goal.returns-else-on_name
returns-else-on_name c =
    let r = report_from c.args.o.now c.args.from in
    let e = ap on_name (sym c.from.ensures) ∙ sym c.on_name.ensures ∙ c.if-on_name.false in
    stripped c.args.l.now (r.model ∷ r.port ∷ r.old ∷ r.new ∷ []) c.strip_prefix-else-on_name.result c.strip_prefix-else-on_name.ensures.cases
    ∙ sym (on_port c.args.l.now r e)
