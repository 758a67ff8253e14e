-- The refusals in their order, and what the tool gets.
use borrow.Author.Tests.{ltb-true, ltb-false}
use mathlib.Core.Path.{◌≡◌, refl, sym, ap, ◌∙◌}
use mathlib.Core.Bool.{◌&&◌}
use Rattle.std.proofs.lemmas.Result.{err_from_is_err_and}
use Rattle.records.specs.Refusals.{answer}
use Rattle.items.specs.Reading.{kept}
use Rattle.secs.specs.Actions.{row_found}
use Rattle.secs.specs.InPlace.{row_at}
use Rattle.secs.proofs.Answered.{in_reading, left_over, other_shape, in_shape_fact, when_refused, when_passed, unless_refused, unless_passed, other_refusal, has_row}
use Rattle.secs.proofs.request.request_of.Goals.{then-shape_at, else-shape_at}
use Rattle.secs.proofs.request.request_of.Goals as goal

pub returns-in_err-walk : goal.returns-in_err-walk
returns-in_err-walk c =
    let p = err_from_is_err_and c.from_residual.result c.from_residual.ensures.1 in
    rw (p.1, p.2) (in_reading c.args.msg.now (kept c.args.walk) c.requires _ (ap answer c.in_err-walk.was))

pub returns-in_err-when : goal.returns-in_err-when
returns-in_err-when c =
    let p = err_from_is_err_and c.from_residual-in_err-when.result c.from_residual-in_err-when.ensures.1 in
    let k = when_refused _ _ _ (sym c.when.ensures ∙ c.in_err-when.was) in
    rw (p.1, p.2, ← k.1)
    (left_over c.args.msg.now (kept c.args.walk) c.requires (ap answer c.in_ok-walk.was) (ltb-true _ _ k.0))

pub returns-in_err-unless : goal.returns-in_err-unless
returns-in_err-unless c =
    let p = err_from_is_err_and c.from_residual-in_err-unless.result c.from_residual-in_err-unless.ensures.1 in
    let k = unless_refused _ _ _ (sym c.unless.ensures ∙ c.in_err-unless.was) in
    let s : c.if-shape_at.unless ≡ (c.shape_at.result && c.args.walk.single) = elim c.if-shape_at.branch [
      | then-shape_at w ↦ rw w.if-shape_at.true w.unless-is
      | else-shape_at w ↦ rw w.if-shape_at.false (w.unless-is ∙ w.if-shape_at.false)
    ] in
    let l = ltb-false _ _ (when_passed _ _ (sym c.when.ensures ∙ c.in_ok-when.was)) in
    rw (p.1, p.2, ← k.1)
    (other_shape c.args.msg.now (kept c.args.walk) c.requires (ap answer c.in_ok-walk.was) l c.parts_at-p.result c.parts_at-p.ensures.value
    (row_at c.args.msg.now c.parts_at-p.result.action) refl c.shape_at.result c.shape_at.ensures (rw (sym s ∙ k.0)))

pub returns-in_err-action : goal.returns-in_err-action
returns-in_err-action c =
    let p = err_from_is_err_and c.from_residual-in_err-action.result c.from_residual-in_err-action.ensures.1 in
    let n = c.in_err-action.ensures.ok_part in
    let r = other_refusal _ _ _ n c.in_err-action.ensures.value in
    let s : c.if-shape_at.unless ≡ (c.shape_at.result && c.args.walk.single) = elim c.if-shape_at.branch [
      | then-shape_at w ↦ rw w.if-shape_at.true w.unless-is
      | else-shape_at w ↦ rw w.if-shape_at.false (w.unless-is ∙ w.if-shape_at.false)
    ] in
    let u = sym s ∙ unless_passed _ _ (sym c.unless.ensures ∙ c.in_ok-unless.was) in
    let l = ltb-false _ _ (when_passed _ _ (sym c.when.ensures ∙ c.in_ok-when.was)) in
    rw (p.1, p.2, ← r)
    (other_shape c.args.msg.now (kept c.args.walk) c.requires (ap answer c.in_ok-walk.was) l c.parts_at-p.result c.parts_at-p.ensures.value
    (row_found c.action_at.result) c.action_at.ensures c.shape_at.result c.shape_at.ensures (rw (u, n)))

pub returns : goal.returns
returns c =
    let a = c.in_ok-action.action in
    let n = c.in_ok-action.ensures.ok_part in
    let s : c.if-shape_at.unless ≡ (c.shape_at.result && c.args.walk.single) = elim c.if-shape_at.branch [
      | then-shape_at w ↦ rw w.if-shape_at.true w.unless-is
      | else-shape_at w ↦ rw w.if-shape_at.false (w.unless-is ∙ w.if-shape_at.false)
    ] in
    let u = sym s ∙ unless_passed _ _ (sym c.unless.ensures ∙ c.in_ok-unless.was) in
    let l = ltb-false _ _ (when_passed _ _ (sym c.when.ensures ∙ c.in_ok-when.was)) in
    rw c.taken.ensures
    (in_shape_fact c.args.msg.now (kept c.args.walk) c.requires (ap answer c.in_ok-walk.was) l c.parts_at-p.result c.parts_at-p.ensures.value
    (row_found c.action_at.result) c.action_at.ensures c.shape_at.result c.shape_at.ensures a (sym (ap row_found n)) (rw (u, n, has_row a)))
