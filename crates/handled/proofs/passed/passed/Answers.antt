use native.Mathlib.Omega.{arith}
use Prim.Native.Nat.{ℕ}
use mathlib.Core.Path.{◌≡◌, ap, sym, subst, ◌∙◌}
use mathlib.Core.List.{[]}
use lib.ListN.{get_or, set}
use Rattle.rules.specs.State.{spot_of}
use Rattle.rules.specs.Seen.{narrow}
use Rattle.image.specs.Image.{tool_from, reports_from}
use Rattle.parts.specs.Told.{note_all}
use Rattle.follow.proofs.Entries.{kept_twice}
use Rattle.line.proofs.Changed.{kept_wider}
use Rattle.mapped.specs.Bytes.{own_in}
use Rattle.predicted.specs.Bytes.{predicted_in}
use Rattle.std.specs.Prelude.{Result}
use Rattle.records.specs.declared.refusal.Refusal.{Refusal}
use Rattle.records.specs.Refusals.{answer}
use Rattle.handled.proofs.Refused.{same_answer, not_zero}
use Rattle.wafers.specs.Outcome.{brought_in}
use Rattle.hands.specs.Outcome.{all_settled, alarms_told}
use Rattle.handled.specs.Bytes.{alarms_from, left}
use Rattle.handled.proofs.Held.{below_is}
use Rattle.handled.proofs.Below.{accepted_left, refused_left}
use Rattle.handled.proofs.passed.passed.Goals as goal

pub brought_step-requires : goal.brought_step-requires
brought_step-requires c = below_is c.args.m.now c.requires.m_value

pub returns : goal.returns
returns c =
    let m = c.args.m.now in
    let e = c.brought_step.ensures in
    let w = c.settle_all.ensures in
    let n = c.brought_step.new.m in
    let g = ap (λ (r : Result Unit Refusal). record { tool = predicted_in n; answer = answer r; reports = reports_from c.brought_step.new.o }) (sym c.in_ok-brought_step.was) ∙ e.result_after in
    let at : ℕ → Type 0 = λ p.
    let l = all_settled (tool_from (get_or n 0 [])).ports (set (alarms_from (own_in n)) (spot_of p) c.args.a) in
    (alarms_from (own_in c.settle_all.new.m) ≡ l)
    × (reports_from c.settle_all.new.o ≡ note_all (reports_from c.brought_step.new.o) (alarms_told 1 (alarms_from (own_in n)) l)) in
    let v = subst at c.narrow.ensures (w.m_after, w.o_after) in record {
      result_after = accepted_left m c.requires.m_value (brought_in c.args.i) (narrow c.args.i.timed.input.port) c.args.a c.requires.none_elsewhere n c.settle_all.new.m c.brought_step.new.o c.settle_all.new.o
          g e.kept_outside w.m_unchanged v.0 v.1 w.kept_outside;
      kept_outside = kept_twice 0 1605 _ _ _ (kept_wider (omega arith) (omega arith) e.kept_outside) (kept_wider (omega arith) (omega arith) w.kept_outside);
    }

pub returns-in_err-brought_step : goal.returns-in_err-brought_step
returns-in_err-brought_step c =
    let e = c.brought_step.ensures in
    let n = c.brought_step.new.m in
    let w = c.in_err-brought_step.was in
    let f = c.from_residual.ensures.1 in
    let r = c.in_err-brought_step.field-0.0 in
    let g = ap (λ k. record { tool = predicted_in n; answer = k; reports = reports_from c.brought_step.new.o }) (same_answer c.brought_step.result c.from_residual.result r w f) ∙ e.result_after in
    record {
      result_after = refused_left c.args.m.now c.requires.m_value (brought_in c.args.i) (narrow c.args.i.timed.input.port) c.args.a c.requires.none_elsewhere n
          c.brought_step.new.o (answer c.from_residual.result) g (not_zero c.brought_step.result c.from_residual.result r w f) e.kept_outside;
      kept_outside = kept_wider (omega arith) (omega arith) e.kept_outside;
    }
