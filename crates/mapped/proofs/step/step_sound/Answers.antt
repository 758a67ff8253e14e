use Rattle.std.proofs.Common.{rules}
use Prim.Native.Nat.{◌<◌}
use mathlib.Core.Path.{sym, ap, subst, ◌∙◌}
use mathlib.Core.List.{[]}
use lib.ListN.{length, get_or}
use Rattle.rules.specs.Seen.{input_in}
use Rattle.image.specs.Image.{tool_from}
use Rattle.follow.specs.Follow.{KeptOutside}
use Rattle.follow.proofs.Entries.{kept_all}
use Rattle.mapped.specs.Bytes.{maps_from, own_in}
use Rattle.mapped.proofs.Carried.{held_in, nothing_done, all_done, few, second_is, second_stays, two_are}
use Rattle.mapped.proofs.step.step_sound.Goals as goal

pub look-x-requires : goal.look-x-requires
look-x-requires c = held_in c.args.m.now c.requires

pub carry_out-requires : goal.carry_out-requires
carry_out-requires c =
    let k = held_in c.args.m.now c.requires in
    record { m_bound = k.few_ports; m_bound_2 = k.few_carriers }

pub follow-requires-clause-n_bound : goal.follow-requires-clause-n_bound
follow-requires-clause-n_bound c =
    let m = c.args.m.now in
    few (tool_from (get_or m 0 [])) (own_in m) (input_in c.args.i) c.requires (held_in m c.requires) _ _ _
    c.look-x.ensures c.codes_at-c.ensures c.amended_answer.ensures

pub returns-in-Err : goal.returns-in-Err
returns-in-Err c =
    let m = c.args.m.now in
    let g = nothing_done (tool_from (get_or m 0 [])) (own_in m) (input_in c.args.i) c.requires (held_in m c.requires) _ _ _
    c.look-x.ensures c.codes_at-c.ensures c.amended_answer.ensures _ c.in-Err.is in
    record {
      m_after = ap (λ x. x.tool) g;
      o_after = c.no_reports.ensures ∙ ap (λ x. x.reports) g;
      answer_value = ap (λ x. x.answer) g;
      goes_value = ap (λ x. x.goes) g;
      made_value = ap (λ x. x.made) g;
      gone_value = c.none.ensures ∙ ap (λ x. x.gone) g;
      kept_outside = kept_all 0 900 (own_in m);
    }

pub returns : goal.returns
returns c =
    let m = c.args.m.now in
    let y = c.carry_out.new.m in
    let w = c.follow.new.m in
    let two : 1 < length m = search rules in
    let other = second_stays m y w two in
    let g = all_done (tool_from (get_or m 0 [])) (own_in m) (input_in c.args.i) c.requires (held_in m c.requires) _ _ _
    c.look-x.ensures c.codes_at-c.ensures c.amended_answer.ensures _ c.in_default.is _ c.amended_effect-e.ensures
    _ c.new_map-new.ensures _ _ (ap maps_from other) c.follow.ensures.w_after in
    record {
      m_after = two_are m y w two _ c.carry_out.ensures.m_after ∙ ap (λ x. x.tool) g;
      o_after = c.carry_out.ensures.o_after ∙ ap (λ x. x.reports) g;
      answer_value = ap (λ x. x.answer) g;
      goes_value = ap (λ x. x.goes) g;
      made_value = ap (λ x. x.made) g;
      gone_value = c.name_at-gone.ensures ∙ ap (λ x. x.gone) g;
      kept_outside = subst (λ x. KeptOutside 0 900 (own_in m) x) (sym (second_is m y w two)) (subst (λ x. KeptOutside 0 900 x w) other c.follow.ensures.kept_outside);
    }
