use Prim.Native.Nat.{◌≤◌}
use mathlib.Core.Path.{◌≡◌, ap, sym, subst⁻¹, ◌∙◌}
use mathlib.Core.List.{List, []}
use lib.ListN.{length, get_or, length-set}
use Rattle.lists.specs.Lists.{fill}
use Rattle.rules.specs.State.{state_of}
use Rattle.rules.specs.Held.{Held}
use Rattle.image.specs.Image.{tool_from}
use Rattle.parts.specs.Told.{note_all}
use Rattle.follow.proofs.Entries.{kept_twice}
use Rattle.prediction.specs.declared.prediction.Prediction.{Prediction}
use Rattle.prediction.specs.Predictions.{no_prediction}
use Rattle.predicted.specs.Bytes.{base_in, used_in, own_after}
use Rattle.predicted.proofs.Movers.{used_long, fits, used_then, none_then, noted_twice, all_along_of, all_told_of}
use Rattle.predicted.proofs.moved.moved_along.Goals as goal

pub all_along-requires : goal.all_along-requires
all_along-requires c =
    let second : List Prediction =
    own_after c.args.number c.args.t c.args.time (base_in c.args.m.now) (used_in c.args.m.now) c.args.k in
    let long : length second ≡ (tool_from (get_or c.own_along.new.m 0 [])).count =
    simp length-set (used_long c.args.m.now c.requires.held ∙ ap (λ b. (tool_from b).count) (sym c.own_along.ensures.m_unchanged)) in
    let few : length second ≤ 36 =
    simp length-set (fits c.args.m.now c.requires.held) in
    record { held = subst⁻¹ (λ b. Held (tool_from b)) c.own_along.ensures.m_unchanged c.requires.held; none_after = none_then c.own_along.new.m second c.own_along.ensures.m_after long few }

pub returns : goal.returns
returns c =
    let second : List Prediction =
    own_after c.args.number c.args.t c.args.time (base_in c.args.m.now) (used_in c.args.m.now) c.args.k in
    let long : length second ≡ (tool_from (get_or c.own_along.new.m 0 [])).count =
    simp length-set (used_long c.args.m.now c.requires.held ∙ ap (λ b. (tool_from b).count) (sym c.own_along.ensures.m_unchanged)) in
    let few : length second ≤ 36 =
    simp length-set (fits c.args.m.now c.requires.held) in
    let base_same : base_in c.own_along.new.m ≡ base_in c.args.m.now =
    ap (λ b. state_of (tool_from b)) c.own_along.ensures.m_unchanged in
    let used_is : used_in c.own_along.new.m ≡ second =
    used_then c.own_along.new.m second c.own_along.ensures.m_after long few in
    let a = c.args in
    let e = c.all_along.ensures in
    let b = c.own_along.ensures in record {
      m_unchanged = e.m_unchanged ∙ b.m_unchanged;
      m_after = e.m_after ∙ ap (fill 36 no_prediction) (all_along_of a.number a.t c.is_timed.ensures base_same used_is);
      o_after = noted_twice _ _ _ _ _ b.o_after
          (e.o_after ∙ ap (note_all _) (all_told_of a.number a.t c.is_timed.ensures base_same used_is));
      kept_outside = kept_twice 1201 1597 _ _ _ b.kept_outside e.kept_outside;
    }
