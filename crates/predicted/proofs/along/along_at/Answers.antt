use Rattle.std.proofs.Common.{rules}
use Prim.Native.Nat.{◌<◌}
use mathlib.Core.Path.{◌≡◌, refl, ap, sym, ◌∙◌}
use mathlib.Core.List.{[]}
use lib.ListN.{length, get_or, set}
use Rattle.rules.specs.State.{record_of}
use Rattle.rules.proofs.Holding.{record_held}
use Rattle.image.specs.Image.{tool_from}
use Rattle.follow.proofs.Entries.{kept_all}
use Rattle.mapped.specs.Bytes.{own_in}
use Rattle.prediction.specs.Predictions.{no_prediction}
use Rattle.times.specs.Bytes.{predictions_from}
use Rattle.predicted.specs.Bytes.{base_in, facts_in}
use Rattle.predicted.proofs.Quiet.{on_the_way}
use Rattle.predicted.proofs.Movers.{own_then, base_then, kept_then, facts_are, ended_is, told_is, stays_there, nothing_told}
use Rattle.predicted.proofs.along.along_at.Goals as goal

pub is_ready-ready-requires : goal.is_ready-ready-requires
is_ready-ready-requires c = c.requires.held

pub put_prediction-requires : goal.put_prediction-requires
put_prediction-requires c =
    c.requires.k_bound

pub returns-then-contains : goal.returns-then-contains
returns-then-contains c =
    let here : c.record_at-c.result ≡ record_of (base_in c.args.m.now) c.args.k =
    c.record_at-c.ensures ∙ record_held (tool_from (get_or c.args.m.now 0 [])) c.requires.held c.args.k in
    let its : c.all_facts-f.result ≡ facts_in c.args.timed c.args.t (base_in c.args.m.now) (record_of (base_in c.args.m.now) c.args.k) (get_or (predictions_from (own_in c.args.m.now)) c.args.k no_prediction) =
    facts_are c.args.timed c.args.t (base_in c.args.m.now) c.all_facts-f.ensures c.is_ready-ready.ensures c.prediction_at-p.ensures here in
    let two : 1 < length c.args.m.now =
    search rules in
    let m = c.args.m.now in
    let w = c.put_prediction.new.m in
    let long : 1 < length m = two in
    let p = c.prediction_at-p.ensures in record {
      m_unchanged = base_then m w long;
      m_after = ap predictions_from (own_then m w long) ∙ c.put_prediction.ensures.m_after
          ∙ ap (set (predictions_from (own_in m)) c.args.k) (ended_is its p c.moves_along-last.ensures.value c.in_state.ensures);
      o_after = c.moves_along-last.ensures.o_after ∙ told_is _ its p (ap (λ c. c.name) here);
      kept_outside = kept_then m w long c.put_prediction.ensures.kept_outside;
    }

pub returns-else-contains : goal.returns-else-contains
returns-else-contains c =
    let m = c.args.m.now in
    let ps = predictions_from (own_in m) in
    let on : c.contains.result ≡ on_the_way c.state_at-state.result = search rules in
    let off = ap on_the_way (sym c.state_at-state.ensures) ∙ sym on ∙ c.if-contains.false in record { m_unchanged = refl; m_after = stays_there c.args.timed c.args.t (base_in m) (record_of (base_in m) c.args.k) ps c.args.k off; o_after = nothing_told c.args.timed c.args.t (base_in m) (record_of (base_in m) c.args.k) ps c.args.k off _ _; kept_outside = kept_all 1201 1597 (own_in m) }
