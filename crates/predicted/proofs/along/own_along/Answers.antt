use Rattle.std.proofs.Common.{rules}
use native.Mathlib.Omega.{arith}
use Prim.Native.Nat.{◌<◌, ◌≤◌}
use mathlib.Core.Path.{◌≡◌, refl, ap, sym, ◌∙◌}
use mathlib.Core.List.{[]}
use lib.ListN.{length, get_or, set}
use Rattle.lists.specs.Lists.{fill}
use Rattle.lists.proofs.Tables.{set_fill}
use Rattle.rules.specs.State.{record_of}
use Rattle.rules.proofs.Holding.{record_held}
use Rattle.image.specs.Image.{tool_from}
use Rattle.parts.specs.Told.{note_all}
use Rattle.follow.proofs.Entries.{kept_all}
use Rattle.mapped.specs.Bytes.{own_in}
use Rattle.prediction.specs.Predictions.{no_prediction}
use Rattle.prediction.specs.Outcome.{written, own_facts}
use Rattle.prediction.specs.Sound.{is_ready}
use Rattle.times.specs.Bytes.{predictions_from}
use Rattle.predicted.specs.Bytes.{base_in, used_in, own_moved}
use Rattle.predicted.proofs.Movers.{own_then, base_then, kept_then, own_facts_are, ended_is, told_is, told_of, written_state}
use Rattle.predicted.proofs.Movers.{used_at, used_long, past_stays, past_told}
use Rattle.predicted.proofs.along.own_along.Goals as goal

pub is_ready-ready-requires : goal.is_ready-ready-requires
is_ready-ready-requires c = c.requires.held

pub put_prediction-requires : goal.put_prediction-requires
put_prediction-requires c =
    let e = c.from.ensures ∙ c.count.ensures in
    let l = c.if-k-from.true in
    let f = c.requires.held.few_carriers in
    omega arith

pub returns-then-k-from : goal.returns-then-k-from
returns-then-k-from c =
    let here : c.record_at-c.result ≡ record_of (base_in c.args.m.now) c.args.k =
    c.record_at-c.ensures ∙ record_held (tool_from (get_or c.args.m.now 0 [])) c.requires.held c.args.k in
    let within : c.args.k < (tool_from (get_or c.args.m.now 0 [])).count =
    let e = c.from.ensures ∙ c.count.ensures in
    let l = c.if-k-from.true in
    omega arith in
    let was : c.prediction_at-p.result ≡ get_or (used_in c.args.m.now) c.args.k no_prediction =
    c.prediction_at-p.ensures ∙ used_at c.args.m.now c.args.k within in
    let writes : c.written-w.result ≡ written c.args.number c.args.t c.args.time (get_or (used_in c.args.m.now) c.args.k no_prediction) =
    c.written-w.ensures ∙ ap (written c.args.number c.args.t c.args.time) was in
    let asks : c.own_facts-f.result ≡ own_facts c.args.number c.args.t (get_or (used_in c.args.m.now) c.args.k no_prediction) (is_ready (base_in c.args.m.now) (record_of (base_in c.args.m.now) c.args.k)) =
    own_facts_are c.args.number c.args.t (base_in c.args.m.now) c.own_facts-f.ensures c.is_ready-ready.ensures was here in
    let two : 1 < length c.args.m.now =
    search rules in
    let a = c.args in
    let m = a.m.now in
    let w = c.put_prediction.new.m in
    let long : 1 < length m = two in
    let l = used_long m c.requires.held in
    let b : a.k < length (used_in m) = let i = within in omega arith in
    let moved_to = (own_moved a.number a.t a.time (base_in m) (used_in m) a.k).prediction in
    let x = ended_is asks writes c.moves_along-last.ensures.value c.in_state.ensures in record {
      m_unchanged = base_then m w long;
      m_after = ap predictions_from (own_then m w long) ∙ c.put_prediction.ensures.m_after ∙ ap (set (predictions_from (own_in m)) a.k) x
          ∙ ap (λ l. set l a.k moved_to) c.requires.none_after ∙ set_fill 36 no_prediction (used_in m) a.k moved_to b;
      o_after = c.moves_along-last.ensures.o_after
          ∙ told_is _ asks writes (ap (λ c. c.name) here)
          ∙ ap (note_all _) (told_of refl (written_state a.number a.t a.time (get_or (used_in m) a.k no_prediction)) refl);
      kept_outside = kept_then m w long c.put_prediction.ensures.kept_outside;
    }

pub returns-else-k-from : goal.returns-else-k-from
returns-else-k-from c =
    let a = c.args in
    let m = a.m.now in
    let e = c.from.ensures ∙ c.count.ensures in
    let l = used_long m c.requires.held in
    let n = c.if-k-from.false in
    let past : length (used_in m) ≤ a.k = omega arith in record { m_unchanged = refl; m_after = c.requires.none_after ∙ ap (fill 36 no_prediction) (sym (past_stays a.number a.t a.time (base_in m) (used_in m) a.k past _)); o_after = past_told a.number a.t a.time (base_in m) (used_in m) a.k past _ _; kept_outside = kept_all 1201 1597 (own_in m) }
