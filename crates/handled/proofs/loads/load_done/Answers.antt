use native.Mathlib.Omega.{arith}
use Prim.Native.Nat.{◌≤◌}
use mathlib.Core.Path.{◌≡◌, refl, ap, sym, subst, ◌∙◌}
use mathlib.Core.List.{[]}
use lib.ListN.{get_or}
use Rattle.records.specs.Refusals.{answer}
use Rattle.rules.specs.State.{spot_of}
use Rattle.rules.specs.Seen.{see, narrow}
use Rattle.image.specs.Image.{tool_from}
use Rattle.line.proofs.Changed.{kept_wider}
use Rattle.wafers.specs.Outcome.{Brought, brought_in, numbered}
use Rattle.hands.specs.Alarms.{no_alarm}
use Rattle.handled.specs.Bytes.{handled_in}
use Rattle.handled.specs.Passing.{passed_in}
use Rattle.handled.proofs.Held.{refused_is}
use Rattle.handled.proofs.Found.{no_alarm_elsewhere, held_twice, done, held_back}
use Rattle.handled.proofs.loads.load_done.Goals as goal

pub passed-requires-clause-none_elsewhere : goal.passed-requires-clause-none_elsewhere
passed-requires-clause-none_elsewhere c =
    let i : Brought = numbered 14 (brought_in c.args.i) in
    let e : (tool_from (get_or c.args.m.now 0 [])).used ≤ spot_of (narrow c.args.i.timed.input.port) → c.find_port-at.result.alarm ≡ no_alarm =
    λ b. c.find_port-at.ensures.alarm ∙ no_alarm_elsewhere c.args.m.now c.requires i b in
    subst (λ (i : Brought). (tool_from (get_or c.args.m.now 0 [])).used ≤ spot_of (narrow i.timed.input.port) → c.find_port-at.result.alarm ≡ no_alarm)
    (sym c.numbered.ensures) e

pub returns-then-at-eq-ON-clause-result_after : goal.returns-then-at-eq-ON-clause-result_after
unfolding see
returns-then-at-eq-ON-clause-result_after c =
    let m = c.args.m.now in
    refused_is m c.requires _ _ 5 c.refused.ensures.o_after (ap answer c.refused.ensures.value)
    ∙ held_twice m c.requires (numbered 14 (brought_in c.args.i)) _ c.find_port-at.ensures.alarm refl c.if-at-eq-ON.true

pub returns-then-at : goal.returns-then-at
unfolding see
returns-then-at c =
    let at = c.find_port-at in
    let w = c.settle_all.ensures in
    record {
      result_after = held_back c.args.m.now c.requires (numbered 14 (brought_in c.args.i)) _ at.ensures.alarm refl c.if-at-eq-ON.false
          at.result.port at.ensures.port c.if-at.true c.settle_all.new.m c.no_reports.new.m c.settle_all.new.o c.no_reports.ensures w.m_unchanged
          c.narrow.result c.narrow.ensures w.m_after w.o_after w.kept_outside;
      kept_outside = kept_wider (omega arith) (omega arith) w.kept_outside;
    }

pub returns-else-at-clause-result_after : goal.returns-else-at-clause-result_after
unfolding see
returns-else-at-clause-result_after c =
    let at = c.find_port-at in
    c.passed.ensures.result_after
    ∙ ap (λ (i : Brought). passed_in (handled_in c.args.m.now) i (narrow i.timed.input.port) at.result.alarm) c.numbered.ensures
    ∙ done c.args.m.now c.requires (numbered 14 (brought_in c.args.i)) _ at.ensures.alarm refl c.if-at-eq-ON.false
    at.result.port at.ensures.port c.if-at.false
