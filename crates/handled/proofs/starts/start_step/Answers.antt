use mathlib.Core.Path.{ap, ◌∙◌}
use lib.Dec.{eqb}
use mathlib.Core.Bool.{◌&&◌}
use mathlib.Core.List.{List}
use Prim.Native.Nat.{ℕ}
use Rattle.lists.specs.Lists.{any}
use Rattle.records.specs.Refusals.{answer}
use Rattle.rules.specs.Seen.{see}
use Rattle.follow.proofs.Entries.{kept_all}
use Rattle.mapped.specs.Bytes.{own_in}
use Rattle.queue.specs.Requests.{started_to}
use Rattle.wafers.specs.Outcome.{brought_in}
use Rattle.hands.specs.State.{state_of}
use Rattle.handled.specs.Bytes.{handled_in}
use Rattle.queued.proofs.Held as queued
use Rattle.predicted.proofs.Held as predicted
use Rattle.handled.proofs.Held.{below_is, refused_is}
use Rattle.handled.proofs.Found.{no_choice, automatic_in_manual, raised_elsewhere, started}
use Rattle.handled.proofs.starts.start_step.Goals as goal

pub some_started_to-started-requires : goal.some_started_to-started-requires
some_started_to-started-requires c =
    let m : List (List ℕ) = c.args.m.now in
    queued.holds m (predicted.queue_is m (below_is m c.requires.m_value))

pub passed-requires : goal.passed-requires
unfolding see
passed-requires c =
    let at = c.find_port-at in
    record {
      m_value = c.requires.m_value;
      none_elsewhere = raised_elsewhere c.args.m.now c.requires.m_value (brought_in c.args.i) c.requires.number_value c.narrow-by.result c.narrow-by.ensures
          at.result.port at.ensures.port at.result.alarm at.ensures.alarm c.after_start.result c.after_start.ensures;
    }

pub returns-then-by-gt-AUTOMATIC : goal.returns-then-by-gt-AUTOMATIC
unfolding see
returns-then-by-gt-AUTOMATIC c =
    let m = c.args.m.now in
    record {
      result_after = refused_is m c.requires.m_value _ _ 1 c.refused.ensures.o_after (ap answer c.refused.ensures.value)
          ∙ no_choice m c.requires.m_value (brought_in c.args.i) c.requires.number_value _ c.narrow-by.ensures c.if-by-gt-AUTOMATIC.true;
      kept_outside = kept_all 0 1605 (own_in m);
    }

pub returns-then-by-at : goal.returns-then-by-at
unfolding see
returns-then-by-at c =
    let m = c.args.m.now in
    let at = c.find_port-at in
    let n = c.args.i.timed.input.number in
    let tested = ap (λ b. eqb n 13 && b) (c.some_started_to-started.ensures ∙ ap (λ p. any (started_to p) (state_of (handled_in m)).predicted.queued.queue) c.narrow.ensures) in
    record {
      result_after = refused_is m c.requires.m_value _ _ _ c.refused-then-by-at.ensures.o_after (ap answer c.refused-then-by-at.ensures.value)
          ∙ automatic_in_manual m c.requires.m_value (brought_in c.args.i) c.requires.number_value _ c.narrow-by.ensures
          at.result.port at.ensures.port c.if-by-gt-AUTOMATIC.false c.if-by-at.true _ _ _ at.ensures.is_port tested c.is_ready.ensures _ c.not_automatic-refusal.ensures;
      kept_outside = kept_all 0 1605 (own_in m);
    }

pub returns-else-by-at : goal.returns-else-by-at
unfolding see
returns-else-by-at c =
    let at = c.find_port-at in
    record {
      result_after = c.passed.ensures.result_after
          ∙ started c.args.m.now c.requires.m_value (brought_in c.args.i) c.requires.number_value _ c.narrow-by.ensures
          at.result.port at.ensures.port at.result.alarm at.ensures.alarm c.after_start.result c.after_start.ensures
          c.if-by-gt-AUTOMATIC.false c.if-by-at.false;
      kept_outside = c.passed.ensures.kept_outside;
    }
