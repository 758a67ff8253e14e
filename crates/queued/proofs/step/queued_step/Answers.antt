use Rattle.std.proofs.Common.{rules}
use native.Mathlib.Omega.{arith}
use mathlib.Core.Path.{◌∙◌}
use Rattle.rules.specs.Seen.{Input, input_in}
use Rattle.mapped.specs.Bytes.{own_in}
use Rattle.queue.proofs.Walk.{Plain}
use Rattle.queue.proofs.Passed.{plain_given}
use Rattle.line.proofs.Laid.{queue_long}
use Rattle.line.proofs.Changed.{kept_wider}
use Rattle.queued.specs.Bytes.{queued_in}
use Rattle.queued.proofs.Held.{mapped_sound}
use Rattle.queued.proofs.step.queued_step.Goals as goal

pub passed_on-requires : goal.passed_on-requires
passed_on-requires c = mapped_sound c.args.m.now c.requires

pub returns-in-6 : goal.returns-in-6
returns-in-6 c = record { result_after = rw c.in-6.is c.cancel_carrier.ensures.result_after; kept_outside = c.cancel_carrier.ensures.kept_outside }

pub returns-in-7 : goal.returns-in-7
returns-in-7 c = record { result_after = rw c.in-7.is c.carrier_out.ensures.result_after; kept_outside = c.carrier_out.ensures.kept_outside }

pub returns-in-19 : goal.returns-in-19
returns-in-19 c = record { result_after = rw c.in-19.is c.open_row.ensures.result_after; kept_outside = c.open_row.ensures.kept_outside }

pub returns-in-27 : goal.returns-in-27
returns-in-27 c = record { result_after = rw c.in-27.is c.out_start.ensures.result_after; kept_outside = c.out_start.ensures.kept_outside }

pub returns-in-28 : goal.returns-in-28
returns-in-28 c = record { result_after = rw c.in-28.is c.out_done.ensures.result_after; kept_outside = c.out_done.ensures.kept_outside }

pub returns-in-29 : goal.returns-in-29
returns-in-29 c = record { result_after = rw c.in-29.is c.cancel_carrier_out.ensures.result_after; kept_outside = c.cancel_carrier_out.ensures.kept_outside }

pub returns-in-30 : goal.returns-in-30
returns-in-30 c = record { result_after = rw c.in-30.is c.cancel_all_carrier_out.ensures.result_after; kept_outside = c.cancel_all_carrier_out.ensures.kept_outside }

pub returns-in_default : goal.returns-in_default
returns-in_default c =
    let input : Input =
    input_in c.args.i in
    let m = c.args.m.now in
    let plain : Plain c.args.i.number = record {
      not_six = (search rules);
      not_seven = (search rules);
      not_twelve = (search rules);
      not_thirteen = (search rules);
      not_nineteen = (search rules);
      not_out_start = (search rules);
      not_out_done = (search rules);
      not_cancel = (search rules);
      not_cancel_all = (search rules);
    } in record { result_after = c.passed_on.ensures.result_after ∙ plain_given (queued_in m) c.requires (queue_long (own_in m)) input plain; kept_outside = kept_wider (omega arith) (omega arith) c.passed_on.ensures.kept_outside }
