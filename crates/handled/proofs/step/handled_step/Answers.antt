-- the last arm: a number that is none of the four
use mathlib.Core.Path.{ap, ◌∙◌}
use borrow.Author.Tests.{ne_eqb}
use Rattle.std.proofs.Common.{rules}
use Rattle.rules.specs.Seen.{narrow}
use Rattle.wafers.specs.Outcome.{brought_in}
use Rattle.handled.specs.Bytes.{handled_in}
use Rattle.handled.specs.Passing.{passed_in}
use Rattle.handled.proofs.Found.{no_alarm_elsewhere}
use Rattle.handled.proofs.Rows.{other_given}
use Rattle.handled.proofs.step.handled_step.Goals as goal

pub passed-requires-clause-none_elsewhere : goal.passed-requires-clause-none_elsewhere
passed-requires-clause-none_elsewhere c = λ b. c.find_port.ensures.alarm ∙ no_alarm_elsewhere c.args.m.now c.requires (brought_in c.args.i) b

pub returns-in_default-clause-result_after : goal.returns-in_default-clause-result_after
returns-in_default-clause-result_after c =
    let t = handled_in c.args.m.now in
    let n = c.args.i.timed.input.number in
    c.passed.ensures.result_after
    ∙ ap (passed_in t (brought_in c.args.i) (narrow c.args.i.timed.input.port)) c.find_port.ensures.alarm
    ∙ other_given t (brought_in c.args.i) (rw (ne_eqb n 13 (search rules), ne_eqb n 14 (search rules), ne_eqb n 24 (search rules), ne_eqb n 36 (search rules)))
