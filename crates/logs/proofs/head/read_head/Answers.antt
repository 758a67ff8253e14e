use Rattle.std.proofs.Common.{arith}
use Rattle.std.proofs.lemmas.Grind.{common_steps}
use Rattle.logs.proofs.InPlace.{head_is}
use Rattle.logs.proofs.head.read_head.Goals as goal

pub returns-in_err-part : goal.returns-in_err-part
returns-in_err-part c = rw (head_is c.args.log.now) (grind (arith, common_steps))

pub returns-in_err-part-2 : goal.returns-in_err-part-2
returns-in_err-part-2 c = rw (head_is c.args.log.now) (grind (arith, common_steps))

pub returns-in_err-part-3 : goal.returns-in_err-part-3
returns-in_err-part-3 c = rw (head_is c.args.log.now) (grind (arith, common_steps))

pub returns-in_err-part-4 : goal.returns-in_err-part-4
returns-in_err-part-4 c = rw (head_is c.args.log.now) (grind (arith, common_steps))

pub returns-in_err-part-5 : goal.returns-in_err-part-5
returns-in_err-part-5 c = rw (head_is c.args.log.now) (grind (arith, common_steps))

pub returns-in_err-part-6 : goal.returns-in_err-part-6
returns-in_err-part-6 c = rw (head_is c.args.log.now) (grind (arith, common_steps))

pub returns : goal.returns
returns c = rw (head_is c.args.log.now) (grind (arith, common_steps))
