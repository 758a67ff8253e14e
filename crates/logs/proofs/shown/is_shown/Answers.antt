use Rattle.std.proofs.Common.{arith}
use Rattle.std.proofs.lemmas.Grind.{common_steps}
use Rattle.logs.specs.Written.{shown, list_of}
use Rattle.image.specs.Image.{reports_from}
use Rattle.logs.proofs.After.{same_shown}
use Rattle.logs.proofs.shown.is_shown.Goals as goal

pub returns : goal.returns
returns c =
    same_shown c.args.l.now (shown c.args.answer (list_of (reports_from c.args.o.now))) c.after_shown.result c.after_shown.ensures
    c.is_some_and.result (λ e. grind (arith, common_steps)) (λ x e. grind (arith, common_steps))
