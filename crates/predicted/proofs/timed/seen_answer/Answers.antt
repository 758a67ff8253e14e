use mathlib.Core.Path.{ap, ◌∙◌}
use lib.Dec.{eqb, ltb}
use Rattle.prediction.specs.declared.prediction.Times.{Times}
use Rattle.predicted.proofs.Asked.{asked_of}
use Rattle.predicted.proofs.timed.seen_answer.Goals as goal

pub returns : goal.returns
returns c =
    c.timed_answer.ensures
    ∙ asked_of c.args.number c.args.x (ap (λ n. eqb n 0) c.places-fixed.ensures) c.prediction_at-p.ensures
    (ap (λ (t : Times). ltb c.args.clock t.now) c.times_at-t.ensures)
