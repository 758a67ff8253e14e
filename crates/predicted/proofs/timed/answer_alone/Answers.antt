use native.Mathlib.Omega.{arith}
use mathlib.Core.Path.{◌≡◌, refl, ◌∙◌}
use mathlib.Core.Bool.{true}
use lib.Dec.{ltb}
use borrow.Author.Tests.{lt-ltb}
use Rattle.rules.specs.Seen.{input_in}
use Rattle.prediction.specs.State.{timed}
use Rattle.predicted.proofs.Held.{held}
use Rattle.predicted.proofs.Asked.{seen_answers}
use Rattle.predicted.proofs.timed.answer_alone.Goals as goal

pub look-x-requires : goal.look-x-requires
look-x-requires c = held c.args.m.now c.requires.m_value

pub returns : goal.returns
returns c =
    let clock_fits : ltb c.args.clock 4294967296 ≡ true =
    lt-ltb c.args.clock 4294967296 (omega arith) in
    c.seen_answer.ensures
    ∙ seen_answers c.args.m.now c.requires.m_value (timed (input_in c.args.i) c.args.clock 0) c.look-x.result c.look-x.ensures c.requires.number_value clock_fits refl
