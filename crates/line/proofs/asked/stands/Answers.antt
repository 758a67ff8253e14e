use native.Mathlib.Omega.{arith}
use Rattle.line.proofs.Changed.{few_held}
use Rattle.line.proofs.asked.stands.Goals as goal

pub position_of-requires-clause-n_bound : goal.position_of-requires-clause-n_bound
position_of-requires-clause-n_bound g c = let f = few_held c.args.m.now in omega (arith, c.requires.holds.waiting, c.from.ensures, c.waiting.ensures)
