use native.Mathlib.Omega.{arith}
use mathlib.Core.Path.{◌≡◌}
use Rattle.names.specs.Check.{name_length}
use Rattle.names.proofs.Lengths.{sixteen}
use Rattle.hawsermole.proofs.hm_name.Goals as goal

pub overflow_cast-result : goal.overflow_cast-result
overflow_cast-result c =
    let text = c.args.text.now in
    let e : c.name_length.result ≡ name_length text = c.name_length.ensures in
    let h = sixteen text in
    omega arith

pub returns : goal.returns
returns c = c.name_length.ensures
