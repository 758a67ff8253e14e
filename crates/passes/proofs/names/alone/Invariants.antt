-- those that are passed have another name
use Rattle.std.proofs.Common.{◌≡◌, true}
use Rattle.lists.specs.Lists.{every}
use Rattle.rules.specs.Sound.{other_name}
use Rattle.image.specs.Image.{table}
use Rattle.passes.specs.Passes.{record_on}
use Rattle.passes.proofs.names.alone.Given as goal

abbrev pub invariant-loop-j : goal.invariant-loop-j
invariant-loop-j l = every (λ c. other_name c (record_on l.m l.k)) (table l.j (record_on l.m)) ≡ true
