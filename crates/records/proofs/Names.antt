-- `==` of names.
use mathlib.Core.Path.{◌≡◌}
use lib.Dec.{eqb}
use lib.Pointwise.{pointwise}
use Rattle.lists.proofs.Library.{equal_is_same}
use Rattle.records.specs.Names.{same_name}
use Rattle.records.specs.declared.name.Name.{Name}

pub equal_names : (a b : Name) → pointwise eqb a.bytes b.bytes ≡ same_name a b
unfolding same_name
equal_names a b = equal_is_same a.bytes b.bytes
