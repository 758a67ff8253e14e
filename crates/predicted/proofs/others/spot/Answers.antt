use mathlib.Core.Path.{ap, sym, ◌∙◌}
use Rattle.rules.specs.declared.row.Seen.{Seen}
use Rattle.predicted.proofs.others.spot.Goals as goal

pub look-x-requires : goal.look-x-requires
look-x-requires c = c.requires

pub returns-then-says_of : goal.returns-then-says_of
returns-then-says_of c =
    rw (sym c.says_of.ensures ∙ c.if-says_of.true)
    (ap (λ (x : Seen). x.stands) c.look-x.ensures)

pub returns-else-says_of : goal.returns-else-says_of
returns-else-says_of c =
    rw (sym c.says_of.ensures ∙ c.if-says_of.false) (c.from.ensures ∙ c.count.ensures)
