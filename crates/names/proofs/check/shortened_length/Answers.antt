use mathlib.Core.Path.{sym, ◌∙◌}
use Rattle.names.proofs.Lengths.{seen_whole, seen_short}
use Rattle.names.proofs.check.shortened_length.Goals as goal

pub returns-then-n-eq0 : goal.returns-then-n-eq0
returns-then-n-eq0 c = sym (seen_whole c.args.text.now (sym c.name_length-n.ensures ∙ c.if-n-eq0.true))

pub returns-else-n-eq0 : goal.returns-else-n-eq0
returns-else-n-eq0 c =
    let e = c.name_length-n.ensures in
    e ∙ sym (seen_short c.args.text.now (λ z. c.if-n-eq0.false (e ∙ z)))
