use native.Mathlib.Omega.{arith}
use mathlib.Core.Path.{ap, sym, ◌∙◌}
use lib.ListN.{get_or-eq_default}
use Rattle.records.specs.declared.carrier.Carrier.{Carrier}
use Rattle.records.specs.Carriers.{no_carrier}
use Rattle.rules.specs.State.{record_at}
use Rattle.image.specs.Image.{tool_from}
use Rattle.image.proofs.Laid.{carriers_long, record_is}
use Rattle.mapped.proofs.step.name_at.Goals as goal

pub returns-then-k-lt-RECORDS : goal.returns-then-k-lt-RECORDS
unfolding record_at
returns-then-k-lt-RECORDS c =
    let m = c.args.m.now in
    c.name_from.ensures ∙ ap (λ (r : Carrier). r.name) (sym (record_is m _ no_carrier c.if-k-lt-RECORDS.true))

pub returns-else-k-lt-RECORDS : goal.returns-else-k-lt-RECORDS
unfolding record_at
returns-else-k-lt-RECORDS c =
    let m = c.args.m.now in
    let l = carriers_long m in
    c.none.ensures ∙ ap (λ (r : Carrier). r.name) (sym (get_or-eq_default (tool_from m).carriers no_carrier (omega arith)))
