use Rattle.logs.proofs.InPlace.{entry_end_is}
use Rattle.logs.proofs.sizes.entry_end.Goals as goal

pub returns : goal.returns
returns c =
    let a = c.args in
    rw (c.reports_end.ensures, c.byte-count.ensures.value)
    (entry_end_is a.log.now a.at c.input_size.result c.input_size.ensures.value)
