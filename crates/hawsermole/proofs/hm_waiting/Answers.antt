-- Where the search stops is the first carrier that waits, or the end.
use mathlib.Core.Path.{◌≡◌, ◌∙◌}
use Rattle.waiting.specs.Waiting.{first_waiting}
use Rattle.waiting.proofs.First.{first_or_end, says_first, says_some}
use Rattle.hawsermole.proofs.hm_waiting.Goals as goal

pub returns : goal.returns
returns c =
    let table = c.args.carriers.now in
    let e : c.unwrap_or-first.result ≡ first_waiting table = c.unwrap_or-first.ensures ∙ rw c.first_waiting.ensures (first_or_end table) in
    (c.stopped_at.ensures ∙ says_first table _ e, c.before_end.ensures ∙ says_some table _ e)
