use mathlib.Core.Path.{ap, ◌∙◌}
use mathlib.Core.List.{[]}
use lib.ListN.{get_or}
use Rattle.rules.specs.State.{spot_of, port_at}
use Rattle.rules.specs.Seen.{see}
use Rattle.image.specs.Image.{tool_from}
use Rattle.mapped.specs.Bytes.{own_in}
use Rattle.wafers.specs.Outcome.{brought_in}
use Rattle.hands.specs.Alarms.{no_alarm}
use Rattle.handled.specs.Bytes.{alarms_from}
use Rattle.handled.proofs.Held.{alarm_held, port_is, fits_is}
use Rattle.handled.proofs.here.find_port.Goals as goal

pub returns : goal.returns
unfolding see
returns c =
    let m = c.args.m.now in
    let p = c.narrow-p.ensures in
    record {
      is_port = fits_is m c.requires (brought_in c.args.i).timed.input _ _ p c.used.ensures;
      port = c.port_at.ensures ∙ ap (port_at (tool_from (get_or m 0 []))) p ∙ port_is m c.requires _;
      alarm = c.alarm_at.ensures ∙ ap (λ p. get_or (alarms_from (own_in m)) (spot_of p) no_alarm) p ∙ alarm_held m c.requires _;
    }
