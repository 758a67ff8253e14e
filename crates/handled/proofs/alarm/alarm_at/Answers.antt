use mathlib.Core.Path.{ap, sym, ◌∙◌}
use lib.ListN.{get_or}
use Rattle.hands.specs.Alarms.{no_alarm}
use Rattle.handled.specs.Bytes.{alarms_from}
use Rattle.handled.proofs.Laid.{alarm_is, alarm_out}
use Rattle.handled.proofs.alarm.alarm_at.Goals as goal

pub returns-then-k-lt-PORTS : goal.returns-then-k-lt-PORTS
returns-then-k-lt-PORTS c =
    let m = c.args.m.now in
    sym (alarm_is m c.spot_of-k.result c.if-k-lt-PORTS.true) ∙ ap (λ k'. get_or (alarms_from m) k' no_alarm) c.spot_of-k.ensures

pub returns-else-k-lt-PORTS : goal.returns-else-k-lt-PORTS
returns-else-k-lt-PORTS c =
    let m = c.args.m.now in
    c.no_alarm.ensures ∙ sym (alarm_out m c.spot_of-k.result c.if-k-lt-PORTS.false) ∙ ap (λ k'. get_or (alarms_from m) k' no_alarm) c.spot_of-k.ensures
