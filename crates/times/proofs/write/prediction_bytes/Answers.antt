use Rattle.times.specs.Bytes.{prediction_bytes}
use Rattle.times.proofs.Written.{prediction_made}
use Rattle.times.proofs.write.prediction_bytes.Goals as goal

pub returns-clause-value : goal.returns-clause-value
unfolding prediction_bytes
returns-clause-value c =
    let p = c.args.p in
    rw (c.put-2.ensures, c.put.ensures, c.seconds_bytes-2.ensures.value, c.seconds_bytes.ensures.value)
    (prediction_made p.state p.known p.estimated p.tp p.te)
