use Rattle.times.proofs.Followed.{predictions_follow}
use Rattle.times.proofs.write.predictions_follow.Goals as goal

pub returns-clause-m_after : goal.returns-clause-m_after
returns-clause-m_after c =
    let a = c.args in
    let p = c.prediction_bytes.ensures in
    let e = rw p.value at c.follow.ensures.w_after in
    predictions_follow a.m.now _ a.n a.goes a.made a.first p.tp_bound p.te_bound e
