use Rattle.queued.proofs.Held.{waiting_kept, queue_kept}
use Rattle.queued.proofs.Given.{given_of}
use Rattle.queued.proofs.below.passed_on.Goals as goal

pub returns : goal.returns
returns c =
    let e = c.step_sound.ensures in
    let k = e.kept_outside in record {
      result_after = given_of e.m_after (waiting_kept k) (queue_kept k) e.answer_value e.o_after e.goes_value e.made_value
          e.gone_value;
      kept_outside = k;
    }
