use mathlib.Core.Path.{ap, sym, ◌∙◌}
use mathlib.Core.Bool.{◌&&◌, not}
use lib.Dec.{eqb}
use Rattle.rules.specs.Reports.{report_if}
use Rattle.image.specs.Image.{reports_from}
use Rattle.parts.specs.Told.{note_all}
use Rattle.parts.proofs.Notes.{note_all_append}
use Rattle.follow.specs.Follow.{followed_in}
use Rattle.prediction.specs.Predictions.{no_prediction}
use Rattle.times.specs.Bytes.{predictions_from}
use Rattle.predicted.proofs.others.records_follow.Goals as goal

pub returns : goal.returns
returns c =
    let a = c.args in record {
      m_after = c.predictions_follow.ensures.m_after
          ∙ ap (λ p. followed_in no_prediction a.n a.r.goes a.r.made p (predictions_from a.m.now)) c.first_prediction.ensures;
      o_after = c.note_if-2.ensures
          ∙ ap (λ r. note_all r (report_if (a.r.made && a.fixed) 8 0 a.name 0 2))
          (c.note_if.ensures ∙ ap (λ k. note_all (reports_from a.o.now) (report_if (not (eqb k 0)) 8 0 a.r.gone k 0)) c.state_at-old.ensures)
          ∙ sym (note_all_append _ _ _);
      kept_outside = c.predictions_follow.ensures.kept_outside;
    }
