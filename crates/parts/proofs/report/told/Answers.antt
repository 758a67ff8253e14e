use Rattle.parts.specs.Told.{record_touched, touched}
use Rattle.parts.proofs.Notes.{note_all_append}
use Rattle.parts.proofs.report.told.Goals as goal

pub returns : goal.returns
unfolding record_touched touched
returns c =
    simp note_all_append
    (rw (
      c.note_change-6.ensures,
      c.of_carrier-6.ensures,
      c.note_change-5.ensures,
      c.of_carrier-5.ensures,
      c.note_change-4.ensures,
      c.of_carrier-4.ensures,
      c.note_change-3.ensures,
      c.of_carrier-3.ensures,
      c.note_change-2.ensures,
      c.of_carrier-2.ensures,
      c.note_change.ensures,
      c.of_carrier.ensures,
      c.port_reports.ensures,
      c.no_reports.ensures,
    ))
