use Rattle.records.proofs.Names.{equal_names}
use Rattle.parts.specs.Told.{port_touched}
use Rattle.parts.proofs.Notes.{note_all_append}
use Rattle.parts.proofs.report.port_reports.Goals as goal

pub returns : goal.returns
unfolding port_touched
returns c =
    simp note_all_append
    (rw (
      c.note_if.ensures,
      c.none.ensures,
      c.ne.ensures,
      equal_names c.args.x.tie c.args.q.tie,
      c.tie_number-new.ensures,
      c.tie_number-old.ensures,
      c.note_change-3.ensures,
      c.of_port-3.ensures,
      c.note_change-2.ensures,
      c.of_port-2.ensures,
      c.note_change.ensures,
      c.of_port.ensures,
    ))
