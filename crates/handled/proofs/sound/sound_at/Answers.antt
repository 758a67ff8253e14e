use mathlib.Core.Path.{ap, ap₂, sym, ◌∙◌}
use borrow.Author.Tests.{le-leb, lt-leb}
use Rattle.rules.specs.State.{port_at}
use Rattle.image.specs.Image.{tool_from}
use Rattle.hands.specs.Sound.{agrees, is_none}
use Rattle.handled.specs.Tests.{sound_at}
use Rattle.handled.proofs.sound.sound_at.Goals as goal

pub returns-then-p-used : goal.returns-then-p-used
unfolding sound_at tool_from port_at
returns-then-p-used c =
    rw (sym c.used.ensures, le-leb _ _ c.if-p-used.true) (c.agrees.ensures ∙ ap₂ agrees c.port_at.ensures c.alarm_at-a.ensures)

pub returns-else-p-used : goal.returns-else-p-used
unfolding sound_at tool_from port_at
returns-else-p-used c =
    rw (sym c.used.ensures, lt-leb _ _ c.if-p-used.false) (c.is_none.ensures ∙ ap is_none c.alarm_at-a.ensures)
