-- What is left of the rest after what is still to come is what is left of all.
use mathlib.Core.Path.{◌≡◌}
use lib.ListN.{drop}
use Rattle.image.specs.Image.{reports_from}
use Rattle.logs.specs.Written.{reports, shown, list_of}
use Rattle.logs.specs.InPlace.{after}
use Rattle.logs.proofs.shown.after_shown.Given as goal

abbrev pub invariant-loop-k : goal.invariant-loop-k
invariant-loop-k l =
    after l.rest (reports (drop l.k (list_of (reports_from l.o)))) ≡ after l.l (shown l.answer (list_of (reports_from l.o)))
