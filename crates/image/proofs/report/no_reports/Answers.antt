use native.Mathlib.Omega.{arith}
use mathlib.Core.Path.{◌≡◌, ap, ◌∙◌}
use lib.ListN.{length, replicate}
use Rattle.image.specs.Image.{reports_from}
use Rattle.image.proofs.Reported.{none_reported}
use Rattle.image.proofs.report.no_reports.Goals as goal

pub returns : goal.returns
returns c =
    let l : length c.args.m.now ≡ 201 = omega arith in
    ap reports_from (c.clear.ensures ∙ ap (λ n. replicate n 0) l) ∙ none_reported
