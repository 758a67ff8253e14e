-- What is still to judge is judged as all of it is.
use native.Mathlib.Omega.{arith}
use mathlib.Core.Path.{◌≡◌, refl, ap, ◌∙◌}
use lib.ListN.{drop}
use Rattle.rules.specs.Sound.{sound_tool}
use Rattle.rules.proofs.SoundTools.{tool_sound_after}
use Rattle.image.specs.Image.{tool_from}
use Rattle.logs.specs.Layout.{input_in}
use Rattle.logs.specs.Judging.{untouched, judging}
use Rattle.logs.proofs.Turns.{entry_some}
use Rattle.judge.specs.Held.{gave}
use Rattle.judge.proofs.Turned.{no_more, cut_short, disagrees, agrees}
use Rattle.judge.proofs.Stepped.{few, input_within, shows_is}
use Rattle.judge.proofs.log.judge_entries.Goals as goal

pub loop-at-init : goal.loop-at-init
loop-at-init c =
    let m = c.args.log.now in
    let t = tool_from c.args.tool.now in
    let z : gave c.args.tool.now c.args.reports.now 0 ≡ untouched t =
    ap (λ r. record { tool = t; answer = 0; reports = r }) c.requires.reports_value in
    (refl, c.requires.in_bounds, omega arith, c.requires.tool_value, ap (λ o. judging 0 7 o 0 (drop 7 m)) z)

pub returns-then-n-end-clause-judged : goal.returns-then-n-end-clause-judged
returns-then-n-end-clause-judged c =
    let l = c.loop-at in
    let m = c.args.log.now in
    cut_short l.entry l.at (gave l.tool l.reports l.answer) m c.entry_end-end.result c.entry_end-end.ensures (omega arith)
    (omega arith)
    ∙ l.invariant.4

pub step_entry-answer-requires : goal.step_entry-answer-requires
step_entry-answer-requires c =
    let l = c.loop-at in
    let w = input_within c.args.log.now l.at _ c.entry_end-end.result refl c.entry_end-end.ensures in
    record { tool_value = l.invariant.3; log_in_bounds = omega arith }

pub shows-requires : goal.shows-requires
shows-requires c =
    let l = c.loop-at in
    let e = ap (λ o. o.reports.count) c.step_entry-answer.ensures in
    let f = few (tool_from l.tool) (input_in (drop l.at c.args.log.now)) in
    record { end_value = c.entry_end-end.ensures; end_in_bounds = omega arith; reports_bound = omega arith }

pub returns-then-not-shows-clause-judged : goal.returns-then-not-shows-clause-judged
returns-then-not-shows-clause-judged c =
    let l = c.loop-at in
    let m = c.args.log.now in
    let x = c.step_entry-answer.ensures in
    disagrees l.entry l.at (gave l.tool l.reports l.answer) m c.entry_end-end.result c.entry_end-end.ensures (omega arith)
    _ x c.shows.result (shows_is (drop l.at m) _ _ _ c.shows.ensures x) (omega arith) c.if-not-shows.true
    ∙ l.invariant.4

pub loop-at-smaller : goal.loop-at-smaller
loop-at-smaller c =
    let l = c.loop-at in
    let s = entry_some (drop l.at c.args.log.now) in
    omega (arith, c.entry_end-end.ensures)

pub loop-at-preserved : goal.loop-at-preserved
loop-at-preserved c =
    let l = c.loop-at in
    let m = c.args.log.now in
    let t = tool_from l.tool in
    let i = input_in (drop l.at m) in
    let s = entry_some (drop l.at m) in
    let x = c.step_entry-answer.ensures in (
      refl,
      omega arith,
      omega (arith, c.entry_end-end.ensures),
      ap (λ o. sound_tool o.tool) x ∙ tool_sound_after t i l.invariant.3,
      agrees l.entry l.at (gave l.tool l.reports l.answer) m c.entry_end-end.result c.entry_end-end.ensures (omega arith)
          _ x c.shows.result (shows_is (drop l.at m) _ _ _ c.shows.ensures x) (omega arith) c.if-not-shows.false
          ∙ l.invariant.4,
    )

pub returns-clause-judged : goal.returns-clause-judged
returns-clause-judged c =
    let l = c.loop-at in
    let m = c.args.log.now in
    no_more l.entry l.at (gave l.tool l.reports l.answer) m (omega arith) ∙ l.invariant.4
