-- What is still to judge is judged as all of it is.
use Prim.Native.Nat.{◌-◌, ◌≤◌}
use mathlib.Core.Path.{◌≡◌}
use mathlib.Core.Bool.{true}
use lib.ListN.{length, drop}
use Rattle.rules.specs.Sound.{sound_tool}
use Rattle.image.specs.Image.{tool_from}
use Rattle.logs.specs.Judging.{untouched, judging}
use Rattle.judge.specs.Held.{gave}
use Rattle.judge.proofs.log.judge_entries.Given as goal

abbrev pub invariant-loop-at : goal.invariant-loop-at
invariant-loop-at l =
    (l.n ≡ length l.log) × (l.at ≤ l.n) × (l.entry ≤ l.at) × (sound_tool (tool_from l.tool) ≡ true)
    × (judging l.entry l.at (gave l.tool l.reports l.answer) 0 (drop l.at l.log) ≡ judging 0 7 (untouched (tool_from l.initial.tool)) 0 (drop 7 l.log))

abbrev pub decreases-loop-at : goal.decreases-loop-at
decreases-loop-at l = l.n - l.at
