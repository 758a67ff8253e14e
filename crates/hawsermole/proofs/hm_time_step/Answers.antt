-- The number is one that brings a clock, or none's, and there are no wafers.
use mathlib.Core.Path.{◌≡◌, ap₂, ◌∙◌}
use mathlib.Core.Bool.{cond}
use mathlib.Core.List.{[]}
use Prim.Native.Nat.{ℕ}
use Rattle.rules.specs.Seen.{input_of}
use Rattle.prediction.specs.State.{timed}
use Rattle.prediction.specs.Outcome.{is_timed}
use Rattle.wafers.specs.Outcome.{bringing}
use Rattle.hawsermole.proofs.Stepped.{stepped}
use Rattle.hawsermole.proofs.hm_time_step.Goals as goal
use Rattle.hawsermole.proofs.hm_time_step.Goals.{then-is_timed, else-is_timed}

pub returns : goal.returns
returns c =
    let a = c.args in
    let d = c.door_step.ensures in
    let n : c.if-is_timed.number ≡ cond (is_timed a.number) a.number 0 =
    elim c.if-is_timed.branch [
      | then-is_timed w ↦ w.number-is ∙ rw (← c.is_timed.ensures, w.if-is_timed.true)
      | else-is_timed w ↦ w.number-is ∙ rw (← c.is_timed.ensures, w.if-is_timed.false)
    ] in
    stepped (ap₂ (λ n s. bringing (timed (input_of n 0 0 a.name.now []) a.clock a.time) s) n c.no_wafers.ensures)
    (d.m_after, (d.o_after, c.from.ensures ∙ c.answer.ensures ∙ d.value))
