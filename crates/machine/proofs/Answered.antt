-- What the code puts together is what is to be answered.
use Prim.Native.Nat.{ℕ}
use mathlib.Core.Path.{◌≡◌, sym, ap, ◌∙◌}
use mathlib.Core.Bool.{true, false}
use mathlib.Core.List.{List}
use borrow.Author.Tests.{ne_eqb}
use Rattle.std.specs.Prelude.{Result, Ok, Err}
use Rattle.records.specs.declared.refusal.Refusal.{Refusal}
use Rattle.records.specs.Refusals.{number, answer}
use Rattle.rules.specs.declared.tool.Tool.{Tool}
use Rattle.rules.specs.declared.row.Seen.{Seen}
use Rattle.rules.specs.declared.row.Effect.{Effect}
use Rattle.rules.specs.declared.report.Report.{Report}
use Rattle.rules.specs.State.{state_of, port_at, record_at}
use Rattle.rules.specs.Sound.{sound_tool}
use Rattle.rules.specs.Held.{Held}
use Rattle.rules.specs.Seen.{Input, see}
use Rattle.rules.specs.Row.{judge, lowest, enact}
use Rattle.rules.specs.Rows.{row_of}
use Rattle.rules.specs.Reports.{no_reports, differences}
use Rattle.rules.specs.Outcome.{refused, row_in, answer_in, state_after, outcome_in, outcome}
use Rattle.rules.proofs.Lowest.{row_first_is_lowest}
use Rattle.rules.proofs.Holding.{port_held, record_held, tool_sound, sound_held}
use Rattle.rules.proofs.SoundFacts.{few_ports, distinct}
use Rattle.rules.proofs.Apt.{apt}
use Rattle.image.specs.Image.{tool_from}
use Rattle.image.proofs.Laid.{ports_long, carriers_long}
use Rattle.parts.specs.Apply.{applied}
use Rattle.parts.specs.Told.{note_all, touched}
use Rattle.parts.proofs.Bridge.{bridge}
use Rattle.parts.proofs.Notes.{all_noted}
use Rattle.machine.proofs.Refused.{never_zero}
use Rattle.machine.proofs.Differ.{differences_touched}

-- a sound tool in the bytes holds what reading it asks
pub held_in : (m : List ℕ) → sound_tool (tool_from m) ≡ true → Held (tool_from m)
held_in m h = sound_held (tool_from m) (ports_long m) (carriers_long m) h

abbrev pub told_by : Tool → Effect → List Report
told_by t e = touched (port_at t e.port) (record_at t e.goes) (record_at t e.changes) e

module _ (t : Tool) (i : Input) (h : sound_tool t ≡ true) (k : Held t) (z : judge (row_in (state_of t) i).grounds ≡ 0) where
  abbrev act : Effect
  act = (row_in (state_of t) i).effect

  answer_zero : answer_in (state_of t) i ≡ 0
  unfolding answer_in
  answer_zero = sym (row_first_is_lowest i.number (see (state_of t) i)) ∙ z

  reports_are : told_by t act ≡ differences (state_of t) (enact act (state_of t))
  reports_are =
      let s = tool_sound t h in
      rw (port_held t k, record_held t k act.goes, record_held t k act.changes)
      (sym (differences_touched (state_of t) act (few_ports (state_of t) s) (distinct (state_of t) s) (apt (state_of t) i s i.number z)))

  pub accepted_is : record { tool = applied t act; answer = 0; reports = note_all no_reports (told_by t act) } ≡ outcome_in t i
  unfolding outcome_in state_after
  accepted_is = rw (answer_zero, bridge t k act, reports_are, all_noted (differences (state_of t) (enact act (state_of t))))

pub refused_is : (t : Tool) (i : Input) → (judge (row_in (state_of t) i).grounds ≡ 0 → ⊥)
    → refused t (judge (row_in (state_of t) i).grounds) ≡ outcome_in t i
unfolding outcome_in answer_in
refused_is t i d =
    rw (
      row_first_is_lowest i.number (see (state_of t) i),
      ne_eqb (lowest (row_in (state_of t) i).grounds) 0 (λ e. d (row_first_is_lowest i.number (see (state_of t) i) ∙ e)),
    )

-- what was seen decides the answer and the effect; carrying that out is what the definitions say
module _ (t : Tool) (i : Input) (x : Seen) (said : Result Unit Refusal) (s : x ≡ see (state_of t) i)
    (b : answer said ≡ judge (row_of i.number x).grounds) where
  judged : answer said ≡ judge (row_in (state_of t) i).grounds
  judged = b ∙ ap (λ y. judge (row_of i.number y).grounds) s

  pub carried : sound_tool t ≡ true → Held t → (u : Unit) → said ≡ Ok u → (e : Effect) → e ≡ (row_of i.number x).effect
      → record { tool = applied t e; answer = 0; reports = note_all no_reports (told_by t e) } ≡ outcome_in t i
  carried h k u z e f = rw (f, s) (accepted_is t i h k (sym judged ∙ ap answer z))

  pub nothing_done : (r : Refusal) → said ≡ Err r → refused t (number r) ≡ outcome_in t i
  nothing_done r z =
      let e : number r ≡ judge (row_in (state_of t) i).grounds = sym (ap answer z) ∙ judged in
      rw e (refused_is t i (λ o. never_zero r (e ∙ o)))

-- a sound tool takes the input; another refuses it
pub sound_outcome : (t : Tool) (i : Input) → sound_tool t ≡ true → outcome_in t i ≡ outcome t i
unfolding outcome
sound_outcome t i h = rw h

pub unsound_outcome : (t : Tool) (i : Input) → sound_tool t ≡ false → refused t 1 ≡ outcome t i
unfolding outcome
unsound_outcome t i h = rw h
